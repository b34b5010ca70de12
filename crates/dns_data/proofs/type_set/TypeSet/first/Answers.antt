-- What is found is the first of the types in the order of their numbers.
use Rattle.std.proofs.Common.{◌≡◌, ◌∙◌, sym, rules}
use Rattle.std.specs.List.{find}
use Rattle.std.proofs.lemmas.Iterator.{YieldsList-from_slice}
use Rattle.std.proofs.lemmas.Iterator.Consumers.{YieldsList-from_copied}
use Rattle.std.proofs.lemmas.Iterator.Search.{find_from_yields_List}
use borrow.Author.Tests.{tests}
use Rattle.dns_data.proofs.Sets.{first_none, first_least, option_map-id}
use Rattle.dns_data.specs.RrType.{types}
use Rattle.dns_data.specs.TypeSet.{has_bit}
use Rattle.dns_data.proofs.type_set.TypeSet.first.Goals as goal

found : (c : goal.After-find) → c.find.result ≡ find (has_bit c.args.self.now) types
found c =
    sym (option_map-id c.find.result) ∙ find_from_yields_List (has_bit c.args.self.now) _ _ c.find.result c.find.ensures.ran (YieldsList-from_copied (YieldsList-from_slice types cc)) (λ x b q k. search (rules, tests))

pub returns-clause-none : goal.returns-clause-none
returns-clause-none c = first_none (has_bit c.args.self.now) _ (found c)

pub returns-clause-least : goal.returns-clause-least
returns-clause-least c = first_least (has_bit c.args.self.now) _ (found c)
