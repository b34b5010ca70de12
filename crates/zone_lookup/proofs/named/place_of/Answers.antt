use Rattle.std.proofs.Common.{rules}
use Rattle.std.proofs.lemmas.Fn.{always_returns_same}
use Rattle.dns_data.specs.Name.{name_cmp}
use Rattle.zone_lookup.proofs.named.place_of.Goals as goal

pub returns-clause-position : goal.returns-clause-position
returns-clause-position g c =
    c.binary_search_by.ensures.position (λ item. name_cmp (g.T.Named.name_of item) c.args.name.now) (always_returns_same _ _ _ (λ a r f called. search rules))
