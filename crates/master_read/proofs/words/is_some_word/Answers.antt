-- The words that the loop looks at are those that the clause names.
use Rattle.std.proofs.Common.{◌≡◌, Bool, List, [], ◌∷◌, map, refl, ap, ◌∙◌, ◌||◌, rules, tests}
use Rattle.std.specs.List.{list_any}
use Rattle.std.proofs.lemmas.Iterator.{YieldsList-from_slice}
use Rattle.std.proofs.lemmas.Iterator.Search.{any_from_yields_List}
use Rattle.dns_data.specs.Octet.{is_word}
use Rattle.master_read.specs.Words.{is_some_word}
use Rattle.master_read.proofs.words.is_some_word.Goals as goal

any_of_map : {A B : Type 0} (test : B → Bool) (f : A → B) (xs : List A) → list_any (λ x. test (f x)) xs ≡ list_any test (map f xs)
any_of_map test f [] = refl
any_of_map test f (x ∷ xs) = ap (λ rest. test (f x) || rest) (any_of_map test f xs)

pub returns : goal.returns
unfolding is_some_word
returns c =
    let octets = c.args.octets.now in
    any_from_yields_List (λ word. is_word word.now octets) _ _ c.any.result c.any.ensures.ran (YieldsList-from_slice c.args.words.now cc) (λ x b q k. search (rules, tests))
    ∙ any_of_map (λ word. is_word word octets) (λ word. word.now) c.args.words.now
