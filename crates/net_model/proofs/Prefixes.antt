-- The prefixes of a name, and the shortest and the longest that passes a test, also where labels stand below the name.
use Rattle.std.proofs.Common.{◌≡◌, ℕ, ◌+◌, Bool, false, List, [], ◌∷◌, ◌++◌, map, reverse, length, Contains, Option, Some, None, find, sym, refl, ap, ◌∙◌, subst, inl, inr, arith}
use Rattle.std.specs.Option.{option_or}
use Rattle.std.proofs.lemmas.List.{length-map, map-append, map-id, reverse-append}
use Rattle.std.proofs.lemmas.List.Folds.{find-append}
use Rattle.std.proofs.lemmas.Simd.{map-map}
use Rattle.std.proofs.lemmas.List.Sorted.{IsPermutation-reverse, IsPermutation-sym, Contains-permutation}
use Rattle.dns_data.specs.Name.{Labels}
use Rattle.net_model.specs.Prefix.{prefixes, shortest, longest}
use Rattle.dns_data.proofs.Membership.{none_in_nil, has_first, has_later, first_or_later, map_has, from_map}
use Rattle.dns_data.proofs.NameFronts.{Begins}
use Rattle.dns_data.proofs.Searches.{find_none}

-- a name's prefixes are the names that begin it
pub prefixes_have : (name above : Labels) → Begins above name → Contains (prefixes name) above
prefixes_have [] [] (below, e) = has_first [] []
prefixes_have [] (label ∷ above) (below, e) = cc
prefixes_have (label ∷ name) [] (below, e) =
    has_first [] (map (λ (above : Labels). label ∷ above) (prefixes name))
prefixes_have (label ∷ name) (first ∷ above) (below, e) =
    let same : first ≡ label = cc in
    let rest : above ++ below ≡ name = cc in
    let has = map_has (λ (above : Labels). label ∷ above) (prefixes name) above (prefixes_have name above (below, rest)) in
    has_later [] (map (λ (above : Labels). label ∷ above) (prefixes name)) (first ∷ above)
    (subst (λ (x : List ℕ). Contains (map (λ (above : Labels). label ∷ above) (prefixes name)) (x ∷ above)) (sym same) has)

-- each prefix of a name begins it
pub from_prefixes : (name above : Labels) → Contains (prefixes name) above → Begins above name
from_prefixes [] above has =
    elim (first_or_later [] [] above has) [
      | inl same ↦ ([], sym (ap (λ (x : Labels). x ++ []) same))
      | inr later ↦ absurd (none_in_nil above later)
    ]
from_prefixes (label ∷ name) above has =
    elim (first_or_later [] (map (λ (above : Labels). label ∷ above) (prefixes name)) above has) [
      | inl same ↦ (label ∷ name, sym (ap (λ (x : Labels). x ++ (label ∷ name)) same))
      | inr later ↦ (
          let found = from_map (λ (above : Labels). label ∷ above) (prefixes name) above later in
          let rest = from_prefixes name found.0 found.1 in
          (rest.0, sym (ap (λ (x : Labels). x ++ rest.0) found.2) ∙ ap (λ (x : Labels). label ∷ x) rest.1))
    ]

-- a name has one prefix more than labels
pub length-prefixes : (name : Labels) → length (prefixes name) ≡ length name + 1
length-prefixes [] = refl
length-prefixes (label ∷ name) =
    omega (arith, length-prefixes name, length-map (prefixes name) (λ (above : Labels). label ∷ above))

-- ---- labels below a name

-- an option or nothing is the option
or_nothing : {X : Type 0} (o : Option X) → option_or o None ≡ o
or_nothing None = refl
or_nothing (Some x) = refl

-- the fronts of labels that stand below a name, but for the empty one
abbrev pub longer : Labels → List Labels
longer [] = []
longer (label ∷ rest) = map (λ below. label ∷ below) (prefixes rest)

-- the prefixes of a name with labels below it are those of the name, and it with each such front
pub prefixes_below : (above tail : Labels) → prefixes (above ++ tail) ≡ prefixes above ++ map (λ below. above ++ below) (longer tail)
prefixes_below [] [] = refl
prefixes_below [] (label ∷ rest) =
    ap (λ (names : List Labels). [] ∷ names) (sym (map-id (map (λ (below : Labels). label ∷ below) (prefixes rest))))
prefixes_below (label ∷ above) tail =
    ap (λ (names : List Labels). [] ∷ names)
    (ap (map (λ (name : Labels). label ∷ name)) (prefixes_below above tail)
    ∙ map-append (λ (name : Labels). label ∷ name) (prefixes above) (map (λ (below : Labels). above ++ below) (longer tail))
    ∙ ap (λ (names : List Labels). map (λ (name : Labels). label ∷ name) (prefixes above) ++ names)
    (map-map (λ (name : Labels). label ∷ name) (λ (below : Labels). above ++ below) (longer tail)))

module _ (test : Labels → Bool) (above tail : Labels) (fails : (below : Labels) → Contains (longer tail) below → test (above ++ below) ≡ false) where
  -- none of the longer prefixes passes
  longer_fails : (name : Labels) → Contains (map (λ (below : Labels). above ++ below) (longer tail)) name → test name ≡ false
  longer_fails name has =
      let found = from_map (λ (below : Labels). above ++ below) (longer tail) name has in
      ap test (sym found.2) ∙ fails found.0 found.1

  -- if no longer prefix passes a test, the shortest that does is that of the name without the tail
  pub shortest_above : shortest test (above ++ tail) ≡ shortest test above
  shortest_above =
      ap (find test) (prefixes_below above tail)
      ∙ find-append test (prefixes above) (map (λ (below : Labels). above ++ below) (longer tail))
      ∙ ap (option_or (find test (prefixes above)))
      (find_none test (map (λ (below : Labels). above ++ below) (longer tail)) longer_fails)
      ∙ or_nothing (find test (prefixes above))

  -- if no longer prefix passes a test, the longest that does is that of the name without the tail
  pub longest_above : longest test (above ++ tail) ≡ longest test above
  longest_above =
      let names : List Labels = map (λ (below : Labels). above ++ below) (longer tail) in
      ap (λ (all : List Labels). find test (reverse all)) (prefixes_below above tail)
      ∙ ap (find test) (reverse-append (prefixes above) names)
      ∙ find-append test (reverse names) (reverse (prefixes above))
      ∙ ap (λ (found : Option Labels). option_or found (find test (reverse (prefixes above))))
      (find_none test (reverse names) (λ name has. longer_fails name
      (Contains-permutation (reverse names) names name (IsPermutation-sym names (reverse names) (IsPermutation-reverse names)) has)))
