-- The prefixes of a name one by one, from the root: the first and the last that passes a test.
use Rattle.std.proofs.Common.{◌≡◌, ℕ, ◌+◌, ◌<◌, ◌≤◌, Bool, true, false, cond, List, [], ◌∷◌, ◌++◌, map, reverse, length, Contains, Option, Some, None, find, sym, refl, ap, ◌∙◌, subst, inl, inr, arith, length-append}
use Rattle.std.specs.Option.{option_or}
use Rattle.std.proofs.lemmas.Bool.{false_from_ne_true}
use Rattle.std.proofs.lemmas.List.{map-append, reverse-append}
use Rattle.std.proofs.lemmas.List.Folds.{find-append}
use Rattle.dns_data.specs.Name.{Labels}
use Rattle.net_model.specs.Prefix.{prefixes, shortest, longest}
use Rattle.dns_data.proofs.Membership.{none_in_nil, first_or_later, from_map}
use Rattle.dns_data.proofs.NameFronts.{Begins}
use Rattle.dns_data.proofs.Searches.{find_none, find_some, found_there}
use Rattle.net_model.proofs.Prefixes.{longer, prefixes_have, from_prefixes, prefixes_below}

-- a name is its last prefix, and the others have fewer labels
pub last_prefix : (name : Labels) → (front : List Labels) × (prefixes name ≡ front ++ name ∷ []) × ((above : Labels) → Contains front above → length above < length name)
last_prefix [] = ([], refl, λ above has. absurd (none_in_nil above has))
last_prefix (label ∷ name) =
    let rest = last_prefix name in
    let under : Labels → Labels = λ above. label ∷ above in (
      [] ∷ map under rest.0,
      ap (λ (names : List Labels). [] ∷ names) (ap (map under) rest.1 ∙ map-append under rest.0 (name ∷ [])),
      λ above has. elim (first_or_later [] (map under rest.0) above has) [
        | inl root ↦ subst (λ (x : Labels). length x < length (label ∷ name)) root (omega arith)
        | inr later ↦ (
            let found = from_map under rest.0 above later in
            let fewer = rest.2 found.0 found.1 in
            subst (λ (x : Labels). length x < length (label ∷ name)) found.2 (omega arith))
      ],
    )

-- a name has no fewer labels than one that begins it
pub begins_short : (above name : Labels) → Begins above name → length above ≤ length name
begins_short above name (below, e) = omega (arith, ap (λ (x : Labels). length x) e, length-append above below)

-- what two options hold that are one
some_of : {a b : Labels} → Some a ≡ Some b → a ≡ b
some_of e = cc

module _ (test : Labels → Bool) where
  -- a name that passes is its longest prefix that does
  pub longest_itself : (name : Labels) → test name ≡ true → longest test name ≡ Some name
  longest_itself name passes =
      let last = last_prefix name in
      ap (λ (names : List Labels). find test (reverse names)) last.1
      ∙ ap (find test) (reverse-append last.0 (name ∷ []))
      ∙ ap (λ (b : Bool). cond b (Some name) (find test (reverse last.0))) passes

  -- where no prefix with fewer labels passes, the name alone decides
  pub shortest_alone : (name : Labels) → ((above : Labels) → length above < length name → test above ≡ false)
      → shortest test name ≡ cond (test name) (Some name) None
  shortest_alone name fails =
      let last = last_prefix name in
      ap (find test) last.1
      ∙ find-append test last.0 (name ∷ [])
      ∙ ap (λ (found : Option Labels). option_or found (find test (name ∷ []))) (find_none test last.0 (λ above has. fails above (last.2 above has)))

  module _ (above : Labels) (none : shortest test above ≡ None) where
    -- what is found below a name of which no prefix passes
    below_found : (tail : Labels) → shortest test (above ++ tail) ≡ find test (map (λ below. above ++ below) (longer tail))
    below_found tail =
        ap (find test) (prefixes_below above tail)
        ∙ find-append test (prefixes above) (map (λ (below : Labels). above ++ below) (longer tail))
        ∙ ap (λ (found : Option Labels). option_or found (find test (map (λ (below : Labels). above ++ below) (longer tail)))) none

    -- if no prefix of a name passes, the shortest that does with one label more is the name with it, if that passes
    pub shortest_next : (label : List ℕ) → shortest test (above ++ label ∷ []) ≡ cond (test (above ++ label ∷ [])) (Some (above ++ label ∷ [])) None
    shortest_next label = below_found (label ∷ [])

    -- the shortest passing prefix of a name has more labels than a front of which no prefix passes
    pub found_beyond : (tail found : Labels) → shortest test (above ++ tail) ≡ Some found → length above < length found
    found_beyond [] found is = some_is_none (sym is ∙ below_found []) where
      some_is_none : Some found ≡ None → length above < length found
      some_is_none e = cc
    found_beyond (label ∷ rest) found is =
        let beneath = λ (below : Labels). above ++ below in
        let one = from_map beneath (longer (label ∷ rest)) found (found_there test (map beneath (longer (label ∷ rest))) found (sym (below_found (label ∷ rest)) ∙ is)).0 in
        let two = from_map (λ (x : Labels). label ∷ x) (prefixes rest) one.0 one.1 in
        let long : length found ≡ length above + length (label ∷ two.0) =
        ap (λ (x : Labels). length x) (sym one.2) ∙ ap (λ (x : Labels). length (above ++ x)) (sym two.2) ∙ length-append above (label ∷ two.0) in
        omega arith

  -- the shortest passing prefix of a front is that of the name
  pub found_above : (above tail found : Labels) → shortest test above ≡ Some found → shortest test (above ++ tail) ≡ Some found
  found_above above tail found is =
      ap (find test) (prefixes_below above tail)
      ∙ find-append test (prefixes above) (map (λ (below : Labels). above ++ below) (longer tail))
      ∙ ap (λ (first : Option Labels). option_or first (find test (map (λ (below : Labels). above ++ below) (longer tail)))) is

  -- the shortest prefix that passes a test begins the name
  pub found_begins : (name found : Labels) → shortest test name ≡ Some found → Begins found name
  found_begins name found is = from_prefixes name found (found_there test (prefixes name) found is).0

  -- the shortest prefix that is found passes the test
  pub found_passes : (name found : Labels) → shortest test name ≡ Some found → test found ≡ true
  found_passes name found is = (found_there test (prefixes name) found is).1

  -- no prefix of a front passes, if the front has fewer labels than the shortest passing prefix of the name
  pub none_shorter : (above tail found : Labels) → shortest test (above ++ tail) ≡ Some found → length above < length found → shortest test above ≡ None
  none_shorter above tail found is shorter = by (shortest test above) refl where
    by : (o : Option Labels) → shortest test above ≡ o → o ≡ None
    by None e = refl
    by (Some other) e =
        let same : other ≡ found = some_of (sym (found_above above tail other e) ∙ is) in
        absurd (omega (arith, shorter, ap (λ (x : Labels). length x) same, begins_short other above (found_begins above other e)))

  -- if no shortest passing prefix of a name is found, none of its prefixes passes
  pub none_passes : (name above : Labels) → shortest test name ≡ None → Begins above name → test above ≡ true → ⊥
  none_passes name above none begins passes =
      let found = find_some test (prefixes name) above (prefixes_have name above begins) passes in
      let clash : Some found.0 ≡ None = sym found.1 ∙ none in cc

-- if no prefix of a name passes a test, none passes a stronger one
pub none_of_stronger : (test stronger : Labels → Bool) → ((x : Labels) → stronger x ≡ true → test x ≡ true) → (name : Labels)
    → shortest test name ≡ None → shortest stronger name ≡ None
none_of_stronger test stronger each name none =
    find_none stronger (prefixes name) (λ x has.
    false_from_ne_true (stronger x) (λ e. none_passes test name x none (from_prefixes name x has) (each x e)))
