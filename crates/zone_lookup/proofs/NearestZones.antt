-- The zone with the longest origin at or above a name, found from the name's fronts.
use Rattle.std.proofs.Common.{◌≡◌, ℕ, ◌+◌, ◌<◌, ◌≤◌, Bool, true, false, List, [], ◌∷◌, ◌++◌, reverse, length, take, drop, Contains, Option, Some, None, is_some, sym, refl, ap, ◌∙◌, arith, append_assoc, length-append}
use Rattle.std.specs.Prelude.{option_and_then}
use Rattle.std.specs.Option.{option_map}
use Rattle.std.proofs.lemmas.List.{take-append-drop, length-take-le}
use Rattle.std.proofs.lemmas.List.Sorted.{IsPermutation-reverse, IsPermutation-sym, Contains-permutation}
use Rattle.dns_data.specs.Name.{Labels, name_eq, is_prefix}
use Rattle.net_model.specs.declared.config.Server.{Server}
use Rattle.net_model.specs.declared.config.Zone.{Zone}
use Rattle.net_model.specs.Nearest.{zone_with_origin, nearest}
use Rattle.net_model.specs.Prefix.{prefixes, longest}
use Rattle.zone_tree.specs.Tree.{ZoneTree}
use Rattle.zone_lookup.specs.Hosts.{tree_at}
use Rattle.zone_lookup.specs.Named.{NoneFrom, IsAtLongest}
use Rattle.dns_data.proofs.Membership.{none_in_nil, from_map}
use Rattle.dns_data.proofs.NameFronts.{front_is_take, is_prefix_told}
use Rattle.dns_data.proofs.Names.{name_eq_decides}
use Rattle.dns_data.proofs.Searches.{find_none, found_there}
use Rattle.net_model.proofs.Prefixes.{longer, longest_above, from_prefixes}
use Rattle.zone_tree.proofs.Prefixes.{longest_itself}

module _ (test : Labels → Bool) (name : Labels) where
  -- a longer front than one of so many labels has more labels
  further : (k : ℕ) (tail below : Labels) → k ≤ length name → take k name ++ tail ≡ name → Contains (longer tail) below
      → (j : ℕ) × (k < j) × (j ≤ length name) × (take k name ++ below ≡ take j name)
  further k [] below within e has = absurd (none_in_nil below has)
  further k (label ∷ rest) below within e has =
      let found = from_map (λ (x : Labels). label ∷ x) (prefixes rest) below has in
      let begins = from_prefixes rest found.0 found.1 in
      let whole : (take k name ++ (label ∷ found.0)) ++ begins.0 ≡ name =
      append_assoc (take k name) (label ∷ found.0) begins.0 ∙ ap (λ (x : Labels). take k name ++ label ∷ x) begins.1 ∙ e in
      let many : length (take k name) ≡ k = length-take-le k name within in
      let long : length (take k name ++ (label ∷ found.0)) ≡ k + length (label ∷ found.0) = length-append (take k name) (label ∷ found.0) ∙ ap (λ (n : ℕ). n + length (label ∷ found.0)) many in
      let all : length (take k name ++ (label ∷ found.0)) + length begins.0 ≡ length name =
      sym (length-append (take k name ++ (label ∷ found.0)) begins.0) ∙ ap (λ (x : Labels). length x) whole in (
        length (take k name ++ (label ∷ found.0)),
        omega arith,
        omega arith,
        ap (λ (x : Labels). take k name ++ x) (sym found.2) ∙ sym (front_is_take (take k name ++ (label ∷ found.0)) begins.0 name whole),
      )

  -- a front that passes a test is the longest prefix that does, if no front with more labels passes
  pub longest_at : (k : ℕ) → k ≤ length name → test (take k name) ≡ true → ((j : ℕ) → k < j → j ≤ length name → test (take j name) ≡ false)
      → longest test name ≡ Some (take k name)
  longest_at k within passes fails =
      ap (longest test) (sym (take-append-drop k name))
      ∙ longest_above test (take k name) (drop k name)
      (λ below has. let one = further k (drop k name) below within (take-append-drop k name) has in ap test one.3 ∙ fails one.0 one.1 one.2)
      ∙ longest_itself test (take k name) passes

  -- if no front of a name passes a test, no longest prefix does
  pub longest_none : ((j : ℕ) → j ≤ length name → test (take j name) ≡ false) → longest test name ≡ None
  longest_none fails =
      find_none test (reverse (prefixes name)) (λ above has.
      let there = Contains-permutation (reverse (prefixes name)) (prefixes name) above
      (IsPermutation-sym (prefixes name) (reverse (prefixes name)) (IsPermutation-reverse (prefixes name))) has in
      let begins = from_prefixes name above there in
      let long : length above + length begins.0 ≡ length name = sym (length-append above begins.0) ∙ ap (λ (x : Labels). length x) begins.1 in
      ap test (sym (front_is_take above begins.0 name begins.1)) ∙ fails (length above) (omega arith))

module _ (server : Server) (name : Labels) where
  abbrev holds : Labels → Bool
  holds above = is_some (zone_with_origin server above)

  -- the zone whose origin is a front of the name is the server's nearest, if no longer front is an origin
  pub nearest_at : (k : ℕ) (zone : Zone) → k ≤ length name → zone_with_origin server (take k name) ≡ Some zone
      → ((j : ℕ) → k < j → j ≤ length name → holds (take j name) ≡ false) → nearest server name ≡ Some zone
  nearest_at k zone within is none =
      ap (option_and_then (zone_with_origin server)) (longest_at holds name k within (ap is_some is) none) ∙ is

  -- a zone whose origin is a front of the name has the name at or below its origin
  pub nearest_has : (k : ℕ) (zone : Zone) → zone_with_origin server (take k name) ≡ Some zone → is_prefix zone.origin name ≡ true
  nearest_has k zone is =
      let origin : zone.origin ≡ take k name =
      (name_eq_decides zone.origin (take k name)).0 (found_there (λ (z : Zone). name_eq z.origin (take k name)) server.zones zone is).1 in
      is_prefix_told zone.origin name (drop k name, ap (λ (x : Labels). x ++ drop k name) origin ∙ take-append-drop k name)

  -- a server has no nearest zone for a name of which no front is an origin
  pub nearest_none : ((j : ℕ) → j ≤ length name → holds (take j name) ≡ false) → nearest server name ≡ None
  nearest_none none = ap (option_and_then (zone_with_origin server)) (longest_none holds name none)

-- the trees that a server's zones are looked up among tell its zones
module _ (server : Server) (name : Labels) (trees : List ZoneTree)
    (firsts : (origin : Labels) → option_map (λ (tree : ZoneTree). tree.zone) (tree_at trees origin) ≡ zone_with_origin server origin) where
  is_held : (origin : Labels) → is_some (zone_with_origin server origin) ≡ is_some (tree_at trees origin)
  is_held origin = ap is_some (sym (firsts origin)) ∙ by (tree_at trees origin) where
    by : (found : Option ZoneTree) → is_some (option_map (λ (tree : ZoneTree). tree.zone) found) ≡ is_some found
    by None = refl
    by (Some tree) = refl

  module _ (tree : ZoneTree) (longest : IsAtLongest (tree_at trees) name (length name) tree) where
    zone_there : zone_with_origin server (take longest.labels name) ≡ Some tree.zone
    zone_there = sym (firsts (take longest.labels name)) ∙ ap (option_map (λ (t : ZoneTree). t.zone)) longest.there

    -- the tree of the longest origin is that of the nearest zone
    pub nearest_of_tree : nearest server name ≡ Some tree.zone
    nearest_of_tree =
        nearest_at server name longest.labels tree.zone longest.within zone_there
        (λ j more within. is_held (take j name) ∙ longest.none_longer j (omega arith) within)

    -- the tree of the longest origin has the name at or below its origin
    pub tree_has : is_prefix tree.zone.origin name ≡ true
    tree_has = nearest_has server name longest.labels tree.zone zone_there

  -- a server without a tree at a front of the name has no nearest zone for it
  pub nearest_of_none : NoneFrom (tree_at trees) name (length name) 0 → nearest server name ≡ None
  nearest_of_none none = nearest_none server name (λ j within. is_held (take j name) ∙ none j (omega arith) within)
