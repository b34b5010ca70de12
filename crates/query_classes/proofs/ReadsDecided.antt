-- Whether the front of a target reads on to a base name is decided: pairs of such names are found, each from those found
-- before it, until nothing more follows.
use Rattle.std.proofs.Common.{◌≡◌, ◌≢◌, ◌⊎◌, ℕ, zero, suc, ◌+◌, ◌≤◌, List, [], ◌∷◌, ◌++◌, map, flat_map, length, Contains, AllPairs, refl, sym, ap, ◌∙◌, subst, append_assoc, append-nil, inl, inr, arith}
use Rattle.std.proofs.lemmas.List.Elements.{Contains-append_right}
use Rattle.std.proofs.lemmas.List.Kept.{AllPairs-cons}
use Rattle.dns_data.specs.Name.{Labels}
use Rattle.dns_data.proofs.DifferentItems.{fits_among}
use Rattle.dns_data.proofs.Membership.{none_in_nil, has_first, first_or_later, map_has, from_map, flat_map_has, from_flat_map, all_from_contains}
use Rattle.net_model.specs.Prefix.{prefixes}
use Rattle.net_model.specs.Reading.{Redirection, Ground, ReadsOnTo}
use Rattle.net_model.proofs.Prefixes.{prefixes_have, from_prefixes}
use Rattle.label_graph.specs.LiveSet.{IsClosed}
use Rattle.label_graph.proofs.LiveNames.{IsLive, all_known}
use Rattle.label_graph.proofs.Readings.{reads_below, reads_then, reads_itself, owner_reads}
use Rattle.query_classes.proofs.Decided.{Decided, turned, both, either, not_so, any_of, among, same_name}

-- a front of a target, and a base name
abbrev Pair : Type 0
Pair = Labels × Labels

same_pair : (a b : Pair) → Decided (a ≡ b)
same_pair a b = turned there back (both (same_name a.0 b.0) (same_name a.1 b.1)) where
  there : (a.0 ≡ b.0) × (a.1 ≡ b.1) → a ≡ b
  there (e, f) = ap (λ (n : Labels). (n, a.1)) e ∙ ap (λ (n : Labels). (b.0, n)) f

  back : a ≡ b → (a.0 ≡ b.0) × (a.1 ≡ b.1)
  back e = (ap (λ (p : Pair). p.0) e, ap (λ (p : Pair). p.1) e)

module _ (ground : Ground) (closed : IsClosed ground) where
  abbrev fronts_of : Redirection → List Labels
  fronts_of redirection = prefixes redirection.target

  -- the fronts of all targets
  abbrev pub fronts : List Labels
  fronts = flat_map fronts_of ground.redirections

  fronts_have : (above below : Labels) → Contains fronts (above ++ below) → Contains fronts above
  fronts_have above below has =
      let (redirection, given, inside) = from_flat_map fronts_of ground.redirections (above ++ below) has in
      let (rest, e) = from_prefixes redirection.target (above ++ below) inside in
      flat_map_has fronts_of ground.redirections redirection above given
      (prefixes_have redirection.target above (below ++ rest, sym (append_assoc above below rest) ∙ e))

  -- the target of each redirection is among the fronts of targets
  pub has_target : (redirection : Redirection) → Contains ground.redirections redirection → Contains fronts redirection.target
  has_target redirection given =
      flat_map_has fronts_of ground.redirections redirection redirection.target given
      (prefixes_have redirection.target redirection.target ([], append-nil redirection.target))

  abbrev with_front : Labels → List Pair
  with_front front = map (λ base. (front, base)) ground.names

  -- all pairs of them and base names
  abbrev all_pairs : List Pair
  all_pairs = flat_map with_front fronts

  is_pair : (front base : Labels) → Contains fronts front → Contains ground.names base → Contains all_pairs (front, base)
  is_pair front base has there =
      flat_map_has with_front fronts front (front, base) has (map_has (λ (b : Labels). (front, b)) ground.names base there)

  from_pairs : (pair : Pair) → Contains all_pairs pair → Contains ground.names pair.1
  from_pairs pair has =
      let (front, given, inside) = from_flat_map with_front fronts pair has in
      let (base, there, is) = from_map (λ (b : Labels). (front, b)) ground.names pair inside in
      subst (λ (p : Pair). Contains ground.names p.1) is there

  -- ---- what follows from pairs

  -- one label more below both names
  abbrev GoesOn : Pair → Pair → Type 0
  GoesOn known pair = (label : List ℕ) × ((pair.0 ≡ known.0 ++ label ∷ []) × (pair.1 ≡ known.1 ++ label ∷ []))

  goes_on : (known pair : Pair) → Decided (GoesOn known pair)
  goes_on known pair =
      turned (λ (label, has, is). (label, is))
      (λ (label, is). (label, subst (λ (n : Labels). Contains n label) (sym is.0) (Contains-append_right known.0 (label ∷ []) label (has_first label [])), is))
      (any_of (λ label. (pair.0 ≡ known.0 ++ label ∷ []) × (pair.1 ≡ known.1 ++ label ∷ []))
      (λ label. both (same_name pair.0 (known.0 ++ label ∷ [])) (same_name pair.1 (known.1 ++ label ∷ []))) pair.0)

  -- by a redirection from what the front reads on to
  abbrev JoinsBy : List Pair → Pair → Redirection → Type 0
  JoinsBy list pair redirection = Contains list (pair.0, redirection.owner) × Contains list (redirection.target, pair.1)

  abbrev Follows : List Pair → Pair → Type 0
  Follows list pair =
      ((pair.0 ≡ []) × (pair.1 ≡ []))
      ⊎ (((known : Pair) × Contains list known × GoesOn known pair)
      ⊎ ((redirection : Redirection) × Contains ground.redirections redirection × JoinsBy list pair redirection))

  follows : (list : List Pair) (pair : Pair) → Decided (Follows list pair)
  follows list pair =
      either (both (same_name pair.0 []) (same_name pair.1 []))
      (either (any_of (λ known. GoesOn known pair) (λ known. goes_on known pair) list)
      (any_of (JoinsBy list pair)
      (λ redirection. both (among same_pair list (pair.0, redirection.owner)) (among same_pair list (redirection.target, pair.1)))
      ground.redirections))

  -- what follows from true pairs is true
  abbrev AreTrue : List Pair → Type 0
  AreTrue list = (pair : Pair) → Contains list pair → IsLive ground pair.0 pair.1

  stays_true : (list : List Pair) → AreTrue list → (pair : Pair) → Contains all_pairs pair → Follows list pair → IsLive ground pair.0 pair.1
  stays_true list are pair has (inl (front, base)) = (
    from_pairs pair has,
    subst (λ (n : Labels). ReadsOnTo ground.redirections pair.0 n) (front ∙ sym base) (reads_itself ground.redirections pair.0),
  )
  stays_true list are pair has (inr (inl (known, given, (label, (front, base))))) = (
    from_pairs pair has,
    subst (λ (n : Labels). ReadsOnTo ground.redirections n pair.1) (sym front)
        (subst (ReadsOnTo ground.redirections (known.0 ++ label ∷ [])) (sym base)
        (reads_below ground.redirections known.0 known.1 (label ∷ []) (are known given).1)),
  )
  stays_true list are pair has (inr (inr (redirection, given, (one, two)))) = (
    from_pairs pair has,
    reads_then ground.redirections pair.0 redirection.owner pair.1 (are (pair.0, redirection.owner) one).1
        (owner_reads ground.redirections redirection pair.1 given (are (redirection.target, pair.1) two).1),
  )

  -- ---- until nothing more follows

  record IsWhole (list : List Pair) : Type 0 where
    pub are : AreTrue list
    pub all : (pair : Pair) → Contains all_pairs pair → Follows list pair → Contains list pair

  abbrev IsMore : List Pair → Pair → Type 0
  IsMore list pair = Follows list pair × (Contains list pair → ⊥)

  more : (list : List Pair) → Decided ((pair : Pair) × Contains all_pairs pair × IsMore list pair)
  more list = any_of (IsMore list) (λ pair. both (follows list pair) (not_so (among same_pair list pair))) all_pairs

  whole : (list : List Pair) → AreTrue list → (((pair : Pair) × Contains all_pairs pair × IsMore list pair) → ⊥) → IsWhole list
  whole list are none =
      record {
        are = are;
        all = λ pair has so. elim (among same_pair list pair) [ inl there ↦ there | inr isnt ↦ absurd (none (pair, has, (so, isnt))) ];
      }

  differ_more : (list : List Pair) (pair : Pair) → AllPairs (λ a b. a ≢ b) list → (Contains list pair → ⊥) → AllPairs (λ a b. a ≢ b) (pair ∷ list)
  differ_more list pair differ isnt =
      AllPairs-cons (λ a b. a ≢ b) pair list (all_from_contains (λ y. pair ≢ y) list (λ y has e. isnt (subst (Contains list) (sym e) has))) differ

  found_from : (steps : ℕ) (list : List Pair) → AllPairs (λ a b. a ≢ b) list → ((pair : Pair) → Contains list pair → Contains all_pairs pair)
      → AreTrue list → length all_pairs ≤ steps + length list → (found : List Pair) × IsWhole found
  found_from zero list differ within are enough = by (more list) where
    by : Decided ((pair : Pair) × Contains all_pairs pair × IsMore list pair) → (found : List Pair) × IsWhole found
    by (inr none) = (list, whole list are none)
    by (inl (pair, has, (so, isnt))) =
        let fits : length (pair ∷ list) ≤ length all_pairs =
        fits_among (pair ∷ list) all_pairs (differ_more list pair differ isnt)
        (λ one there. elim (first_or_later pair list one there) [ inl same ↦ subst (Contains all_pairs) same has | inr later ↦ within one later ]) in
        absurd (omega arith)
  found_from (suc steps) list differ within are enough =
      by (more list) (λ longer apart inside each less. found_from steps longer apart inside each less)
    where
      by : Decided ((pair : Pair) × Contains all_pairs pair × IsMore list pair)
          → ((longer : List Pair) → AllPairs (λ a b. a ≢ b) longer → ((pair : Pair) → Contains longer pair → Contains all_pairs pair)
          → AreTrue longer → length all_pairs ≤ steps + length longer → (found : List Pair) × IsWhole found)
          → (found : List Pair) × IsWhole found
      by (inr none) next = (list, whole list are none)
      by (inl (pair, has, (so, isnt))) next =
          next (pair ∷ list) (differ_more list pair differ isnt)
          (λ one there. elim (first_or_later pair list one there) [ inl same ↦ subst (Contains all_pairs) same has | inr later ↦ within one later ])
          (λ one there. elim (first_or_later pair list one there) [
            | inl same ↦ subst (λ (p : Pair). IsLive ground p.0 p.1) same (stays_true list are pair has so)
            | inr later ↦ are one later
          ]) (omega arith)

  found : (list : List Pair) × IsWhole list
  found =
      found_from (length all_pairs) [] (λ i j d before within. absurd (omega arith)) (λ pair has. absurd (none_in_nil pair has))
      (λ pair has. absurd (none_in_nil pair has)) (omega arith)

  abbrev Known : Labels → Labels → Type 0
  Known front base = Contains found.0 (front, base)

  known_root : Contains fronts [] → Known [] []
  known_root has = found.1.all ([], []) (is_pair [] [] has closed.names.root) (inl (refl, refl))

  known_step : (front base : Labels) (label : List ℕ) → Known front base → Contains fronts (front ++ label ∷ [])
      → Contains ground.names (base ++ label ∷ []) → Known (front ++ label ∷ []) (base ++ label ∷ [])
  known_step front base label known has there =
      found.1.all (front ++ label ∷ [], base ++ label ∷ []) (is_pair (front ++ label ∷ []) (base ++ label ∷ []) has there)
      (inr (inl ((front, base), known, (label, (refl, refl)))))

  known_join : (front : Labels) (redirection : Redirection) (base : Labels) → Contains fronts front → Contains ground.redirections redirection
      → Known front redirection.owner → Known redirection.target base → Known front base
  known_join front redirection base has given one two =
      found.1.all (front, base) (is_pair front base has (found.1.are (redirection.target, base) two).0) (inr (inr (redirection, given, (one, two))))

  -- whether a name is the front of a target that reads on to the base name
  pub front_reads : (front base : Labels) → Decided (Contains fronts front × IsLive ground front base)
  front_reads front base =
      elim (among same_name fronts front) [
        | inr isnt ↦ inr (λ both. isnt both.0)
        | inl has ↦ turned (λ known. (has, found.1.are (front, base) known))
            (λ is. all_known ground Known closed (Contains fronts) fronts_have has_target known_root known_step known_join front base has is.1)
            (among same_pair found.0 (front, base))
      ]
