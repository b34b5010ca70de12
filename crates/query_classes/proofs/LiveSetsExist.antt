-- Each name has a live set: the base names to which it reads on are found label by label, of any closed ground.
use Rattle.std.proofs.Common.{◌≡◌, ◌∙◌, ℕ, ◌+◌, ◌<◌, ◌⊎◌, List, [], ◌∷◌, ◌++◌, length, Contains, refl, sym, subst, append_assoc, append-nil, inl, inr, arith}
use Rattle.std.specs.Prelude.{◌↔◌}
use Rattle.std.specs.List.{range_with_len}
use Rattle.std.proofs.lemmas.Bool.{cases_lt}
use Rattle.std.proofs.lemmas.List.FromFn.{length-range_with_len, get_or-range_with_len}
use Rattle.dns_data.specs.Name.{Labels}
use Rattle.dns_data.proofs.Membership.{all_from_contains}
use Rattle.net_model.specs.Reading.{Redirection, Ground}
use Rattle.label_graph.specs.LiveSet.{IsClosed, IsLiveSet, name_at}
use Rattle.label_graph.proofs.LiveNames.{IsLive, Closed, Stepped, IsRoot, live_steps, steps_live, live_at_root, root_live}
use Rattle.name_table.proofs.Tables.{among_place}
use Rattle.query_classes.proofs.Decided.{Decided, turned, both, either, any_of, chosen, among, same_name}
use Rattle.query_classes.proofs.ReadsDecided.{fronts, front_reads, has_target}

module _ (ground : Ground) (closed : IsClosed ground) where
  -- the names are those to which the name reads on
  abbrev Lives : Labels → Type 0
  Lives name = (bases : List Labels) × ((base : Labels) → Contains bases base ↔ IsLive ground name base)

  -- those of P, and what the targets of redirections read on to whose owners are of P
  closed_decided : (P : Labels → Type 0) → ((base : Labels) → Decided (P base)) → (base : Labels) → Decided (Closed ground (IsLive ground) P base)
  closed_decided P decide base =
      turned there back
      (either (decide base)
      (any_of (λ redirection. P redirection.owner × (Contains (fronts ground closed) redirection.target × IsLive ground redirection.target base))
      (λ redirection. both (decide redirection.owner) (front_reads ground closed redirection.target base)) ground.redirections))
    where
      there : P base ⊎ ((redirection : Redirection) × Contains ground.redirections redirection
          × (P redirection.owner × (Contains (fronts ground closed) redirection.target × IsLive ground redirection.target base)))
          → Closed ground (IsLive ground) P base
      there (inl here) = inl here
      there (inr (redirection, given, (owner, (has, reads)))) = inr (redirection, given, owner, reads)

      back : Closed ground (IsLive ground) P base
          → P base ⊎ ((redirection : Redirection) × Contains ground.redirections redirection
          × (P redirection.owner × (Contains (fronts ground closed) redirection.target × IsLive ground redirection.target base)))
      back (inl here) = inl here
      back (inr (redirection, given, owner, reads)) = inr (redirection, given, (owner, (has_target ground closed redirection given, reads)))

  -- the base names that are closed over P are those to which the name reads on
  lives_by : (P : Labels → Type 0) → ((base : Labels) → Decided (P base)) → (name : Labels)
      → ((base : Labels) → Closed ground (IsLive ground) P base → IsLive ground name base)
      → ((base : Labels) → IsLive ground name base → Closed ground (IsLive ground) P base) → Lives name
  lives_by P decide name there back =
      let (bases, are) = chosen (Closed ground (IsLive ground) P) (closed_decided P decide) ground.names in
      (bases, λ base. ((λ has. there base ((are base).0 has).1), (λ live. (are base).1 (live.0, back base live))))

  at_root : Lives []
  at_root = lives_by (IsRoot ground (IsLive ground)) (λ base. same_name base []) [] (root_live ground closed) (live_at_root ground closed)

  one_more : (name : Labels) (label : List ℕ) → Lives name → Lives (name ++ label ∷ [])
  one_more name label (bases, are) =
      lives_by (Stepped ground (IsLive ground) (IsLive ground name) label) decide (name ++ label ∷ [])
      (λ base. steps_live ground closed name base label) (λ base. live_steps ground closed name base label)
    where
      decide : (base : Labels) → Decided (Stepped ground (IsLive ground) (IsLive ground name) label base)
      decide base =
          turned (λ (has, (above, given, is)). (has, (above, (are above).0 given, is))) (λ (has, (above, live, is)). (has, (above, (are above).1 live, is)))
          (both (among same_name ground.names base) (any_of (λ above. base ≡ above ++ label ∷ []) (λ above. same_name base (above ++ label ∷ [])) bases))

  further : (front rest : Labels) → Lives front → Lives (front ++ rest)
  further front [] lives = subst Lives (sym (append-nil front)) lives
  further front (label ∷ rest) lives =
      subst Lives (append_assoc front (label ∷ []) rest) (further (front ++ label ∷ []) rest (one_more front label lives))

  -- each name has a live set
  pub live_set_of : (name : Labels) → (places : List ℕ) × IsLiveSet ground name places
  live_set_of name = by (further [] name at_root) where
    same : (n : ℕ) → 0 + n ≡ n
    same n = omega arith

    below : (place : ℕ) → place < length ground.names → Contains (range_with_len 0 (length ground.names)) place
    below place within = (place, subst (λ (n : ℕ). place < n) (sym (length-range_with_len 0 (length ground.names))) within, get_or-range_with_len 0 (length ground.names) place place within ∙ same place)

    by : Lives name → (places : List ℕ) × IsLiveSet ground name places
    by (bases, are) =
        let (places, is) =
        chosen (λ (place : ℕ). (base : Labels) × Contains bases base × ((place < length ground.names) × (name_at ground.names place ≡ base)))
        (λ place. any_of (λ base. (place < length ground.names) × (name_at ground.names place ≡ base))
        (λ base. both (less place (length ground.names)) (same_name (name_at ground.names place) base)) bases)
        (range_with_len 0 (length ground.names)) in (
          places,
          record {
            within = all_from_contains (λ (place : ℕ). place < length ground.names) places (λ place has. ((is place).0 has).1.2.0);
            live = λ place within. (
              λ has. (let (base, given, (low, e)) = ((is place).0 has).1 in ((are (name_at ground.names place)).0 (subst (Contains bases) (sym e) given)).1),
              λ reads. (is place).1 (below place within, (name_at ground.names place, (are (name_at ground.names place)).1 (among_place ground.names place within, reads), (within, refl))),
            );
          },
        )
      where
        less : (a b : ℕ) → Decided (a < b)
        less a b = elim (cases_lt a b) [ inl is ↦ inl is | inr isnt ↦ inr (λ is. omega arith) ]
