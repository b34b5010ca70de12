-- Zones that are taken one after another.
use Rattle.std.proofs.Common.{◌≡◌, ◌∙◌, List, [], ◌∷◌, ◌++◌, All, Contains, Option, Some, None, Result, Ok, Err, refl, sym, ap, subst, inl, inr, arith}
use Rattle.std.proofs.lemmas.List.Elements.{All-contains, All-weaker, Contains-append_cases, Contains-append_left, Contains-append_right}
use Rattle.dns_data.specs.Name.{Labels}
use Rattle.dns_data.proofs.Membership.{all_from_contains, first_or_later, has_first, none_in_nil}
use Rattle.label_graph.specs.Graphs.{SomeItem}
use Rattle.net_model.specs.Configured.{KeepsWithin}
use Rattle.net_model.specs.declared.config.Zone.{Zone}
use Rattle.part_names.specs.declared.names.PartNames.{PartNames}
use Rattle.part_checks.specs.Outside.{HasOutside, IsPassed, Leaves, zone_names}
use Rattle.part_checks.specs.Taking.{AreSeen, FitsZone, HasNoted, IsSeen, SeesZone, Taking}
use Rattle.part_checks.specs.declared.fault.PartFault.{PartFault}
use Rattle.part_checks.specs.declared.fault.PartFault.TheVariants.{Breaks, NoMemory}
use Rattle.part_checks.specs.declared.fault.PartRule.{PartRule}
use Rattle.part_checks.proofs.Passing.{passed_on}

module _ (zones : List Zone) (zone : Zone) where
  -- what holds of zones and of one more holds of all
  all_with : (P : Zone → Type 0) → All P zones → P zone → All P (zones ++ zone ∷ [])
  all_with P all holds =
      all_from_contains P (zones ++ zone ∷ []) (λ other has. elim (Contains-append_cases zones (zone ∷ []) other has) [
        | inl before ↦ All-contains P zones other all before
        | inr last ↦ elim (first_or_later zone [] other last) [
          | inl same ↦ subst P same holds
          | inr none ↦ absurd (none_in_nil other none)
        ]
      ])

  -- what holds of all holds of those before
  all_before : (P : Zone → Type 0) → All P (zones ++ zone ∷ []) → All P zones
  all_before P all = all_from_contains P zones (λ other has. All-contains P (zones ++ zone ∷ []) other all (Contains-append_left zones (zone ∷ []) other has))

  -- and of the last
  last_of : (P : Zone → Type 0) → All P (zones ++ zone ∷ []) → P zone
  last_of P all = All-contains P (zones ++ zone ∷ []) zone all (Contains-append_right zones (zone ∷ []) zone (has_first zone []))

  -- what holds of one before holds of some
  some_before : (P : Zone → Type 0) → SomeItem P zones → SomeItem P (zones ++ zone ∷ [])
  some_before P (other, has, holds) = (other, Contains-append_left zones (zone ∷ []) other has, holds)

  -- so does what holds of the last
  some_last : (P : Zone → Type 0) → P zone → SomeItem P (zones ++ zone ∷ [])
  some_last P holds = (zone, Contains-append_right zones (zone ∷ []) zone (has_first zone []), holds)

-- nothing is both there and not
not_both : {X : Type 0} (o : Option X) (x : X) → o ≡ None → o ≡ Some x → ⊥
not_both o x none some = let clash : None ≡ Some x = sym none ∙ some in absurd cc

-- a name that is passed with some names outside is passed with those that were put for them
passed_through : (names : PartNames) (fronts outside : List Labels) (name : Labels) → ((front : Labels) → Contains fronts front → HasOutside outside front) → IsPassed names fronts name → IsPassed names outside name
passed_through names fronts outside name there is = record {
  away = is.away;
  own = is.own;
  there = λ front found.
      let one = is.there front found in
      let other = there one.name one.there in
      record { name = other.name; there = other.there; beside = other.beside ∙ one.beside; no_longer = omega (arith, other.no_longer, one.no_longer) };
}

module _ (zones : List Zone) (zone : Zone) (keeps : KeepsWithin zone) where
  -- where a rule is broken, nothing more is asked of a zone
  pub seen_broken : (taking : Taking) (first : PartRule × Labels) → taking.broken ≡ Some first → AreSeen taking zones → AreSeen taking (zones ++ zone ∷ [])
  seen_broken taking first some are = record {
    within = all_with zones zone KeepsWithin are.within keeps;
    seen = λ none. absurd (not_both taking.broken first none some);
    leaves = λ name has. some_before zones zone (λ (z : Zone). Leaves taking.names (zone_names z) name) (are.leaves name has);
    refuted = λ rule name is all. are.refuted rule name is (all_before zones zone (FitsZone rule taking.names) all);
  }

  -- a zone that is seen is taken with the others, or a rule is broken
  pub seen_more : (old new : Taking) (seen : Result (List Labels) PartFault) → old.broken ≡ None → SeesZone old.names zone seen → HasNoted seen old new → AreSeen old zones → AreSeen new (zones ++ zone ∷ [])
  seen_more old new (Ok fronts) none (sees, leaves) put are =
      subst (λ (t : Taking). AreSeen t (zones ++ zone ∷ [])) (λ i. record { names = sym put.names i; outside = new.outside; broken = sym put.broken i })
      (record {
        within = all_with zones zone KeepsWithin are.within keeps;
        seen = λ none. all_with zones zone (IsSeen old.names new.outside)
            (All-weaker (IsSeen old.names old.outside) (IsSeen old.names new.outside)
            (λ other is. record {
              passed = All-weaker (IsPassed old.names old.outside) (IsPassed old.names new.outside) (λ name. passed_on old.names old.outside new.outside name put.stays) (zone_names other) is.passed;
              lasting = is.lasting;
            }) zones (are.seen none))
            (record {
              passed = All-weaker (IsPassed old.names fronts) (IsPassed old.names new.outside) (λ name. passed_through old.names fronts new.outside name put.there) (zone_names zone) sees.passed;
              lasting = sees.lasting;
            });
        leaves = λ name has. elim (put.added name has) [
          | inl before ↦ some_before zones zone (λ (z : Zone). Leaves old.names (zone_names z) name) (are.leaves name before)
          | inr front ↦ some_last zones zone (λ (z : Zone). Leaves old.names (zone_names z) name) (leaves name front)
        ];
        refuted = λ rule name is. absurd (not_both old.broken (rule, name) none is);
      })
  seen_more old new (Err (Breaks rule name)) none sees is are =
      subst (λ (t : Taking). AreSeen t (zones ++ zone ∷ [])) (sym is)
      (record {
        within = all_with zones zone KeepsWithin are.within keeps;
        seen = λ never. absurd (not_both (Some (rule, name)) (rule, name) never refl);
        leaves = λ front has. some_before zones zone (λ (z : Zone). Leaves old.names (zone_names z) front) (are.leaves front has);
        refuted = λ other front same all.
            let one : (rule, name) ≡ (other, front) = cc in
            sees (subst (λ (r : PartRule). FitsZone r old.names zone) (sym (ap (λ (p : PartRule × Labels). p.0) one)) (last_of zones zone (FitsZone other old.names) all));
      })
  seen_more old new (Err NoMemory) none sees never are = absurd never
