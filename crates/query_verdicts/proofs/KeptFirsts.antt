-- Of the faults of classes some are kept: each with the first of its classes.
use Rattle.std.proofs.Common.{◌≡◌, ◌≢◌, ℕ, suc, ◌+◌, ◌<◌, List, [], ◌∷◌, ◌++◌, length, take, get_or, Contains, refl, sym, ap, ◌∙◌, subst, inl, inr, append_assoc, append-nil, arith}
use Rattle.std.specs.Ordering.{ordering_reverse}
use Rattle.std.specs.declared.cmp.Ordering.{Ordering}
use Rattle.std.specs.declared.cmp.Ordering.TheVariants.{Less, Equal, Greater}
use Rattle.std.proofs.Math.Seq.{take-suc}
use Rattle.std.proofs.lemmas.List.{map-append}
use Rattle.std.proofs.lemmas.List.Elements.{Contains-append_cases, Contains-append_left, Contains-append_right}
use Rattle.dns_data.proofs.Membership.{none_in_nil, first_or_later}
use Rattle.dns_data.proofs.OrderedLists.{never_before_itself}
use Rattle.graph_form.specs.FirstFaults.{AreFirsts, IsRanked}
use Rattle.graph_form.specs.declared.report.Seen.{Seen}
use Rattle.net_model.specs.declared.class.Class.{Class}
use Rattle.net_model.specs.Class.{class_cmp}
use Rattle.net_model.proofs.FaultOrder.{classes_total}
use Rattle.query_verdicts.specs.Rows.{KeepsFirsts, class_fault, class_rank, found_fault, with_class}
use Rattle.query_verdicts.specs.declared.first_classes.ClassFault.{ClassFault}

abbrev IsKnown : List ClassFault → ClassFault → Type 0
IsKnown kept one = IsRanked found_fault class_rank kept one

-- a class that isn't before another, which isn't before a third, isn't before the third
still_later : (a b c : Class) → class_cmp a b ≢ Less → class_cmp b c ≢ Less → class_cmp a c ≢ Less
still_later a b c first second less = by (class_cmp b a) refl where
  by : (o : Ordering) → class_cmp b a ≡ o → ⊥
  by Less e = second (classes_total.trans b a c e less)
  by Equal e = second (classes_total.congr b a c e ∙ less)
  by Greater e = first (classes_total.antisymm a b ∙ ap ordering_reverse e)

-- a fault is known where it is kept
known_itself : (kept : List ClassFault) (one : ClassFault) → Contains kept one → IsKnown kept one
known_itself kept one has =
    record { by = one; has = has; fault_is = refl; not_later = never_before_itself class_cmp classes_total one.class }

-- all are kept of all
pub kept_itself : (all : List ClassFault) → KeepsFirsts all all
kept_itself all = record { from = λ one has. has; covers = known_itself all }

known_on : (middle kept : List ClassFault) (one : ClassFault) → KeepsFirsts middle kept → IsKnown middle one → IsKnown kept one
known_on middle kept one keeps known =
    let again = keeps.covers known.by known.has in
    record {
      by = again.by;
      has = again.has;
      fault_is = again.fault_is ∙ known.fault_is;
      not_later = still_later one.class known.by.class again.by.class known.not_later again.not_later;
    }

module _ (before more middle kept : List ClassFault) (first : KeepsFirsts before middle) (second : KeepsFirsts (middle ++ more) kept) where
  -- what is kept of some faults, and of what was kept of others before them, is kept of both
  pub kept_on : KeepsFirsts (before ++ more) kept
  kept_on =
      record {
        from = λ one has. elim (Contains-append_cases middle more one (second.from one has)) [
          | inl old ↦ Contains-append_left before more one (first.from one old)
          | inr new ↦ Contains-append_right before more one new
        ];
        covers = λ one has. elim (Contains-append_cases before more one has) [
          | inl old ↦ (
              let known = first.covers one old in
              known_on (middle ++ more) kept one second
              (record {
                by = known.by;
                has = Contains-append_left middle more known.by known.has;
                fault_is = known.fault_is;
                not_later = known.not_later;
              }))
          | inr new ↦ second.covers one (Contains-append_right middle more one new)
        ];
      }

-- a fault that is known need not be kept again
pub kept_without : (kept : List ClassFault) (one : ClassFault) → IsKnown kept one → KeepsFirsts (kept ++ one ∷ []) kept
kept_without kept one known =
    record {
      from = λ other has. Contains-append_left kept (one ∷ []) other has;
      covers = λ other has. elim (Contains-append_cases kept (one ∷ []) other has) [
        | inl old ↦ known_itself kept other old
        | inr new ↦ elim (first_or_later one [] other new) [
          | inl same ↦ subst (IsKnown kept) same known
          | inr none ↦ absurd (none_in_nil other none)
        ]
      ];
    }

-- the first of each fault are kept of all
pub kept_firsts : (all first : List ClassFault) → AreFirsts found_fault class_rank all first → KeepsFirsts all first
kept_firsts all first firsts = record { from = firsts.from; covers = firsts.covers }

-- the first of each fault that is kept is the first of all
pub firsts_of_kept : (all kept first : List ClassFault) → KeepsFirsts all kept → AreFirsts found_fault class_rank kept first
    → AreFirsts found_fault class_rank all first
firsts_of_kept all kept first keeps firsts =
    record {
      ordered = firsts.ordered;
      from = λ one has. keeps.from one (firsts.from one has);
      covers = λ one has. known_on kept first one (kept_firsts kept first firsts) (keeps.covers one has);
    }

-- where no faults come behind others, these are kept of all
pub kept_alone : (all none : List ClassFault) → none ≡ [] → KeepsFirsts (all ++ none) all
kept_alone all none empty =
    subst (λ (some : List ClassFault). KeepsFirsts some all) (sym (ap (λ l. all ++ l) empty ∙ append-nil all)) (kept_itself all)

-- the faults of a class so far, and the next one
pub one_more : (before : List ClassFault) (class : Class) (shown : List Seen) (i : ℕ) (seen : Seen) → i < length shown → get_or shown i seen ≡ seen
    → (before ++ with_class class (take i shown)) ++ class_fault class seen ∷ [] ≡ before ++ with_class class (take (i + 1) shown)
one_more before class shown i seen within at =
    append_assoc before (with_class class (take i shown)) (class_fault class seen ∷ [])
    ∙ ap (λ l. before ++ l)
    (sym (map-append (class_fault class) (take i shown) (seen ∷ []))
    ∙ ap (with_class class) (sym (ap (λ (n : ℕ). take n shown) next ∙ take-suc shown i seen within ∙ ap (λ s. take i shown ++ s ∷ []) at)))
  where
    next : i + 1 ≡ suc i
    next = omega arith
