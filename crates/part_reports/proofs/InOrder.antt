-- Reports that stand in order aren't refused.
use Rattle.std.proofs.Common.{◌≡◌, ◌≢◌, ◌∙◌, ℕ, ◌+◌, true, List, [], ◌∷◌, map, Contains, Option, Some, None, Err, sym, refl, ap, subst, inl, inr, arith}
use Rattle.std.specs.Prelude.{◌==◌}
use Rattle.std.specs.List.{AllByRecursion}
use Rattle.std.specs.Ordering.{is_lt}
use Rattle.std.specs.declared.cmp.Ordering.TheVariants.{Less}
use Rattle.std.proofs.lemmas.Bool.Decides.{nat_tests}
use Rattle.dns_data.specs.Name.{Labels, name_cmp, AreInOrder}
use Rattle.dns_data.proofs.Membership.{has_first, pairs_first, pairs_rest}
use Rattle.dns_data.proofs.Names.{name_eq_decides}
use Rattle.net_model.specs.declared.config.Config.{Config}
use Rattle.part_form.specs.declared.fault.MergeFault.{MergeFault}
use Rattle.part_form.specs.declared.fault.MergeFault.TheVariants.{OtherRewrites, NotNext, NotLast, TooMany, NoMemory}
use Rattle.part_form.specs.Merging.{Next, apart, apart_from, begins, bound_eq, rises, behind, IsMerged}
use Rattle.part_form.specs.Stated.{PartStated}
use Rattle.part_reports.specs.Bounds.{Bounds, parted_at}
use Rattle.part_reports.specs.Reported.{Reported, AreReportsOf, StandInOrder, all_read, bounds_of}
use Rattle.part_reports.proofs.MergedReport.{first_rewrites_are}

bound_same : (a : Option Labels) → bound_eq a a ≡ true
bound_same None = refl
bound_same (Some a) = (name_eq_decides a a).1 refl

same_number : (a b : ℕ) → a ≡ b → (a == b) ≡ true
same_number a b e = grind (arith, nat_tests)

-- a report with the same rewrites that follows
step : (rewrites count : ℕ) (next : Next) (part : PartStated) (parts : List PartStated) → (part.rewrites == rewrites) ≡ true
    → begins next part.from ≡ true → rises part.from part.to ≡ true
    → apart_from count rewrites next (part ∷ parts) ≡ apart_from (count + 1) rewrites (behind part.to) parts
step rewrites count next part parts same begun risen = rw (same, begun, risen) refl

-- the reports have this number of rewrites
abbrev Allow : ℕ → List PartStated → Type 0
Allow rewrites parts = AllByRecursion (λ (part : PartStated). part.rewrites ≡ rewrites) parts

rises_to : (from : Option Labels) (to : Labels) → ((first : Labels) → from ≡ Some first → name_cmp first to ≡ Less) → rises from (Some to) ≡ true
rises_to None to before = refl
rises_to (Some first) to before = ap is_lt (before first refl)

rises_on : (from : Option Labels) → rises from None ≡ true
rises_on None = refl
rises_on (Some first) = refl

-- reports whose bounds part at rising names follow each other
follow_on : (rewrites count : ℕ) (from : Option Labels) (parts : List PartStated) (cuts : List Labels) → Allow rewrites parts
    → map bounds_of parts ≡ parted_at from cuts → AreInOrder cuts
    → ((first : Labels) → from ≡ Some first → (cut : Labels) → Contains cuts cut → name_cmp first cut ≡ Less)
    → apart_from count rewrites (Some from) parts ≡ None
follow_on rewrites count from [] [] allow same rising before = absurd (cc)
follow_on rewrites count from [] (cut ∷ cuts) allow same rising before = absurd (cc)
follow_on rewrites count from (part ∷ parts) [] allow same rising before =
    step rewrites count (Some from) part parts (same_number part.rewrites rewrites allow.0)
    (ap (λ (bound : Option Labels). bound_eq from bound) begun ∙ bound_same from)
    (ap (rises part.from) ended ∙ rises_on part.from)
    ∙ ap (λ (to : Option Labels). apart_from (count + 1) rewrites (behind to) parts) ended
    ∙ none parts rest
  where
    first : bounds_of part ≡ record { from = from; to = None }
    first = cc

    rest : map bounds_of parts ≡ []
    rest = cc

    begun : part.from ≡ from
    begun = ap (λ (b : Bounds). b.from) first

    ended : part.to ≡ None
    ended = ap (λ (b : Bounds). b.to) first

    none : (ps : List PartStated) → map bounds_of ps ≡ [] → apart_from (count + 1) rewrites None ps ≡ None
    none [] e = refl
    none (p ∷ ps) e = absurd (cc)
follow_on rewrites count from (part ∷ parts) (cut ∷ cuts) allow same rising before =
    step rewrites count (Some from) part parts (same_number part.rewrites rewrites allow.0)
    (ap (λ (bound : Option Labels). bound_eq from bound) begun ∙ bound_same from)
    (ap (λ (bound : Option Labels). rises bound part.to) begun ∙ ap (rises from) ended
    ∙ rises_to from cut (λ start is. before start is cut (has_first cut cuts)))
    ∙ ap (λ (to : Option Labels). apart_from (count + 1) rewrites (behind to) parts) ended
    ∙ follow_on rewrites (count + 1) (Some cut) parts cuts allow.1 rest (pairs_rest (λ a b. name_cmp a b ≡ Less) cut cuts rising)
    (λ start is later has. subst (λ (n : Labels). name_cmp n later ≡ Less) (cc) (pairs_first (λ a b. name_cmp a b ≡ Less) cut cuts rising later has))
  where
    first : bounds_of part ≡ record { from = from; to = Some cut }
    first = cc

    rest : map bounds_of parts ≡ parted_at (Some cut) cuts
    rest = cc

    begun : part.from ≡ from
    begun = ap (λ (b : Bounds). b.from) first

    ended : part.to ≡ Some cut
    ended = ap (λ (b : Bounds). b.to) first

module _ (config : Config) (rewrites : ℕ) (reports : List Reported) (right : AreReportsOf config rewrites reports) (order : StandInOrder reports) where
  all_allow : (rs : List Reported) → AreReportsOf config rewrites rs → Allow rewrites (all_read rs)
  all_allow [] so = tt
  all_allow (r ∷ rs) so = (so.0.limit, all_allow rs so.1)

  some : reports ≢ []
  some none = by order.cuts (ap (λ (rs : List Reported). map bounds_of (all_read rs)) (sym none) ∙ order.bounds) where
    by : (cuts : List Labels) → [] ≡ parted_at None cuts → ⊥
    by [] e = cc
    by (cut ∷ cuts) e = cc

  together : apart (all_read reports) ≡ None
  together =
      ap (λ (n : ℕ). apart_from 0 n (Some None) (all_read reports)) (first_rewrites_are config rewrites reports right some)
      ∙ follow_on rewrites 0 None (all_read reports) order.cuts (all_allow reports right) order.bounds order.rising (λ start is. absurd (cc))

  differs : (fault : MergeFault) → apart (all_read reports) ≡ Some fault → ⊥
  differs fault is = (let no : None ≡ Some fault = sym together ∙ is in cc)

  -- only want of memory refuses them
  pub never_refused : (fault : MergeFault) → IsMerged (all_read reports) (Err fault) → fault ≡ NoMemory
  never_refused (OtherRewrites count) is = absurd (differs (OtherRewrites count) is)
  never_refused (NotNext count) is = absurd (differs (NotNext count) is)
  never_refused NotLast is = absurd (differs NotLast is)
  never_refused TooMany (fits, inl classes) = absurd (omega (arith, classes, order.classes))
  never_refused TooMany (fits, inr names) = absurd (omega (arith, names, order.names))
  never_refused NoMemory is = refl
