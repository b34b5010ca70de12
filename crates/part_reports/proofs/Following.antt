-- Reports of which each begins where the one before it ends: their bounds part at rising names.
use Rattle.std.proofs.Common.{◌≡◌, ◌∙◌, ℕ, ◌+◌, Bool, true, false, List, [], ◌∷◌, map, Contains, Option, Some, None, sym, refl, ap, subst, inl, inr, true≢false}
use Rattle.std.specs.Prelude.{◌&&◌, not, ◌==◌, if◌then◌else◌}
use Rattle.std.proofs.lemmas.Bool.{and_parts}
use Rattle.dns_data.specs.Name.{Labels}
use Rattle.dns_data.proofs.Membership.{none_in_nil, first_or_later}
use Rattle.dns_data.proofs.Names.{name_eq_decides}
use Rattle.dns_data.proofs.NameOrder.{Before, Rising, names_total}
use Rattle.part_form.specs.declared.fault.MergeFault.TheVariants.{OtherRewrites, NotNext}
use Rattle.part_form.specs.Merging.{Next, apart_from, begins, bound_eq, rises, behind}
use Rattle.part_form.specs.Stated.{PartStated}
use Rattle.part_reports.specs.Bounds.{Bounds, parted_at}
use Rattle.part_reports.specs.Reported.{bounds_of}
use Rattle.part_reports.proofs.BoundsOnce.{less_of}

-- the reports have the bounds that part at some rising names, from here on
pub record Follow (from : Option Labels) (parts : List PartStated) : Type 0 where
  pub cuts : List Labels
  pub bounds : map bounds_of parts ≡ parted_at from cuts
  pub rising : Rising cuts
  pub after : (first : Labels) → from ≡ Some first → (cut : Labels) → Contains cuts cut → Before first cut

same_bound : (a b : Option Labels) → bound_eq a b ≡ true → a ≡ b
same_bound None None e = refl
same_bound (Some a) (Some b) e = ap (λ (n : Labels). Some n) ((name_eq_decides a b).0 e)
same_bound None (Some b) e = absurd (true≢false (sym e))
same_bound (Some a) None e = absurd (true≢false (sym e))

-- a report that follows: it has the same rewrites, begins here, and rises, and those behind it follow
record Steps (rewrites count : ℕ) (next : Next) (part : PartStated) (parts : List PartStated) : Type 0 where
  pub begins_here : begins next part.from ≡ true
  pub rises_on : rises part.from part.to ≡ true
  pub rest : apart_from (count + 1) rewrites (behind part.to) parts ≡ None

steps : (rewrites count : ℕ) (next : Next) (part : PartStated) (parts : List PartStated) → apart_from count rewrites next (part ∷ parts) ≡ None
    → Steps rewrites count next part parts
steps rewrites count next part parts e = by (not (part.rewrites == rewrites)) (begins next part.from && rises part.from part.to) refl e where
  by : (other fits : Bool) → (begins next part.from && rises part.from part.to) ≡ fits
      → (if other then Some (OtherRewrites count)
      else (if not fits then Some (NotNext count) else apart_from (count + 1) rewrites (behind part.to) parts)) ≡ None
      → Steps rewrites count next part parts
  by true fits is e = absurd (cc)
  by false false is e = absurd (cc)
  by false true is e =
      let both = and_parts (begins next part.from) (rises part.from part.to) is in
      record { begins_here = both.0; rises_on = both.1; rest = e }

-- nothing follows the last
none_behind : (rewrites count : ℕ) (parts : List PartStated) → apart_from count rewrites None parts ≡ None → parts ≡ []
none_behind rewrites count [] e = refl
none_behind rewrites count (part ∷ parts) e = absurd (true≢false (sym (steps rewrites count None part parts e).begins_here))

-- reports that aren't apart follow each other
pub follows : (rewrites count : ℕ) (from : Option Labels) (parts : List PartStated) → apart_from count rewrites (Some from) parts ≡ None → Follow from parts
follows rewrites count from [] e = absurd (cc)
follows rewrites count from (part ∷ parts) e =
    by part.to refl (steps rewrites count (Some from) part parts e) (λ to h. follows rewrites (count + 1) (Some to) parts h)
  where
    by : (to : Option Labels) → part.to ≡ to → Steps rewrites count (Some from) part parts
        → ((end : Labels) → apart_from (count + 1) rewrites (Some (Some end)) parts ≡ None → Follow (Some end) parts) → Follow from (part ∷ parts)
    by None is step on =
        let last = none_behind rewrites (count + 1) parts (ap (λ (b : Option Labels). apart_from (count + 1) rewrites (behind b) parts) (sym is) ∙ step.rest) in
        record {
          cuts = [];
          bounds = ap (λ (ps : List PartStated). map bounds_of (part ∷ ps)) last
              ∙ ap (λ (b : Bounds). b ∷ []) (ap (λ (a : Option Labels). record { from = a; to = part.to }) (sym (same_bound from part.from step.begins_here))
              ∙ ap (λ (a : Option Labels). record { from = from; to = a }) is);
          rising = tt;
          after = λ first same cut has. absurd (none_in_nil cut has);
        }
    by (Some end) is step on =
        let rest = on end (ap (λ (b : Option Labels). apart_from (count + 1) rewrites (behind b) parts) (sym is) ∙ step.rest) in
        record {
          cuts = end ∷ rest.cuts;
          bounds = ap (λ (bs : List Bounds). bounds_of part ∷ bs) rest.bounds
              ∙ ap (λ (b : Bounds). b ∷ parted_at (Some end) rest.cuts) (ap (λ (a : Option Labels). record { from = a; to = part.to }) (sym (same_bound from part.from step.begins_here))
              ∙ ap (λ (a : Option Labels). record { from = from; to = a }) is);
          rising = (λ later has. rest.after end refl later has, rest.rising);
          after = λ first same cut has. elim (first_or_later end rest.cuts cut has) [
            | inl own ↦ subst (Before first) own (first_before first same)
            | inr later ↦ names_total.trans first end cut (first_before first same) (rest.after end refl cut later)
          ];
        }
      where
        first_before : (first : Labels) → from ≡ Some first → Before first end
        first_before first same =
            less_of first end
            (ap (λ (b : Option Labels). rises b (Some end)) (sym (sym (same_bound from part.from step.begins_here) ∙ same))
            ∙ ap (rises part.from) (sym is) ∙ step.rises_on)
