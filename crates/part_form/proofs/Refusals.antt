-- Why reports of parts aren't merged is never that there are too many names.
use Rattle.std.proofs.Common.{◌≡◌, ℕ, ◌+◌, Bool, true, false, List, [], ◌∷◌, Some, None, Err}
use Rattle.std.specs.Prelude.{◌&&◌, not, ◌==◌, if◌then◌else◌}
use Rattle.part_form.specs.declared.fault.MergeFault.{MergeFault}
use Rattle.part_form.specs.declared.fault.MergeFault.TheVariants.{OtherRewrites, NotNext, NotLast, TooMany, NoMemory}
use Rattle.part_form.specs.Stated.{PartStated}
use Rattle.part_form.specs.Merging.{Next, apart, apart_from, begins, rises, behind, first_rewrites, IsMerged}

never_too_many : (parts : List PartStated) (count rewrites : ℕ) (next : Next) → apart_from count rewrites next parts ≡ Some TooMany → ⊥
never_too_many [] count rewrites None e = absurd (cc)
never_too_many [] count rewrites (Some at) e = absurd (cc)
never_too_many (part ∷ parts) count rewrites next e =
    by (not (part.rewrites == rewrites)) (not (begins next part.from && rises part.from part.to)) e
    (never_too_many parts (count + 1) rewrites (behind part.to))
  where
    by : (other astray : Bool)
        → (if other then Some (OtherRewrites count)
        else (if astray then Some (NotNext count) else apart_from (count + 1) rewrites (behind part.to) parts)) ≡ Some TooMany
        → (apart_from (count + 1) rewrites (behind part.to) parts ≡ Some TooMany → ⊥) → ⊥
    by true astray e rest = absurd (cc)
    by false true e rest = absurd (cc)
    by false false e rest = rest e

-- why reports aren't those of all parts is the answer to them
pub refusal_is : (parts : List PartStated) (fault : MergeFault) → apart parts ≡ Some fault → IsMerged parts (Err fault)
refusal_is parts (OtherRewrites count) e = e
refusal_is parts (NotNext count) e = e
refusal_is parts NotLast e = e
refusal_is parts TooMany e = absurd (never_too_many parts 0 (first_rewrites parts) (Some None) e)
refusal_is parts NoMemory e = tt
