use Rattle.std.proofs.Common.{◌≡◌, ◌∙◌, List, ℕ, Result, Err, refl, ap₂, inl, inr}
use Rattle.part_form.specs.declared.fault.MergeFault.{MergeFault}
use Rattle.part_form.specs.declared.fault.MergeFault.TheVariants.{OtherRewrites, NotNext, NotLast, TooMany, NoMemory}
use Rattle.part_form.specs.declared.merging.MergedText.{MergedText}
use Rattle.run_endings.specs.declared.ending.Ending.{Ending}
use Rattle.parts_run.specs.Outcome.{IsEndingOf, fault_code, fault_file, refused_as}
use Rattle.parts_run.proofs.merge.not_merged.Goals as goal

-- a refusal is told
told_refusal : (names : List (List ℕ)) (fault : MergeFault) (ending : Ending) → (fault ≡ NoMemory → ⊥)
    → ending ≡ refused_as (fault_file names fault) (fault_code fault)
    → (let answer : Result MergedText MergeFault = Err fault in IsEndingOf names answer ending)
told_refusal names (OtherRewrites number) ending other is = is
told_refusal names (NotNext number) ending other is = is
told_refusal names NotLast ending other is = is
told_refusal names TooMany ending other is = is
told_refusal names NoMemory ending other is = absurd (other refl)

pub returns-in_default : goal.returns-in_default
returns-in_default c =
    elim c.refused.ensures [
      | inl is ↦ inl (told_refusal c.args.names.now c.args.fault c.refused.result c.in_default.not-NoMemory (is ∙ ap₂ refused_as c.fault_file.ensures c.fault_code.ensures))
      | inr ran_out ↦ inr ran_out
    ]
