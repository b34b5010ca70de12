-- What is filed of a name's verdict: for the contracts of inner calls alone.
use Rattle.std.specs.Prelude.{◌≡◌, [], Some, None, IfSome}
use Rattle.std.specs.Arc.{arc_value}
use Rattle.query_verdicts.specs.declared.verdict.FiledVerdict.TheInside.{Inside}
use Rattle.query_verdicts.specs.declared.verdict.FiledForm.{FiledForm}
use Rattle.query_verdicts.specs.declared.verdict.FiledForm.TheVariants.{Nothing, NothingAlone, Whole}
use Rattle.query_verdicts.specs.declared.verdict.ClassVerdict.{ClassVerdict}
use Rattle.query_verdicts.specs.declared.verdict.ClassVerdict.TheVariants.{Faults}
use Rattle.query_verdicts.specs.declared.verdict.NameVerdict.{NameVerdict}

-- the verdict written out
abbrev pub verdict_of_form : FiledForm → NameVerdict ClassVerdict
verdict_of_form Nothing = record { exact = Faults []; below = Some (Faults []) }
verdict_of_form NothingAlone = record { exact = Faults []; below = None }
verdict_of_form (Whole verdict) = arc_value verdict

-- the verdict of a name, as contracts see what is filed for it
abbrev pub verdict_filed : Inside → NameVerdict ClassVerdict
verdict_filed filed = verdict_of_form filed.form

-- no class of the name shows a fault, and none reaches too many pairs
pub record TellsNothing (verdict : NameVerdict ClassVerdict) : Type 0 where
  pub exact : verdict.exact ≡ Faults []
  pub below : IfSome verdict.below (λ class. class ≡ Faults [])
