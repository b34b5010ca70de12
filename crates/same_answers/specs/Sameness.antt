-- The answer for two configurations: that no query tells them apart, or one that does.
use Rattle.std.specs.Prelude.{◌≢◌, []}
use Rattle.std.specs.declared.cmp.Ordering.TheVariants.{Less}
use Rattle.dns_data.specs.Name.{Labels, IsName}
use Rattle.dns_data.specs.declared.rr_type.RrType.{RrType}
use Rattle.graph_form.specs.Report.{IsTreeSize}
use Rattle.net_model.specs.declared.class.Class.{Class}
use Rattle.net_model.specs.Class.{class_cmp, class_name, IsRepresentative}
use Rattle.query_classes.specs.Children.{IsInTree}
use Rattle.query_verdicts.specs.declared.report.JudgeFault.{JudgeFault}
use Rattle.query_verdicts.specs.declared.report.JudgeFault.TheVariants as faults
use Rattle.same_answers.specs.Alike.{AllAlike, AnswersAlike, AreBounded}
use Rattle.same_answers.specs.Compared.{Compared, joint}
use Rattle.same_answers.specs.Passed.{IsFirstPassedInOne}
use Rattle.same_answers.specs.Verdict.{IsFirstApart}
use Rattle.same_answers.specs.declared.sameness.Sameness.{Sameness}
use Rattle.same_answers.specs.declared.sameness.Sameness.TheVariants.{Same, Apart}

-- the representative of a class of the joint tree is bounded in both and has other outcomes in the one than in the other,
-- with some type
pub record ClassIsApart (two : Compared) (class : Class) (query : Labels) : Type 0 where
  pub is_class : IsInTree (joint two) (class_name class)
  pub represents : IsRepresentative (joint two) class query
  pub bounded : AreBounded two query
  pub differ : (rtype : RrType) × (AnswersAlike two query rtype → ⊥)

-- the query is the first representative in class order whose outcomes differ, a name of at most 255 octets (RFC 1035
-- section 2.3.4), and the type is the first with which they do
pub record IsFirstDifference (two : Compared) (query : Labels) (rtype : RrType) : Type 0 where
  pub class : Class
  pub apart : ClassIsApart two class query
  pub is_name : IsName query
  pub first_class : (other : Class) (name : Labels) → ClassIsApart two other name → class_cmp other class ≢ Less
  pub first_type : IsFirstApart two query rtype

-- the answer: no query that both bound has other outcomes in the one than in the other, with the number of the names
-- and of the classes that aren't empty of the joint tree; or the first query that has
abbrev pub IsSameness : Compared → Sameness → Type 0
IsSameness two (Same classes names) = IsTreeSize (joint two) [] names classes × AllAlike two
IsSameness two (Apart query rtype) = IsFirstDifference two query rtype

-- the refusal where the configurations aren't compared
abbrev pub IsSameFault : Compared → JudgeFault → Type 0
IsSameFault two (faults.StatesPassed query) = IsFirstPassedInOne two query
IsSameFault two faults.NoMemory = Unit {0}
