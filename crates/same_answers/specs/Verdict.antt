-- The verdict of a class and of a name of the joint class tree.
use Rattle.std.specs.Prelude.{◌≤◌, ◌⊎◌, Option}
use Rattle.dns_data.specs.Name.{Labels}
use Rattle.dns_data.specs.RrType.{number_of}
use Rattle.dns_data.specs.declared.rr_type.RrType.{RrType}
use Rattle.query_verdicts.specs.TreeVerdicts.{IsVerdictAt, IsVerdictBelow}
use Rattle.query_verdicts.specs.Verdict.{PassesStates, SomeServerPasses}
use Rattle.query_verdicts.specs.declared.verdict.NameVerdict.{NameVerdict}
use Rattle.same_answers.specs.Alike.{AnswersAlike, AreBounded}
use Rattle.same_answers.specs.Compared.{Compared, joint}
use Rattle.same_answers.specs.declared.verdict.PairEnd.{PairEnd}
use Rattle.same_answers.specs.declared.verdict.PairEnd.TheVariants.{Equal, Apart, Unbounded, StatesPassed}

-- the query reaches more pairs of state and type than are looked at, in one of the configurations
abbrev pub PassesInOne : Compared → Labels → Type 0
PassesInOne two query = PassesStates two.first two.rewrites two.states query ⊎ PassesStates two.second two.rewrites two.states query

-- the name of some server reaches more pairs of state and type than are looked at, in the configuration that has the
-- server
abbrev pub SomeServerPassesInOne : Compared → Type 0
SomeServerPassesInOne two = SomeServerPasses two.first two.rewrites two.states ⊎ SomeServerPasses two.second two.rewrites two.states

-- the query can be compared: in neither configuration does it or the name of a server pass
pub record CanBeCompared (two : Compared) (query : Labels) : Type 0 where
  pub few : PassesInOne two query → ⊥
  pub learnt : SomeServerPassesInOne two → ⊥

-- the type is the first, in the order of their numbers, with which the outcomes of the query differ
pub record IsFirstApart (two : Compared) (query : Labels) (rtype : RrType) : Type 0 where
  pub differ : AnswersAlike two query rtype → ⊥
  pub first : (other : RrType) → (AnswersAlike two query other → ⊥) → number_of rtype ≤ number_of other

-- The verdict of the class that the query represents. Where the name of some server passes, outcomes aren't looked
-- for, and none are found apart: some representative passes then.
abbrev pub IsPairEnd : Compared → Labels → PairEnd → Type 0
IsPairEnd two query StatesPassed = PassesInOne two query
IsPairEnd two query Unbounded = CanBeCompared two query × (AreBounded two query → ⊥)
IsPairEnd two query (Apart rtype) = CanBeCompared two query × AreBounded two query × IsFirstApart two query rtype
IsPairEnd two query Equal =
    (PassesInOne two query → ⊥)
    × ((SomeServerPassesInOne two → ⊥) → AreBounded two query × ((rtype : RrType) → AnswersAlike two query rtype))

-- the verdict of the class below a name of the joint class tree, if it has a representative
abbrev pub IsBelowEnd : Compared → Labels → Option PairEnd → Type 0
IsBelowEnd two above below = IsVerdictBelow (joint two) (IsPairEnd two) above below

-- the verdict of a name of the joint class tree
abbrev pub IsPairVerdict : Compared → Labels → NameVerdict PairEnd → Type 0
IsPairVerdict two name verdict = IsVerdictAt (joint two) (IsPairEnd two) name verdict
