-- Where the name of a server reaches too many pairs of state and type, so does the representative of a class of the joint
-- tree.
use Rattle.std.proofs.Common.{inl, inr}
use Rattle.std.specs.Prelude.{Result, Ok, Err, IfOk, IfErr}
use Rattle.query_verdicts.specs.Passed.{SomeNamePasses}
use Rattle.query_verdicts.specs.Verdict.{SomeServerPasses}
use Rattle.query_verdicts.proofs.PassingNames.{class_passes}
use Rattle.same_answers.specs.Compared.{Compared, joint}
use Rattle.same_answers.specs.Passed.{SomeClassPassesInOne}
use Rattle.same_answers.specs.Verdict.{SomeServerPassesInOne}
use Rattle.same_answers.proofs.Comparing.{covers_first, covers_second}

-- what follows from a value and from an error of a result follows from the result
pub either_way : {A B : Type 0} {P : A → Type 0} {Q : B → Type 0} {G : Type 0} (result : Result A B) → IfOk result P → IfErr result Q
    → ((a : A) → P a → G) → ((b : B) → Q b → G) → G
either_way (Ok a) ok err there back = there a ok
either_way (Err b) ok err there back = back b err

module _ (two : Compared) where
  of_first : SomeNamePasses two.first two.rewrites two.states → SomeClassPassesInOne two
  of_first some =
      let (class, query, it) = class_passes two.first two.rewrites two.states (joint two) (covers_first two) some in
      (class, query, record { is_class = (it.is_class.named, it.is_class.is_name); represents = it.represents; passes = inl it.passes })

  of_second : SomeNamePasses two.second two.rewrites two.states → SomeClassPassesInOne two
  of_second some =
      let (class, query, it) = class_passes two.second two.rewrites two.states (joint two) (covers_second two) some in
      (class, query, record { is_class = (it.is_class.named, it.is_class.is_name); represents = it.represents; passes = inr it.passes })

  -- if no class passes in either configuration, and a server's name that passes is a name, no server's name passes
  pub none_passes : (SomeClassPassesInOne two → ⊥)
      → (SomeServerPasses two.first two.rewrites two.states → SomeNamePasses two.first two.rewrites two.states)
      → (SomeServerPasses two.second two.rewrites two.states → SomeNamePasses two.second two.rewrites two.states)
      → SomeServerPassesInOne two → ⊥
  none_passes none first second (inl some) = none (of_first (first some))
  none_passes none first second (inr some) = none (of_second (second some))
