-- A comparison of two configurations that tells something ends with what it tells.
use Rattle.std.proofs.Common.{◌≡◌, inl, inr, sym, subst}
use Rattle.std.specs.Prelude.{◌⊎◌}
use Rattle.same_answers.specs.Compared.{Compared}
use Rattle.same_answers.specs.Sameness.{IsSameness}
use Rattle.same_answers.specs.declared.sameness.Sameness.{Sameness}
use Rattle.run_endings.specs.declared.ending.Ending.{Ending}
use Rattle.run_endings.specs.Endings.{no_memory}
use Rattle.groot_run.specs.Outcome.{IsCompared, sameness_written}

-- an ending with the answer for the two is that of their comparison
pub is_compared : (two : Compared) (sameness : Sameness) (ending : Ending) → IsSameness two sameness → (ending ≡ sameness_written sameness) ⊎ (ending ≡ no_memory)
    → IsCompared two ending ⊎ (ending ≡ no_memory)
is_compared two sameness ending is (inl line) = inl (record { sameness = sameness; is_sameness = is; as_line = line })
is_compared two sameness ending is (inr ran_out) = inr ran_out

-- an ending that tells one thing tells what is the same
pub sameness_so : (sameness other : Sameness) (ending : Ending) → sameness ≡ other → (ending ≡ sameness_written other) ⊎ (ending ≡ no_memory) → (ending ≡ sameness_written sameness) ⊎ (ending ≡ no_memory)
sameness_so sameness other ending same = subst (λ (one : Sameness). (ending ≡ sameness_written one) ⊎ (ending ≡ no_memory)) (sym same)
