-- What is read gives at most one ending.
use Rattle.std.proofs.Common.{◌≡◌, ℕ, List, sym, ◌∙◌}
use Rattle.config_load.specs.Reading.{Reading, Reads, Refuses, Misses, Unknown}
use Rattle.run_endings.specs.Endings.{OfReading}
use Rattle.run_endings.specs.declared.ending.Ending.{Ending}

-- what is read gives one ending, where a value does
pub one_by_reading : {T : Type 0} (name : List ℕ) (of_value : T → Ending → Type 0) → ((value : T) (a b : Ending) → of_value value a → of_value value b → a ≡ b)
    → (reading : Reading T) (a b : Ending) → OfReading name of_value reading a → OfReading name of_value reading b → a ≡ b
one_by_reading name of_value one (Reads value) a b p q = one value a b p q
one_by_reading name of_value one (Refuses fault) a b p q = p ∙ sym q
one_by_reading name of_value one (Misses file) a b p q = absurd p
one_by_reading name of_value one (Unknown file) a b p q = absurd p
