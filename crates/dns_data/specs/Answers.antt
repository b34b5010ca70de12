-- What a call may answer where a definition says what it answers: that answer, or `NoMemory`. And how the steps of
-- such a definition go on: the first fault ends it.
use Rattle.std.specs.Prelude.{◌≡◌, ◌⊎◌, Result, Ok, Err}

-- the call answers what the definition says, or the fault that is free, as `NoMemory`
abbrev pub AnswersOr : {T E : Type 0} → E → Result T E → Result T E → Type 0
AnswersOr free (Ok value) said = said ≡ Ok value
AnswersOr free (Err fault) said = (fault ≡ free) ⊎ (said ≡ Err fault)

-- a step that may fail, and the next
infixl 10 ◌>>=◌
abbrev pub ◌>>=◌ : {T U E : Type 0} → Result T E → (T → Result U E) → Result U E
(Ok value) >>= next = next value
(Err fault) >>= next = Err fault

-- a step whose fault is told as another
abbrev pub with_fault : {T E F : Type 0} → (E → F) → Result T E → Result T F
with_fault told (Ok value) = Ok value
with_fault told (Err fault) = Err (told fault)
