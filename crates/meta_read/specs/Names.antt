-- Names in metadata, and what is said of each item of a list.
use Rattle.std.specs.Prelude.{ℕ, ◌+◌, List, [], ◌∷◌, Result, Ok}
use Rattle.dns_data.specs.Answers.{◌>>=◌, with_fault}
use Rattle.dns_data.specs.Name.{Labels}
use Rattle.dns_data.specs.Spelling.{name_of_text}
use Rattle.meta_read.specs.declared.fault.MetaFault.{MetaFault}
use Rattle.meta_read.specs.declared.fault.MetaFault.TheVariants.{BadName}

-- what a step gives of each item, with its number; the first fault ends it
abbrev pub each : {A B : Type 0} → (ℕ → A → Result B MetaFault) → ℕ → List A → Result (List B) MetaFault
each step number [] = Ok []
each step number (item ∷ items) = do
  first ← step number item
  rest ← each step (number + 1) items
  Ok (first ∷ rest)

-- the name that a text of a row stands for: the root is the origin (RFC 1035 section 5.1)
abbrev pub name_in_row : ℕ → List ℕ → Result Labels MetaFault
name_in_row row text = with_fault (λ fault. BadName row) (name_of_text text [])
