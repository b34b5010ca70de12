-- What is read of files, by what is told of them.
use Rattle.std.specs.Prelude.{ℕ, nat_le, List, length, Result, Ok, Err, if◌then◌else◌}
use Rattle.io_edges.specs.Files.{FilesTold, Told, Untold, NotHeld, Holds}
use Rattle.config_load.specs.Limits.{most_octets}
use Rattle.config_load.specs.declared.fault.LoadFault.{LoadFault}
use Rattle.config_load.specs.declared.fault.LoadFault.TheVariants.{TooLong}
use Rattle.config_load.specs.declared.limits.Limits.{Limits}

-- what files give: what is read of them, the first refusal, or the first file that the reading comes to and that isn't
-- held, or of which nothing is told
pub data Reading (A : Type 0) : Type 0 where
  Reads : (value : A) → Reading A
  Refuses : (fault : LoadFault) → Reading A
  Misses : (file : List ℕ) → Reading A
  Unknown : (file : List ℕ) → Reading A

-- a step of the reading, and the next
infixl 10 ◌>>=◌
abbrev pub ◌>>=◌ : {A B : Type 0} → Reading A → (A → Reading B) → Reading B
(Reads value) >>= next = next value
(Refuses fault) >>= next = Refuses fault
(Misses file) >>= next = Misses file
(Unknown file) >>= next = Unknown file

-- two readings, one after the other
abbrev pub both : {A B : Type 0} → (FilesTold → Reading A) → (FilesTold → Reading B) → FilesTold → Reading (A × B)
both first second told = first told >>= λ one. second told >>= λ other. Reads (one, other)

-- what a definition says of what was read, its fault told as a refusal
abbrev pub unless_refused : {T E : Type 0} → (E → LoadFault) → Result T E → Reading T
unless_refused told (Ok value) = Reads value
unless_refused told (Err fault) = Refuses (told fault)

-- the octets that are told, unless they are more than the limits allow
abbrev pub told_octets : Limits → List ℕ → Told → Reading (List ℕ)
told_octets limits name Untold = Unknown name
told_octets limits name NotHeld = Misses name
told_octets limits name (Holds octets) = if nat_le (length octets) (most_octets limits) then Reads octets else Refuses (TooLong name)

-- the octets of the file of this name, if it may be so long
abbrev pub file_octets : Limits → List ℕ → FilesTold → Reading (List ℕ)
file_octets limits name told = told_octets limits name (told name)
