-- Where the code's own loops have come to: who calls a reader needs none of this.
use Rattle.std.specs.Prelude.{◌≡◌, ◌⊎◌, ℕ, ◌+◌, ◌<◌, List, [], ◌∷◌, ◌++◌, Bool, true, Option, Some, None, Result, Ok, Err}
use Rattle.dns_data.specs.Answers.{◌>>=◌}
use Rattle.dns_data.specs.Name.{Labels}
use Rattle.master_lex.specs.declared.entry.Entry.{Entry}
use Rattle.master_read.specs.Context.{under}
use Rattle.master_read.specs.Directives.{is_include}
use Rattle.master_read.specs.Reader.{Held, rest_of, rest_around, texts_give, IsReading, HasReadAll}
use Rattle.master_read.specs.ZoneText.{Unread, Faulty, Asks, Opens, Progress, effect_of, included, with_entry, as_zone_text}
use Rattle.master_read.specs.declared.fault.EntryFault.{EntryFault}
use Rattle.master_read.specs.declared.fault.EntryFault.TheVariants as entry_faults
use Rattle.master_read.specs.declared.fault.EntryFault.TheVariants.{Cause}
use Rattle.master_read.specs.declared.fault.TextFault.{TextFault}
use Rattle.master_read.specs.declared.fault.TextFault.TheVariants.{At, NoMemory}

-- the fault of an entry, in the file of this number and this line
abbrev pub fault_at : ℕ → ℕ → EntryFault → TextFault
fault_at file line (Cause cause) = At file line cause
fault_at file line entry_faults.NoMemory = NoMemory

-- memory ran out, or this is the fault that is said
abbrev pub IsFaultOf : {T : Type 0} → TextFault → Result T Unread → Type 0
IsFaultOf fault said = (fault ≡ NoMemory) ⊎ (said ≡ Err (Faulty fault))

-- no entry stands in front that can be read before a file is opened
abbrev pub waits : List Entry → Bool
waits [] = true
waits (entry ∷ entries) = is_include entry

-- all was taken of all texts: these entries of the inmost file are left, and what is left of the files around it
abbrev pub IsPausing : Held → Labels → List (List ℕ) → List Entry → Type 0
IsPausing held origin texts entries =
    (later : List (List ℕ)) → texts_give held.limits origin (texts ++ later)
    ≡ as_zone_text (rest_of held.limits held.file entries held.file.fault (record { records = held.records; texts = later })
    >>= rest_around held.limits held.around)

-- what an entry of the inmost file makes, where these are the texts of the files that are to be opened next
abbrev pub entry_makes : Held → Entry → List (List ℕ) → Result Progress Unread
entry_makes held entry texts =
    with_entry (included held.limits held.file.levels) held.limits.room held.file.number entry (record { records = held.records; texts = texts })

-- an entry of the inmost file asks for a file, which may be included below it
pub record MayOpen (held : Held) (entry : Entry) (file : List ℕ) (origin : Labels) : Type 0 where
  pub effect : effect_of held.limits.room held.file.number held.records entry ≡ Ok (Opens file origin)
  pub levels : 0 < held.file.levels
  pub includes : held.records.included < held.limits.includes

-- a file more is open, whose names stand below an origin
pub record OpensFile (origin : Labels) (old new : Held) : Type 0 where
  pub number : new.file.number ≡ old.records.included + 1
  pub levels : new.file.levels + 1 ≡ old.file.levels
  pub before : new.file.before ≡ old.records.context
  pub entries : new.file.entries.items ≡ []
  pub around : new.around ≡ old.around ++ old.file ∷ []
  pub records : new.records ≡ record old.records { context = under origin old.records.context; included = old.records.included + 1 }

-- behind the texts a file is asked for, of which nothing was read, or they give what was read
abbrev pub HasComeTo : Option (List ℕ) → Held → Labels → List (List ℕ) → Type 0
HasComeTo (Some file) held origin texts = (texts_give held.limits origin texts ≡ Err (Asks file)) × IsReading held origin texts []
HasComeTo None held origin texts = HasReadAll held origin texts
