-- What a reader holds, and for which texts it stands. Who calls a reader needs of this only that one that was fed texts
-- stands for them, and whether it has ended or failed.
use Rattle.std.specs.Prelude.{◌≡◌, ◌≢◌, ℕ, ◌≤◌, List, [], ◌∷◌, ◌++◌, length, Bool, true, false, ◌||◌, Option, Some, None, Result, Ok, Err, IfSome}
use Rattle.dns_data.specs.Answers.{◌>>=◌}
use Rattle.dns_data.specs.Name.{Labels}
use Rattle.master_lex.specs.Contents.{text_entries, text_fault}
use Rattle.master_lex.specs.Lexer.{Lexing, IsLexerOf}
use Rattle.master_lex.specs.declared.entry.Entry.{Entry}
use Rattle.master_lex.specs.declared.fault.LexFault.{LexFault}
use Rattle.master_read.specs.Fault.{TellsOfText}
use Rattle.master_read.specs.ZoneText.{Unread, Faulty, Asks, Progress, included, as_zone_text, with_rest, zone_text, zone_text_of}
use Rattle.master_read.specs.declared.asked.AfterFile.{AfterFile}
use Rattle.master_read.specs.declared.asked.AfterFile.TheVariants.{Include, Done}
use Rattle.master_read.specs.declared.fault.TextFault.{TextFault}
use Rattle.master_read.specs.declared.fault.TextFault.TheVariants.{NoMemory}
use Rattle.master_read.specs.declared.file.File.{File}
use Rattle.master_read.specs.declared.records.ReadLimits.{ReadLimits}
use Rattle.master_read.specs.declared.records.Records.{Records}
use Rattle.master_read.specs.declared.zone_text.ZoneText.{ZoneText}

-- what a reader holds: the lexer of the file that is open and what is held of it, the files around it, the outermost
-- first, what was read, how many octets of the file were fed, the fault that was met, or none, and whether all has ended
pub record Held : Type 0 where
  pub lexer : Lexing
  pub file : File
  pub around : List File
  pub records : Records
  pub limits : ReadLimits
  pub fed : ℕ
  pub fault : Option TextFault
  pub ended : Bool

-- the limits within which the code counts, and that a fault is no `NoMemory` in disguise
pub record IsSoundReader (held : Held) : Type 0 where
  pub unended : held.lexer.finished ≡ false
  pub fed_less : held.lexer.fed ≤ held.fed
  pub tells : IfSome held.fault TellsOfText

-- what is left of a file, by the entries that are left of it and the fault of a spelling behind them, or none
abbrev pub rest_of : ReadLimits → File → List Entry → Option LexFault → Progress → Result Progress Unread
rest_of limits file entries fault progress =
    with_rest (included limits file.levels) limits.room file.number file.before entries fault progress

-- what is left of files around others, the outermost first
abbrev pub rest_around : ReadLimits → List File → Progress → Result Progress Unread
rest_around limits [] progress = Ok progress
rest_around limits (file ∷ files) progress = do
  more ← rest_around limits files progress
  rest_of limits file file.entries.items file.fault more

-- the records of texts, where these limits hold
abbrev pub texts_give : ReadLimits → Labels → List (List ℕ) → Result ZoneText Unread
texts_give limits origin texts = zone_text origin limits.room limits.includes texts

-- Of the texts that ended and of what was taken of the text of the file that is open, all was read but the entries that
-- are held: these and the others of that text are left, and then what is left of the files around it.
abbrev pub HasRead : Held → Labels → List (List ℕ) → List Entry → Type 0
HasRead held origin ended taken =
    (text : List ℕ) (others : List Entry) (later : List (List ℕ)) → text_entries text ≡ taken ++ others
    → texts_give held.limits origin (ended ++ text ∷ later)
    ≡ as_zone_text (rest_of held.limits held.file (held.file.entries.items ++ others) (text_fault text) (record { records = held.records; texts = later })
    >>= rest_around held.limits held.around)

-- of the texts that ended and of so much of the text of the open file, all was read but what is held
abbrev pub IsReading : Held → Labels → List (List ℕ) → List ℕ → Type 0
IsReading held origin ended text =
    (taken : List Entry) × (IsLexerOf held.lexer text taken × HasRead held origin ended taken)

-- the fault of the texts is settled, however the last of them goes on and whatever comes later
abbrev pub IsSettled : TextFault → ReadLimits → Labels → List (List ℕ) → List ℕ → Type 0
IsSettled fault limits origin ended text =
    (more : List ℕ) (later : List (List ℕ)) → texts_give limits origin (ended ++ (text ++ more) ∷ later) ≡ Err (Faulty fault)

-- by the fault that was met, or none: where memory ran out, the reader stands for no texts
abbrev pub StandsBy : Option TextFault → Held → Labels → List (List ℕ) → List ℕ → Type 0
StandsBy None held origin ended text = IsReading held origin ended text
StandsBy (Some fault) held origin ended text = (fault ≢ NoMemory) × IsSettled fault held.limits origin ended text

-- the limits are these
abbrev pub HasLimits : Held → ℕ → ℕ → Type 0
HasLimits held room includes = (held.limits.room ≡ room) × (held.limits.includes ≡ includes)

-- The reader was fed the texts of files that ended, and this text of the file that is open, in the order in which the
-- files were opened, with the names of the first below the origin, and with so much room.
pub record IsReaderOf (held : Held) (origin : Labels) (room includes : ℕ) (ended : List (List ℕ)) (text : List ℕ) : Type 0 where
  pub limits : HasLimits held room includes
  pub fed_is : held.fed ≡ length text
  pub agrees : StandsBy held.fault held origin ended text

-- texts give what was read
abbrev pub HasReadAll : Held → Labels → List (List ℕ) → Type 0
HasReadAll held origin texts = texts_give held.limits origin texts ≡ Ok (zone_text_of held.records)

-- what was read of texts that have ended, by the fault that was met, or none
abbrev pub GivesBy : Option TextFault → Held → Labels → List (List ℕ) → Type 0
GivesBy None held origin texts = HasReadAll held origin texts
GivesBy (Some fault) held origin texts = (fault ≢ NoMemory) × (texts_give held.limits origin texts ≡ Err (Faulty fault))

-- the reader was fed these texts, which ask for no file
pub record HasEnded (held : Held) (origin : Labels) (room includes : ℕ) (texts : List (List ℕ)) : Type 0 where
  pub limits : HasLimits held room includes
  pub gives : GivesBy held.fault held origin texts

-- what is answered at a file's end by what the texts so far give: the file that they ask for, or that they have ended
abbrev pub asked_by : Result ZoneText Unread → AfterFile
asked_by (Ok text) = Done
asked_by (Err (Faulty fault)) = Done
asked_by (Err (Asks file)) = Include file

-- whether a file is open behind this answer, of which nothing was fed
abbrev pub IsOpenBehind : AfterFile → Held → Type 0
IsOpenBehind (Include file) held = (held.ended ≡ false) × (held.fed ≡ 0)
IsOpenBehind Done held = held.ended ≡ true

-- behind this answer a file is open, of which nothing was fed, or the texts have ended
abbrev pub GoesOn : AfterFile → Held → Labels → ℕ → ℕ → List (List ℕ) → Type 0
GoesOn (Include file) held origin room includes texts = (held.ended ≡ false) × (held.fed ≡ 0) × IsReaderOf held origin room includes texts []
GoesOn Done held origin room includes texts = (held.ended ≡ true) × HasEnded held origin room includes texts

-- memory ran out
abbrev pub HasFailed : Held → Type 0
HasFailed held = held.fault ≡ Some NoMemory

-- the fault is `NoMemory`
abbrev pub is_no_memory : Option TextFault → Bool
is_no_memory (Some NoMemory) = true
is_no_memory _ = false

-- nothing more may be fed: the texts have ended, or memory ran out
abbrev pub is_over : Held → Bool
is_over held = held.ended || is_no_memory held.fault
