-- What a lexer answers that was fed a text, or its beginning.
use Rattle.std.specs.Prelude.{◌≡◌, List, [], ◌∷◌, ◌++◌, length, drop, ℕ, Bool, true, false, Option, Some, None, Result, Ok, Err}
use Rattle.dns_data.specs.Answers.{AnswersOr}
use Rattle.master_lex.specs.Contents.{contents, text_entries, text_fault}
use Rattle.master_lex.specs.declared.entry.Entry.{Entry}
use Rattle.master_lex.specs.declared.fault.LexFault.{LexFault}
use Rattle.master_lex.specs.declared.fault.TakeFault.{TakeFault}
use Rattle.master_lex.specs.declared.fault.TakeFault.TheVariants.{Lex, NoMemory}
use Rattle.master_lex.specs.declared.taken.Taken.{Taken}
use Rattle.master_lex.specs.declared.taken.Taken.TheVariants as answers

-- the entries of a text that has ended; else those that are whole, however it goes on
abbrev pub entries_in : Bool → List ℕ → List Entry
entries_in true text = text_entries text
entries_in false text = (contents text).whole

-- the fault is that of the text that has ended; else the one that it has however it goes on, or there is no such
abbrev pub IsFault : Bool → List ℕ → Option LexFault → Type 0
IsFault true text fault = fault ≡ text_fault text
IsFault false text (Some fault) = (more : List ℕ) → text_fault (text ++ more) ≡ Some fault
IsFault false text None = (fault : LexFault) → ((more : List ℕ) → text_fault (text ++ more) ≡ Some fault) → ⊥

-- what is answered where no entry is left
abbrev pub end_answer : Bool → Option LexFault → Result Taken TakeFault
end_answer finished (Some fault) = Err (Lex fault.line fault.kind)
end_answer true None = Ok answers.End
end_answer false None = Ok answers.More

-- what is answered where these entries are left
abbrev pub left_answer : Bool → List Entry → Option LexFault → Result Taken TakeFault
left_answer finished (entry ∷ entries) fault = Ok (answers.Entry entry)
left_answer finished [] fault = end_answer finished fault

-- The next entry of the text is answered behind those that were given; else its fault; else whether it has ended.
abbrev pub IsNextEntry : Bool → List ℕ → List Entry → Result Taken TakeFault → Type 0
IsNextEntry finished text given result =
    (fault : Option LexFault) × (IsFault finished text fault × AnswersOr NoMemory result (left_answer finished (drop (length given) (entries_in finished text)) fault))

-- the entries that were given, with this answer
abbrev pub given_with : List Entry → Taken → List Entry
given_with given (answers.Entry entry) = given ++ entry ∷ []
given_with given answers.More = given
given_with given answers.End = given
