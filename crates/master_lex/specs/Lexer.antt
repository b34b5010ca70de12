-- What a lexer holds, and for which text it stands. Who calls a lexer needs of this only that one that was fed a text
-- stands for it, and that so many entries are left.
use Rattle.std.specs.Prelude.{◌≡◌, ℕ, ◌+◌, ◌-◌, ◌^◌, ◌<◌, ◌≤◌, List, [], ◌++◌, length, Bool, if◌then◌else◌, MatchBool}
use Rattle.master_lex.specs.Contents.{behind, contents, text_entries, text_fault}
use Rattle.master_lex.specs.States.{LexState, IsTidy, last_entry, last_fault, ahead}
use Rattle.master_lex.specs.Taking.{given_with}
use Rattle.master_lex.specs.declared.entry.Entry.{Entry}
use Rattle.master_lex.specs.declared.taken.Taken.{Taken}

-- what is held of a text, how many octets were fed, and whether the text has ended
pub record Lexing : Type 0 where
  pub state : LexState
  pub fed : ℕ
  pub finished : Bool

-- the limits within which the code counts
pub record IsSoundLexer (state : LexState) (fed : ℕ) : Type 0 where
  pub tidy : IsTidy state
  pub line : state.position.line ≤ fed + 1
  pub depth : state.position.depth ≤ fed
  pub fed_below : fed < 2 ^ 32 - 1

-- what is left to be taken is what is left of the text's entries
pub record Remains (state : LexState) (text : List ℕ) (given : List Entry) : Type 0 where
  pub entries : text_entries text ≡ given ++ state.ready ++ last_entry state
  pub fault : text_fault text ≡ last_fault state.position

-- The lexer was fed the text, and of its entries those given were taken.
pub record IsLexerOf (lexer : Lexing) (text : List ℕ) (given : List Entry) : Type 0 where
  pub fed : lexer.fed ≡ length text
  pub agrees : MatchBool lexer.finished (Remains lexer.state text given)
      ((more : List ℕ) → contents (text ++ more) ≡ behind given (ahead lexer.state more))

-- the entries that are left to be taken: the whole ones, and the last one where the text has ended
abbrev pub left : Lexing → List Entry
left lexer = if lexer.finished then lexer.state.ready ++ last_entry lexer.state else lexer.state.ready

-- the last entry was taken, or there is none
pub record LastTaken (old new : LexState) (taken : Taken) : Type 0 where
  pub taken_is : given_with [] taken ≡ last_entry old
  pub ready : new.ready ≡ old.ready
  pub nothing_left : last_entry new ≡ []
  pub fault : last_fault new.position ≡ last_fault old.position
  pub tidy : IsTidy new
  pub line : new.position.line ≡ old.position.line
  pub depth : new.position.depth ≡ 0
