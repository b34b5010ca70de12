-- What the stores hold while a piece is passed, and the way back to what they held before it.
use Rattle.std.specs.Prelude.{◌≡◌, ◌⊎◌, ℕ, List, [], ◌∷◌, ◌++◌, length}
use Rattle.master_lex.specs.declared.entry.Entry.{Entry}
use Rattle.master_lex.specs.declared.entry.Token.{Token}
use Rattle.master_lex.specs.declared.undo.Mark.{Mark}
use Rattle.master_lex.specs.States.{LexState}

-- the mark of what is held
abbrev pub mark_of : LexState → Mark
mark_of s = record { ready = length s.ready; tokens = length s.tokens; raw = length s.raw; position = s.position }

-- the token that was under way goes on, or is the first new one
abbrev pub TokensGrew : List Token → List ℕ → List Token → List ℕ → Type 0
TokensGrew tokens raw tokens' raw' =
    ((tokens' ≡ tokens) × ((more : List ℕ) × (raw' ≡ raw ++ more)))
    ⊎ ((token : Token) × ((others : List Token) × ((more : List ℕ) × ((tokens' ≡ tokens ++ token ∷ others) × (token.raw ≡ raw ++ more)))))

-- the entry that was under way goes on, or is the first new one
abbrev pub EntriesGrew : List Entry → List Token → List ℕ → List Entry → List Token → List ℕ → Type 0
EntriesGrew ready tokens raw ready' tokens' raw' =
    ((ready' ≡ ready) × TokensGrew tokens raw tokens' raw')
    ⊎ ((entry : Entry) × ((others : List Entry) × ((ready' ≡ ready ++ entry ∷ others) × TokensGrew tokens raw entry.tokens [])))

-- what is held grew, so that the way back can be found
abbrev pub Grew : LexState → LexState → Type 0
Grew old new = EntriesGrew old.ready old.tokens old.raw new.ready new.tokens new.raw
