-- For which text a lexer stands, and what it answers.
use Rattle.std.proofs.Common.{◌≡◌, ℕ, ◌+◌, ◌-◌, ◌^◌, ◌<◌, Bool, true, false, List, [], ◌∷◌, ◌++◌, length, take, drop, refl, sym, ap, ◌∙◌, append_assoc, arith, Option, None}
use Rattle.std.proofs.lemmas.List.{length-append, length-take-le, append-nil}
use Rattle.std.specs.Prelude.{if◌then◌else◌, Result, Ok, Err, IfOk, OnErr}
use Rattle.std.proofs.lemmas.Result.{IfOk-weaker, on_err_weaker}
use Rattle.dns_data.specs.Answers.{AnswersOr}
use Rattle.master_lex.specs.declared.entry.Entry.{Entry}
use Rattle.master_lex.specs.declared.entry.Token.{Token}
use Rattle.master_lex.specs.declared.fault.LexFault.{LexFault}
use Rattle.master_lex.specs.declared.fault.TakeFault.{TakeFault}
use Rattle.master_lex.specs.declared.fault.TakeFault.TheVariants.{Lex, NoMemory}
use Rattle.master_lex.specs.declared.line.PlainLine.{PlainLine}
use Rattle.master_lex.specs.declared.position.Mode.{Mode}
use Rattle.master_lex.specs.declared.position.Mode.TheVariants.{Start, Between, Comment, InToken, Faulty}
use Rattle.master_lex.specs.declared.taken.Taken.{Taken}
use Rattle.master_lex.specs.declared.taken.Taken.TheVariants as answers
use Rattle.master_lex.specs.Contents.{Contents, behind, contents, text_entries, text_fault}
use Rattle.master_lex.specs.States.{LexState, empty, run, Fits, IsTidy, ahead_by, ahead, last_fault, whole_by, made, without_fault, last_entry}
use Rattle.master_lex.specs.Taking.{IsFault, left_answer, IsNextEntry, given_with}
use Rattle.master_lex.specs.Lexer.{Lexing, IsLexerOf, IsSoundLexer, left, LastTaken}
use Rattle.master_lex.specs.Lines.{line_entries, at_line, HasPassedLine}
use Rattle.master_lex.proofs.Running.{run_ahead, end_ahead}
use Rattle.master_lex.proofs.Settled.{held_fault, not_settled}

-- what is behind the front of two lists in a row is the second list
pub drop_front : {A : Type 0} (xs ys : List A) → drop (length xs) (xs ++ ys) ≡ ys
drop_front [] ys = refl
drop_front (x ∷ xs) ys = drop_front xs ys

-- what is fed goes on with the text
pub fed_stands : (s s' : LexState) (n n' : ℕ) (text piece : List ℕ) (given : List Entry) (finished : Bool) → finished ≡ false → IsTidy s → s' ≡ run s piece → n' ≡ n + length piece
    → IsLexerOf (record { state = s; fed = n; finished = finished }) text given → IsLexerOf (record { state = s'; fed = n'; finished = finished }) (text ++ piece) given
fed_stands s s' n n' text piece given finished unended tidy e m h = rw unended (record {
  fed = m ∙ ap (λ k. k + length piece) h.fed ∙ sym (length-append text piece);
  agrees = λ more. ap contents (append_assoc text piece more) ∙ (rw unended at h.agrees) (piece ++ more)
      ∙ ap (behind given) (run_ahead s piece more tidy ∙ ap (λ (x : LexState). ahead x more) (sym e));
})

-- what is left where the text ends
pub end_stands : (s : LexState) (n : ℕ) (finished : Bool) → finished ≡ false → IsTidy s → (text : List ℕ) (given : List Entry)
    → IsLexerOf (record { state = s; fed = n; finished = finished }) text given → IsLexerOf (record { state = s; fed = n; finished = true }) text given
end_stands s n finished unended tidy text given h =
    let ahead_is : (more : List ℕ) → contents (text ++ more) ≡ behind given (ahead s more) = rw unended at h.agrees in
    let all : contents text ≡ behind given (record { whole = s.ready; last = last_entry s; fault = last_fault s.position })
    = ap contents (sym (append-nil text)) ∙ ahead_is [] ∙ ap (behind given) (end_ahead s tidy) in
    record {
      fed = h.fed;
      agrees = record {
        entries = ap (λ (c : Contents). c.whole ++ c.last) all;
        fault = ap (λ (c : Contents). c.fault) all;
      };
    }

-- a new lexer stands for the empty text, of which no entry was given
pub new_stands : IsLexerOf (record { state = empty; fed = 0; finished = false }) [] []
new_stands = record { fed = refl; agrees = λ more. refl }

-- ---- the whole entries

same_made : (m : Mode) (s : LexState) (ready : List Entry) → made (whole_by m (record s { ready = ready })) ≡ made (whole_by m s)
same_made Start s ready = refl
same_made Between s ready = refl
same_made Comment s ready = refl
same_made (InToken quoted escape) s ready = refl
same_made (Faulty fault) s ready = refl

-- which whole entries are held plays no part in the last one
pub same_last : (s : LexState) (ready : List Entry) → last_entry (record s { ready = ready }) ≡ last_entry s
same_last s ready = ap (without_fault (last_fault s.position)) (same_made s.position.mode s ready)

same_ahead : (m : Mode) (s : LexState) (text : List ℕ) → ahead_by m (record s { ready = [] }) text ≡ ahead_by m s text
same_ahead Start s text = refl
same_ahead Between s text = refl
same_ahead Comment s text = refl
same_ahead (InToken quoted escape) s text = refl
same_ahead (Faulty fault) s text = refl

-- where all whole entries are taken, they were given
pub ready_given : (s : LexState) (n : ℕ) (finished : Bool) (text : List ℕ) (given : List Entry) → IsLexerOf (record { state = s; fed = n; finished = finished }) text given
    → IsLexerOf (record { state = record s { ready = [] }; fed = n; finished = finished }) text (given ++ s.ready)
ready_given s n true text given h = record {
  fed = h.fed;
  agrees = record {
    entries = h.agrees.entries ∙ ap (λ (entries : List Entry). entries ++ last_entry s) (sym (append-nil (given ++ s.ready)))
        ∙ ap (λ (last : List Entry). ((given ++ s.ready) ++ []) ++ last) (sym (same_last s []));
    fault = h.agrees.fault;
  };
}
ready_given s n false text given h = record {
  fed = h.fed;
  agrees = λ more.
      let rest = ahead_by s.position.mode s more in
      h.agrees more ∙ ap (λ (w : List Entry). record rest { whole = w }) (sym (append_assoc given s.ready rest.whole))
      ∙ ap (λ (c : Contents). behind (given ++ s.ready) (behind [] c)) (sym (same_ahead s.position.mode s more));
}

-- the entries of a text that were not given are those that are left
left_over : (given rest total : List Entry) → total ≡ given ++ rest → drop (length given) total ≡ rest
left_over given rest total e = ap (drop (length given)) e ∙ drop_front given rest

-- the fault that a lexer knows of its text so far
abbrev pub known_fault : Lexing → Option LexFault
known_fault lexer = if lexer.finished then last_fault lexer.state.position else held_fault lexer.state.position.mode

fault_is : (s : LexState) (text : List ℕ) (given : List Entry) → IsTidy s → ((more : List ℕ) → contents (text ++ more) ≡ behind given (ahead s more)) → IsFault false text (held_fault s.position.mode)
fault_is s text given tidy h = by s.position.mode tidy (λ more. ap (λ (c : Contents). c.fault) (h more)) where
  none : (m : Mode) → held_fault m ≡ None → Fits m s → ((more : List ℕ) → text_fault (text ++ more) ≡ (ahead_by m s more).fault) → IsFault false text None
  none m is fits same fault said = not_settled m s fault fits is (λ more. sym (same more) ∙ said more)

  by : (m : Mode) → Fits m s → ((more : List ℕ) → text_fault (text ++ more) ≡ (ahead_by m s more).fault) → IsFault false text (held_fault m)
  by (Faulty fault) fits same = same
  by Start fits same = none Start refl fits same
  by Between fits same = none Between refl fits same
  by Comment fits same = none Comment refl fits same
  by (InToken quoted escape) fits same = none (InToken quoted escape) refl fits same

-- a lexer answers by what is left
pub stands_answer : (s : LexState) (n : ℕ) (finished : Bool) (result : Result Taken TakeFault) → IsTidy s
    → AnswersOr NoMemory result (left_answer finished (left (record { state = s; fed = n; finished = finished })) (known_fault (record { state = s; fed = n; finished = finished })))
    → (text : List ℕ) (given : List Entry) → IsLexerOf (record { state = s; fed = n; finished = finished }) text given → IsNextEntry finished text given result
stands_answer s n true result tidy a text given h = (
  last_fault s.position,
  (sym h.agrees.fault, rw (left_over given (s.ready ++ last_entry s) (text_entries text) (h.agrees.entries ∙ append_assoc given s.ready (last_entry s))) a),
)
stands_answer s n false result tidy a text given h =
    let all : contents text ≡ behind given (ahead s []) = ap contents (sym (append-nil text)) ∙ h.agrees [] in
    let whole : (contents text).whole ≡ given ++ s.ready = ap (λ (c : Contents). c.whole) (all ∙ ap (behind given) (end_ahead s tidy)) in (
      held_fault s.position.mode,
      (fault_is s text given tidy h.agrees, rw (left_over given s.ready (contents text).whole whole) a),
    )

-- ---- the last entry

taken_with : (given : List Entry) (taken : Taken) → given_with given taken ≡ given ++ given_with [] taken
taken_with given (answers.Entry entry) = refl
taken_with given answers.More = sym (append-nil given)
taken_with given answers.End = sym (append-nil given)

what_was_given : (given ready last total given' ready' last' : List Entry) → total ≡ given ++ ready ++ last → ready ≡ [] → given' ≡ given ++ last → ready' ≡ ready → last' ≡ [] → total ≡ given' ++ ready' ++ last'
what_was_given given ready last total given' ready' last' e none a b c = e ∙ rw (a, c, b, none) (simp append-nil)

-- a list that is its own rest behind the first item is empty
pub no_first : (xs ys : List Entry) → xs ≡ ys → ys ≡ drop 1 xs → xs ≡ []
no_first [] ys e f = refl
no_first (x ∷ xs) ys e f = absurd (omega (arith, ap length e, ap length f))

-- where a call that fails leaves what is held as it was, it leaves the lexer so
pub same_lexer : (s s' : LexState) (n : ℕ) (finished : Bool) (result : Result Taken TakeFault) → OnErr result (s' ≡ s)
    → OnErr result (◌≡◌ {A = Lexing} (record { state = s'; fed = n; finished = finished }) (record { state = s; fed = n; finished = finished }))
same_lexer s s' n finished result h = on_err_weaker result (λ e. rw e refl) h

last_stands : (s s' : LexState) (n : ℕ) (text : List ℕ) (given : List Entry) (taken : Taken) → s.ready ≡ [] → IsLexerOf (record { state = s; fed = n; finished = true }) text given → LastTaken s s' taken
    → IsLexerOf (record { state = s'; fed = n; finished = true }) text (given_with given taken)
last_stands s s' n text given taken none h l = record {
  fed = h.fed;
  agrees = record {
    entries = what_was_given given s.ready (last_entry s) (text_entries text) (given_with given taken) s'.ready (last_entry s') h.agrees.entries none
        (taken_with given taken ∙ ap (λ (entries : List Entry). given ++ entries) l.taken_is) l.ready l.nothing_left;
    fault = h.agrees.fault ∙ sym l.fault;
  };
}

-- behind the end of a text, with no whole entry left, a lexer that gave the last entry, or that there is none, still stands
-- for the text with what was given
pub last_keeps : (s s' : LexState) (n : ℕ) (finished : Bool) (result : Result Taken TakeFault) → finished ≡ true → s.ready ≡ [] → IfOk result (LastTaken s s')
    → (text : List ℕ) (given : List Entry) → IsLexerOf (record { state = s; fed = n; finished = finished }) text given
    → IfOk result (λ taken. IsLexerOf (record { state = s'; fed = n; finished = finished }) text (given_with given taken))
last_keeps s s' n finished result ended none l text given h =
    let h' : IsLexerOf (record { state = s; fed = n; finished = true }) text given = rw ended at h in
    rw ended (IfOk-weaker result (LastTaken s s') (λ taken. IsLexerOf (record { state = s'; fed = n; finished = true }) text (given_with given taken)) (λ taken. last_stands s s' n text given taken none h') l)

-- ---- what is answered

-- where a whole entry is held, the first is what is to be answered
pub first_answer : (s : LexState) (n : ℕ) (finished : Bool) (entry : Entry) (rest : List Entry) → s.ready ≡ entry ∷ rest
    → left_answer finished (left (record { state = s; fed = n; finished = finished })) (known_fault (record { state = s; fed = n; finished = finished })) ≡ Ok (answers.Entry entry)
first_answer s n true entry rest e = rw e refl
first_answer s n false entry rest e = rw e refl

-- where no whole entry is held and a fault is met, the fault is what is to be answered
pub fault_answer : (s : LexState) (n : ℕ) (finished : Bool) (fault : LexFault) → s.ready ≡ [] → s.position.mode ≡ Faulty fault
    → left_answer finished (left (record { state = s; fed = n; finished = finished })) (known_fault (record { state = s; fed = n; finished = finished })) ≡ Err (Lex fault.line fault.kind)
fault_answer s n true fault none e = rw (none, e) refl
fault_answer s n false fault none e = rw (none, e) refl

-- where no whole entry is held, no fault is met and the text hasn't ended, more of it is to be asked for
pub more_answer : (s : LexState) (n : ℕ) (finished : Bool) → s.ready ≡ [] → finished ≡ false → ((fault : LexFault) → s.position.mode ≡ Faulty fault → ⊥)
    → left_answer finished (left (record { state = s; fed = n; finished = finished })) (known_fault (record { state = s; fed = n; finished = finished })) ≡ Ok answers.More
more_answer s n finished none unended not_faulty = rw (unended, none) (by s.position.mode refl) where
  by : (m : Mode) → s.position.mode ≡ m → left_answer false [] (held_fault m) ≡ Ok answers.More
  by Start e = refl
  by Between e = refl
  by Comment e = refl
  by (InToken quoted escape) e = refl
  by (Faulty fault) e = absurd (not_faulty fault e)

-- where no whole entry is held and the text has ended, the last entry is what is to be answered, or else the last fault or
-- the end
pub last_answer : (s : LexState) (n : ℕ) (finished : Bool) → s.ready ≡ [] → finished ≡ true
    → left_answer finished (left (record { state = s; fed = n; finished = finished })) (known_fault (record { state = s; fed = n; finished = finished }))
    ≡ left_answer true (last_entry s) (last_fault s.position)
last_answer s n finished none ended = rw (ended, none) refl

-- ---- plain lines

-- where a line was passed and its entry taken, the text went on by the line, and the entry was given
pub line_stands : (s s' : LexState) (n n' : ℕ) (finished : Bool) (tokens : List Token) (octets : List ℕ) (line : PlainLine) → finished ≡ false → IsTidy s → HasPassedLine s s' tokens octets line → n' ≡ n + line.octets
    → (text : List ℕ) (given : List Entry) → IsLexerOf (record { state = s; fed = n; finished = finished }) text given
    → IsLexerOf (record { state = s'; fed = n'; finished = finished }) (text ++ take line.octets octets) (given ++ line_entries line tokens)
line_stands s s' n n' finished tokens octets line unended tidy p e text given h =
    let mid = at_line (s.position.line + 1) (line_entries line tokens) in
    let len : length (take line.octets octets) ≡ line.octets = length-take-le line.octets octets p.passed.within in
    let fed = fed_stands s mid n n' text (take line.octets octets) given finished unended tidy p.passed.passed (e ∙ ap (λ k. n + k) (sym len)) h in
    rw p.new_is (ready_given mid n' finished (text ++ take line.octets octets) given fed)

-- the limits hold behind a line
pub line_sound : (s s' : LexState) (n : ℕ) (tokens : List Token) (octets : List ℕ) (line : PlainLine) → IsSoundLexer s n → HasPassedLine s s' tokens octets line → n + length octets < 2 ^ 32 - 1
    → IsSoundLexer s' (n + line.octets)
line_sound s s' n tokens octets line sound p short =
    rw p.new_is (record { tidy = (refl, refl); line = omega (arith, sound.line, p.some); depth = omega arith; fed_below = omega (arith, short, p.passed.within) })
