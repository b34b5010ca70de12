-- The entries and the fault of a text that are taken one after another.
use Rattle.std.proofs.Common.{◌≡◌, ℕ, Bool, true, false, List, [], ◌∷◌, ◌++◌, length, drop, refl, sym, ap, ◌∙◌, append_assoc, get_or, ◌+◌, ◌<◌, ◌≤◌, suc, zero, add-one, arith, inl, inr, Option, Some, None}
use Rattle.std.specs.Prelude.{Ok, Err, MatchBool}
use Rattle.std.specs.List.{flat_map}
use Rattle.std.proofs.Math.Seq.{drop-cons}
use Rattle.std.proofs.lemmas.List.{append-nil}
use Rattle.master_lex.specs.declared.entry.Entry.{Entry}
use Rattle.master_lex.specs.declared.fault.LexFault.{LexFault}
use Rattle.master_lex.specs.declared.fault.LexKind.{LexKind}
use Rattle.master_lex.specs.declared.fault.TakeFault.TheVariants as faults
use Rattle.master_lex.specs.declared.taken.Taken.TheVariants as answers
use Rattle.master_lex.specs.Contents.{Contents, behind, contents, text_entries, text_fault}
use Rattle.master_lex.specs.States.{empty, run, ahead_by, last_entry, ahead}
use Rattle.master_lex.specs.Taking.{left_answer, IsNextEntry}
use Rattle.master_lex.specs.Lexer.{Lexing, Remains, IsLexerOf}
use Rattle.master_lex.proofs.UndoLemmas.{moves_far}
use Rattle.master_lex.proofs.Running.{run_ahead, end_ahead}
use Rattle.master_lex.proofs.StandsLemmas.{drop_front}

-- the entries that are whole begin those of each text that goes on
pub whole_begins : (text more : List ℕ) → (others : List Entry) × (text_entries (text ++ more) ≡ (contents text).whole ++ others)
whole_begins text more =
    let s = run empty text in
    let tidy = (moves_far empty text (refl, refl)).tidy in
    let all : contents (text ++ more) ≡ ahead s more = run_ahead empty text more (refl, refl) in
    let whole : (contents text).whole ≡ s.ready
    = ap (λ (c : Contents). c.whole) (ap contents (sym (append-nil text)) ∙ run_ahead empty text [] (refl, refl) ∙ end_ahead s tidy) in
    let rest = ahead_by s.position.mode s more in (
      rest.whole ++ rest.last,
      ap (λ (c : Contents). c.whole ++ c.last) all ∙ append_assoc s.ready rest.whole rest.last
          ∙ ap (λ (w : List Entry). w ++ (rest.whole ++ rest.last)) (sym whole),
    )

end_by : (rest : List Entry) (fault : Option LexFault) → left_answer true rest fault ≡ Ok answers.End → (rest ≡ []) × (None ≡ fault)
end_by [] None h = (refl, refl)
end_by [] (Some fault) h = absurd cc
end_by (e ∷ rest) fault h = absurd cc

more_by : (rest : List Entry) (fault : Option LexFault) → left_answer true rest fault ≡ Ok answers.More → ⊥
more_by [] None h = cc
more_by [] (Some fault) h = cc
more_by (e ∷ rest) fault h = cc

-- the lexical fault of this kind in this line
abbrev pub made_fault : ℕ → LexKind → LexFault
made_fault line kind = record { line = line; kind = kind }

fault_by : (rest : List Entry) (fault : Option LexFault) (line : ℕ) (kind : LexKind) → left_answer true rest fault ≡ Err (faults.Lex line kind) → (rest ≡ []) × (Some (made_fault line kind) ≡ fault)
fault_by [] None line kind h = absurd cc
fault_by [] (Some fault) line kind h =
    let l : line ≡ fault.line = cc in
    let k : kind ≡ fault.kind = cc in
    (refl, rw (l, k) refl)
fault_by (e ∷ rest) fault line kind h = absurd cc

all_given : (given rest total : List Entry) → total ≡ given ++ rest → rest ≡ [] → given ≡ total
all_given given rest total e none = sym (e ∙ ap (λ (r : List Entry). given ++ r) none ∙ append-nil given)

module _ (lexer : Lexing) (text : List ℕ) (given : List Entry) (ended : lexer.finished ≡ true) (stands : IsLexerOf lexer text given) where
  rest : List Entry
  rest = drop (length given) (text_entries text)

  split : text_entries text ≡ given ++ drop (length given) (text_entries text)
  split =
      let r = rw ended at stands.agrees in
      let e = r.entries ∙ append_assoc given lexer.state.ready (last_entry lexer.state) in
      e ∙ ap (λ (x : List Entry). given ++ x) (sym (ap (drop (length given)) e ∙ drop_front given (lexer.state.ready ++ last_entry lexer.state)))

  -- where the end is answered, the entries that were given are all of the text, and it has no fault
  pub taken_all : IsNextEntry lexer.finished text given (Ok answers.End) → (given ≡ text_entries text) × (None ≡ text_fault text)
  taken_all answer =
      let a : IsNextEntry true text given (Ok answers.End) = rw ended at answer in
      let p = end_by (drop (length given) (text_entries text)) a.0 a.1.1 in
      (all_given given (drop (length given) (text_entries text)) (text_entries text) split p.0, p.1 ∙ a.1.0)

  -- a lexer whose text has ended asks for no more of it
  pub never_more : IsNextEntry lexer.finished text given (Ok answers.More) → ⊥
  never_more answer =
      let a : IsNextEntry true text given (Ok answers.More) = rw ended at answer in
      more_by (drop (length given) (text_entries text)) a.0 a.1.1

  -- where a fault is answered, it is that of the text, and the entries that were given are all of the text
  pub taken_to_fault : (line : ℕ) (kind : LexKind) → IsNextEntry lexer.finished text given (Err (faults.Lex line kind)) → (given ≡ text_entries text) × (Some (made_fault line kind) ≡ text_fault text)
  taken_to_fault line kind answer =
      let a : IsNextEntry true text given (Err (faults.Lex line kind)) = rw ended at answer in
      elim a.1.1 [
        | inl never ↦ absurd (cc)
        | inr said ↦ let p = fault_by (drop (length given) (text_entries text)) a.0 line kind said in
            (all_given given (drop (length given) (text_entries text)) (text_entries text) split p.0, p.1 ∙ a.1.0)
      ]

-- the text of the next item stands behind those of the items before it, in front of what is left
pub joined_step : {B : Type 0} (f : B → List ℕ) (xs : List B) (i : ℕ) (d : B) (so_far total : List ℕ) → i < length xs → so_far ++ flat_map f (drop i xs) ≡ total
    → so_far ++ f (get_or xs i d) ++ flat_map f (drop (i + 1) xs) ≡ total
joined_step f xs i d so_far total l h =
    append_assoc so_far (f (get_or xs i d)) (flat_map f (drop (i + 1) xs))
    ∙ ap (λ (t : List ℕ). so_far ++ t) (rw (add-one, drop-cons xs i d) refl) ∙ h

nothing_left : {B : Type 0} (xs : List B) (i : ℕ) → length xs ≤ i → drop i xs ≡ []
nothing_left [] zero l = refl
nothing_left [] (suc i) l = refl
nothing_left (x ∷ xs) zero l = absurd (omega arith)
nothing_left (x ∷ xs) (suc i) l = nothing_left xs i (omega arith)

-- what the items up to the last make, one after the other, is the whole where no item is left
pub joined_all : {B : Type 0} (f : B → List ℕ) (xs : List B) (i : ℕ) (so_far total : List ℕ) → length xs ≤ i → so_far ++ flat_map f (drop i xs) ≡ total → so_far ≡ total
joined_all f xs i so_far total l h = sym (ap (λ zs. so_far ++ flat_map f zs) (nothing_left xs i l) ∙ append-nil so_far) ∙ h

-- the entries that were taken are the first of the text, however it goes on, if it hasn't ended
pub taken_first : (lexer : Lexing) (text : List ℕ) (taken : List Entry) → IsLexerOf lexer text taken
    → (more : List ℕ) → (lexer.finished ≡ true → more ≡ []) → (others : List Entry) × (text_entries (text ++ more) ≡ taken ++ others)
taken_first lexer text taken stands more none = by lexer.finished stands.agrees none where
  by : (finished : Bool) → MatchBool finished (Remains lexer.state text taken) ((more : List ℕ) → contents (text ++ more) ≡ behind taken (ahead lexer.state more))
      → (finished ≡ true → more ≡ []) → (others : List Entry) × (text_entries (text ++ more) ≡ taken ++ others)
  by true remains none = (
    lexer.state.ready ++ last_entry lexer.state,
    ap text_entries (ap (λ (octets : List ℕ). text ++ octets) (none refl) ∙ append-nil text) ∙ remains.entries ∙ append_assoc taken lexer.state.ready (last_entry lexer.state),
  )
  by false same none =
      let rest = ahead lexer.state more in
      (rest.whole ++ rest.last, ap (λ (c : Contents). c.whole ++ c.last) (same more) ∙ append_assoc taken rest.whole rest.last)
