-- Pieces that are read part by part.
use Rattle.std.proofs.Common.{◌≡◌, ℕ, ◌+◌, ◌-◌, List, [], ◌∷◌, ◌++◌, length, take, drop, refl, sym, ap, ◌∙◌, subst, append_assoc, arith}
use Rattle.std.proofs.lemmas.List.{append-nil, length-append, length-drop, take_all, take-append-drop}
use Rattle.dns_data.specs.Name.{Labels}
use Rattle.master_read.specs.Reader.{Held, IsReading, IsSettled, texts_give}
use Rattle.master_read.specs.declared.fault.TextFault.{TextFault}
use Rattle.master_read.specs.declared.records.ReadLimits.{ReadLimits}

-- so much of a piece was read, in front of the rest
pub record HasReadPart (old new : Held) (piece rest : List ℕ) : Type 0 where
  pub front : List ℕ
  pub whole : front ++ rest ≡ piece
  pub reads : (origin : Labels) (ended : List (List ℕ)) (text : List ℕ) → IsReading old origin ended text → IsReading new origin ended (text ++ front)
  pub same : new ≡ record old { lexer = new.lexer; file = new.file; records = new.records }
  pub fed : new.lexer.fed ≡ old.lexer.fed + length front

-- before the first octet nothing of a piece was read
pub none_read : (held : Held) (piece : List ℕ) → HasReadPart held held piece piece
none_read held piece = record {
  front = [];
  whole = refl;
  reads = λ origin ended text h. subst (IsReading held origin ended) (sym (append-nil text)) h;
  same = refl;
  fed = omega arith;
}

-- a piece of which a part was read has a longer part read once the next part was
pub more_read : (old mid new : Held) (piece rest front after : List ℕ) → HasReadPart old mid piece rest → front ++ after ≡ rest
    → ((origin : Labels) (ended : List (List ℕ)) (text : List ℕ) → IsReading mid origin ended text → IsReading new origin ended (text ++ front))
    → new ≡ record mid { lexer = new.lexer; file = new.file; records = new.records } → new.lexer.fed ≡ mid.lexer.fed + length front → HasReadPart old new piece after
more_read old mid new piece rest front after h cut reads same fed = record {
  front = h.front ++ front;
  whole = append_assoc h.front front after ∙ ap (λ (r : List ℕ). h.front ++ r) cut ∙ h.whole;
  reads = λ origin ended text reading. subst (IsReading new origin ended) (append_assoc text h.front front) (reads origin ended (text ++ h.front) (h.reads origin ended text reading));
  same = same ∙ ap (λ (held : Held). record held { lexer = new.lexer; file = new.file; records = new.records }) h.same;
  fed = omega (arith, fed, h.fed, length-append h.front front);
}

-- what was fed of a piece and what is left of it are the piece
pub rest_within : (old mid : Held) (piece rest : List ℕ) → HasReadPart old mid piece rest → (mid.lexer.fed + length rest ≡ old.lexer.fed + length piece) × (mid.fed ≡ old.fed)
rest_within old mid piece rest h =
    let whole : length h.front + length rest ≡ length piece = sym (length-append h.front rest) ∙ ap length h.whole in
    (omega (arith, h.fed, whole), ap (λ (held : Held). held.fed) h.same)

-- where nothing is left, the piece was read
pub all_read : (old new : Held) (piece rest : List ℕ) → HasReadPart old new piece rest → rest ≡ []
    → (origin : Labels) (ended : List (List ℕ)) (text : List ℕ) → IsReading old origin ended text → IsReading new origin ended (text ++ piece)
all_read old new piece rest h none origin ended text reading =
    let is : h.front ≡ piece = sym (append-nil h.front) ∙ ap (λ (r : List ℕ). h.front ++ r) (sym none) ∙ h.whole in
    subst (λ (p : List ℕ). IsReading new origin ended (text ++ p)) is (h.reads origin ended text reading)

-- a fault that is settled in the first octets is settled in all
pub first_settles : (octets : List ℕ) (count : ℕ) (fault : TextFault) (limits : ReadLimits) (origin : Labels) (ended : List (List ℕ)) (text : List ℕ)
    → IsSettled fault limits origin ended (text ++ take count octets) → IsSettled fault limits origin ended (text ++ octets)
first_settles octets count fault limits origin ended text settled more later =
    let read = text ++ take count octets in
    let on : (text ++ octets) ++ more ≡ read ++ (drop count octets ++ more)
    = ap (λ (t : List ℕ). (text ++ t) ++ more) (sym (take-append-drop count octets))
    ∙ ap (λ (t : List ℕ). t ++ more) (sym (append_assoc text (take count octets) (drop count octets))) ∙ append_assoc read (drop count octets) more in
    ap (λ (t : List ℕ). texts_give limits origin (ended ++ t ∷ later)) on ∙ settled (drop count octets ++ more) later

-- a fault that is settled in what is left of a piece is settled in the piece
pub rest_settles : (old mid : Held) (piece rest : List ℕ) (fault : TextFault) (limits : ReadLimits) (origin : Labels) (ended : List (List ℕ)) (text : List ℕ)
    → (h : HasReadPart old mid piece rest) → IsSettled fault limits origin ended ((text ++ h.front) ++ rest) → IsSettled fault limits origin ended (text ++ piece)
rest_settles old mid piece rest fault limits origin ended text h settled =
    subst (λ (t : List ℕ). IsSettled fault limits origin ended t) (append_assoc text h.front rest ∙ ap (λ (p : List ℕ). text ++ p) h.whole) settled

-- the first octets, and those behind them
pub cut_at : (octets : List ℕ) (count : ℕ) → take count octets ++ take (length octets - count) (drop count octets) ≡ octets
cut_at octets count =
    ap (λ (after : List ℕ). take count octets ++ after) (take_all (length octets - count) (drop count octets) (omega (arith, length-drop count octets))) ∙ take-append-drop count octets
