use Rattle.std.proofs.Common.{◌≡◌, ◌∙◌, ℕ, ◌<◌, List, [], ◌∷◌, length, get_or, sym, ap, inl, inr, arith}
use Rattle.std.proofs.lemmas.Bool.{cases_lt}
use Rattle.std.proofs.lemmas.List.{ext_get_or, get_or_default, nil_from_length}
use Rattle.graph_form.specs.declared.report.Seen.{Seen}
use Rattle.query_verdicts.proofs.equal.are_same.Goals as goal

read_at : (xs : List Seen) (place i : ℕ) (d one : Seen) → i < length xs → place ≡ i → one ≡ get_or xs place one → get_or xs i d ≡ one
read_at xs place i d one within here at = get_or_default xs i d one within ∙ ap (λ (n : ℕ). get_or xs n one) (sym here) ∙ sym at

same : (a b : List Seen) → length a ≡ length b → ((i : ℕ) (d : Seen) → i < length a → get_or a i d ≡ get_or b i d) → a ≡ b
same [] b len each = sym (nil_from_length b (sym len))
same (x ∷ xs) b len each = ext_get_or x (x ∷ xs) b len (λ i within. each i x within)

pub loop-place-init : goal.loop-place-init
loop-place-init c = λ i d less. absurd (omega (arith, less))

pub loop-place-preserved : goal.loop-place-preserved
loop-place-preserved c = λ i d less.
    let place = c.loop-place.place in
    elim (cases_lt i place) [
      | inl before ↦ c.loop-place.invariant i d before
      | inr not_before ↦ (
          let here : place ≡ i = omega (arith, less, not_before) in
          read_at c.args.a.now place i d c.index-a-place.result (omega (arith, here, c.loop-place-test.true)) here c.index-a-place.is
          ∙ c.is_same_seen.ensures c.if-not-is_same_seen.false
          ∙ sym (read_at c.args.b.now place i d c.index-b-place.result (omega (arith, here, c.loop-place-test.true, c.if-a-b.false)) here c.index-b-place.is))
    ]

pub returns : goal.returns
returns c = λ is. same c.args.a.now c.args.b.now c.if-a-b.false (λ i d within. c.loop-place.invariant i d (omega (arith, within, c.loop-place-test.false)))
