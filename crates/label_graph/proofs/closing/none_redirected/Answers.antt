use Rattle.std.proofs.Common.{◌≡◌, ◌∙◌, ℕ, [], length, get_or, All, eqb-true, sym, subst}
use Rattle.std.proofs.lemmas.List.{nil_from_length, take_all}
use Rattle.std.proofs.lemmas.List.Elements.{All-more}
use Rattle.label_graph.proofs.closing.none_redirected.Goals as goal

pub loop-place-preserved : goal.loop-place-preserved
loop-place-preserved c =
    All-more (λ (p : ℕ). get_or c.args.reads.now p [] ≡ []) c.args.places.now c.loop-place.place-index 0 c.loop-place-test.true c.loop-place.invariant
    (sym c.at.ensures ∙ nil_from_length c.at.result.now (eqb-true (length c.at.result.now) 0 (sym c.if-not-is_empty.ensures)))

pub returns : goal.returns
returns c true_is =
    subst (All (λ (p : ℕ). get_or c.args.reads.now p [] ≡ [])) (take_all c.loop-place.place-index c.args.places.now c.loop-place-test.false) c.loop-place.invariant
