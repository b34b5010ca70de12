use Rattle.std.proofs.Common.{◌≡◌, ℕ, List, [], get_or, Contains, All, subst}
use Rattle.std.specs.Prelude.{◌↔◌, IfOk}
use Rattle.std.proofs.lemmas.List.Elements.{All-contains}
use Rattle.label_graph.specs.Graphs.{SomeItem}
use Rattle.label_graph.specs.Targets.{IsFrom}
use Rattle.label_graph.proofs.LedPlaces.{from_empty}
use Rattle.label_graph.proofs.closing.close.Goals as goal

pub returns : goal.returns
returns c =
    subst (λ (places : List ℕ). IfOk c.closed.result (λ live. (other : ℕ) → Contains live other ↔ SomeItem (IsFrom c.args.reads.now other) places))
    c.places-3.ensures c.closed.ensures

pub returns-then-none_redirected : goal.returns-then-none_redirected
returns-then-none_redirected c =
    let reads = c.args.reads.now in
    from_empty reads c.args.places (λ place has.
    All-contains (λ (p : ℕ). get_or reads p [] ≡ []) c.args.places place
    (subst (All (λ (p : ℕ). get_or reads p [] ≡ [])) c.places-2.ensures (c.none_redirected.ensures c.if-none_redirected.true)) has)
