use Rattle.std.proofs.Common.{◌∙◌, ℕ, ◌+◌, ◌-◌, ◌<◌, ◌≤◌, List, length, get_or, Contains, sym, ap, subst, arith}
use Rattle.std.specs.Prelude.{◌↔◌}
use Rattle.std.proofs.lemmas.List.Elements.{All-contains, Contains-get_or}
use Rattle.std.proofs.lemmas.Result.{IfOk-weaker}
use Rattle.label_graph.specs.Graphs.{SomeItem}
use Rattle.label_graph.specs.Rows.{AreAdded}
use Rattle.label_graph.specs.Targets.{IsFrom}
use Rattle.label_graph.proofs.LedPlaces.{closes_first, closes_more, closes_all}
use Rattle.label_graph.proofs.PutPlaces.{few_places}
use Rattle.label_graph.proofs.closing.closed.Goals as goal

-- with one more looked at, fewer are left
fewer : (most passed : ℕ) → passed < most → most - (passed + 1) < most - passed
fewer most passed below = omega (arith, below)

pub loop-passed-init : goal.loop-passed-init
loop-passed-init c =
    let reads = c.args.reads.now in
    let places = c.args.places.now in
    closes_first reads places c.put_missing.new.list c.in_ok-put_missing.field-0
    (λ place has. All-contains (λ (p : ℕ). p < length reads) places place c.requires.within has)
    (subst (λ (l : List ℕ). AreAdded l places c.put_missing.new.list c.in_ok-put_missing.field-0) c.new-found.ensures c.in_ok-put_missing.ensures)

pub at-requires : goal.at-requires
at-requires c =
    let found = c.loop-passed.found in
    let passed = c.loop-passed.passed in
    let more : passed < length found = subst (λ (n : ℕ). passed < n) c.len.ensures c.loop-passed-test.true in
    c.loop-passed.invariant.inside (get_or c.items.result.now passed 0)
    (subst (λ (l : List ℕ). Contains found (get_or l passed 0)) (sym c.items.ensures) (Contains-get_or found passed 0 more))

pub loop-passed-smaller : goal.loop-passed-smaller
loop-passed-smaller c =
    let reads = c.args.reads.now in
    let found = c.loop-passed.found in
    let passed = c.loop-passed.passed in
    let more : passed < length found = subst (λ (n : ℕ). passed < n) c.len.ensures c.loop-passed-test.true in
    let few : length found ≤ length reads = few_places found (length reads) c.loop-passed.invariant.once c.loop-passed.invariant.inside in
    fewer (length reads) passed (omega (arith, more, few))

pub loop-passed-preserved : goal.loop-passed-preserved
loop-passed-preserved c =
    let found = c.loop-passed.found in
    let passed = c.loop-passed.passed in
    let after = c.put_missing-in-loop-passed.new.list in
    let any = c.in_ok-put_missing-2.field-0 in
    closes_more c.args.reads.now c.args.places.now c.requires.rows found after passed (get_or c.items.result.now passed 0) any c.loop-passed.invariant
    (subst (λ (n : ℕ). passed < n) c.len.ensures c.loop-passed-test.true)
    (ap (λ (l : List ℕ). get_or l passed 0) (sym c.items.ensures))
    (subst (λ (row : List ℕ). AreAdded found row after any) c.at.ensures c.in_ok-put_missing-2.ensures)

pub returns : goal.returns
returns c =
    let reads = c.args.reads.now in
    let places = c.args.places.now in
    let passed = c.loop-passed.passed in
    IfOk-weaker c.listed.result _ _ (λ live is other.
    subst (λ (l : List ℕ). Contains l other ↔ SomeItem (IsFrom reads other) places) (sym (is ∙ c.into_vec.ensures))
    (closes_all reads places c.loop-passed.found passed c.loop-passed.invariant (subst (λ (n : ℕ). n ≤ passed) c.len.ensures c.loop-passed-test.false) other))
    c.listed.ensures
