use Rattle.std.proofs.Common.{◌∙◌, ℕ, ◌<◌, List, [], ◌∷◌, length, Contains, All, inl, inr, sym, subst}
use Rattle.std.specs.Prelude.{◌↔◌}
use Rattle.dns_data.specs.Name.{Labels}
use Rattle.dns_data.proofs.Membership.{none_in_nil, first_or_later, all_from_contains}
use Rattle.label_graph.specs.Targets.{IsFound, IsFoundFrom, IsRootPlace, IsStepFrom}
use Rattle.label_graph.proofs.FoundPlaces.{found_more}
use Rattle.name_table.proofs.Tables.{one_place}
use Rattle.label_graph.proofs.Passing.{single_iff}
use Rattle.label_graph.proofs.following.found_along.Goals as goal

-- the same is found from places that are told in other words
found_iff : (names : List Labels) (rows : List (List ℕ)) (P Q : ℕ → Type 0) → ((o : ℕ) → P o ↔ Q o) → (labels : Labels) (other : ℕ)
    → IsFoundFrom names rows P labels other ↔ IsFoundFrom names rows Q labels other
found_iff names rows P Q same labels other =
    (found_more names rows P Q (λ o. (same o).0) labels other, found_more names rows Q P (λ o. (same o).1) labels other)

pub loop-label-init : goal.loop-label-init
loop-label-init c =
    let names = c.args.base.now in
    let root : ℕ = 0 in
    record {
      within = subst (All (λ (place : ℕ). place < length names)) (sym c.one-places.ensures)
          (all_from_contains (λ (place : ℕ). place < length names) (root ∷ []) (λ place has. elim (first_or_later root [] place has) [
            | inl same ↦ subst (λ (k : ℕ). k < length names) same c.requires.root.0
            | inr none ↦ absurd (none_in_nil place none)
          ]));
      found = λ other.
          subst (λ (labels : Labels). IsFoundFrom names c.args.reads.now (Contains c.one-places.result) labels other ↔ IsFound names c.args.reads.now c.args.name.now other) (sym c.labels-rest.ensures.same)
          (subst (λ (places : List ℕ). IsFoundFrom names c.args.reads.now (Contains places) c.args.name.now other ↔ IsFound names c.args.reads.now c.args.name.now other) (sym c.one-places.ensures)
          (found_iff names c.args.reads.now (Contains (root ∷ [])) (IsRootPlace names)
          (single_iff root (IsRootPlace names) (c.requires.root.0, c.requires.root.1)
          (λ o at. one_place names c.requires.order root o c.requires.root.0 at.0 (c.requires.root.1 ∙ sym at.1))) c.args.name.now other));
    }

pub loop-label-preserved : goal.loop-label-preserved
loop-label-preserved c =
    let names = c.args.base.now in
    let places = c.in_ok-places.places in
    record {
      within = all_from_contains (λ (place : ℕ). place < length names) places (λ place has.
          let (from, above, given, led, step) = (c.in_ok-places.ensures place).0 has in step.0);
      found = λ other.
          let same = found_iff names c.args.reads.now (Contains places) (IsStepFrom names c.args.reads.now (Contains c.loop-label.places) c.in-Some.label.now) c.in_ok-places.ensures c.next.new.self other in
          let was = subst (λ (labels : Labels). IsFoundFrom names c.args.reads.now (Contains c.loop-label.places) labels other ↔ IsFound names c.args.reads.now c.args.name.now other)
          c.in-Some.ensures.first (c.loop-label.invariant.found other) in
          (λ has. was.0 (same.0 has), λ is. same.1 (was.1 is));
    }

pub returns : goal.returns
returns c other =
    let was = subst (λ (labels : Labels). IsFoundFrom c.args.base.now c.args.reads.now (Contains c.loop-label.places) labels other ↔ IsFound c.args.base.now c.args.reads.now c.args.name.now other)
    c.in_default.ensures.first (c.loop-label.invariant.found other) in
    (was.0, was.1)
