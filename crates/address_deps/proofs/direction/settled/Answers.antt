use Rattle.std.proofs.Common.{◌≡◌, ℕ, true, false, List, length, ap, inl, inr, sym, ◌∙◌}
use Rattle.std.specs.Prelude.{◌==◌}
use Rattle.address_deps.specs.Direction.{unmoved}
use Rattle.address_deps.proofs.Rounds.{falls, none_waits}
use Rattle.address_deps.proofs.direction.settled.Goals as goal

pub loop-alloc-init : goal.loop-alloc-init
loop-alloc-init c = record {
  good = c.requires.fair;
  others = λ place within. inl ((c.in_ok-waiting.ensures place).1 within);
  within = λ place has. (c.in_ok-waiting.ensures place).0 has;
}

pub loop-alloc-smaller : goal.loop-alloc-smaller
loop-alloc-smaller c =
    let servers = c.args.hosts.now.servers in
    let d = c.args.direction in
    let round = c.in_ok-waiting-2.ensures in
    let some : (length c.loop-alloc.waiting == 0) ≡ false = ap (λ (xs : List ℕ). length xs == 0) (sym c.items.ensures) ∙ sym c.loop-alloc-test.ensures in
    falls c.loop-alloc.waiting c.in_ok-waiting-2.waiting (unmoved d servers c.loop-alloc.names) (unmoved d servers c.round.new.names) some round.fewer round.no_more

pub returns : goal.returns
returns c =
    let on = c.loop-alloc.invariant in
    let none : (length c.loop-alloc.waiting == 0) ≡ true = ap (λ (xs : List ℕ). length xs == 0) (sym c.items.ensures) ∙ sym c.loop-alloc-test.ensures in
    record {
      fair = on.good;
      settled = λ place within. elim (on.others place within) [
        | inl waits ↦ absurd (none_waits c.loop-alloc.waiting none place waits)
        | inr is ↦ is
      ];
    }
