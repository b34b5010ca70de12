use Rattle.std.proofs.Common.{◌-◌, ◌≤◌, length}
use Rattle.net_model.specs.declared.deps.Deps.{Deps}
use Rattle.straight_walks.specs.Searching.{HavePassed}
use Rattle.straight_walks.proofs.referring.next_referral.Given as goal

-- walks go straight from the states passed, and what they end in there is put to what they ended in before
abbrev pub invariant-loop-passed : goal.invariant-loop-passed
invariant-loop-passed l = record {
  later : l.initial.passed ≤ l.passed;
  searched : (deps : Deps) → HavePassed l.asked.hosts.now deps l.asked.name.now l.queue l.initial.passed l.initial.ends → HavePassed l.asked.hosts.now deps l.asked.name.now l.queue l.passed l.ends;
}

abbrev pub decreases-loop-passed : goal.decreases-loop-passed
decreases-loop-passed l = length l.queue - l.passed
