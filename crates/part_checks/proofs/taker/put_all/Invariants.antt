use Rattle.std.proofs.Common.{◌⊎◌, Contains}
use Rattle.dns_data.specs.Name.{Labels}
use Rattle.part_checks.specs.Outside.{HasOutside}
use Rattle.part_checks.proofs.taker.put_all.Given as goal

-- the names so far are put
abbrev pub invariant-loop-front : goal.invariant-loop-front
invariant-loop-front l = record {
  others : (front : Labels) → Contains l.front-iterator front → Contains l.fn.fronts front;
  there : (front : Labels) → Contains l.fn.fronts front → Contains l.front-iterator front ⊎ HasOutside l.outside front;
  stays : (name : Labels) → Contains l.initial.outside name → Contains l.outside name;
  added : (name : Labels) → Contains l.outside name → Contains l.initial.outside name ⊎ Contains l.fn.fronts name;
}
