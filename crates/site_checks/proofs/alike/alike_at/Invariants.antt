use Rattle.std.proofs.Common.{◌≡◌, true, take}
use Rattle.std.specs.List.{AllByRecursion}
use Rattle.dns_data.specs.TypeSet.{has_bit}
use Rattle.dns_data.specs.declared.rr_type.RrType.{RrType}
use Rattle.graph_form.specs.declared.node.Arm.{Arm}
use Rattle.site_checks.proofs.alike.alike_at.Given as goal

-- each type so far is one of the given ones, and the arms so far have it if they have this one
abbrev pub invariant-loop-arm : goal.invariant-loop-arm
invariant-loop-arm l = (other : RrType) → has_bit l.alike other ≡ true
    → (has_bit l.fn.types other ≡ true) × AllByRecursion (λ (arm : Arm). has_bit arm.types l.rtype ≡ has_bit arm.types other) (take l.arm-index l.arm-items)
