use Rattle.std.proofs.Common.{Bor, All, take}
use Rattle.net_model.specs.declared.config.Zone.{Zone}
use Rattle.base_names.specs.Base.{zone_redirections}
use Rattle.net_model.specs.Reading.{Redirection}
use Rattle.part_checks.specs.Outside.{IsApart}
use Rattle.part_checks.proofs.limits.check_apart.Given as goal

-- the redirections of the zones so far are apart
abbrev pub invariant-loop-zone : goal.invariant-loop-zone
invariant-loop-zone l = All (λ (zone : Bor Zone). All (λ (one : Redirection). All (IsApart one) l.outside) (zone_redirections zone.now)) (take l.zone-index l.zones)
