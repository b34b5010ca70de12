-- The line of a drill.
use Rattle.std.specs.Prelude.{ℕ, ◌+◌, List, ◌++◌, length, codes, decimal}
use Rattle.std.specs.List.{sum_by}
use Rattle.net_model.specs.declared.config.Server.{Server}
use Rattle.net_model.specs.declared.config.Zone.{Zone}

-- how many records zones have together
abbrev pub zone_records : List Zone → ℕ
zone_records zones = sum_by (λ zone. length zone.rrs) zones

-- how many records the zones of servers have together
abbrev pub record_count : List Server → ℕ
record_count servers = sum_by (λ server. zone_records server.zones) servers

-- the line: how many zones were asked for, how many zone files and records there are, how many names the class tree
-- has, and how many faults there are
abbrev pub drill_line : ℕ → ℕ → ℕ → ℕ → List ℕ
drill_line zones records names faults =
    codes "drill " ++ decimal zones ++ codes ": files " ++ decimal (zones + 1) ++ codes ", records " ++ decimal records
    ++ codes ", names " ++ decimal names ++ codes ", faults " ++ decimal faults ++ codes "\n"
