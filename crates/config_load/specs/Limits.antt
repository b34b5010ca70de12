-- How large what is read may be.
use Rattle.std.specs.Prelude.{ℕ, ◌≤◌, min}
use Rattle.meta_read.specs.Metadata.{usual_rows}
use Rattle.config_load.specs.declared.limits.Limits.{Limits}

-- the most octets that a file may have, whatever the limits say, as octets are counted in 32 bits
abbrev pub largest_octets : ℕ
largest_octets = 4294950912

-- the limits where nothing else is said
abbrev pub usual_limits : Limits
usual_limits = record { octets = 16777216; records = 1000000; includes = 1000; rows = usual_rows }

-- the largest limits
abbrev pub largest_limits : Limits
largest_limits = record { octets = largest_octets; records = 4000000000; includes = 1000000; rows = 4294967295 }

-- how many octets a file may have
abbrev pub most_octets : Limits → ℕ
most_octets limits = min limits.octets largest_octets

-- the limits are no less than the usual ones
pub record AreUsual (limits : Limits) : Type 0 where
  pub octets : usual_limits.octets ≤ limits.octets
  pub records : usual_limits.records ≤ limits.records
  pub includes : usual_limits.includes ≤ limits.includes
  pub rows : usual_limits.rows ≤ limits.rows
