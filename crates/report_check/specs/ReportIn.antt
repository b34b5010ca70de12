-- What is looked at of a report: how many rewrites a query may use, and the values of its entries.
use Rattle.std.specs.Prelude.{ℕ, ◌&&◌, nat_le, List, codes, Option, Some, None, option_map, option_and_then, if◌then◌else◌}
use Rattle.serde_json.specs.Data.{Data}
use Rattle.serde_json.specs.Find.{get, as_number, as_u64}
use Rattle.meta_read.specs.Members.{value_of, list_at}

-- what is looked at of a report
pub record StatedReport : Type 0 where
  pub rewrites : ℕ
  pub entries : List Data

-- how many rewrites a query may use: 1 to 64
abbrev pub if_allowed : ℕ → Option ℕ
if_allowed number = if nat_le 1 number && nat_le number 64 then Some number else None

-- how many rewrites a query may use: a whole number at `rewrites`
abbrev pub rewrites_in : Data → Option ℕ
rewrites_in value = option_and_then if_allowed (option_and_then as_u64 (option_and_then as_number (get (codes "rewrites") value)))

-- the values of the entries: those of a list at `faults`
abbrev pub entries_in : Data → Option (List Data)
entries_in value = list_at (codes "faults") value

-- the report that a value is
abbrev pub report_of : Data → Option StatedReport
report_of value =
    option_and_then (λ rewrites. option_map (λ entries. record { rewrites = rewrites; entries = entries }) (entries_in value))
    (rewrites_in value)

-- the report that a file's octets are
abbrev pub report_in : List ℕ → Option StatedReport
report_in octets = option_and_then report_of (value_of octets)
