-- What a part's report tells.
use Rattle.std.specs.Prelude.{Bool, List}
use Rattle.dns_data.specs.Name.{Labels}
use Rattle.part_form.specs.PartText.{ClassedEntry}

-- A part and its report: its held names; which base names are its own; the own names of its class tree; those of them below
-- which there is a class that isn't empty; and the entries of its report.
pub record PartReport : Type 0 where
  pub names : List Labels
  pub own : Labels → Bool
  pub tree : List Labels
  pub below : List Labels
  pub entries : List ClassedEntry
