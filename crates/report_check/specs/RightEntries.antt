-- Entries of a report that are right: walks of the query show the fault.
use Rattle.std.specs.Prelude.{◌≡◌, ℕ, List, codes, Some, slice_get}
use Rattle.dns_data.specs.Name.{Labels, IsName}
use Rattle.dns_data.specs.RrType.{word_of}
use Rattle.dns_data.specs.declared.rr_type.RrType.{RrType}
use Rattle.serde_json.specs.Data.{Data, string}
use Rattle.serde_json.specs.Find.{get}
use Rattle.net_model.specs.declared.config.Config.{Config}
use Rattle.net_model.specs.declared.walk.Walk.{Walk}
use Rattle.net_model.specs.Learnt.{IsInForce}
use Rattle.net_model.specs.Shown.{ShowsBy, with_sets}
use Rattle.net_model.specs.Step.{following}
use Rattle.graph_form.specs.Report.{repeats}
use Rattle.graph_form.specs.declared.report.ReportEntry.{ReportEntry}
use Rattle.report_json.specs.Json.{name_value}
use Rattle.report_json.specs.Report.{entry_value}

-- The value is that of an entry: of a query and a type, of a fault, of one walk of the query that shows it (of two
-- where answers differ), and of whether the first walk comes to a server twice with one name. The walks are those of
-- the set in force. So the value is an object with these members and no others, and each text in it is the one that a
-- report has.
pub record IsRight (config : Config) (rewrites : ℕ) (value : Data) : Type 0 where
  pub entry : ReportEntry
  pub is : value ≡ entry_value entry
  pub is_name : IsName entry.query
  pub followed : List Labels
  pub in_force : IsInForce config rewrites followed
  pub shows : ShowsBy (with_sets (following config rewrites followed)) entry.query entry.seen.rtype entry.seen.fault entry.walks
  pub repeated : (first : Walk) → slice_get entry.walks 0 ≡ Some first → entry.repeats ≡ repeats first.states

-- The value names a query and its type: the text of the one stands at `query`, the word of the other at `type`. Another
-- text of the same name, or a word in lower case, names none.
pub record NamesQuery (value : Data) (query : Labels) (rtype : RrType) : Type 0 where
  pub is_name : IsName query
  pub query_is : get (codes "query") value ≡ Some (name_value query)
  pub type_is : get (codes "type") value ≡ Some (string (word_of rtype))
