-- Which rows of the metadata a query reaches.
use Rattle.std.specs.Prelude.{◌≡◌, ◌↔◌, ℕ, ◌+◌, Bool, true, false, ◌&&◌, List, [], ◌∷◌, ◌++◌, codes, decimal, if◌then◌else◌}
use Rattle.std.specs.List.{AllZip, list_all, list_any}
use Rattle.dns_data.specs.Name.{Labels, name_eq}
use Rattle.dns_data.specs.RrType.{type_eq}
use Rattle.dns_data.specs.Spelling.{name_text}
use Rattle.dns_data.specs.declared.rr_type.RrType.TheVariants.{Soa}
use Rattle.net_model.specs.declared.class.Class.{Class}
use Rattle.net_model.specs.declared.class.Class.TheVariants.{Exact, Below}
use Rattle.net_model.specs.declared.config.Config.{Config}
use Rattle.net_model.specs.declared.walk.Walk.{Walk}
use Rattle.net_model.specs.Learnt.{IsInForce}
use Rattle.net_model.specs.Step.{following}
use Rattle.net_model.specs.Walk.{IsWalk}
use Rattle.config_load.specs.Faults.{name_numbered}
use Rattle.config_load.specs.declared.loaded.RowFiles.{RowFiles}
use Rattle.run_endings.specs.Endings.{with_output}
use Rattle.run_endings.specs.declared.ending.Ending.{Ending}
use Rattle.run_endings.specs.declared.status.Status.{Status}
use Rattle.run_endings.specs.declared.status.Status.TheVariants.{Clean, Faults}
use Rattle.site_checks.specs.Ends.{is_answer, last_server}
use Rattle.site_checks.specs.declared.views.TypedEnd.{TypedEnd}
use Rattle.site_checks.specs.declared.views.View.{View}
use Rattle.map_run.specs.Columns.{columns_line, file_text}
use Rattle.map_run.specs.Rewrites.{most_rewrites}

-- a walk of the SOA query at the origin ends in an answer at the server, while the servers of the set in force are followed
pub record IsRowReached (config : Config) (row : RowFiles) : Type 0 where
  pub followed : List Labels
  pub in_force : IsInForce config most_rewrites followed
  pub walk : Walk
  pub is_walk : IsWalk (following config most_rewrites followed) row.origin Soa walk
  pub ends : (last_server walk.states ≡ row.server) × (is_answer walk.leaf ≡ true)

-- the word of a row
abbrev pub reached_word : Bool → List ℕ
reached_word true = codes "reached"
reached_word false = codes "unreached"

-- the columns of a row, which has this number: whether it is reached, its number, its server, its zone and its file
abbrev pub row_columns : ℕ → Bool → RowFiles → List (List ℕ)
row_columns number reached row =
    reached_word reached ∷ decimal number ∷ name_text row.server ∷ name_text row.origin ∷ file_text (name_numbered row.files 0) ∷ []

-- the lines of rows, which are counted from this number on
abbrev pub reached_text : ℕ → List Bool → List RowFiles → List ℕ
reached_text number (one ∷ reached) (row ∷ rows) = columns_line (row_columns number one row) ++ reached_text (number + 1) reached rows
reached_text number reached rows = []

-- the status says whether each row is reached
abbrev pub reached_status : List Bool → Status
reached_status reached = if list_all (λ one. one) reached then Clean else Faults

-- the run ends with the lines of all rows
pub record TellsRows (config : Config) (rows : List RowFiles) (ending : Ending) : Type 0 where
  pub reached : List Bool
  pub tells : AllZip (λ (row : RowFiles) (one : Bool). (one ≡ true) ↔ IsRowReached config row) rows reached
  pub as_text : ending ≡ with_output (reached_status reached) (reached_text 1 reached rows)

-- ---- the check

-- the class is that of the name alone
abbrev pub is_alone : Labels → Class → Bool
is_alone name (Exact alone) = name_eq alone name
is_alone name (Below above) = false

-- the end is an answer of type SOA at the server
abbrev pub answers_at : Labels → TypedEnd → Bool
answers_at server end = type_eq end.rtype Soa && name_eq end.server server && is_answer end.leaf

-- the view shows that the row is reached: it is that of the origin alone, and some end is an answer of type SOA at the
-- server
abbrev pub shows_reached : View → RowFiles → Bool
shows_reached view row = is_alone row.origin view.class && list_any (answers_at row.server) view.ends

-- the words of rows, once a view was shown
abbrev pub after_view : View → List RowFiles → List (List ℕ) → List (List ℕ)
after_view view (row ∷ rows) (word ∷ words) = (if shows_reached view row then codes "reached" else word) ∷ after_view view rows words
after_view view rows words = words
