-- For the code alone, no public clause cites it: what is told of scopes, before a run ends with it.
use Rattle.std.specs.Prelude.{◌≡◌, ◌⊎◌, ℕ, Bool, List, Result, Ok, Err, if◌then◌else◌}
use Rattle.std.specs.List.{flat_map}
use Rattle.dns_data.specs.Name.{Labels}
use Rattle.graph_form.specs.Report.{Subject}
use Rattle.net_model.specs.declared.config.Config.{Config}
use Rattle.query_verdicts.specs.Passed.{NonePasses}
use Rattle.query_verdicts.specs.Queries.{most_states}
use Rattle.site_checks.specs.Views.{Site}
use Rattle.run_endings.specs.declared.ending.Ending.{Ending}
use Rattle.run_endings.specs.declared.status.Status.{Status}
use Rattle.run_endings.specs.declared.status.Status.TheVariants.{Clean, Faults}
use Rattle.run_endings.specs.Endings.{no_memory, with_output}
use Rattle.report_run.specs.Budgets.{HasMoreNamesAt, WithinSubject}
use Rattle.groot_run.specs.declared.scope.ScopeText.{ScopeText}
use Rattle.groot_run.specs.Outcome.{IsScoped, ScopesEach}

-- the status of reports that are written, by whether one has a fault
abbrev pub status_when : Bool → Status
status_when faulty = if faulty then Faults else Clean

-- a run that ends with a text
abbrev pub with_text : ScopeText → Ending
with_text text = with_output (status_when text.faulty) (flat_map (λ piece. piece) text.pieces)

-- how a run ends by a text
abbrev pub EndsByText : Result ScopeText Ending → Ending → Type 0
EndsByText (Ok text) ending = (ending ≡ with_text text) ⊎ (ending ≡ no_memory)
EndsByText (Err said) ending = ending ≡ said

-- the text of a scope within its budgets, unless memory ran out
abbrev pub TellsText : Subject → List Site → Result ScopeText Ending → Type 0
TellsText subject sites (Ok text) = IsScoped subject sites (with_text text)
TellsText subject sites (Err ending) = ending ≡ no_memory

-- the text of a scope; or how a run ends without one, since it passes a budget, or memory ran out
abbrev pub TellsScope : ℕ → Subject → List Site → Result ScopeText Ending → Type 0
TellsScope limit subject sites (Ok text) =
    (HasMoreNamesAt subject limit → ⊥) × NonePasses subject most_states × IsScoped subject sites (with_text text)
TellsScope limit subject sites (Err ending) = WithinSubject subject limit ⊥ ending ⊎ (ending ≡ no_memory)

-- the text of the scopes of names, or how a run ends without one
abbrev pub TellsScopes : ℕ → Config → List Labels → Result ScopeText Ending → Type 0
TellsScopes limit config names (Ok text) = ScopesEach limit config names (with_text text)
TellsScopes limit config names (Err ending) = ScopesEach limit config names ending ⊎ (ending ≡ no_memory)
