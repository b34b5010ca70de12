-- What the checker answers to a report's octets. Entries are counted from 1 and looked at in order.
use Rattle.std.specs.Prelude.{◌≡◌, ◌⊎◌, ℕ, zero, suc, ◌+◌, List, [], ◌∷◌, ◌++◌, length, Some, None, Result, Ok, Err}
use Rattle.std.specs.List.{AllByRecursion}
use Rattle.dns_data.specs.Name.{Labels}
use Rattle.dns_data.specs.declared.rr_type.RrType.{RrType}
use Rattle.serde_json.specs.Data.{Data}
use Rattle.net_model.specs.declared.config.Config.{Config}
use Rattle.net_model.specs.Learnt.{IsInForce}
use Rattle.net_model.specs.Nearest.{server_names}
use Rattle.net_model.specs.Step.{following}
use Rattle.plain_resolver.specs.Passed.{HasMoreWalks, IsFirstWithTooMany, most_walks_followed}
use Rattle.report_check.specs.ReportIn.{StatedReport, report_in}
use Rattle.report_check.specs.RightEntries.{IsRight, NamesQuery}
use Rattle.report_check.specs.declared.answer.Checked.{Checked}
use Rattle.report_check.specs.declared.answer.Checked.TheVariants.{Right, Wrong}
use Rattle.report_check.specs.declared.answer.CheckFault.{CheckFault}
use Rattle.report_check.specs.declared.answer.CheckFault.TheVariants.{NotReport, Walks, NoMemory}

-- ---- an entry

-- the entry's query has more walks than are followed
pub record PassesWalks (config : Config) (rewrites : ℕ) (value : Data) : Type 0 where
  pub query : Labels
  pub rtype : RrType
  pub names : NamesQuery value query rtype
  pub followed : List Labels
  pub in_force : IsInForce config rewrites followed
  pub more : HasMoreWalks (following config rewrites followed) query rtype most_walks_followed

-- the entry is right, and its query hasn't more walks
abbrev pub IsConfirmed : Config → ℕ → Data → Type 0
IsConfirmed config rewrites value = IsRight config rewrites value × (PassesWalks config rewrites value → ⊥)

-- the entry isn't right, and its query hasn't more walks than are followed
abbrev pub IsWrong : Config → ℕ → Data → Type 0
IsWrong config rewrites value = (IsRight config rewrites value → ⊥) × (PassesWalks config rewrites value → ⊥)

-- the entry with this number has the property, and all entries before it are confirmed
pub record IsFirst (config : Config) (rewrites : ℕ) (so : Data → Type 0) (entries : List Data) (number : ℕ) : Type 0 where
  pub before : List Data
  pub entry : Data
  pub after : List Data
  pub splits : entries ≡ before ++ entry ∷ after
  pub confirmed : AllByRecursion (IsConfirmed config rewrites) before
  pub is_so : so entry
  pub counted : number ≡ length before + 1

-- ---- the sets of learnt addresses

-- from these servers on, some server's name has too many walks in one of the sets from which a round starts
abbrev pub RoundsPass : Config → ℕ → List Labels → Type 0
RoundsPass config rewrites begin = (name : Labels) × IsFirstWithTooMany config rewrites most_walks_followed begin name

-- some server's name has too many walks in the rounds for the least set or in those for the greatest
abbrev pub LearningPasses : Config → ℕ → Type 0
LearningPasses config rewrites = RoundsPass config rewrites [] ⊎ RoundsPass config rewrites (server_names config)

-- ---- the answers

-- the octets are those of a report with the property
abbrev pub OfReport : List ℕ → (StatedReport → Type 0) → Type 0
OfReport octets so = (report : StatedReport) × (report_in octets ≡ Some report) × so report

-- the octets are those of a report whose entries have the property, with its rewrites, and both sets of learnt
-- addresses are found
abbrev pub OfEntries : Config → List ℕ → (ℕ → List Data → Type 0) → Type 0
OfEntries config octets so =
    OfReport octets (λ report. (LearningPasses config report.rewrites → ⊥) × so report.rewrites report.entries)

-- The answer is the one to the octets: that they are no report, before all else; then that a server's name has too many
-- walks, which has the number 0; then the first entry that has too many walks or is wrong; or how many entries there
-- are, all of them confirmed. `NoMemory` may come in place of each.
abbrev pub IsChecked : Config → List ℕ → Result Checked CheckFault → Type 0
IsChecked config octets (Ok (Right entries)) =
    OfEntries config octets (λ rewrites all. AllByRecursion (IsConfirmed config rewrites) all × (entries ≡ length all))
IsChecked config octets (Ok (Wrong entry)) =
    OfEntries config octets (λ rewrites all. IsFirst config rewrites (IsWrong config rewrites) all entry)
IsChecked config octets (Err NotReport) = report_in octets ≡ None
IsChecked config octets (Err (Walks zero)) = OfReport octets (λ report. LearningPasses config report.rewrites)
IsChecked config octets (Err (Walks (suc before))) =
    OfEntries config octets (λ rewrites all. IsFirst config rewrites (PassesWalks config rewrites) all (suc before))
IsChecked config octets (Err NoMemory) = Unit {0}
