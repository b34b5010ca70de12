-- How an entry is looked at, and one entry after the other: for the contracts of inner calls alone.
use Rattle.std.specs.Prelude.{◌≡◌, ℕ, Bool, true, false, List, [], ◌∷◌, length, Contains, Result, Ok, Err}
use Rattle.std.specs.List.{AllByRecursion}
use Rattle.dns_data.specs.Name.{Labels}
use Rattle.dns_data.specs.declared.rr_type.RrType.{RrType}
use Rattle.serde_json.specs.Data.{Data}
use Rattle.net_model.specs.declared.config.Config.{Config}
use Rattle.net_model.specs.declared.fault.Fault.{Fault}
use Rattle.net_model.specs.declared.fault.Fault.TheVariants as faults
use Rattle.net_model.specs.declared.walk.Walk.{Walk}
use Rattle.net_model.specs.Learnt.{IsLeast, IsGreatest}
use Rattle.net_model.specs.Shown.{MayShow, WalksShow, with_sets}
use Rattle.net_model.specs.Step.{Setting}
use Rattle.net_model.specs.Walk.{IsWalk}
use Rattle.net_model.specs.declared.deps.Deps.{Deps}
use Rattle.graph_form.specs.Report.{repeats}
use Rattle.graph_form.specs.declared.report.ReportEntry.{ReportEntry}
use Rattle.report_json.specs.Report.{entry_value}
use Rattle.report_json.specs.Walks.{walk_value}
use Rattle.report_check.specs.Checked.{IsConfirmed, IsFirst, IsWrong, PassesWalks}
use Rattle.report_check.specs.declared.answer.Checked.{Checked}
use Rattle.report_check.specs.declared.answer.Checked.TheVariants.{Right, Wrong}
use Rattle.report_check.specs.declared.answer.CheckFault.{CheckFault}
use Rattle.report_check.specs.declared.answer.CheckFault.TheVariants.{NotReport, Walks, NoMemory}

-- the lists have the names of the two sets of learnt addresses
pub record HasLearntNames (config : Config) (rewrites : ℕ) (deps : Deps) : Type 0 where
  pub least : IsLeast config rewrites deps.least
  pub greatest : IsGreatest config rewrites deps.greatest

-- the entry of a query and a type, with these walks
abbrev pub entry_with : Labels → RrType → Bool → List Walk → Fault → ReportEntry
entry_with query rtype repeats walks fault =
    record { seen = record { fault = fault; rtype = rtype }; query = query; repeats = repeats; walks = walks }

-- whether the first of the walks comes to a server twice with one name
abbrev pub first_repeats : List Walk → Bool
first_repeats [] = false
first_repeats (walk ∷ walks) = repeats walk.states

-- the value is that of an entry of the query and the type with these walks, which show its fault
pub record IsShownBy (setting : Setting) (query : Labels) (rtype : RrType) (walks : List Walk) (value : Data) : Type 0 where
  pub fault : Fault
  pub may : MayShow setting.config query rtype fault
  pub show : WalksShow (with_sets setting) walks fault
  pub is : value ≡ entry_value (entry_with query rtype (first_repeats walks) walks fault)

-- the entry is shown by a walk of the query, whose value is this
pub record ByOne (setting : Setting) (query : Labels) (rtype : RrType) (steps value : Data) : Type 0 where
  pub walk : Walk
  pub is_walk : IsWalk setting query rtype walk
  pub steps_are : steps ≡ walk_value walk
  pub shown : IsShownBy setting query rtype (walk ∷ []) value

-- the entry is shown by the given walk and one of others, whose value is this
pub record ByOther (setting : Setting) (query : Labels) (rtype : RrType) (one : Walk) (others : List Walk) (steps value : Data) : Type 0 where
  pub walk : Walk
  pub among : Contains others walk
  pub steps_are : steps ≡ walk_value walk
  pub shown : IsShownBy setting query rtype (one ∷ walk ∷ []) value

-- the entry is shown by two walks of the query, which have these values
pub record ByTwo (setting : Setting) (query : Labels) (rtype : RrType) (steps others value : Data) : Type 0 where
  pub walk : Walk
  pub is_walk : IsWalk setting query rtype walk
  pub steps_are : steps ≡ walk_value walk
  pub other : Walk
  pub is_other : IsWalk setting query rtype other
  pub others_are : others ≡ walk_value other
  pub shown : IsShownBy setting query rtype (walk ∷ other ∷ []) value

-- the entry is shown by walks of the query
pub record ByWalks (setting : Setting) (query : Labels) (rtype : RrType) (value : Data) : Type 0 where
  pub walks : List Walk
  pub are_walks : AllByRecursion (IsWalk setting query rtype) walks
  pub shown : IsShownBy setting query rtype walks value

-- the fault is told of the representatives of classes alone
abbrev pub is_of_representatives : Fault → Bool
is_of_representatives (faults.Overlong place) = true
is_of_representatives fault = false

-- whether the entry with this number is right, or too many walks of its query
abbrev pub EntryComesTo : Config → ℕ → ℕ → Data → Result Bool CheckFault → Type 0
EntryComesTo config rewrites number value (Ok true) = IsConfirmed config rewrites value
EntryComesTo config rewrites number value (Ok false) = IsWrong config rewrites value
EntryComesTo config rewrites number value (Err NotReport) = ⊥
EntryComesTo config rewrites number value (Err (Walks entry)) = (entry ≡ number) × PassesWalks config rewrites value
EntryComesTo config rewrites number value (Err NoMemory) = Unit {0}

-- what entries come to
abbrev pub EntriesComeTo : Config → ℕ → List Data → Result Checked CheckFault → Type 0
EntriesComeTo config rewrites all (Ok (Right entries)) = AllByRecursion (IsConfirmed config rewrites) all × (entries ≡ length all)
EntriesComeTo config rewrites all (Ok (Wrong entry)) = IsFirst config rewrites (IsWrong config rewrites) all entry
EntriesComeTo config rewrites all (Err NotReport) = ⊥
EntriesComeTo config rewrites all (Err (Walks entry)) = IsFirst config rewrites (PassesWalks config rewrites) all entry
EntriesComeTo config rewrites all (Err NoMemory) = Unit {0}
