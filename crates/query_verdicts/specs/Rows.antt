-- The names of a subject's class tree with their verdicts, and what is found in them: for the contracts of the calls on a
-- judge of names.
use Rattle.std.specs.Prelude.{◌≡◌, ◌≢◌, ℕ, Bool, true, false, List, [], ◌++◌, map, Option, Some, None, Contains, MatchOption}
use Rattle.std.specs.List.{flat_map}
use Rattle.std.specs.declared.cmp.Ordering.{Ordering}
use Rattle.std.specs.declared.cmp.Ordering.TheVariants.{Less}
use Rattle.query_verdicts.specs.Passed.{ClassPasses}
use Rattle.query_verdicts.specs.TreeVerdicts.{AreTreeRows, TreeRow}
use Rattle.query_verdicts.specs.Verdict.{IsClassVerdict}
use Rattle.query_verdicts.specs.declared.first_classes.ClassFault.{ClassFault}
use Rattle.query_verdicts.specs.declared.verdict.ClassVerdict.{ClassVerdict}
use Rattle.query_verdicts.specs.declared.verdict.ClassVerdict.TheVariants.{Faults, StatesPassed}
use Rattle.query_verdicts.specs.declared.verdict.NameVerdict.{NameVerdict}
use Rattle.dns_data.specs.Name.{Labels}
use Rattle.graph_form.specs.FirstFaults.{IsRanked}
use Rattle.graph_form.specs.Report.{Subject}
use Rattle.graph_form.specs.declared.report.Seen.{Seen}
use Rattle.net_model.specs.declared.class.Class.{Class}
use Rattle.net_model.specs.declared.class.Class.TheVariants.{Exact, Below}
use Rattle.net_model.specs.declared.fault.Fault.{Fault}
use Rattle.net_model.specs.Class.{class_cmp, class_name}

-- the rows are the names of the subject's class tree in order, each with its verdict
abbrev pub AreRows : {W : Type 0} → Subject → ℕ → List (TreeRow W ClassVerdict) → Type 0
AreRows subject states rows = AreTreeRows subject.ground subject.below (IsClassVerdict subject.config subject.rewrites states) rows

-- the representative of the class reaches more pairs of state and type than are looked at
abbrev pub passes : ClassVerdict → Bool
passes (Faults shown) = false
passes StatesPassed = true

-- no representative of a class of the name reaches too many pairs
abbrev pub NonePassesAt : Subject → ℕ → Labels → Type 0
NonePassesAt subject states name =
    (class : Class) (query : Labels) → class_name class ≡ name → ClassPasses subject states class query → ⊥

-- the query is the first representative of the classes of the name that reaches too many pairs
pub record IsFirstPassedAt (subject : Subject) (states : ℕ) (name query : Labels) : Type 0 where
  pub class : Class
  pub of_name : class_name class ≡ name
  pub passes : ClassPasses subject states class query
  pub first : (other : Class) (also : Labels) → class_name other ≡ name → ClassPasses subject states other also → class_cmp other class ≢ Less

-- what is found at a name is the first representative of its classes that reaches too many pairs, or none does
abbrev pub IsPassedAt : Subject → ℕ → Labels → Option Labels → Type 0
IsPassedAt subject states name found =
    MatchOption found (NonePassesAt subject states name) (IsFirstPassedAt subject states name)

-- a fault with its class
abbrev pub class_fault : Class → Seen → ClassFault
class_fault class seen = record { seen = seen; class = class }

-- faults with their class
abbrev pub with_class : Class → List Seen → List ClassFault
with_class class shown = map (class_fault class) shown

-- the faults of a class
abbrev pub found_in : Class → ClassVerdict → List ClassFault
found_in class (Faults shown) = with_class class shown
found_in class StatesPassed = []

-- the faults of the class below a name, where that isn't empty
abbrev pub found_below : Labels → Option ClassVerdict → List ClassFault
found_below name None = []
found_below name (Some verdict) = found_in (Below name) verdict

-- the faults of the classes of a name
abbrev pub found_at : Labels → NameVerdict ClassVerdict → List ClassFault
found_at name verdict = found_in (Exact name) verdict.exact ++ found_below name verdict.below

-- the faults of all classes of the rows
abbrev pub found_of : {W : Type 0} → List (TreeRow W ClassVerdict) → List ClassFault
found_of rows = flat_map (λ row. found_at row.item row.verdict) rows

-- the fault that a class shows
abbrev pub found_fault : ClassFault → Fault
found_fault found = found.seen.fault

-- the order of the classes that show one fault
abbrev pub class_rank : ClassFault → ClassFault → Ordering
class_rank a b = class_cmp a.class b.class

-- some of the faults are kept: each with the first of its classes
pub record KeepsFirsts (all kept : List ClassFault) : Type 0 where
  pub from : (one : ClassFault) → Contains kept one → Contains all one
  pub covers : (one : ClassFault) → Contains all one → IsRanked found_fault class_rank kept one
