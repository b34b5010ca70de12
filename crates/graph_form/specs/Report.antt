-- The report of a configuration: the faults that some query shows, each with its first query and walk. Which names are
-- told apart, and the name at or below which queries are looked at, are parameters: of a whole configuration they are its
-- own ground and the root.
use Rattle.std.specs.Prelude.{◌≡◌, ◌≢◌, ℕ, ◌+◌, ◌≤◌, Bool, true, false, ◌||◌, ◌&&◌, List, [], ◌∷◌, length, map, Some, Contains, AllPairs, slice_get}
use Rattle.std.specs.List.{list_any, AllByRecursion}
use Rattle.std.specs.Cmp.Lexicographic.{slice_cmp}
use Rattle.std.specs.declared.cmp.Ordering.{Ordering}
use Rattle.std.specs.declared.cmp.Ordering.TheVariants.{Less}
use Rattle.dns_data.specs.Name.{Labels, IsName, name_eq, is_prefix}
use Rattle.dns_data.specs.RrType.{number_of}
use Rattle.dns_data.specs.declared.rr_type.RrType.{RrType}
use Rattle.net_model.specs.declared.class.Class.{Class}
use Rattle.net_model.specs.declared.config.Config.{Config}
use Rattle.net_model.specs.declared.fault.Fault.{Fault}
use Rattle.net_model.specs.declared.walk.State.{State}
use Rattle.net_model.specs.declared.walk.Walk.{Walk}
use Rattle.net_model.specs.Class.{class_cmp, class_name, IsRepresentative}
use Rattle.net_model.specs.FaultOrder.{fault_cmp}
use Rattle.net_model.specs.Learnt.{IsInForce}
use Rattle.net_model.specs.Reading.{Ground}
use Rattle.net_model.specs.Shown.{ShowsIn, WalksShow, with_sets}
use Rattle.net_model.specs.Step.{Setting, following}
use Rattle.net_model.specs.Tree.{IsInPart, IsTreePart, AreBelowClasses}
use Rattle.net_model.specs.Walk.{walk_along, path_cmp}
use Rattle.graph_form.specs.declared.report.Report.{Report}
use Rattle.graph_form.specs.declared.report.ReportEntry.{ReportEntry}

-- what a report is read in: the configuration, how many rewrites a query may use, which names are told apart, and the
-- name at or below which queries are looked at
pub record Subject : Type 0 where
  pub config : Config
  pub rewrites : ℕ
  pub ground : Ground
  pub below : Labels

-- two states are at one server with one name
abbrev pub is_same_place : State → State → Bool
is_same_place a b = name_eq a.server b.server && name_eq a.name b.name

-- two of the states are at one server with one name
abbrev pub repeats : List State → Bool
repeats [] = false
repeats (state ∷ states) = list_any (is_same_place state) states || repeats states

-- the class is one of the subject's part of the class tree: it goes by a named name at or below the subject's name
abbrev pub IsClass : Subject → Class → Type 0
IsClass subject class = IsInPart subject.ground subject.below (class_name class)

-- the class's representative shows the fault with the type
pub record ClassShows (subject : Subject) (class : Class) (query : Labels) (rtype : RrType) (fault : Fault) : Type 0 where
  pub is_class : IsClass subject class
  pub represents : IsRepresentative subject.ground class query
  pub shows : ShowsIn subject.config subject.rewrites query rtype fault

-- the walks along these lists of branch numbers, in order, are walks of the query that show the fault
pub record PathsShow (setting : Setting) (query : Labels) (rtype : RrType) (fault : Fault) (paths : List (List ℕ)) (walks : List Walk) : Type 0 where
  pub are_walks : map (walk_along setting query rtype) paths ≡ map Some walks
  pub show : WalksShow (with_sets setting) walks fault

-- the order of walks, and of pairs of walks by the earlier and then the later one
abbrev pub paths_cmp : List (List ℕ) → List (List ℕ) → Ordering
paths_cmp a b = slice_cmp path_cmp a b

-- the entry has the first representative in class order that shows its fault, then the first type in number order, then
-- the first walk or pair of walks
pub record IsEntry (subject : Subject) (entry : ReportEntry) : Type 0 where
  pub class : Class
  pub followed : List Labels
  pub paths : List (List ℕ)
  pub in_force : IsInForce subject.config subject.rewrites followed
  pub shown : ClassShows subject class entry.query entry.seen.rtype entry.seen.fault
  pub first_class : (other : Class) (query : Labels) (rtype : RrType) → ClassShows subject other query rtype entry.seen.fault → class_cmp other class ≢ Less
  pub first_type : (rtype : RrType) → ShowsIn subject.config subject.rewrites entry.query rtype entry.seen.fault → number_of entry.seen.rtype ≤ number_of rtype
  pub walks_show : PathsShow (following subject.config subject.rewrites followed) entry.query entry.seen.rtype entry.seen.fault paths entry.walks
  pub first_walks : (others : List (List ℕ)) (walks : List Walk) → PathsShow (following subject.config subject.rewrites followed) entry.query entry.seen.rtype entry.seen.fault others walks → paths_cmp others paths ≢ Less
  pub repeated : (first : Walk) → slice_get entry.walks 0 ≡ Some first → entry.repeats ≡ repeats first.states

-- some query at or below the name shows the fault with one of the twelve types
pub record IsShown (subject : Subject) (fault : Fault) : Type 0 where
  pub query : Labels
  pub rtype : RrType
  pub is_name : IsName query
  pub within : is_prefix subject.below query ≡ true
  pub shows : ShowsIn subject.config subject.rewrites query rtype fault

-- the part of the ground's class tree at or below a name has so many names, and with the classes below them that aren't
-- empty so many classes
pub record IsTreeSize (ground : Ground) (above : Labels) (names classes : ℕ) : Type 0 where
  pub part : List Labels
  pub below : List Labels
  pub is_part : IsTreePart ground above part
  pub are_below : AreBelowClasses ground part below
  pub counts_names : names ≡ length part
  pub counts_classes : classes ≡ length part + length below

-- the report is that of the subject
pub record IsReport (subject : Subject) (report : Report) : Type 0 where
  pub size : IsTreeSize subject.ground subject.below report.names report.classes
  pub limit : report.rewrites ≡ subject.rewrites
  pub ordered : AllPairs (λ a b. fault_cmp a.seen.fault b.seen.fault ≡ Less) report.entries
  pub each_right : AllByRecursion (IsEntry subject) report.entries
  pub each_shown : AllByRecursion (λ entry. IsShown subject entry.seen.fault) report.entries
  pub all_shown : (fault : Fault) → IsShown subject fault → Contains (map (λ entry. entry.seen.fault) report.entries) fault
