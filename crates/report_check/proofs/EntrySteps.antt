-- The walks of an entry, in its value.
use Rattle.std.proofs.Common.{◌≡◌, List, [], ◌∷◌, map, codes, Some, refl, sym, ap, ◌∙◌, inl, inr}
use Rattle.std.specs.Prelude.{◌⊎◌}
use Rattle.std.specs.List.{AllByRecursion}
use Rattle.dns_data.specs.Name.{Labels}
use Rattle.dns_data.specs.declared.rr_type.RrType.{RrType}
use Rattle.graph_form.specs.declared.report.ReportEntry.{ReportEntry}
use Rattle.meta_read.specs.Members.{list_at, values_of}
use Rattle.net_model.specs.Shown.{WalksShow, with_sets}
use Rattle.net_model.specs.Step.{Setting}
use Rattle.net_model.specs.Walk.{IsWalk}
use Rattle.net_model.specs.declared.fault.Fault.{Fault}
use Rattle.net_model.specs.declared.walk.Walk.{Walk}
use Rattle.report_json.specs.Json.{json_items}
use Rattle.report_json.specs.Report.{entry_value}
use Rattle.report_json.specs.Walks.{walk_value}
use Rattle.serde_json.specs.Data.{Data}
use Rattle.report_check.specs.Entries.{ByOne, ByTwo, ByWalks, IsShownBy, entry_with, first_repeats}

-- an array made of values has these values
pub values_of_items : (values : List Data) → values_of (json_items values) ≡ values
values_of_items [] = refl
values_of_items (value ∷ values) = ap (λ rest. value ∷ rest) (values_of_items values)

-- the list at `walks` has the values of the entry's walks
steps_of : (entry : ReportEntry) → list_at (codes "walks") (entry_value entry) ≡ Some (map walk_value entry.walks)
steps_of entry = ap Some (values_of_items (map walk_value entry.walks))

module _ (setting : Setting) (query : Labels) (rtype : RrType) (value : Data) where
  -- the values of the walks by which it is shown
  steps_are : (steps : List Data) (walks : List Walk) → list_at (codes "walks") value ≡ Some steps → IsShownBy setting query rtype walks value → steps ≡ map walk_value walks
  steps_are steps walks at shown =
      let same : Some steps ≡ Some (map walk_value walks) =
      sym at ∙ ap (list_at (codes "walks")) shown.is ∙ steps_of (entry_with query rtype (first_repeats walks) walks shown.fault) in
      cc

  -- ---- one

  -- an entry that is shown by a walk is shown by walks
  pub one_by_walks : (steps : Data) → ByOne setting query rtype steps value → ByWalks setting query rtype value
  one_by_walks steps by = record { walks = by.walk ∷ []; are_walks = (by.is_walk, tt); shown = by.shown }

  -- an entry that is shown by walks, and lists one, is shown by one
  pub walks_by_one : (steps : Data) → list_at (codes "walks") value ≡ Some (steps ∷ []) → ByWalks setting query rtype value → ByOne setting query rtype steps value
  walks_by_one steps at by = on by.walks by.are_walks by.shown (steps_are (steps ∷ []) by.walks at by.shown) where
    on : (walks : List Walk) → AllByRecursion (IsWalk setting query rtype) walks → IsShownBy setting query rtype walks value
        → steps ∷ [] ≡ map walk_value walks → ByOne setting query rtype steps value
    on [] are shown e = absurd cc
    on (walk ∷ []) are shown e = record { walk = walk; is_walk = are.0; steps_are = cc; shown = shown }
    on (walk ∷ other ∷ walks) are shown e = absurd cc

  -- ---- two

  -- an entry that is shown by two walks is shown by walks
  pub two_by_walks : (steps others : Data) → ByTwo setting query rtype steps others value → ByWalks setting query rtype value
  two_by_walks steps others by =
      record { walks = by.walk ∷ by.other ∷ []; are_walks = (by.is_walk, (by.is_other, tt)); shown = by.shown }

  -- an entry that is shown by walks, and lists two, is shown by two
  pub walks_by_two : (steps others : Data) → list_at (codes "walks") value ≡ Some (steps ∷ others ∷ []) → ByWalks setting query rtype value
      → ByTwo setting query rtype steps others value
  walks_by_two steps others at by = on by.walks by.are_walks by.shown (steps_are (steps ∷ others ∷ []) by.walks at by.shown) where
    on : (walks : List Walk) → AllByRecursion (IsWalk setting query rtype) walks → IsShownBy setting query rtype walks value
        → steps ∷ others ∷ [] ≡ map walk_value walks → ByTwo setting query rtype steps others value
    on [] are shown e = absurd cc
    on (walk ∷ []) are shown e = absurd cc
    on (walk ∷ other ∷ []) are shown e =
        record { walk = walk; is_walk = are.0; steps_are = cc; other = other; is_other = are.1.0; others_are = cc; shown = shown }
    on (walk ∷ other ∷ third ∷ walks) are shown e = absurd cc

  -- ---- another number

  -- walks that show a fault are one or two
  one_or_two : (walks : List Walk) (fault : Fault) → WalksShow (with_sets setting) walks fault
      → ((walk : Walk) × (walks ≡ walk ∷ [])) ⊎ ((walk : Walk) × (other : Walk) × (walks ≡ walk ∷ other ∷ []))
  one_or_two [] fault show = absurd show
  one_or_two (walk ∷ []) fault show = inl (walk, refl)
  one_or_two (walk ∷ other ∷ []) fault show = inr (walk, other, refl)
  one_or_two (walk ∷ other ∷ third ∷ walks) fault show = absurd show

  -- an entry whose list at `walks` has none, or more than two, is shown by no walks
  pub no_other_steps : (steps : List Data) → list_at (codes "walks") value ≡ Some steps → ((one : Data) → steps ≡ one ∷ [] → ⊥) → ((one other : Data) → steps ≡ one ∷ other ∷ [] → ⊥)
      → ByWalks setting query rtype value → ⊥
  no_other_steps steps at not_one not_two by =
      elim (one_or_two by.walks by.shown.fault by.shown.show) [
        | inl one ↦ not_one (walk_value one.0) (steps_are steps by.walks at by.shown ∙ ap (map walk_value) one.1)
        | inr two ↦ not_two (walk_value two.0) (walk_value two.1) (steps_are steps by.walks at by.shown ∙ ap (map walk_value) two.2)
      ]
