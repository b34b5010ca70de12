-- The reports of parts merged into one.
use Rattle.std.specs.Prelude.{◌≡◌, ◌⊎◌, ℕ, ◌+◌, ◌≤◌, ◌^◌, Bool, true, false, ◌&&◌, not, ◌==◌, List, length, [], ◌∷◌, ◌++◌, map, codes, sum_by, Option, Some, None, is_some, Result, Ok, Err, if◌then◌else◌}
use Rattle.std.specs.List.{flat_map}
use Rattle.std.specs.Ordering.{is_lt}
use Rattle.std.specs.declared.cmp.Ordering.{Ordering}
use Rattle.dns_data.specs.Name.{Labels, name_cmp, name_eq}
use Rattle.graph_form.specs.FirstFaults.{AreFirsts}
use Rattle.net_model.specs.Class.{class_cmp}
use Rattle.net_model.specs.declared.fault.Fault.{Fault}
use Rattle.serde_json.specs.Data.{Data, number, unsigned}
use Rattle.serde_json.specs.Written.{compact_text, has_float}
use Rattle.report_json.specs.Json.{array_of, object_of}
use Rattle.part_form.specs.declared.fault.MergeFault.{MergeFault}
use Rattle.part_form.specs.declared.fault.MergeFault.TheVariants.{OtherRewrites, NotNext, NotLast, TooMany, NoMemory}
use Rattle.part_form.specs.declared.merging.MergedText.{MergedText}
use Rattle.part_form.specs.Stated.{EntryStated, PartStated}

-- ---- bounds that follow each other

-- where the next report begins: at this name, or at the root where none was merged yet; behind the one without an end
-- nothing begins
abbrev pub Next : Type 0
Next = Option (Option Labels)

-- two bounds are one
abbrev pub bound_eq : Option Labels → Option Labels → Bool
bound_eq None None = true
bound_eq (Some a) (Some b) = name_eq a b
bound_eq a b = false

-- a report with this bound begins there
abbrev pub begins : Next → Option Labels → Bool
begins None from = false
begins (Some at) from = bound_eq at from

-- the one bound is before the other, if there are both
abbrev pub rises : Option Labels → Option Labels → Bool
rises (Some from) (Some to) = is_lt (name_cmp from to)
rises from to = true

-- where the report behind one with this end begins
abbrev pub behind : Option Labels → Next
behind None = None
behind (Some to) = Some (Some to)

-- why the reports aren't those of parts, counted from this number, that follow each other from here to the end: the first
-- that has other rewrites or doesn't follow, or that the last has an end
abbrev pub apart_from : ℕ → ℕ → Next → List PartStated → Option MergeFault
apart_from count rewrites next [] = if is_some next then Some NotLast else None
apart_from count rewrites next (part ∷ parts) =
    if not (part.rewrites == rewrites) then Some (OtherRewrites count)
    else (if not (begins next part.from && rises part.from part.to) then Some (NotNext count)
    else apart_from (count + 1) rewrites (behind part.to) parts)

-- how many rewrites a query may use, by the first of the reports
abbrev pub first_rewrites : List PartStated → ℕ
first_rewrites [] = 0
first_rewrites (part ∷ parts) = part.rewrites

-- why the reports aren't those of all parts, from the root to the end
abbrev pub apart : List PartStated → Option MergeFault
apart parts = apart_from 0 (first_rewrites parts) (Some None) parts

-- ---- what is merged

-- the fault of an entry
abbrev pub stated_fault : EntryStated → Fault
stated_fault entry = entry.fault

-- how entries of one fault stand to each other: by their classes
abbrev pub stated_order : EntryStated → EntryStated → Ordering
stated_order a b = class_cmp a.class b.class

-- all entries of the reports
abbrev pub all_entries : List PartStated → List EntryStated
all_entries parts = flat_map (λ part. part.entries) parts

-- the JSON value of the report with these counts and values of entries
abbrev pub merged_value : ℕ → ℕ → ℕ → List Data → Data
merged_value classes names rewrites entries = object_of (
    (codes "classes", number (unsigned classes))
    ∷ (codes "faults", array_of entries)
    ∷ (codes "names", number (unsigned names))
    ∷ (codes "rewrites", number (unsigned rewrites)) ∷ [])

-- the JSON value of the reports merged, with the first entry of each fault
abbrev pub merged_of : List PartStated → List EntryStated → Data
merged_of parts first =
    merged_value (sum_by (λ part. part.classes) parts) (sum_by (λ part. part.names) parts) (first_rewrites parts) (map (λ entry. entry.value) first)

-- What is merged: of each fault it has the entry with the least class. The text is that of its value, where that has no
-- number with a fraction or an exponent; no report has one.
pub record IsMergedText (parts : List PartStated) (merged : MergedText) : Type 0 where
  pub together : apart parts ≡ None
  pub first : List EntryStated
  pub are_first : AreFirsts stated_fault stated_order (all_entries parts) first
  pub text_is : has_float (merged_of parts first) ≡ false → merged.text ≡ compact_text (merged_of parts first) ++ codes "\n"
  pub faults_are : merged.has_faults ≡ not (length first == 0)

-- What is answered to reports of parts: their text, or why they aren't merged. Names or classes are too many where more
-- than 64 bits would count them.
abbrev pub IsMerged : List PartStated → Result MergedText MergeFault → Type 0
IsMerged parts (Ok merged) = IsMergedText parts merged
IsMerged parts (Err NoMemory) = Unit {0}
IsMerged parts (Err TooMany) =
    (apart parts ≡ None) × ((2 ^ 64 ≤ sum_by (λ part. part.classes) parts) ⊎ (2 ^ 64 ≤ sum_by (λ part. part.names) parts))
IsMerged parts (Err fault) = apart parts ≡ Some fault
