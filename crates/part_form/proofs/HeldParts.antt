-- The first entries as the code holds them are the first of those that the reports state.
use Rattle.std.proofs.Common.{◌≡◌, ◌∙◌, ℕ, List, [], ◌∷◌, ◌++◌, map, flat_map, sum_by, Contains, sym, refl, ap, subst}
use Rattle.std.specs.Prelude.{sum}
use Rattle.std.specs.declared.cmp.Ordering.TheVariants.{Less}
use Rattle.std.proofs.lemmas.List.{map-append}
use Rattle.std.proofs.lemmas.List.Folds.{flat_map-map}
use Rattle.std.proofs.lemmas.List.Sums.{sum-map}
use Rattle.std.proofs.lemmas.Simd.{map-map}
use Rattle.dns_data.proofs.Membership.{map_has, from_map, pairs_of_images}
use Rattle.graph_form.specs.FirstFaults.{AreFirsts}
use Rattle.net_model.specs.Class.{class_cmp}
use Rattle.net_model.specs.FaultOrder.{fault_cmp}
use Rattle.serde_json.specs.View.{view}
use Rattle.part_form.specs.Merging.{all_entries, first_rewrites, merged_of, merged_value, stated_fault, stated_order}
use Rattle.part_form.specs.Stated.{EntryStated, PartStated, held_entries, held_fault, held_order, entry_of, part_of}
use Rattle.part_form.specs.declared.entries.StatedEntry.{StatedEntry}
use Rattle.part_form.specs.declared.stated.StatedPart.{StatedPart}

-- a sum over a list of images is one over the list
pub sum_mapped : {A B : Type 0} (f : B → ℕ) (g : A → B) (xs : List A) → sum_by f (map g xs) ≡ sum_by (λ x. f (g x)) xs
sum_mapped f g xs = sym (sum-map f (map g xs)) ∙ ap sum (map-map f g xs) ∙ sum-map (λ x. f (g x)) xs

-- so many classes are stated as are held
pub same_classes : (parts : List StatedPart) → sum_by (λ (p : PartStated). p.classes) (map part_of parts) ≡ sum_by (λ (p : StatedPart). p.classes) parts
same_classes parts = sum_mapped (λ (p : PartStated). p.classes) part_of parts

-- and so many names
pub same_names : (parts : List StatedPart) → sum_by (λ (p : PartStated). p.names) (map part_of parts) ≡ sum_by (λ (p : StatedPart). p.names) parts
same_names parts = sum_mapped (λ (p : PartStated). p.names) part_of parts

-- what each item gives, mapped
pub flat_mapped : {A B C : Type 0} (f : A → List B) (g : B → C) (xs : List A) → map g (flat_map f xs) ≡ flat_map (λ x. map g (f x)) xs
flat_mapped f g [] = refl
flat_mapped f g (x ∷ xs) = map-append g (f x) (flat_map f xs) ∙ ap (λ ys. map g (f x) ++ ys) (flat_mapped f g xs)

-- all entries that are stated are those that are held
pub same_entries : (parts : List StatedPart) → map entry_of (held_entries parts) ≡ all_entries (map part_of parts)
same_entries parts =
    flat_mapped (λ (p : StatedPart). p.entries) entry_of parts ∙ sym (flat_map-map (λ (p : PartStated). p.entries) part_of parts)

-- the fault of one entry is before that of the other
abbrev Earlier : EntryStated → EntryStated → Type 0
Earlier a b = fault_cmp a.fault b.fault ≡ Less

-- the first entries that are held are the first of those that are stated
pub same_firsts : (held first : List StatedEntry) → AreFirsts held_fault held_order held first
    → AreFirsts stated_fault stated_order (map entry_of held) (map entry_of first)
same_firsts held first firsts = record {
  ordered = pairs_of_images entry_of Earlier first firsts.ordered;
  from = λ entry has. (let (own, among, is) = from_map entry_of first entry has in
      subst (Contains (map entry_of held)) is (map_has entry_of held own (firsts.from own among)));
  covers = λ entry has. (let (own, among, is) = from_map entry_of held entry has in
      let ranked = firsts.covers own among in
      record {
        by = entry_of ranked.by;
        has = map_has entry_of first ranked.by ranked.has;
        fault_is = ranked.fault_is ∙ ap (λ (e : EntryStated). e.fault) is;
        not_later = λ less. ranked.not_later (ap (λ (e : EntryStated). class_cmp e.class ranked.by.class) is ∙ less);
      });
}

-- the value of what is stated is that of what is held
pub same_value : (parts : List StatedPart) (entries : List StatedEntry) (classes names rewrites : ℕ)
    → sum_by (λ (p : PartStated). p.classes) (map part_of parts) ≡ classes
    → sum_by (λ (p : PartStated). p.names) (map part_of parts) ≡ names
    → first_rewrites (map part_of parts) ≡ rewrites
    → merged_of (map part_of parts) (map entry_of entries) ≡ merged_value classes names rewrites (map (λ (e : StatedEntry). view e.value) entries)
same_value parts entries classes names rewrites is_classes is_names is_rewrites =
    let values = map-map (λ (e : EntryStated). e.value) entry_of entries in
    λ i. merged_value (is_classes i) (is_names i) (is_rewrites i) (values i)
