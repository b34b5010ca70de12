-- What stands in lists stays as it is where more is put behind it.
use Rattle.std.proofs.Common.{◌≡◌, ℕ, ◌-◌, ◌<◌, ◌≤◌, Bool, false, List, [], ◌∷◌, ◌++◌, All, Bor, map, length, take, drop, get_or, sym, refl, ap, ◌∙◌, subst, append_assoc, append-nil, arith}
use Rattle.std.specs.List.{list_any}
use Rattle.std.proofs.Math.Seq.{drop-append_seam}
use Rattle.std.proofs.lemmas.List.{length-append, length-drop, drop-append-le, drop_all, take-append-le, take_all, get_or_append_left, get_or_default, get_or_push, map_push}
use Rattle.std.proofs.lemmas.List.Elements.{All-nil, All-head, All-tail, All-push}
use Rattle.dns_data.specs.Name.{Labels}
use Rattle.dns_data.specs.Rdata.{has_type}
use Rattle.dns_data.specs.RrType.{types}
use Rattle.dns_data.specs.declared.rdata.Rdata.{Rdata}
use Rattle.dns_data.specs.declared.rr_type.RrType.{RrType}
use Rattle.zone_tree.specs.OwnedData.{written_out, IsFormPut, IsFormWithin}
use Rattle.zone_tree.specs.OwnedLists.{no_parts, part_of, set_of, owned_at, owned_by, IsFront, IsPartOf, IsPut, IsPutSet, IsWithin, HaveGrown}
use Rattle.zone_tree.specs.Records.{OwnedRecords, Set, AreRecordSets, TellsData}
use Rattle.zone_tree.specs.declared.owned_data.OwnedForm.{OwnedForm}
use Rattle.zone_tree.specs.declared.owned_data.OwnedForm.TheVariants.{Nothing, OneDatum, Whole}
use Rattle.zone_tree.specs.declared.owned_lists.OwnedLists.{OwnedLists}
use Rattle.zone_tree.specs.declared.owned_lists.OwnedParts.{OwnedParts}
use Rattle.zone_tree.specs.declared.owned_lists.Part.{Part}
use Rattle.zone_tree.specs.declared.owned_lists.RecordSet.{RecordSet}
use Rattle.zone_tree.proofs.Types.{no_set, skip_type, add_type}

-- ---- fronts and parts

module _ {A : Type 0} where
  -- a list begins with its own items
  pub front_itself : (items : List A) → IsFront items items
  front_itself items = ([], sym (append-nil items))

  -- and with those of an equal one
  pub front_same : (items all : List A) → all ≡ items → IsFront items all
  front_same items all same = ([], same ∙ sym (append-nil items))

  -- a front of a front is one
  pub front_again : (items more all : List A) → IsFront items more → IsFront more all → IsFront items all
  front_again items more all (x, e) (y, f) = (x ++ y, f ∙ ap (λ (xs : List A). xs ++ y) e ∙ append_assoc items x y)

  -- a list is at least as long as its front
  pub front_shorter : (items all : List A) → IsFront items all → length items ≤ length all
  front_shorter items all (more, is) = omega (arith, length-append items more, ap (λ (xs : List A). length xs) is)

  -- a part of the front is one of the whole
  pub part_within : (items all : List A) (part : Part) → IsFront items all → IsPartOf items part → IsPartOf all part
  part_within items all part front within = record {
    ordered = within.ordered;
    within = omega (arith, within.within, front_shorter items all front);
  }

  -- and has the same items
  pub part_stays : (items all : List A) (part : Part) → IsFront items all → IsPartOf items part → part_of all part ≡ part_of items part
  part_stays items all part (more, is) within =
      ap (λ (xs : List A). part_of xs part) is
      ∙ ap (take (part.end - part.start)) (drop-append-le part.start items more (omega (arith, within.ordered, within.within)))
      ∙ take-append-le (part.end - part.start) (drop part.start items) more
      (omega (arith, within.ordered, within.within, length-drop part.start items))

  -- the part from a place up to the end has what stands behind the place
  pub part_from : (items : List A) (part : Part) → part.end ≡ length items → part_of items part ≡ drop part.start items
  part_from items part end =
      take_all (part.end - part.start) (drop part.start items) (omega (arith, end, length-drop part.start items))

  -- from the end of the front on it has what stands behind the front
  pub part_behind : (items more : List A) (part : Part) → part.start ≡ length items → part.end ≡ length (items ++ more) → part_of (items ++ more) part ≡ more
  part_behind items more part start end =
      part_from (items ++ more) part end ∙ ap (λ (n : ℕ). drop n (items ++ more)) start ∙ drop-append_seam items more

-- ---- sets, and what names own

-- a set with these data
abbrev with_data : RecordSet → List Rdata → Set
with_data set items = record { rtype = set.rtype; first = set.first; several = items }

-- sets have the same data
pub sets_stay : (several all : List Rdata) (sets : List RecordSet) → IsFront several all → All (λ set. IsPartOf several set.several) sets
    → map (set_of all) sets ≡ map (set_of several) sets
sets_stay several all [] front within = refl
sets_stay several all (set ∷ sets) front within =
    ap (λ (items : List Rdata). with_data set items ∷ map (set_of all) sets)
    (part_stays several all set.several front (All-head (λ (one : RecordSet). IsPartOf several one.several) set sets within))
    ∙ ap (λ (rest : List Set). set_of several set ∷ rest)
    (sets_stay several all sets front (All-tail (λ (one : RecordSet). IsPartOf several one.several) set sets within))

-- and lie within
pub sets_within : (several all : List Rdata) (sets : List RecordSet) → IsFront several all → All (λ set. IsPartOf several set.several) sets
    → All (λ set. IsPartOf all set.several) sets
sets_within several all sets front within = λ k d below. part_within several all (get_or sets k d).several front (within k d below)

-- behind the sets of other names stand those of the types so far, from a place on
pub record StandBehind (all : List Rdata) (left : List RrType) (others : List RecordSet) (before : List Rdata) (start : ℕ) (sets : List RecordSet)
    (several : List Rdata) : Type 0 where
  pub sets_are : IsFront others sets
  pub data_are : IsFront before several
  pub at : start ≡ length others
  pub within : All (λ set. IsPartOf several set.several) (drop start sets)
  pub own : AreRecordSets all left (map (set_of several) (drop start sets))

module _ (all : List Rdata) where
  -- before the first type there is none
  pub none_behind : (sets : List RecordSet) (several : List Rdata) (start : ℕ) → start ≡ length sets → StandBehind all types sets several start sets several
  none_behind sets several start is =
      let none : drop start sets ≡ [] = drop_all start sets (omega (arith, is)) in
      record {
        sets_are = front_itself sets;
        data_are = front_itself several;
        at = is;
        within = subst (All (λ set. IsPartOf several set.several)) (sym none) (All-nil (λ (set : RecordSet). IsPartOf several set.several));
        own = subst (λ (xs : List RecordSet). AreRecordSets all types (map (set_of several) xs)) (sym none) (no_set all);
      }

  module _ (rtype : RrType) (left : List RrType) (others : List RecordSet) (before : List Rdata) (start : ℕ) (sets : List RecordSet) (several : List Rdata)
      (stand : StandBehind all (rtype ∷ left) others before start sets several) where
    -- a type without data adds no set
    pub type_skipped : list_any (has_type rtype) all ≡ false → StandBehind all left others before start sets several
    type_skipped none = record {
      sets_are = stand.sets_are;
      data_are = stand.data_are;
      at = stand.at;
      within = stand.within;
      own = skip_type all rtype left (map (set_of several) (drop start sets)) none stand.own;
    }

    -- a type with data adds its set
    pub set_added : (more : List Rdata) (set : RecordSet) → IsFront several more → IsPutSet all rtype more set
        → StandBehind all left others before start (sets ++ set ∷ []) more
    set_added more set front put =
        let own : List RecordSet = drop start sets in
        let behind : drop start (sets ++ set ∷ []) ≡ own ++ set ∷ [] =
        drop-append-le start sets (set ∷ []) (omega (arith, stand.at, front_shorter others sets stand.sets_are)) in
        record {
          sets_are = front_again others sets (sets ++ set ∷ []) stand.sets_are (set ∷ [], refl);
          data_are = front_again before several more stand.data_are front;
          at = stand.at;
          within =
              subst (All (λ one. IsPartOf more one.several)) (sym behind)
              (All-push (λ (one : RecordSet). IsPartOf more one.several) own set (sets_within several more own front stand.within) put.within);
          own =
              subst (λ (xs : List RecordSet). AreRecordSets all left (map (set_of more) xs)) (sym behind)
              (subst (AreRecordSets all left) (sym (map_push (set_of more) own set))
              (add_type all rtype left (map (set_of more) own) (set_of more set) put.same put.tells
              (subst (AreRecordSets all (rtype ∷ left)) (sym (sets_stay several more own front stand.within)) stand.own)));
        }

-- what a name owns, of these parts
abbrev as_records : List Bool → List (Bor Labels) → List Set → OwnedRecords
as_records types servers sets = record { types = types; servers = servers; sets = sets }

module _ (old new : OwnedLists) (grown : HaveGrown old new) where
  -- what a name owns stays as it is
  owned_stays : (own : OwnedParts) → IsWithin old own → owned_by new own ≡ owned_by old own
  owned_stays own within =
      ap (λ (servers : List (Bor Labels)). as_records own.types servers (map (set_of new.several.items) (part_of new.sets.items own.sets)))
      (part_stays old.servers.items new.servers.items own.servers grown.servers within.servers)
      ∙ ap (as_records own.types (part_of old.servers.items own.servers))
      (ap (map (set_of new.several.items)) (part_stays old.sets.items new.sets.items own.sets grown.sets within.sets)
      ∙ sets_stay old.several.items new.several.items (part_of old.sets.items own.sets) grown.several within.several)

  -- and its parts lie within
  within_stays : (own : OwnedParts) → IsWithin old own → IsWithin new own
  within_stays own within = record {
    servers = part_within old.servers.items new.servers.items own.servers grown.servers within.servers;
    sets = part_within old.sets.items new.sets.items own.sets grown.sets within.sets;
    several =
        subst (All (λ set. IsPartOf new.several.items set.several)) (sym (part_stays old.sets.items new.sets.items own.sets grown.sets within.sets))
        (sets_within old.several.items new.several.items (part_of old.sets.items own.sets) grown.several within.several);
  }

  -- a form's place is one of the lists
  pub form_within : (form : OwnedForm) → IsFormWithin old form → IsFormWithin new form
  form_within Nothing within = tt
  form_within (OneDatum rtype rdata) within = tt
  form_within (Whole place) within = omega (arith, within, front_shorter old.names.items new.names.items grown.names)

  -- what a form tells stays as it is
  pub form_stays : (form : OwnedForm) → All (IsWithin old) old.names.items → IsFormWithin old form → written_out new form ≡ written_out old form
  form_stays Nothing each within = refl
  form_stays (OneDatum rtype rdata) each within = refl
  form_stays (Whole place) each within =
      ap (owned_by new)
      (ap (λ (xs : List OwnedParts). get_or xs place no_parts) grown.names.1 ∙ get_or_append_left old.names.items grown.names.0 no_parts place within)
      ∙ owned_stays (get_or old.names.items place no_parts) (each place no_parts within)

  -- and so does what forms tell
  pub forms_stay : (forms : List OwnedForm) → All (IsWithin old) old.names.items → All (IsFormWithin old) forms
      → map (written_out new) forms ≡ map (written_out old) forms
  forms_stay [] each within = refl
  forms_stay (form ∷ forms) each within =
      ap (λ (x : OwnedRecords). x ∷ map (written_out new) forms) (form_stays form each (All-head (IsFormWithin old) form forms within))
      ∙ ap (λ (xs : List OwnedRecords). written_out old form ∷ xs) (forms_stay forms each (All-tail (IsFormWithin old) form forms within))

  -- the parts of the same names lie within
  pub same_within : new.names.items ≡ old.names.items → All (IsWithin old) old.names.items → All (IsWithin new) new.names.items
  same_within names each = subst (All (IsWithin new)) (sym names) (λ k d below. within_stays (get_or old.names.items k d) (each k d below))

  -- what is put behind lies within as the others do
  pub all_within : (own : OwnedParts) → new.names.items ≡ old.names.items ++ own ∷ [] → IsWithin new own
      → All (IsWithin old) old.names.items → All (IsWithin new) new.names.items
  all_within own names within each =
      subst (All (IsWithin new)) (sym names)
      (All-push (IsWithin new) old.names.items own (λ k d below. within_stays (get_or old.names.items k d) (each k d below)) within)

-- what stands at a place of the lists
pub owned_there : (lists : OwnedLists) (place : ℕ) (own : OwnedParts) → place < length lists.names.items → own ≡ get_or lists.names.items place own
    → owned_by lists own ≡ owned_at lists place
owned_there lists place own below is = ap (owned_by lists) (is ∙ get_or_default lists.names.items place own no_parts below)

-- what is put behind has a form
pub form_put : (all : List Rdata) (old new : OwnedLists) (place : ℕ) → IsPut all old new place → IsFormPut all old new (Whole place)
form_put all old new place put = record {
  grown = put.grown;
  lists = all_within old new put.grown put.own put.names put.within;
  within = omega (arith, put.at, length-append old.names.items (put.own ∷ []), ap (λ (xs : List OwnedParts). length xs) put.names);
  tells =
      subst (TellsData all)
      (sym (ap (owned_by new) (ap (λ (xs : List OwnedParts). get_or xs place no_parts) put.names ∙ get_or_push old.names.items put.own no_parts place (sym put.at))))
      put.tells;
}

-- lists that nothing is put behind
pub same_lists : (lists : OwnedLists) → HaveGrown lists lists
same_lists lists = record {
  names = front_itself lists.names.items;
  sets = front_itself lists.sets.items;
  several = front_itself lists.several.items;
  servers = front_itself lists.servers.items;
}
