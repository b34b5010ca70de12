-- What no data and one datum tell.
use Rattle.std.proofs.Common.{◌≡◌, Bool, true, false, cond, List, [], ◌∷◌, Some, Bor, filter, sym, refl, ap, ◌∙◌, true≢false}
use Rattle.std.specs.List.{list_any, filter_map}
use Rattle.std.proofs.Math.Bool.{or-false}
use Rattle.std.proofs.lemmas.Bool.{eq-eqb, or_left}
use Rattle.std.proofs.lemmas.Cmp.{nat_eq_equiv}
use Rattle.std.proofs.lemmas.Map.Views.{any-filter_same}
use Rattle.dns_data.proofs.Sets.{bit_of}
use Rattle.dns_data.specs.Name.{name_cmp}
use Rattle.dns_data.specs.Rdata.{has_type, type_of_data}
use Rattle.dns_data.specs.RrType.{type_eq, number_of}
use Rattle.dns_data.specs.declared.rdata.Rdata.{Rdata}
use Rattle.dns_data.specs.declared.rr_type.RrType.{RrType}
use Rattle.dns_data.specs.declared.rr_type.RrType.TheVariants.{Ns}
use Rattle.net_model.specs.Order.{in_order}
use Rattle.net_model.specs.Zone.{target_of}
use Rattle.zone_tree.specs.OwnedData.{written_out, HaveSameData}
use Rattle.zone_tree.specs.Records.{Set, TellsData}
use Rattle.zone_tree.specs.declared.owned_data.OwnedForm.TheVariants.{Nothing, OneDatum}
use Rattle.zone_tree.specs.declared.owned_lists.OwnedLists.{OwnedLists}
use Rattle.zone_tree.proofs.Types.{set_of_one}

-- lists of which a filter leaves the same pass its test alike
same_any : {A : Type 0} (test : A → Bool) (xs ys : List A) → filter test xs ≡ filter test ys → list_any test xs ≡ list_any test ys
same_any test xs ys same =
    sym (any-filter_same test test true (λ x passes. passes) xs) ∙ ap (list_any test) same ∙ any-filter_same test test true (λ x passes. passes) ys

-- data that are alone but for some that have no type of the twelve are alone
pub alone : (all later : List Rdata) (rdata : Rdata) → HaveSameData all (rdata ∷ later) → HaveSameData later [] → HaveSameData all (rdata ∷ [])
alone all later rdata same none = record {
  each = λ rtype. same.each rtype ∙ ap (λ (xs : List Rdata). cond (has_type rtype rdata) (rdata ∷ xs) xs) (none.each rtype);
}

-- if a name has no data of the twelve types, nothing tells of its data
pub nothing_told : (lists : OwnedLists) (all : List Rdata) → HaveSameData all [] → TellsData all (written_out lists Nothing)
nothing_told lists all same =
    let none : (rtype : RrType) → list_any (has_type rtype) all ≡ false = λ rtype. same_any (has_type rtype) all [] (same.each rtype) in
    record {
      types = λ rtype. bit_of (λ other. false) rtype ∙ sym (none rtype);
      servers = ap (λ (xs : List Rdata). in_order name_cmp (filter_map target_of xs)) (sym (same.each Ns));
      sets = record { each = tt; every = λ rtype some. absurd (true≢false (sym some ∙ none rtype)) };
    }

-- one datum of a type has that type alone
type_of_one : (own : RrType) (rdata : Rdata) → type_of_data rdata ≡ Some own → (rtype : RrType) → has_type rtype rdata ≡ type_eq own rtype
type_of_one own rdata is rtype = rw is (nat_eq_equiv.symm (number_of rtype) (number_of own))

-- one datum of a type other than NS is told by its type and itself
pub one_told : (lists : OwnedLists) (all : List Rdata) (own : RrType) (rdata : Bor Rdata) → HaveSameData all (rdata.now ∷ []) → type_of_data rdata.now ≡ Some own → type_eq own Ns ≡ false
    → TellsData all (written_out lists (OneDatum own rdata))
one_told lists all own rdata same is other =
    let set : Set = record { rtype = own; first = rdata; several = [] } in
    let has : (rtype : RrType) → has_type rtype rdata.now ≡ type_eq own rtype = type_of_one own rdata.now is in
    let kept : (rtype : RrType) (there : Bool) → has_type rtype rdata.now ≡ there → filter (has_type rtype) all ≡ cond there (rdata.now ∷ []) [] =
    λ rtype there e. same.each rtype ∙ ap (λ (b : Bool). cond b (rdata.now ∷ []) []) e in
    let told : (rtype : RrType) → type_eq own rtype ≡ list_any (has_type rtype) all =
    λ rtype. sym (has rtype) ∙ sym (or-false (has_type rtype rdata.now)) ∙ sym (same_any (has_type rtype) all (rdata.now ∷ []) (same.each rtype)) in
    record {
      types = λ rtype. bit_of (type_eq own) rtype ∙ told rtype;
      servers = ap (λ (xs : List Rdata). in_order name_cmp (filter_map target_of xs)) (sym (kept Ns false (has Ns ∙ other)));
      sets = record {
        each = (set_of_one all set (kept own true (has own ∙ eq-eqb (number_of own) (number_of own) refl)) refl, tt);
        every = λ rtype some. or_left (type_eq own rtype) false (told rtype ∙ some);
      };
    }
