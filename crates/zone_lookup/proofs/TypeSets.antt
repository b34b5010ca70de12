-- Sets into which types are split: none, one, and one more; and the types that the records of a name answer alike.
use Rattle.std.proofs.Common.{◌≡◌, Bool, true, false, cond, not, ◌&&◌, ◌||◌, ◌⊎◌, inl, inr, List, [], ◌∷◌, ◌++◌, map, None, sym, refl, ap, ◌∙◌, true≢false, arith}
use Rattle.std.specs.List.{list_any}
use Rattle.std.proofs.lemmas.Bool.{false_from_ne_true, or_cases}
use Rattle.std.proofs.lemmas.List.Folds.{list_any-append}
use Rattle.std.proofs.Math.Bool.{or-false}
use Rattle.dns_data.specs.Name.{Labels}
use Rattle.dns_data.specs.RrType.{type_eq}
use Rattle.dns_data.specs.TypeSet.{has_bit}
use Rattle.dns_data.specs.declared.rdata.Rr.{Rr}
use Rattle.dns_data.specs.declared.rr_type.RrType.{RrType}
use Rattle.dns_data.specs.declared.rr_type.RrType.TheVariants as types
use Rattle.dns_data.proofs.Membership.{pairs_more}
use Rattle.dns_data.proofs.Names.{all_push}
use Rattle.dns_data.proofs.Searches.{any_has, filter_none}
use Rattle.net_model.specs.Lookup.{aliased, answer_of, at_name, first_name}
use Rattle.net_model.specs.Order.{in_order}
use Rattle.net_model.specs.Zone.{data_cmp, is_of, owns, targets_at}
use Rattle.net_model.specs.declared.config.Zone.{Zone}
use Rattle.zone_lookup.specs.Alike.{AreSplit, HasSome, IsApart}

-- ---- sets

-- no set for no type
pub none_are_split : (types : List Bool) → ((rtype : RrType) → has_bit types rtype ≡ false) → AreSplit (has_bit types) []
none_are_split types none = record {
  apart = λ i j d before within. absurd (omega arith);
  together = λ rtype. sym (none rtype);
  some = tt;
}

-- one set for its types
pub one_is_split : (types : List Bool) (rtype : RrType) → has_bit types rtype ≡ true → AreSplit (has_bit types) (types ∷ [])
one_is_split types rtype has = record {
  apart = λ i j d before within. absurd (omega arith);
  together = λ other. or-false (has_bit types other);
  some = ((rtype, has), tt);
}

module _ (among : RrType → Bool) (sets : List (List Bool)) (are : AreSplit among sets) where
  -- the sets of some types are those of the same types told otherwise
  pub same_split : (more : RrType → Bool) → ((rtype : RrType) → more rtype ≡ among rtype) → AreSplit more sets
  same_split more same = record { apart = are.apart; together = λ rtype. are.together rtype ∙ sym (same rtype); some = are.some }

  -- with one set more, of types that are in none
  pub split_more : (set : List Bool) → ((rtype : RrType) → has_bit set rtype ≡ true → among rtype ≡ false) → HasSome set → (more : RrType → Bool)
      → ((rtype : RrType) → more rtype ≡ (among rtype || has_bit set rtype)) → AreSplit more (sets ++ set ∷ [])
  split_more set new some more both = record {
    apart = pairs_more IsApart sets set are.apart
        (λ old has rtype bit. false_from_ne_true (has_bit set rtype)
        (λ also. true≢false (sym (sym (are.together rtype) ∙ any_has (λ (s : List Bool). has_bit s rtype) sets old has bit) ∙ new rtype also)));
    together = λ rtype. list_any-append (λ (s : List Bool). has_bit s rtype) sets (set ∷ [])
        ∙ ap (λ (b : Bool). b || (has_bit set rtype || false)) (are.together rtype)
        ∙ ap (λ (b : Bool). among rtype || b) (or-false (has_bit set rtype))
        ∙ sym (both rtype);
    some = all_push HasSome sets set are.some some;
  }

-- what is left of some types are those that weren't taken
pub not_left : (asked taken left : Bool) → (taken ≡ true → asked ≡ true) → left ≡ (asked && not taken) → (asked && not left) ≡ taken
not_left true true left within is = ap not is
not_left true false left within is = ap not is
not_left false true left within is = within refl
not_left false false left within is = refl

-- one type more is taken
pub one_more : (asked left this after : Bool) → (this ≡ true → asked ≡ true) → after ≡ (left && not this)
    → (asked && not after) ≡ ((asked && not left) || this)
one_more true true true after within is = ap not is
one_more true true false after within is = ap not is
one_more true false true after within is = ap not is
one_more true false false after within is = ap not is
one_more false left true after within is = absurd (true≢false (sym (within refl)))
one_more false left false after within is = refl

-- a type that is among some types and one more is among them, or is that one
pub passed_or_this : (passed rtypes : List RrType) (this rtype : RrType) → rtypes ≡ passed ++ this ∷ []
    → list_any (λ other. type_eq other rtype) rtypes ≡ true → (list_any (λ other. type_eq other rtype) passed ≡ true) ⊎ (type_eq this rtype ≡ true)
passed_or_this passed rtypes this rtype is has =
    elim (or_cases (list_any (λ other. type_eq other rtype) passed) (type_eq this rtype || false)
    (sym (ap (list_any (λ other. type_eq other rtype)) is ∙ list_any-append (λ other. type_eq other rtype) passed (this ∷ [])) ∙ has)) [
      | inl before ↦ inl before
      | inr now ↦ inr (sym (or-false (type_eq this rtype)) ∙ now)
    ]

-- ---- what records answer

module _ (zone : Zone) (owner : Labels) where
  -- without an alias and without data of the type there are no data to answer
  pub no_data : first_name (targets_at zone owner types.Cname) ≡ None → (rtype : RrType) → owns zone owner rtype ≡ false → at_name zone owner rtype ≡ answer_of []
  no_data no_alias rtype none =
      ap (aliased zone owner rtype) (by (type_eq rtype types.Cname))
      ∙ ap (λ (all : List Rr). answer_of (in_order data_cmp (map (λ rr. rr.rdata) all))) (filter_none (is_of owner rtype) zone.rrs none)
    where
      by : (b : Bool) → cond b None (first_name (targets_at zone owner types.Cname)) ≡ None
      by true = refl
      by false = no_alias
