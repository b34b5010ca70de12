-- What is kept of the records before one, when one more stands before.
use Rattle.std.proofs.Common.{◌≡◌, Bool, true, false, not, ◌||◌, ◌&&◌, List, [], ◌∷◌, ◌++◌, refl, ap, sym, ◌∙◌}
use Rattle.std.proofs.Math.Bool.{and-false, or-false}
use Rattle.std.proofs.lemmas.Bool.{or_parts}
use Rattle.std.proofs.lemmas.List.Folds.{list_any-append}
use Rattle.std.specs.List.{list_any}
use Rattle.dns_data.specs.Name.{Labels, name_eq}
use Rattle.dns_data.specs.declared.rdata.Rr.{Rr}
use Rattle.dns_data.specs.declared.rr_type.RrType.TheVariants as types
use Rattle.dns_data.proofs.Names.{name_eq_decides}
use Rattle.zone_rules.specs.Apex.{is_type}
use Rattle.zone_rules.specs.Before.{has_name, is_watched, IsSummaryOf}
use Rattle.zone_rules.specs.declared.rules.Before.{Before}

-- a test of the records before, and of one more
any-more : (test : Rr → Bool) (before : List Rr) (rr : Rr) (old : Bool) → old ≡ list_any test before → (old || test rr) ≡ list_any test (before ++ rr ∷ [])
any-more test before rr old is =
    (λ j. is j || sym (or-false (test rr)) j) ∙ sym (list_any-append test before (rr ∷ []))

-- an owner that may have a rival is the next one's where it may have one too
put-rival : (may_have : Labels → Bool) (owner other : Labels) (b has_rival test : Bool) → name_eq owner other ≡ b → has_rival ≡ may_have other → may_have owner ≡ true → (b && (has_rival && test)) ≡ (b && test)
put-rival may_have owner other true has_rival test e is may =
    ap (λ rival. rival && test) (is ∙ (ap may_have (sym ((name_eq_decides owner other).0 e)) ∙ may))
put-rival may_have owner other false has_rival test e is may = refl

-- what is kept when the record was put stands for the records before and it
module _ (may_have : Labels → Bool) (old new : Before) (before : List Rr) (rr : Rr) (has_rival : Bool) (is : has_rival ≡ may_have rr.owner) (stands : IsSummaryOf may_have old before) where
  more-at : (test : Rr → Bool) (owner : Labels) (was now : Bool) → may_have owner ≡ true → now ≡ (was || (name_eq owner rr.owner && (has_rival && test rr))) → was ≡ list_any (λ other. name_eq owner other.owner && test other) before
      → now ≡ list_any (λ other. name_eq owner other.owner && test other) (before ++ rr ∷ [])
  more-at test owner was now may grown said =
      grown
      ∙ (ap (λ b. was || b) (put-rival may_have owner rr.owner (name_eq owner rr.owner) has_rival (test rr) refl is may)
      ∙ any-more (λ other. name_eq owner other.owner && test other) before rr was said)

  -- what is kept stands for the records before and one more, if each of its four parts tells of that record too
  pub put-stands :
      new.has_soa ≡ (old.has_soa || is_type types.Soa rr)
      → ((query : Labels) → has_name new.cnames query ≡ (has_name old.cnames query || (name_eq query rr.owner && (has_rival && is_type types.Cname rr))))
      → ((query : Labels) → has_name new.others query ≡ (has_name old.others query || (name_eq query rr.owner && (has_rival && not (is_type types.Cname rr)))))
      → ((query : Labels) → has_name new.dnames query ≡ (has_name old.dnames query || (name_eq query rr.owner && is_type types.Dname rr)))
      → IsSummaryOf may_have new (before ++ rr ∷ [])
  put-stands soa cnames others dnames = record {
    has_soa = soa ∙ any-more (is_type types.Soa) before rr old.has_soa stands.has_soa;
    cnames = λ owner may. more-at (is_type types.Cname) owner (has_name old.cnames owner) (has_name new.cnames owner) may (cnames owner) (stands.cnames owner may);
    others = λ owner may. more-at (λ other. not (is_type types.Cname other)) owner (has_name old.others owner) (has_name new.others owner) may (others owner) (stands.others owner may);
    dnames = λ owner.
        dnames owner
        ∙ any-more (λ other. name_eq owner other.owner && is_type types.Dname other) before rr (has_name old.dnames owner) (stands.dnames owner);
  }

-- a record that has no rival and isn't watched changes nothing of what is kept
pub passed-stands : (may_have : Labels → Bool) (kept : Before) (before : List Rr) (rr : Rr) → false ≡ may_have rr.owner → is_watched rr ≡ false → IsSummaryOf may_have kept before → IsSummaryOf may_have kept (before ++ rr ∷ [])
passed-stands may_have kept before rr none plain stands =
    put-stands may_have kept kept before rr false none stands
    (sym (or-false kept.has_soa) ∙ ap (λ b. kept.has_soa || b) (sym soa))
    (λ query. beside (has_name kept.cnames query) (name_eq query rr.owner) false refl)
    (λ query. beside (has_name kept.others query) (name_eq query rr.owner) false refl)
    (λ query. beside (has_name kept.dnames query) (name_eq query rr.owner) (is_type types.Dname rr) dname) where
      soa : is_type types.Soa rr ≡ false
      soa = (or_parts (is_type types.Soa rr) (is_type types.Ns rr || is_type types.Dname rr) plain).0

      dname : is_type types.Dname rr ≡ false
      dname = (or_parts (is_type types.Ns rr) (is_type types.Dname rr) (or_parts (is_type types.Soa rr) (is_type types.Ns rr || is_type types.Dname rr) plain).1).1

      beside : (was is_owner test : Bool) → test ≡ false → was ≡ (was || (is_owner && test))
      beside was is_owner test fails = sym (ap (λ b. was || (is_owner && b)) fails ∙ (ap (λ b. was || b) (and-false is_owner) ∙ or-false was))
