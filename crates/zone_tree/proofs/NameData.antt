-- What a name owns in a zone is told by all its data.
use Rattle.std.proofs.Common.{◌≡◌, Bool, true, false, cond, ◌&&◌, ◌||◌, List, [], ◌∷◌, map, filter, Option, Some, refl, ap}
use Rattle.std.specs.List.{list_any, cons_option}
use Rattle.dns_data.specs.Name.{Labels, name_eq}
use Rattle.dns_data.specs.Rdata.{has_type}
use Rattle.dns_data.specs.declared.rdata.Rdata.{Rdata}
use Rattle.dns_data.specs.declared.rdata.Rr.{Rr}
use Rattle.dns_data.specs.declared.rr_type.RrType.{RrType}
use Rattle.net_model.specs.Zone.{is_of, target_of}
use Rattle.zone_tree.specs.Records.{data_of, targets_of}

module _ (name : Labels) (rtype : RrType) where
  -- a record of the name and the type is one of the type among the name's data
  pub owned : (rrs : List Rr) → list_any (is_of name rtype) rrs ≡ list_any (has_type rtype) (data_of rrs name)
  owned [] = refl
  owned (rr ∷ rrs) = by (name_eq rr.owner name) (owned rrs) where
    by : (b : Bool) → list_any (is_of name rtype) rrs ≡ list_any (has_type rtype) (data_of rrs name)
        → ((b && has_type rtype rr.rdata) || list_any (is_of name rtype) rrs)
        ≡ list_any (has_type rtype) (map (λ (r : Rr). r.rdata) (cond b (rr ∷ filter (λ (r : Rr). name_eq r.owner name) rrs) (filter (λ (r : Rr). name_eq r.owner name) rrs)))
    by true rest = ap (λ (b : Bool). has_type rtype rr.rdata || b) rest
    by false rest = rest

  -- the data of a name's records of a type are those of this type among the name's data
  pub data_of_type : (rrs : List Rr) → map (λ (rr : Rr). rr.rdata) (filter (is_of name rtype) rrs) ≡ filter (has_type rtype) (data_of rrs name)
  data_of_type [] = refl
  data_of_type (rr ∷ rrs) = by (name_eq rr.owner name) (has_type rtype rr.rdata) refl (data_of_type rrs) where
    by : (b t : Bool) → has_type rtype rr.rdata ≡ t → map (λ (r : Rr). r.rdata) (filter (is_of name rtype) rrs) ≡ filter (has_type rtype) (data_of rrs name)
        → map (λ (r : Rr). r.rdata) (cond (b && t) (rr ∷ filter (is_of name rtype) rrs) (filter (is_of name rtype) rrs))
        ≡ filter (has_type rtype) (map (λ (r : Rr). r.rdata) (cond b (rr ∷ filter (λ (r : Rr). name_eq r.owner name) rrs) (filter (λ (r : Rr). name_eq r.owner name) rrs)))
    by true true e rest = rw e (ap (λ (xs : List Rdata). rr.rdata ∷ xs) rest)
    by true false e rest = rw e rest
    by false t e rest = rest

-- the target of the first data of a type is the first target
pub target_first : (rtype : RrType) (rdata : Rdata) (rest : List Rdata) (target : Labels) → has_type rtype rdata ≡ true → target_of rdata ≡ Some target
    → targets_of (rdata ∷ rest) rtype ≡ target ∷ targets_of rest rtype
target_first rtype rdata rest target is has = rw is (ap (λ (o : Option Labels). cons_option o (targets_of rest rtype)) has)
