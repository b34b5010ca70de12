-- Names that own the same data of a type.
use Rattle.std.proofs.Common.{◌≡◌, Bool, true, false, List, [], map, refl, sym, ap, subst, ◌∙◌}
use Rattle.std.specs.Prelude.{◌||◌, Some, option_map, if◌then◌else◌}
use Rattle.std.specs.Cmp.Lexicographic.{pointwise_decides}
use Rattle.std.proofs.lemmas.Bool.{or_parts}
use lib.Pointwise.{pointwise}
use Rattle.dns_data.specs.Name.{Labels}
use Rattle.dns_data.specs.RrType.{type_eq}
use Rattle.dns_data.specs.contracts.rdata.RdataPartialEq.TheImpl as data_impl
use Rattle.dns_data.specs.declared.rdata.Rdata.{Rdata}
use Rattle.dns_data.specs.declared.rdata.Rr.{Rr}
use Rattle.dns_data.specs.declared.rr_type.RrType.{RrType}
use Rattle.dns_data.specs.declared.rr_type.RrType.TheVariants as types
use Rattle.dns_data.proofs.EqualData.{equal_is_same}
use Rattle.dns_data.proofs.Searches.{filter_none}
use Rattle.graph_form.proofs.EqualAnswers.{same_lists}
use Rattle.net_model.specs.Order.{in_order}
use Rattle.net_model.specs.Zone.{data_cmp, is_of, owns}
use Rattle.net_model.specs.declared.config.Zone.{Zone}
use Rattle.zone_tree.proofs.Types.{one_type}
use Rattle.straight_walks.specs.Answers.{AnswerOwners, outcome_with, owner_leaf, sorted_data}

-- a name that owns no data of a type has none in order
none_sorted : (zone : Zone) (owner : Labels) (rtype : RrType) → owns zone owner rtype ≡ false → sorted_data zone owner rtype ≡ []
none_sorted zone owner rtype none =
    ap (λ (rrs : List Rr). in_order data_cmp (map (λ (rr : Rr). rr.rdata) rrs)) (filter_none (is_of owner rtype) zone.rrs none)

-- where neither of two names owns data of a type both own the same
pub neither_owns : (one other : Zone) (owner others : Labels) (rtype : RrType) → (owns one owner rtype || owns other others rtype) ≡ false
    → sorted_data one owner rtype ≡ sorted_data other others rtype
neither_owns one other owner others rtype none =
    let parts = or_parts (owns one owner rtype) (owns other others rtype) none in
    none_sorted one owner rtype parts.0 ∙ sym (none_sorted other others rtype parts.1)

-- data that are found equal are the same
pub found_equal : (found others : List Rdata) → pointwise (data_impl.ghosts).eq found others ≡ true → found ≡ others
found_equal found others equal = (pointwise_decides (λ x y. equal_is_same x y) found others).0 (sym (same_lists found others) ∙ equal)

-- answers are the same where those with type CNAME are, and those of the last owners with each type
pub same_by_owners : (one other : AnswerOwners) → outcome_with one types.Cname ≡ outcome_with other types.Cname
    → ((rtype : RrType) → option_map (λ at. owner_leaf at rtype) one.last ≡ option_map (λ at. owner_leaf at rtype) other.last)
    → (rtype : RrType) → outcome_with one rtype ≡ outcome_with other rtype
same_by_owners one other cname last rtype = by (type_eq rtype types.Cname) refl where
  by : (b : Bool) → type_eq rtype types.Cname ≡ b
      → option_map (λ at. owner_leaf at rtype) (if b then Some one.own else one.last) ≡ option_map (λ at. owner_leaf at rtype) (if b then Some other.own else other.last)
  by true e = subst (λ (t : RrType). option_map (λ at. owner_leaf at t) (Some one.own) ≡ option_map (λ at. owner_leaf at t) (Some other.own)) (sym (one_type rtype types.Cname e)) cname
  by false e = last rtype
