-- Two ends are equal exactly where they are one.
use Rattle.std.proofs.Common.{◌≡◌, true, refl, ap, subst}
use Rattle.std.specs.Prelude.{◌↔◌, ◌&&◌}
use Rattle.std.proofs.lemmas.Bool.{and_parts, and_from, eqb-true, eq-eqb}
use Rattle.std.specs.Cmp.Lexicographic.{pointwise_decides}
use Rattle.dns_data.specs.Name.{name_eq}
use Rattle.dns_data.specs.RrType.{number_of, type_eq}
use Rattle.dns_data.proofs.EqualData.{equal_is_same}
use Rattle.graph_form.proofs.ShownKinds.{name_itself, place_itself, same_name, same_place}
use Rattle.net_model.specs.declared.walk.Leaf.{Leaf}
use Rattle.net_model.specs.declared.walk.Leaf.TheVariants.{Answer, NoData, NxDomain, Outside, Unhosted, Lame, Limit, Overlong, NoAddress}
use Rattle.net_model.proofs.FaultOrder.{one_type}
use Rattle.site_checks.specs.Ends.{leaf_eq, end_eq}
use Rattle.site_checks.specs.declared.views.TypedEnd.{TypedEnd}

same_leaf : (a b : Leaf) → leaf_eq a b ≡ true → a ≡ b
same_leaf (Answer a) (Answer b) e = ap Answer ((pointwise_decides (λ x y. equal_is_same x y) a b).0 e)
same_leaf NoData NoData e = refl
same_leaf NxDomain NxDomain e = refl
same_leaf Outside Outside e = refl
same_leaf (Unhosted a) (Unhosted b) e = ap Unhosted (same_name a b e)
same_leaf (Lame a) (Lame b) e = ap Lame (same_name a b e)
same_leaf (Limit a) (Limit b) e = ap Limit (same_place a b e)
same_leaf (Overlong a) (Overlong b) e = ap Overlong (same_place a b e)
same_leaf (NoAddress a) (NoAddress b) e = ap NoAddress (same_name a b e)
same_leaf a b e = cc

leaf_itself : (a : Leaf) → leaf_eq a a ≡ true
leaf_itself (Answer a) = (pointwise_decides (λ x y. equal_is_same x y) a a).1 refl
leaf_itself NoData = refl
leaf_itself NxDomain = refl
leaf_itself Outside = refl
leaf_itself (Unhosted a) = name_itself a
leaf_itself (Lame a) = name_itself a
leaf_itself (Limit a) = place_itself a
leaf_itself (Overlong a) = place_itself a
leaf_itself (NoAddress a) = name_itself a

same_end : (a b : TypedEnd) → end_eq a b ≡ true → a ≡ b
same_end a b e =
    let two = and_parts (type_eq a.rtype b.rtype && name_eq a.server b.server) (leaf_eq a.leaf b.leaf) e in
    let one = and_parts (type_eq a.rtype b.rtype) (name_eq a.server b.server) two.0 in
    by (one_type a.rtype b.rtype (eqb-true (number_of a.rtype) (number_of b.rtype) one.0)) (same_name a.server b.server one.1) (same_leaf a.leaf b.leaf two.1)
  where
    by : a.rtype ≡ b.rtype → a.server ≡ b.server → a.leaf ≡ b.leaf → a ≡ b
    by rtype server leaf = λ i. record { rtype = rtype i; server = server i; leaf = leaf i }

end_itself : (a : TypedEnd) → end_eq a a ≡ true
end_itself a =
    and_from (type_eq a.rtype a.rtype && name_eq a.server a.server) (leaf_eq a.leaf a.leaf)
    (and_from (type_eq a.rtype a.rtype) (name_eq a.server a.server) (eq-eqb (number_of a.rtype) (number_of a.rtype) refl) (name_itself a.server)) (leaf_itself a.leaf)

-- the test of equal ends passes exactly if the ends are the same
pub end_decides : (a b : TypedEnd) → (end_eq a b ≡ true) ↔ (a ≡ b)
end_decides a b = (same_end a b, λ e. subst (λ (other : TypedEnd). end_eq a other ≡ true) e (end_itself a))
