-- Decisions on what walks have: when two values are one, and whether a list ends with an item that is so.
use Rattle.std.proofs.Common.{◌≡◌, ℕ, Bool, true, false, List, [], ◌∷◌, ◌++◌, Option, Some, None, refl, sym, ap, ◌∙◌, subst, inl, inr, arith}
use Rattle.std.proofs.lemmas.Bool.{cases_lt}
use Rattle.query_classes.proofs.Decided.{Decided, by_test, turned, both, same_name}
use Rattle.dns_data.specs.Name.{Labels}
use Rattle.dns_data.specs.Rdata.{data_eq}
use Rattle.dns_data.specs.RrType.{number_of}
use Rattle.dns_data.specs.declared.rdata.Rdata.{Rdata}
use Rattle.dns_data.specs.declared.rr_type.RrType.{RrType}
use Rattle.dns_data.proofs.EqualData.{equal_is_same}
use Rattle.graph_form.specs.FirstPath.{place_eq}
use Rattle.graph_form.proofs.ShownKinds.{same_place, place_itself}
use Rattle.net_model.specs.declared.class.Class.{Class}
use Rattle.net_model.specs.declared.class.Class.TheVariants.{Exact, Below}
use Rattle.net_model.specs.declared.place.Cut.{Cut}
use Rattle.net_model.specs.declared.place.Place.{Place}
use Rattle.net_model.specs.declared.walk.Leaf.{Leaf}
use Rattle.net_model.specs.declared.walk.Leaf.TheVariants.{Answer, NoData, NxDomain, Outside, Unhosted, Lame, Limit, Overlong, NoAddress}
use Rattle.net_model.specs.declared.walk.State.{State}
use Rattle.net_model.proofs.FaultOrder.{one_type}

module _ {X : Type 0} (P : X → Type 0) (decide : (x : X) → Decided (P x)) where
  -- the list ends with an item that has the property
  abbrev pub EndsSo : List X → Type 0
  EndsSo xs = (before : List X) × (last : X) × (xs ≡ before ++ last ∷ []) × P last

  -- whether a list ends with an item that is so is decided
  pub ends_so : (xs : List X) → Decided (EndsSo xs)
  ends_so [] = inr (λ (before, last, e, p). by before last e) where
    by : (before : List X) (last : X) → [] ≡ before ++ last ∷ [] → ⊥
    by [] last e = cc
    by (x ∷ before) last e = cc
  ends_so (x ∷ []) = by (decide x) where
    no_more : (before : List X) (last : X) → [] ≡ before ++ last ∷ [] → ⊥
    no_more [] last e = cc
    no_more (y ∷ before) last e = cc

    never : (P x → ⊥) → (before : List X) (last : X) → x ∷ [] ≡ before ++ last ∷ [] → P last → ⊥
    never isnt [] last e p = let same : x ≡ last = cc in isnt (subst P (sym same) p)
    never isnt (y ∷ before) last e p = let rest : [] ≡ before ++ last ∷ [] = cc in no_more before last rest

    by : Decided (P x) → Decided (EndsSo (x ∷ []))
    by (inl p) = inl ([], x, refl, p)
    by (inr isnt) = inr (λ (before, last, e, p). never isnt before last e p)
  ends_so (x ∷ y ∷ rest) = by (ends_so (y ∷ rest)) where
    never : (EndsSo (y ∷ rest) → ⊥) → (before : List X) (last : X) → x ∷ y ∷ rest ≡ before ++ last ∷ [] → P last → ⊥
    never isnt [] last e p = cc
    never isnt (z ∷ before) last e p = let behind : y ∷ rest ≡ before ++ last ∷ [] = cc in isnt (before, last, behind, p)

    by : Decided (EndsSo (y ∷ rest)) → Decided (EndsSo (x ∷ y ∷ rest))
    by (inl (before, last, e, p)) = inl (x ∷ before, last, ap (λ (xs : List X). x ∷ xs) e, p)
    by (inr isnt) = inr (λ (before, last, e, p). never isnt before last e p)

-- ---- two values are one

-- whether two lists are equal is decided, where it is of their items
pub same_list : {X : Type 0} → ((a b : X) → Decided (a ≡ b)) → (xs ys : List X) → Decided (xs ≡ ys)
same_list same [] [] = inl refl
same_list same [] (y ∷ ys) = inr (λ e. cc)
same_list same (x ∷ xs) [] = inr (λ e. cc)
same_list {X = X} same (x ∷ xs) (y ∷ ys) = turned there back (both (same x y) (same_list same xs ys)) where
  there : (x ≡ y) × (xs ≡ ys) → x ∷ xs ≡ y ∷ ys
  there (e, f) = ap (λ (z : X). z ∷ xs) e ∙ ap (λ (zs : List X). y ∷ zs) f

  back : x ∷ xs ≡ y ∷ ys → (x ≡ y) × (xs ≡ ys)
  back e = (cc, cc)

-- whether two optional values are equal is decided, where it is of the values
pub same_option : {X : Type 0} → ((a b : X) → Decided (a ≡ b)) → (a b : Option X) → Decided (a ≡ b)
same_option same None None = inl refl
same_option same None (Some b) = inr (λ e. cc)
same_option same (Some a) None = inr (λ e. cc)
same_option {X = X} same (Some a) (Some b) = turned (ap (λ (x : X). Some x)) (λ e. cc) (same a b)

-- whether two numbers are equal is decided
pub same_number : (a b : ℕ) → Decided (a ≡ b)
same_number a b =
    elim (cases_lt a b) [
      | inl less ↦ inr (λ e. omega arith)
      | inr not_less ↦ elim (cases_lt b a) [ inl more ↦ inr (λ e. omega arith) | inr not_more ↦ inl (omega arith) ]
    ]

-- whether two truth values are equal is decided
pub same_bool : (a b : Bool) → Decided (a ≡ b)
same_bool true true = inl refl
same_bool true false = inr (λ e. cc)
same_bool false true = inr (λ e. cc)
same_bool false false = inl refl

-- whether two record types are equal is decided
pub same_type : (a b : RrType) → Decided (a ≡ b)
same_type a b = turned (one_type a b) (ap number_of) (same_number (number_of a) (number_of b))

-- whether the data of two records are equal is decided
pub same_data : (a b : Rdata) → Decided (a ≡ b)
same_data a b = by_test (data_eq a b) (equal_is_same a b).0 (equal_is_same a b).1

-- whether two places are equal is decided
pub same_places : (a b : Place) → Decided (a ≡ b)
same_places a b = by_test (place_eq a b) (same_place a b) (λ e. subst (λ (x : Place). place_eq a x ≡ true) e (place_itself a))

-- whether two zone cuts, with where they stand, are equal is decided
pub same_cut : (a b : Cut) → Decided (a ≡ b)
same_cut a b =
    turned there back (both (both (same_name a.server b.server) (same_name a.zone b.zone)) (both (same_name a.cut b.cut) (same_name a.ns b.ns)))
  where
    there : ((a.server ≡ b.server) × (a.zone ≡ b.zone)) × ((a.cut ≡ b.cut) × (a.ns ≡ b.ns)) → a ≡ b
    there ((server, zone), (cut, ns)) =
        ap (λ (x : Labels). record a { server = x }) server
        ∙ ap (λ (x : Labels). record a { server = b.server; zone = x }) zone
        ∙ ap (λ (x : Labels). record a { server = b.server; zone = b.zone; cut = x }) cut
        ∙ ap (λ (x : Labels). record b { ns = x }) ns

    back : a ≡ b → ((a.server ≡ b.server) × (a.zone ≡ b.zone)) × ((a.cut ≡ b.cut) × (a.ns ≡ b.ns))
    back e = (
      (ap (λ (x : Cut). x.server) e, ap (λ (x : Cut). x.zone) e),
      (ap (λ (x : Cut). x.cut) e, ap (λ (x : Cut). x.ns) e),
    )

-- whether two states of walks are equal is decided
pub same_state : (a b : State) → Decided (a ≡ b)
same_state a b =
    turned there back
    (both (both (both (same_name a.server b.server) (same_name a.name b.name)) (both (same_bool a.carried b.carried) (same_number a.cut b.cut)))
    (both (same_number a.used b.used) (both (same_option same_places a.last b.last) (same_option same_name a.zone b.zone))))
  where
    there : (((a.server ≡ b.server) × (a.name ≡ b.name)) × ((a.carried ≡ b.carried) × (a.cut ≡ b.cut)))
        × ((a.used ≡ b.used) × ((a.last ≡ b.last) × (a.zone ≡ b.zone))) → a ≡ b
    there (((server, name), (carried, cut)), (used, (last, zone))) =
        ap (λ (x : Labels). record a { server = x }) server
        ∙ ap (λ (x : Labels). record a { server = b.server; name = x }) name
        ∙ ap (λ (x : Bool). record a { server = b.server; name = b.name; carried = x }) carried
        ∙ ap (λ (x : ℕ). record a { server = b.server; name = b.name; carried = b.carried; cut = x }) cut
        ∙ ap (λ (x : ℕ). record b { used = x; last = a.last; zone = a.zone }) used
        ∙ ap (λ (x : Option Place). record b { last = x; zone = a.zone }) last
        ∙ ap (λ (x : Option Labels). record b { zone = x }) zone

    back : a ≡ b → (((a.server ≡ b.server) × (a.name ≡ b.name)) × ((a.carried ≡ b.carried) × (a.cut ≡ b.cut)))
        × ((a.used ≡ b.used) × ((a.last ≡ b.last) × (a.zone ≡ b.zone)))
    back e = (
      (
        (ap (λ (x : State). x.server) e, ap (λ (x : State). x.name) e),
        (ap (λ (x : State). x.carried) e, ap (λ (x : State). x.cut) e),
      ),
      (ap (λ (x : State). x.used) e, (ap (λ (x : State). x.last) e, ap (λ (x : State). x.zone) e)),
    )

-- whether two ends of walks are equal is decided
pub same_leaf : (a b : Leaf) → Decided (a ≡ b)
same_leaf (Answer a) (Answer b) = turned (ap Answer) (λ e. cc) (same_list same_data a b)
same_leaf NoData NoData = inl refl
same_leaf NxDomain NxDomain = inl refl
same_leaf Outside Outside = inl refl
same_leaf (Unhosted a) (Unhosted b) = turned (ap Unhosted) (λ e. cc) (same_name a b)
same_leaf (Lame a) (Lame b) = turned (ap Lame) (λ e. cc) (same_name a b)
same_leaf (Limit a) (Limit b) = turned (ap Limit) (λ e. cc) (same_places a b)
same_leaf (Overlong a) (Overlong b) = turned (ap Overlong) (λ e. cc) (same_places a b)
same_leaf (NoAddress a) (NoAddress b) = turned (ap NoAddress) (λ e. cc) (same_name a b)
same_leaf _ _ = inr (λ e. cc)

-- whether two classes are equal is decided
pub same_class : (a b : Class) → Decided (a ≡ b)
same_class (Exact a) (Exact b) = turned (ap Exact) (λ e. cc) (same_name a b)
same_class (Below a) (Below b) = turned (ap Below) (λ e. cc) (same_name a b)
same_class (Exact a) (Below b) = inr (λ e. cc)
same_class (Below a) (Exact b) = inr (λ e. cc)
