-- Faults that tie are one, and of faults seen with several types the first.
use Rattle.std.proofs.Common.{◌≡◌, ◌≢◌, ℕ, ◌≤◌, ◌-◌, ◌==◌, cond, List, [], ◌∷◌, ◌++◌, length, refl, ap, ◌∙◌, subst, inl, inr, Some, arith, length-append, lt-ltb}
use Rattle.std.specs.Prelude.{◌⊎◌, AllPairs, Contains, slice_get}
use Rattle.std.specs.Ordering.{nat_cmp, ordering_reverse}
use Rattle.std.specs.declared.cmp.Ordering.{Ordering}
use Rattle.std.specs.declared.cmp.Ordering.TheVariants.{Less, Equal, Greater}
use Rattle.std.proofs.lemmas.List.Elements.{Contains-append_right}
use Rattle.std.proofs.lemmas.Bool.{cases_lt}
use Rattle.std.proofs.lemmas.Map.Lookups.{CmpEqualImpliesEq, exact_unsigned}
use Rattle.dns_data.specs.Name.{name_cmp}
use Rattle.dns_data.specs.RrType.{number_of}
use Rattle.dns_data.proofs.Membership.{none_in_nil, first_or_later, pairs_first, pairs_rest}
use Rattle.dns_data.proofs.Names.{same_names}
use Rattle.dns_data.proofs.OrderedLists.{both_tie}
use Rattle.net_model.specs.Class.{class_cmp}
use Rattle.net_model.specs.FaultOrder.{cut_cmp, fault_cmp, place_cmp}
use Rattle.net_model.specs.declared.fault.Fault.{Fault}
use Rattle.net_model.specs.declared.fault.Fault.TheVariants.{Lame, Differs, NoGlue, GlueDiffers, Cyclic, Limit, Blackhole, Answers, Overlong, NoAddress}
use Rattle.net_model.specs.declared.place.Cut.{Cut}
use Rattle.net_model.specs.declared.place.Place.{Place}
use Rattle.net_model.proofs.FaultOrder.{faults_total, one_class, one_type}
use Rattle.graph_form.specs.FirstFaults.{AreFirsts}
use Rattle.graph_form.specs.Verdict.{AreFirstTypes}
use Rattle.graph_form.specs.declared.report.Seen.{Seen}

-- ---- faults that tie are one

-- places with the same parts are one
pub place_by_parts : (a b : Place) → a.server ≡ b.server → a.zone ≡ b.zone → a.owner ≡ b.owner → a ≡ b
place_by_parts a b server zone owner =
    ap (λ x. record a { server = x }) server ∙ (ap (λ x. record b { zone = x; owner = a.owner }) zone ∙ ap (λ x. record b { owner = x }) owner)

-- name servers of delegations with the same parts are one
pub cut_by_parts : (a b : Cut) → a.server ≡ b.server → a.zone ≡ b.zone → a.cut ≡ b.cut → a.ns ≡ b.ns → a ≡ b
cut_by_parts a b server zone cut ns =
    ap (λ x. record a { server = x }) server
    ∙ (ap (λ x. record a { server = b.server; zone = x }) zone ∙ (ap (λ x. record b { cut = x; ns = a.ns }) cut ∙ ap (λ x. record b { ns = x }) ns))

one_place : (a b : Place) → place_cmp a b ≡ Equal → a ≡ b
one_place a b e =
    let one = both_tie (name_cmp a.server b.server) _ e in
    let two = both_tie (name_cmp a.zone b.zone) (name_cmp a.owner b.owner) one.1 in
    place_by_parts a b (same_names a.server b.server one.0) (same_names a.zone b.zone two.0) (same_names a.owner b.owner two.1)

one_cut : (a b : Cut) → cut_cmp a b ≡ Equal → a ≡ b
one_cut a b e =
    let one = both_tie (name_cmp a.server b.server) _ e in
    let two = both_tie (name_cmp a.zone b.zone) _ one.1 in
    let three = both_tie (name_cmp a.cut b.cut) (name_cmp a.ns b.ns) two.1 in
    cut_by_parts a b (same_names a.server b.server one.0) (same_names a.zone b.zone two.0) (same_names a.cut b.cut three.0) (same_names a.ns b.ns three.1)

same_number : (a b : ℕ) → nat_cmp a b ≡ Equal → a ≡ b
same_number a b e = exact_unsigned a b e

-- faults that tie in fault order are one fault
pub one_fault : CmpEqualImpliesEq fault_cmp
one_fault (Lame a) (Lame b) e = ap Lame (one_cut a b e)
one_fault (Differs a) (Differs b) e = ap Differs (one_cut a b e)
one_fault (NoGlue a) (NoGlue b) e = ap NoGlue (one_cut a b e)
one_fault (GlueDiffers a) (GlueDiffers b) e = ap GlueDiffers (one_cut a b e)
one_fault (Cyclic a) (Cyclic b) e = ap Cyclic (one_cut a b e)
one_fault (Limit a) (Limit b) e = ap Limit (one_place a b e)
one_fault (Blackhole a) (Blackhole b) e = ap Blackhole (one_place a b e)
one_fault (Answers a s) (Answers b t) e =
    let parts = both_tie (class_cmp a b) (nat_cmp (number_of s) (number_of t)) e in
    ap (λ x. Answers x s) (one_class a b parts.0) ∙ ap (λ x. Answers b x) (one_type s t (same_number (number_of s) (number_of t) parts.1))
one_fault (Overlong a) (Overlong b) e = ap Overlong (one_place a b e)
one_fault (NoAddress a) (NoAddress b) e = ap NoAddress (one_cut a b e)
one_fault a b e = cc

-- a fault ties with itself
pub fault_itself : (a : Fault) → fault_cmp a a ≡ Equal
fault_itself a = by (fault_cmp a a) (faults_total.antisymm a a) where
  by : (o : Ordering) → o ≡ ordering_reverse o → o ≡ Equal
  by Less e = cc
  by Equal e = refl
  by Greater e = cc

-- ---- pairs of a list

-- an item of the first of two lists in a row is related to each item of the second, if each two are
pub pairs_across : {X : Type 0} (R : X → X → Type 0) (xs ys : List X) → AllPairs R (xs ++ ys) → (x y : X) → Contains xs x → Contains ys y → R x y
pairs_across R [] ys all x y has there = absurd (none_in_nil x has)
pairs_across R (z ∷ xs) ys all x y has there =
    elim (first_or_later z xs x has) [
      | inl same ↦ subst (λ w. R w y) same (pairs_first R z (xs ++ ys) all y (Contains-append_right xs ys y there))
      | inr later ↦ pairs_across R xs ys (pairs_rest R z (xs ++ ys) all) x y later there
    ]

-- the last item of a list, or there is none
pub last_or_none : {X : Type 0} (xs : List X) → (xs ≡ []) ⊎ ((front : List X) × (last : X) × (xs ≡ front ++ last ∷ []))
last_or_none [] = inl refl
last_or_none (x ∷ xs) = elim (last_or_none xs) [
  | inl none ↦ inr ([], x, ap (λ rest. x ∷ rest) none)
  | inr some ↦ inr (x ∷ some.0, some.1, ap (λ rest. x ∷ rest) some.2)
]

-- the last item of a list stands at the place before its length
pub at_end : {X : Type 0} (front : List X) (last : X) → slice_get (front ++ last ∷ []) (length (front ++ last ∷ []) - 1) ≡ Some last
at_end {X = X} front last = ap (slice_get (front ++ last ∷ [])) (one_less front) ∙ by front where
  one_less : (front : List X) → length (front ++ last ∷ []) - 1 ≡ length front
  one_less front = omega (arith, length-append front (last ∷ []))

  by : (front : List X) → slice_get (front ++ last ∷ []) (length front) ≡ Some last
  by [] = refl
  by (x ∷ front) = by front

-- ---- of each fault the first type

-- the order of what is seen with one fault: by type
abbrev pub type_rank : Seen → Seen → Ordering
type_rank a b = nat_cmp (number_of a.rtype) (number_of b.rtype)

not_before : (m n : ℕ) → nat_cmp n m ≢ Less → m ≤ n
not_before m n not_less = elim (cases_lt n m) [
  | inl less ↦ absurd (not_less (ap (λ b. cond b Less (cond (n == m) Equal Greater)) (lt-ltb n m less)))
  | inr more ↦ more
]

-- of items seen with types the first of each fault are those with the first types
pub are_first_types : (all first : List Seen) → AreFirsts (λ seen. seen.fault) type_rank all first → AreFirstTypes all first
are_first_types all first firsts =
    record {
      ordered = firsts.ordered;
      from = firsts.from;
      covers = λ seen has.
          let by = firsts.covers seen has in
          record {
            by = by.by;
            has = by.has;
            fault_is = by.fault_is;
            not_later = not_before (number_of by.by.rtype) (number_of seen.rtype) by.not_later;
          };
    }

-- nothing that was seen has no first types
pub none_yet : AreFirstTypes [] []
none_yet = record { ordered = λ i j d less within. absurd (omega arith); from = λ seen has. has; covers = λ seen has. absurd (none_in_nil seen has) }
