-- The orders of classes and of faults are total, and those of classes and of types tell all of them apart.
use Rattle.std.proofs.Common.{◌≡◌, ℕ, List, [], ◌∷◌, Option, Some, find, ◌==◌, Ordering, Less, Equal, Greater, sym, refl, ap, ◌∙◌, subst}
use Rattle.std.specs.Cmp.{IsTotalOrder}
use Rattle.std.specs.Cmp.Lexicographic.{slice_cmp}
use Rattle.std.specs.Ordering.{nat_cmp, on, ordering_then, then_cmp}
use Rattle.std.proofs.lemmas.Cmp.{nat_cmp_total, nat_list_cmp_total, lists_total, on_total, then_total}
use Rattle.std.proofs.lemmas.Map.Lookups.{CmpEqualImpliesEq}
use Rattle.std.proofs.lemmas.Option.{same_Some}
use Rattle.dns_data.specs.Name.{Labels, name_cmp}
use Rattle.dns_data.specs.RrType.{number_of, types}
use Rattle.dns_data.specs.declared.rr_type.RrType.{RrType}
use Rattle.dns_data.specs.declared.rr_type.RrType.TheVariants.{A, Ns, Cname, Soa, Ptr, Hinfo, Mx, Txt, Aaaa, Srv, Dname, Caa}
use Rattle.net_model.specs.declared.class.Class.{Class}
use Rattle.net_model.specs.declared.class.Class.TheVariants.{Exact, Below}
use Rattle.net_model.specs.declared.fault.Fault.{Fault}
use Rattle.net_model.specs.declared.fault.Fault.TheVariants.{Lame, Differs, NoGlue, GlueDiffers, Cyclic, Limit, Blackhole, Answers, Overlong, NoAddress}
use Rattle.net_model.specs.declared.place.Cut.{Cut}
use Rattle.net_model.specs.declared.place.Place.{Place}
use Rattle.net_model.specs.Class.{class_cmp}
use Rattle.net_model.specs.FaultOrder.{kind_number, cut_cmp, place_cmp, fault_cmp}
use Rattle.dns_data.proofs.NameOrder.{names_total}
use Rattle.dns_data.proofs.OrderedLists.{both_tie}
use Rattle.dns_data.proofs.Names.{same_names}

-- an order that compares as a total one does is total
same_order : {X : Type 0} (R S : X → X → Ordering) → ((a b : X) → R a b ≡ S a b) → IsTotalOrder R → IsTotalOrder S
same_order R S same o = subst IsTotalOrder (λ i a b. same a b i) o

-- a comparison that is followed by none
then_equal : (o : Ordering) → ordering_then o Equal ≡ o
then_equal Less = refl
then_equal Equal = refl
then_equal Greater = refl

-- ---- types

-- the type with a number
abbrev type_with : ℕ → Option RrType
type_with number = find (λ rtype. number_of rtype == number) types

-- a number tells its type
number_tells : (rtype : RrType) → type_with (number_of rtype) ≡ Some rtype
number_tells A = refl
number_tells Ns = refl
number_tells Cname = refl
number_tells Soa = refl
number_tells Ptr = refl
number_tells Hinfo = refl
number_tells Mx = refl
number_tells Txt = refl
number_tells Aaaa = refl
number_tells Srv = refl
number_tells Dname = refl
number_tells Caa = refl

-- types with the same number are equal
pub one_type : (a b : RrType) → number_of a ≡ number_of b → a ≡ b
one_type a b e = same_Some a b (sym (number_tells a) ∙ ap type_with e ∙ number_tells b)

-- ---- classes

-- the name of a class
abbrev class_name : Class → Labels
class_name (Exact name) = name
class_name (Below name) = name

-- the place of a class among the two of its name
abbrev class_side : Class → ℕ
class_side (Exact name) = 0
class_side (Below name) = 1

-- the order of classes is by name, then by side
classes_by_parts : (a b : Class) → then_cmp (on class_name name_cmp) (on class_side nat_cmp) a b ≡ class_cmp a b
classes_by_parts (Exact a) (Exact b) = then_equal (name_cmp a b)
classes_by_parts (Exact a) (Below b) = refl
classes_by_parts (Below a) (Exact b) = refl
classes_by_parts (Below a) (Below b) = then_equal (name_cmp a b)

-- the order of classes is total
pub classes_total : IsTotalOrder class_cmp
classes_total =
    same_order (then_cmp (on class_name name_cmp) (on class_side nat_cmp)) class_cmp classes_by_parts
    (then_total (on_total class_name names_total) (on_total class_side nat_cmp_total))

-- classes of which neither comes before the other are equal
pub one_class : CmpEqualImpliesEq class_cmp
one_class (Exact a) (Exact b) e = ap Exact (same_names a b e)
one_class (Exact a) (Below b) e = let ties = both_tie (name_cmp a b) Less e in let never : Less ≡ Equal = ties.1 in cc
one_class (Below a) (Exact b) e = let ties = both_tie (name_cmp a b) Greater e in let never : Greater ≡ Equal = ties.1 in cc
one_class (Below a) (Below b) e = ap Below (same_names a b e)

-- ---- faults

-- the names of a delegation's name server, in the order in which they decide
abbrev cut_names : Cut → List Labels
cut_names cut = cut.server ∷ cut.zone ∷ cut.cut ∷ cut.ns ∷ []

-- the names of a rewrite's place
abbrev place_names : Place → List Labels
place_names place = place.server ∷ place.zone ∷ place.owner ∷ []

-- the names of a fault, in the order in which they decide
abbrev fault_names : Fault → List Labels
fault_names (Lame cut) = cut_names cut
fault_names (Differs cut) = cut_names cut
fault_names (NoGlue cut) = cut_names cut
fault_names (GlueDiffers cut) = cut_names cut
fault_names (Cyclic cut) = cut_names cut
fault_names (Limit place) = place_names place
fault_names (Blackhole place) = place_names place
fault_names (Answers class rtype) = class_name class ∷ []
fault_names (Overlong place) = place_names place
fault_names (NoAddress cut) = cut_names cut

-- the numbers that decide between faults of one kind with the same names
abbrev fault_numbers : Fault → List ℕ
fault_numbers (Answers class rtype) = class_side class ∷ number_of rtype ∷ []
fault_numbers fault = []

-- by kind, then by names, then by numbers
abbrev parts_cmp : Fault → Fault → Ordering
parts_cmp = then_cmp (on kind_number nat_cmp) (then_cmp (on fault_names (slice_cmp name_cmp)) (on fault_numbers (slice_cmp nat_cmp)))

-- places of one form stand to each other as their names do
cuts_by_names : (a b : Cut) → ordering_then (slice_cmp name_cmp (cut_names a) (cut_names b)) Equal ≡ cut_cmp a b
cuts_by_names a b =
    then_equal (slice_cmp name_cmp (cut_names a) (cut_names b))
    ∙ ap (λ o. ordering_then (name_cmp a.server b.server) (ordering_then (name_cmp a.zone b.zone) (ordering_then (name_cmp a.cut b.cut) o)))
    (then_equal (name_cmp a.ns b.ns))

-- and those of rewrites
places_by_names : (a b : Place) → ordering_then (slice_cmp name_cmp (place_names a) (place_names b)) Equal ≡ place_cmp a b
places_by_names a b =
    then_equal (slice_cmp name_cmp (place_names a) (place_names b))
    ∙ ap (λ o. ordering_then (name_cmp a.server b.server) (ordering_then (name_cmp a.zone b.zone) o)) (then_equal (name_cmp a.owner b.owner))

-- a comparison of names, then of sides, then of types
three_parts : (name side rtype : Ordering)
    → ordering_then (ordering_then name Equal) (ordering_then side (ordering_then rtype Equal)) ≡ ordering_then (ordering_then name side) rtype
three_parts Less side rtype = refl
three_parts Equal Less rtype = refl
three_parts Equal Equal rtype = then_equal rtype
three_parts Equal Greater rtype = refl
three_parts Greater side rtype = refl

-- the order of faults is that by their parts
faults_by_parts : (a b : Fault) → parts_cmp a b ≡ fault_cmp a b
faults_by_parts (Lame a) (Lame b) = cuts_by_names a b
faults_by_parts (Differs a) (Differs b) = cuts_by_names a b
faults_by_parts (NoGlue a) (NoGlue b) = cuts_by_names a b
faults_by_parts (GlueDiffers a) (GlueDiffers b) = cuts_by_names a b
faults_by_parts (Cyclic a) (Cyclic b) = cuts_by_names a b
faults_by_parts (Limit a) (Limit b) = places_by_names a b
faults_by_parts (Blackhole a) (Blackhole b) = places_by_names a b
faults_by_parts (Answers a s) (Answers b t) =
    three_parts (name_cmp (class_name a) (class_name b)) (nat_cmp (class_side a) (class_side b)) (nat_cmp (number_of s) (number_of t))
    ∙ ap (λ o. ordering_then o (nat_cmp (number_of s) (number_of t))) (classes_by_parts a b)
faults_by_parts (Overlong a) (Overlong b) = places_by_names a b
faults_by_parts (NoAddress a) (NoAddress b) = cuts_by_names a b
faults_by_parts a b = refl

-- the order of faults is total
pub faults_total : IsTotalOrder fault_cmp
faults_total =
    same_order parts_cmp fault_cmp faults_by_parts
    (then_total (on_total kind_number nat_cmp_total)
    (then_total (on_total fault_names (lists_total names_total)) (on_total fault_numbers nat_list_cmp_total)))
