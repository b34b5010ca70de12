-- Sets of types: the marks of a set made by a test, and the first type of a set.
use Rattle.std.proofs.Common.{◌≡◌, ◌↔◌, ℕ, ◌+◌, ◌<◌, ◌≤◌, Bool, true, false, ◌&&◌, nat_le, List, [], ◌∷◌, Option, Some, None, cond, option_map, IsNone, IfSome, slice_index_or, map, refl, sym, suc, zero, ◌∙◌, subst, inl, inr, arith}
use Rattle.std.specs.Array.{IsFromFnResult, IsFromFnResultFrom}
use Rattle.std.specs.Fn.{Called}
use Rattle.std.specs.List.{AllByRecursion, find, list_all}
use Rattle.std.proofs.lemmas.Bool.{cases_eq, cases_Bool, and_parts, leb-true}
use denote.Param.Members.{Mut}
use Rattle.dns_data.specs.RrType.{types, number_of}
use Rattle.dns_data.specs.TypeSet.{place_of, has_bit}
use Rattle.dns_data.specs.declared.rr_type.RrType.{RrType}
use Rattle.dns_data.specs.declared.rr_type.RrType.TheVariants.{A, Ns, Cname, Soa, Ptr, Hinfo, Mx, Txt, Aaaa, Srv, Dname, Caa}

-- what each call of a closure gives, where no call changes it
made_each : {F : Type 0} (g : Mut F (ℕ × Unit {0}) Bool) (test : ℕ → Bool) (f : F) (marks : List Bool) → ((i : ℕ) (y : Bool) (q : F) → Called g f (i, tt) y q → (q ≡ f) × (y ≡ test i)) → (n i : ℕ) → IsFromFnResultFrom g f marks i n → (k : ℕ) → i ≤ k → k < i + n → slice_index_or marks k false ≡ test k
made_each g test f marks calls zero i made k low high = absurd (omega arith)
made_each g test f marks calls (suc n) i made k low high =
    let called = calls i made.1 made.0 made.3 in
    elim (cases_eq i k) [
      | inl e ↦ rw (← e) (made.2.1 false ∙ called.1)
      | inr e ↦ made_each g test f marks calls n (i + 1) (subst (λ p. IsFromFnResultFrom g p marks (i + 1) n) called.0 made.4) k (omega arith) (omega arith)
    ]

-- every type has one of the twelve places
place_below : (t : RrType) → place_of t < 12
place_below A = omega arith
place_below Ns = omega arith
place_below Cname = omega arith
place_below Soa = omega arith
place_below Ptr = omega arith
place_below Hinfo = omega arith
place_below Mx = omega arith
place_below Txt = omega arith
place_below Aaaa = omega arith
place_below Srv = omega arith
place_below Dname = omega arith
place_below Caa = omega arith

-- a set whose marks a closure gave
pub made : {F : Type 0} (g : Mut F (ℕ × Unit {0}) Bool) (test : ℕ → Bool) (f : F) (marks : List Bool) → IsFromFnResult g f marks 12 → ((i : ℕ) (y : Bool) (q : F) → Called g f (i, tt) y q → (q ≡ f) × (y ≡ test i)) → (t : RrType) → has_bit marks t ≡ test (place_of t)
made g test f marks all calls t = let below = place_below t in made_each g test f marks calls 12 0 all.each (place_of t) (omega arith) (omega arith)

-- what holds of each of the twelve types holds of every type
all_types : (P : RrType → Type 0) → AllByRecursion P types → (t : RrType) → P t
all_types P h A = h.0
all_types P h Ns = h.1.0
all_types P h Cname = h.1.1.0
all_types P h Soa = h.1.1.1.0
all_types P h Ptr = h.1.1.1.1.0
all_types P h Hinfo = h.1.1.1.1.1.0
all_types P h Mx = h.1.1.1.1.1.1.0
all_types P h Txt = h.1.1.1.1.1.1.1.0
all_types P h Aaaa = h.1.1.1.1.1.1.1.1.0
all_types P h Srv = h.1.1.1.1.1.1.1.1.1.0
all_types P h Dname = h.1.1.1.1.1.1.1.1.1.1.0
all_types P h Caa = h.1.1.1.1.1.1.1.1.1.1.1.0

-- the types that pass a test, as a bit for each, have those bits
pub bit_of : (test : RrType → Bool) (rtype : RrType) → has_bit (map test types) rtype ≡ test rtype
bit_of test A = refl
bit_of test Ns = refl
bit_of test Cname = refl
bit_of test Soa = refl
bit_of test Ptr = refl
bit_of test Hinfo = refl
bit_of test Mx = refl
bit_of test Txt = refl
bit_of test Aaaa = refl
bit_of test Srv = refl
bit_of test Dname = refl
bit_of test Caa = refl

-- none is found where none passes, and only there
none_passes : (test : RrType → Bool) (xs : List RrType) → find test xs ≡ None → AllByRecursion (λ t. test t ≡ false) xs
none_passes test [] e = tt
none_passes test (x ∷ xs) e = elim (cases_Bool (test x)) [
  | inl passes ↦ let h : cond true (Some x) (find test xs) ≡ None = rw passes at e in absurd (cc)
  | inr fails ↦ (fails, none_passes test xs (rw fails at e))
]

none_found : (test : RrType → Bool) → ((t : RrType) → test t ≡ false) → (xs : List RrType) → find test xs ≡ None
none_found test h [] = refl
none_found test h (x ∷ xs) = rw (h x) (none_found test h xs)

-- types in the order of their numbers
abbrev in_order : List RrType → Bool
in_order [] = true
in_order (x ∷ xs) = list_all (λ y. nat_le (number_of x) (number_of y)) xs && in_order xs

above_all : (x : RrType) (xs : List RrType) → list_all (λ y. nat_le (number_of x) (number_of y)) xs ≡ true → AllByRecursion (λ y. number_of x ≤ number_of y) xs
above_all x [] h = tt
above_all x (y ∷ ys) h = let parts = and_parts _ _ h in (leb-true _ _ parts.0, above_all x ys parts.1)

if_passing : (test : RrType → Bool) (n : ℕ) (xs : List RrType) → AllByRecursion (λ y. n ≤ number_of y) xs → AllByRecursion (λ y. test y ≡ true → n ≤ number_of y) xs
if_passing test n [] h = tt
if_passing test n (x ∷ xs) h = (λ _. h.0, if_passing test n xs h.1)

-- the one found has the least number of those that pass
least_found : (test : RrType → Bool) (t : RrType) (xs : List RrType) → in_order xs ≡ true → find test xs ≡ Some t → AllByRecursion (λ y. test y ≡ true → number_of t ≤ number_of y) xs
least_found test t [] o e = tt
least_found test t (x ∷ xs) o e =
    let parts = and_parts (list_all (λ y. nat_le (number_of x) (number_of y)) xs) (in_order xs) o in
    elim (cases_Bool (test x)) [
      | inl passes ↦
          let h : cond true (Some x) (find test xs) ≡ Some t = rw passes at e in
          let same : t ≡ x = cc in
          (λ _. rw same (omega arith), subst (λ z. AllByRecursion (λ y. test y ≡ true → number_of z ≤ number_of y) xs) (sym same) (if_passing test (number_of x) xs (above_all x xs parts.0)))
      | inr fails ↦ (λ passes. absurd (cc), least_found test t xs parts.1 (rw fails at e))
    ]

-- no type is found exactly if none passes the test
pub first_none : (test : RrType → Bool) (found : Option RrType) → found ≡ find test types → IsNone found ↔ ((t : RrType) → test t ≡ false)
first_none test None e = (λ _. all_types _ (none_passes test types (sym e)), λ _. refl)
first_none test (Some x) e = (λ n. absurd (cc), λ h. let none = none_found test h types in absurd (cc))

-- no type that passes has a smaller number than the one found
pub first_least : (test : RrType → Bool) (found : Option RrType) → found ≡ find test types → IfSome found (λ t. (other : RrType) → test other ≡ true → number_of t ≤ number_of other)
first_least test None e = tt
first_least test (Some t) e = all_types _ (least_found test t types refl (sym e))

-- an `Option` read by nothing
pub option_map-id : {T : Type 0} (o : Option T) → option_map (λ x. x) o ≡ o
option_map-id None = refl
option_map-id (Some x) = refl
