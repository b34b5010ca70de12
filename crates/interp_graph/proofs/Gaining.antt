-- Nodes gain types, one after another.
use Rattle.std.proofs.Common.{◌≡◌, ◌≢◌, ℕ, zero, suc, ◌+◌, ◌*◌, ◌<◌, ◌≤◌, Bool, true, false, cond, not, List, [], ◌∷◌, ◌++◌, filter, length, take, get_or, Some, refl, sym, ap, ◌∙◌, subst, inl, inr, true≢false, arith}
use Rattle.std.specs.Prelude.{◌⊎◌, ◌&&◌, ◌||◌, Contains, slice_get, set}
use Rattle.std.specs.Option.{option_map_or}
use Rattle.std.proofs.lemmas.Bool.{and_from, and_parts, cases_eq, not-true, or_cases, or_left, or_right}
use Rattle.std.proofs.lemmas.List.{length-set, take_more}
use Rattle.std.proofs.lemmas.List.Elements.{Contains-append_cases, Contains-append_left, Contains-append_right}
use Rattle.std.proofs.lemmas.List.Sums.{sum_by-set, sum_by-cons, count_by-le-length, length-filter}
use Rattle.std.proofs.lemmas.Option.{slice_get_within, get_or_from_slice_get}
use Rattle.dns_data.specs.RrType.{types as twelve}
use Rattle.dns_data.specs.TypeSet.{has_bit}
use Rattle.dns_data.specs.declared.rr_type.RrType.{RrType}
use Rattle.dns_data.proofs.Membership.{none_in_nil, has_first, first_or_later, filter_has}
use Rattle.graph_form.proofs.Reached.{every_type}
use Rattle.interp_graph.specs.Restricted.{size_of, has_type, many_types, Gains, ForOne}
use Rattle.interp_graph.specs.declared.reached.Reaching.{Reaching}
use Rattle.interp_graph.proofs.ItemsByNumber.{set_there}

-- what passes one of two tests is as many as what passes each of them, if nothing passes both
counted : {X : Type 0} (f g h : X → Bool) (xs : List X) → ((x : X) → h x ≡ (f x || g x)) → ((x : X) → g x ≡ true → f x ≡ false)
    → length (filter h xs) ≡ length (filter f xs) + length (filter g xs)
counted f g h [] both apart = refl
counted f g h (x ∷ xs) both apart = by (f x) (g x) (h x) refl refl (both x) (counted f g h xs both apart) where
  by : (a b c : Bool) → f x ≡ a → g x ≡ b → c ≡ (f x || g x) → length (filter h xs) ≡ length (filter f xs) + length (filter g xs)
      → length (cond c (x ∷ filter h xs) (filter h xs)) ≡ length (cond a (x ∷ filter f xs) (filter f xs)) + length (cond b (x ∷ filter g xs) (filter g xs))
  by a b c is_a is_b is_c rest = of a b c is_a is_b (is_c ∙ (ap (λ z. z || g x) is_a ∙ ap (λ z. a || z) is_b)) rest where
    of : (a b c : Bool) → f x ≡ a → g x ≡ b → c ≡ (a || b) → length (filter h xs) ≡ length (filter f xs) + length (filter g xs)
        → length (cond c (x ∷ filter h xs) (filter h xs)) ≡ length (cond a (x ∷ filter f xs) (filter f xs)) + length (cond b (x ∷ filter g xs) (filter g xs))
    of true true c is_a is_b is_c rest = absurd (true≢false (sym is_a ∙ apart x is_b))
    of true false true is_a is_b is_c rest = omega (arith, rest)
    of true false false is_a is_b is_c rest = absurd (true≢false (sym is_c))
    of false true true is_a is_b is_c rest = omega (arith, rest)
    of false true false is_a is_b is_c rest = absurd (true≢false (sym is_c))
    of false false true is_a is_b is_c rest = absurd (true≢false is_c)
    of false false false is_a is_b is_c rest = rest

-- ---- one change after another

module _ (T : ℕ → RrType → Type 0) where
  -- if there is nothing to gain, nothing is gained
  pub gains_none : (reaching : Reaching)
      → ((at : ℕ) (rtype : RrType) → T at rtype → at < length reaching.sets.items → has_type reaching.sets.items at rtype ≡ true)
      → Gains T reaching reaching
  gains_none reaching there =
      record {
        many = refl;
        keeps = λ at rtype had. had;
        has = there;
        only = λ at rtype had. inl had;
        same = λ none. (none, refl);
        no_fewer = omega arith;
        told = λ more. inl more;
      }

  -- nodes gain the same types, said otherwise
  pub gains_as : (U : ℕ → RrType → Type 0) (before after : Reaching) → ((at : ℕ) (rtype : RrType) → T at rtype → U at rtype)
      → ((at : ℕ) (rtype : RrType) → U at rtype → T at rtype) → Gains T before after → Gains U before after
  gains_as U before after there back gains =
      record {
        many = gains.many;
        keeps = gains.keeps;
        has = λ at rtype is below. gains.has at rtype (back at rtype is) below;
        only = λ at rtype has. elim (gains.only at rtype has) [ inl had ↦ inl had | inr new ↦ inr (there at rtype new) ];
        same = gains.same;
        no_fewer = gains.no_fewer;
        told = gains.told;
      }

  -- nodes gain types, and then others
  pub gains_twice : (U : ℕ → RrType → Type 0) (before between after : Reaching) → Gains T before between → Gains U between after
      → Gains (λ at rtype. T at rtype ⊎ U at rtype) before after
  gains_twice U before between after one other =
      record {
        many = other.many ∙ one.many;
        keeps = λ at rtype had. other.keeps at rtype (one.keeps at rtype had);
        has = λ at rtype is below. elim is [
          | inl first ↦ other.keeps at rtype (one.has at rtype first below)
          | inr second ↦ other.has at rtype second (omega (arith, below, one.many))
        ];
        only = λ at rtype has. elim (other.only at rtype has) [
          | inl had ↦ elim (one.only at rtype had) [ inl older ↦ inl older | inr first ↦ inr (inl first) ]
          | inr second ↦ inr (inr second)
        ];
        same = λ none. let later = other.same none in let first = one.same later.0 in (first.0, later.1 ∙ first.1);
        no_fewer = omega (arith, one.no_fewer, other.no_fewer);
        told = λ more. elim (other.told more) [
          | inl earlier ↦ elim (one.told earlier) [
            | inl before ↦ inl before
            | inr fewer ↦ inr (omega (arith, fewer, other.no_fewer))
          ]
          | inr fewer ↦ inr (omega (arith, fewer, one.no_fewer))
        ];
      }

module _ {X : Type 0} (T : X → ℕ → RrType → Type 0) where
  -- at first no item is passed
  pub gains_first : (reaching : Reaching) → Gains (ForOne T []) reaching reaching
  gains_first reaching = gains_none (ForOne T []) reaching (λ at rtype one below. absurd (none_in_nil one.0 one.1))

  -- when nodes gain the types of the next item, one more is passed
  pub gains_next : (items : List X) (i : ℕ) (item : X) (before between after : Reaching) → i < length items → item ≡ get_or items i item
      → Gains (ForOne T (take i items)) before between → Gains (T item) between after → Gains (ForOne T (take (i + 1) items)) before after
  gains_next items i item before between after below is one other =
      gains_as (λ at rtype. ForOne T (take i items) at rtype ⊎ T item at rtype) (ForOne T (take (i + 1) items)) before after there back
      (gains_twice (ForOne T (take i items)) (T item) before between after one other)
    where
      parts : take (i + 1) items ≡ take i items ++ item ∷ []
      parts = take_more items i item below ∙ ap (λ x. take i items ++ x ∷ []) (sym is)

      there : (at : ℕ) (rtype : RrType) → ForOne T (take i items) at rtype ⊎ T item at rtype → ForOne T (take (i + 1) items) at rtype
      there at rtype (inl (x, has, so)) =
          (x, subst (λ xs. Contains xs x) (sym parts) (Contains-append_left (take i items) (item ∷ []) x has), so)
      there at rtype (inr so) =
          (item, subst (λ xs. Contains xs item) (sym parts) (Contains-append_right (take i items) (item ∷ []) item (has_first item [])), so)

      back : (at : ℕ) (rtype : RrType) → ForOne T (take (i + 1) items) at rtype → ForOne T (take i items) at rtype ⊎ T item at rtype
      back at rtype (x, has, so) =
          elim (Contains-append_cases (take i items) (item ∷ []) x (subst (λ xs. Contains xs x) parts has)) [
            | inl front ↦ inl (x, front, so)
            | inr last ↦ elim (first_or_later item [] x last) [
              | inl same ↦ inr (subst (λ y. T y at rtype) (sym same) so)
              | inr none ↦ absurd (none_in_nil x none)
            ]
          ]

-- ---- a node gains types

-- an item that is put over another leaves the others
same_elsewhere : {A : Type 0} (xs : List A) (i k : ℕ) (x : A) → k ≢ i → slice_get (set xs i x) k ≡ slice_get xs k
same_elsewhere [] i k x other = refl
same_elsewhere (z ∷ xs) zero zero x other = absurd (other refl)
same_elsewhere (z ∷ xs) zero (suc k) x other = refl
same_elsewhere (z ∷ xs) (suc i) zero x other = refl
same_elsewhere (z ∷ xs) (suc i) (suc k) x other = same_elsewhere xs i k x (λ e. other (ap suc e))

module _ (reaching after : Reaching) (at : ℕ) (types had new : List Bool) (is : slice_get reaching.sets.items at ≡ Some had)
    (more : after.more ≡ true) (changed : after.sets.items ≡ set reaching.sets.items at new)
    (union : (rtype : RrType) → has_bit new rtype ≡ (has_bit had rtype || has_bit types rtype))
    (some : RrType) (given : has_bit types some ≡ true) (lacked : has_type reaching.sets.items at some ≡ false) where
  abbrev Given : ℕ → RrType → Type 0
  Given other rtype = (other ≡ at) × (has_bit types rtype ≡ true)

  of_had : (rtype : RrType) → has_type reaching.sets.items at rtype ≡ has_bit had rtype
  of_had rtype = ap (λ found. option_map_or (λ set. has_bit set rtype) found false) is

  of_new : (rtype : RrType) → has_type after.sets.items at rtype ≡ has_bit new rtype
  of_new rtype =
      ap (λ (sets : List (List Bool)). has_type sets at rtype) changed
      ∙ ap (λ found. option_map_or (λ set. has_bit set rtype) found false) (set_there reaching.sets.items at new had is)

  elsewhere : (other : ℕ) (rtype : RrType) → other ≢ at → has_type after.sets.items other rtype ≡ has_type reaching.sets.items other rtype
  elsewhere other rtype apart =
      ap (λ (sets : List (List Bool)). has_type sets other rtype) changed
      ∙ ap (λ found. option_map_or (λ set. has_bit set rtype) found false) (same_elsewhere reaching.sets.items at other new apart)

  -- what holds of the node itself and of each other one holds of all
  each : (P : ℕ → Type 0) → P at → ((other : ℕ) → other ≢ at → P other) → (other : ℕ) → P other
  each P here there other = elim (cases_eq other at) [ inl same ↦ subst P (sym same) here | inr apart ↦ there other apart ]

  abbrev newly : RrType → Bool
  newly rtype = has_bit new rtype && not (has_bit had rtype)

  larger : size_of had < size_of new
  larger =
      by (filter newly twelve)
      (filter_has newly twelve some (every_type some)
      (and_from (has_bit new some) (not (has_bit had some)) (union some ∙ or_right (has_bit had some) (has_bit types some) given)
      (ap not (sym (of_had some) ∙ lacked))))
      (counted (has_bit had) newly (has_bit new) twelve
      (λ rtype. both (has_bit had rtype) (has_bit new rtype) (λ has. union rtype ∙ or_left (has_bit had rtype) (has_bit types rtype) has))
      (λ rtype is_new. not-true (has_bit had rtype) (and_parts (has_bit new rtype) (not (has_bit had rtype)) is_new).1))
    where
      both : (a b : Bool) → (a ≡ true → b ≡ true) → b ≡ (a || (b && not a))
      both true b more = more refl
      both false true more = refl
      both false false more = refl

      by : (xs : List RrType) → Contains xs some → size_of new ≡ size_of had + length xs → size_of had < size_of new
      by [] has sum = absurd (none_in_nil some has)
      by (x ∷ xs) has sum = omega (arith, sum)

  more_types : many_types reaching.sets.items < many_types after.sets.items
  more_types =
      by (many_types after.sets.items) (size_of had) (many_types reaching.sets.items) (size_of new)
      (ap (λ n. n + size_of had) (ap many_types changed)
      ∙ (ap (λ n. many_types (set reaching.sets.items at new) + n) (ap size_of (sym (get_or_from_slice_get reaching.sets.items at had had is)))
      ∙ sum_by-set size_of reaching.sets.items at new had (slice_get_within reaching.sets.items at had is))) larger
    where
      by : (x a y b : ℕ) → x + a ≡ y + b → a < b → y < x
      by x a y b sum less = omega (arith, sum, less)

  -- a node that lacks one of the types gains them when it gets the union of its types and these
  pub gain_some : Gains Given reaching after
  gain_some =
      record {
        many = ap (λ (sets : List (List Bool)). length sets) changed ∙ length-set reaching.sets.items at new;
        keeps = λ other rtype. each (λ k. has_type reaching.sets.items k rtype ≡ true → has_type after.sets.items k rtype ≡ true)
            (λ has. of_new rtype ∙ (union rtype ∙ or_left (has_bit had rtype) (has_bit types rtype) (sym (of_had rtype) ∙ has)))
            (λ k apart has. elsewhere k rtype apart ∙ has) other;
        has = λ other rtype is_given below. ap (λ k. has_type after.sets.items k rtype) is_given.0
            ∙ (of_new rtype ∙ (union rtype ∙ or_right (has_bit had rtype) (has_bit types rtype) is_given.1));
        only = λ other rtype. each
            (λ k. has_type after.sets.items k rtype ≡ true → (has_type reaching.sets.items k rtype ≡ true) ⊎ Given k rtype)
            (λ has. elim (or_cases (has_bit had rtype) (has_bit types rtype) (sym (union rtype) ∙ (sym (of_new rtype) ∙ has))) [
              | inl old ↦ inl (of_had rtype ∙ old)
              | inr new ↦ inr (refl, new)
            ])
            (λ k apart has. inl (sym (elsewhere k rtype apart) ∙ has)) other;
        same = λ none. absurd (true≢false (sym more ∙ none));
        no_fewer = omega (arith, more_types);
        told = λ is_more. inr more_types;
      }

-- ---- how many types there are

-- there are at most twelve types for each node
pub most_types : (sets : List (List Bool)) → many_types sets ≤ 12 * length sets
most_types [] = omega arith
most_types (types ∷ sets) =
    by (many_types (types ∷ sets)) (size_of types) (many_types sets) (length sets) (sum_by-cons size_of types sets)
    (at_most (size_of types) _ (length-filter (has_bit types) twelve) (count_by-le-length (has_bit types) twelve)) (most_types sets)
  where
    at_most : (n m : ℕ) → n ≡ m → m ≤ length twelve → n ≤ 12
    at_most n m same most = omega (arith, same, most)

    by : (all a b n : ℕ) → all ≡ a + b → a ≤ 12 → b ≤ 12 * n → all ≤ 12 * suc n
    by all a b n sum one rest = omega (arith, sum, one, rest)
