-- The prefixes of a name one after another, and the first that passes a test.
use Rattle.std.proofs.Common.{◌≡◌, ◌∙◌, ℕ, zero, suc, ◌+◌, ◌≤◌, ◌<◌, Bool, true, false, List, [], ◌∷◌, ◌++◌, length, map, take, drop, take_all, find, option_map, Contains, Option, Some, None, refl, sym, ap, subst, inl, inr, append-nil, arith}
use Rattle.std.proofs.lemmas.List.{drop-map}
use Rattle.std.proofs.lemmas.Bool.{cases_lt, cond-true, cond-false}
use Rattle.dns_data.specs.Name.{Labels, is_among}
use Rattle.dns_data.proofs.Searches.{find_some}
use Rattle.net_model.specs.Prefix.{prefixes}
use Rattle.net_model.proofs.Naming.{from_listed, is_listed}
use Rattle.net_model.proofs.Prefixes.{prefixes_have}
use Rattle.part_laws.proofs.Lists.{find_mapped}
use Rattle.part_laws.proofs.WithPrefixes.{prefixes_there}
use Rattle.part_laws.specs.Part.{with_prefixes}

-- behind the prefixes of fewer labels the name's first so many labels come next
prefix_at : (name : Labels) (k : ℕ) → k ≤ length name → drop k (prefixes name) ≡ take k name ∷ drop (suc k) (prefixes name)
prefix_at [] zero low = refl
prefix_at [] (suc k) low = absurd (omega (arith, low))
prefix_at (label ∷ name) zero low = refl
prefix_at (label ∷ name) (suc k) low =
    drop-map (λ (above : Labels). label ∷ above) k (prefixes name)
    ∙ ap (map (λ (above : Labels). label ∷ above)) (prefix_at name k (omega (arith, low)))
    ∙ ap (λ (rest : List Labels). (label ∷ take k name) ∷ rest) (sym (drop-map (λ (above : Labels). label ∷ above) (suc k) (prefixes name)))

-- behind all prefixes nothing is left
no_prefix_behind : (name : Labels) (k : ℕ) → length name < k → drop k (prefixes name) ≡ []
no_prefix_behind name zero low = absurd (omega (arith, low))
no_prefix_behind [] (suc k) low = nothing k where
  nothing : (k : ℕ) → drop {A = Labels} k [] ≡ []
  nothing zero = refl
  nothing (suc k) = refl
no_prefix_behind (label ∷ name) (suc k) low =
    drop-map (λ (above : Labels). label ∷ above) k (prefixes name)
    ∙ ap (map (λ (above : Labels). label ∷ above)) (no_prefix_behind name k (omega (arith, low)))

-- ---- a search along the prefixes, of which so many were passed

module _ (test : Labels → Bool) (name : Labels) (k : ℕ) where
  -- the next passes the test
  pub finds_next : (front : Labels) → find test (prefixes name) ≡ find test (drop k (prefixes name)) → k ≤ length name → front ≡ take k name → test front ≡ true
      → Some front ≡ find test (prefixes name)
  finds_next front before low is passes =
      sym (before ∙ (ap (find test) (prefix_at name k low)
      ∙ (cond-true (test (take k name)) (Some (take k name)) (find test (drop (suc k) (prefixes name))) (subst (λ (n : Labels). test n ≡ true) is passes) ∙ ap Some (sym is))))

  -- the next doesn't pass it
  pub passes_next : (front : Labels) → find test (prefixes name) ≡ find test (drop k (prefixes name)) → k ≤ length name → front ≡ take k name → test front ≡ false
      → find test (prefixes name) ≡ find test (drop (k + 1) (prefixes name))
  passes_next front before low is fails =
      let next : suc k ≡ k + 1 = omega arith in
      before ∙ (ap (find test) (prefix_at name k low)
      ∙ (cond-false (test (take k name)) (Some (take k name)) (find test (drop (suc k) (prefixes name))) (subst (λ (n : Labels). test n ≡ false) is fails)
      ∙ ap (λ (n : ℕ). find test (drop n (prefixes name))) next))

  -- there is no other
  pub finds_none : find test (prefixes name) ≡ find test (drop k (prefixes name)) → length name < k → None ≡ find test (prefixes name)
  finds_none before high = sym (before ∙ ap (find test) (no_prefix_behind name k high))

  -- the name itself passes it, and no shorter prefix does
  pub finds_last : find test (prefixes name) ≡ find test (drop k (prefixes name)) → length name ≤ k → test name ≡ true
      → find test (prefixes name) ≡ Some name
  finds_last before high passes = elim (cases_lt (length name) k) [
    | inl past ↦ (
        let (found, is, ok) = find_some test (prefixes name) name (prefixes_have name name ([], append-nil name)) passes in
        let clash : None ≡ Some found = finds_none before past ∙ is in
        absurd cc)
    | inr last ↦ sym (finds_next name before last (sym (take_all k name high)) passes)
  ]

  -- nor does the name itself
  pub finds_no_last : find test (prefixes name) ≡ find test (drop k (prefixes name)) → length name ≤ k → test name ≡ false
      → None ≡ find test (prefixes name)
  finds_no_last before high fails = elim (cases_lt (length name) k) [
    | inl past ↦ finds_none before past
    | inr last ↦ sym (passes_next name before last (sym (take_all k name high)) fails
        ∙ ap (find test) (no_prefix_behind name (k + 1) (omega (arith, high))))
  ]

-- ---- where none passes

-- none of the prefixes passes a test that each fails
none_passes : (test : Labels → Bool) (name : Labels) → ((above below : Labels) → above ++ below ≡ name → test above ≡ false) → find test (prefixes name) ≡ None
none_passes test [] fails = cond-false (test []) (Some []) None (fails [] [] refl)
none_passes test (label ∷ name) fails =
    cond-false (test []) (Some []) (find test (map (λ (n : Labels). label ∷ n) (prefixes name))) (fails [] (label ∷ name) refl)
    ∙ (find_mapped (λ (n : Labels). label ∷ n) test (prefixes name)
    ∙ ap (option_map (λ (n : Labels). label ∷ n))
    (none_passes (λ n. test (label ∷ n)) name (λ above below e. fails (label ∷ above) below (ap (λ (n : Labels). label ∷ n) e))))

-- all prefixes of a held name are held, so none passes a test that held names fail
pub held_fails : (names : List Labels) (test : Labels → Bool) (name : Labels) → ((above : Labels) → is_among (with_prefixes names) above ≡ true → test above ≡ false)
    → is_among (with_prefixes names) name ≡ true → None ≡ find test (prefixes name)
held_fails names test name fails held = sym (none_passes test name each) where
  has : Contains (with_prefixes names) name
  has = from_listed (with_prefixes names) name held

  each : (above below : Labels) → above ++ below ≡ name → test above ≡ false
  each above below is = fails above (is_listed (with_prefixes names) above (prefixes_there names above below (subst (Contains (with_prefixes names)) (sym is) has)))

-- ---- where the first is that passes

-- the prefix with this label is the first that passes where none above it does
pub first_at : (test : Labels → Bool) (above : Labels) (label : List ℕ) (below : Labels)
    → ((top rest : Labels) → top ++ rest ≡ above → test top ≡ false) → test (above ++ label ∷ []) ≡ true
    → find test (prefixes (above ++ label ∷ below)) ≡ Some (above ++ label ∷ [])
first_at test [] label below none passes =
    cond-false (test []) (Some []) (find test (map (λ (n : Labels). label ∷ n) (prefixes below))) (none [] [] refl) ∙ of below
  where
    of : (below : Labels) → find test (map (λ (n : Labels). label ∷ n) (prefixes below)) ≡ Some (label ∷ [])
    of [] = cond-true (test (label ∷ [])) _ _ passes
    of (next ∷ rest) = cond-true (test (label ∷ [])) _ _ passes
first_at test (first ∷ above) label below none passes =
    cond-false (test []) (Some []) (find test (map (λ (n : Labels). first ∷ n) (prefixes (above ++ label ∷ below)))) (none [] (first ∷ above) refl)
    ∙ (find_mapped (λ (n : Labels). first ∷ n) test (prefixes (above ++ label ∷ below))
    ∙ ap (option_map (λ (n : Labels). first ∷ n))
    (first_at (λ n. test (first ∷ n)) above label below (λ top rest e. none (first ∷ top) rest (ap (λ (n : Labels). first ∷ n) e)) passes))

-- the first prefix that passes is one with a label below one that doesn't pass, where the root doesn't
pub record IsFirstAt (test : Labels → Bool) (name front : Labels) : Type 0 where
  pub above : Labels
  pub label : List ℕ
  pub below : Labels
  pub is : name ≡ above ++ label ∷ below
  pub front_is : front ≡ above ++ label ∷ []
  pub fails : test above ≡ false
  pub passes : test front ≡ true

pub from_first : (test : Labels → Bool) (name front : Labels) → find test (prefixes name) ≡ Some front → test [] ≡ false → IsFirstAt test name front
from_first test [] front found root =
    let none : None ≡ Some front = sym (cond-false (test []) (Some []) None root) ∙ found in
    cc
from_first test (label ∷ name) front found root =
    by (test (label ∷ [])) refl (λ fails. from_first (λ n. test (label ∷ n)) name) rest
  where
    rest : option_map (λ (n : Labels). label ∷ n) (find (λ n. test (label ∷ n)) (prefixes name)) ≡ Some front
    rest =
        sym (find_mapped (λ (n : Labels). label ∷ n) test (prefixes name))
        ∙ (sym (cond-false (test []) (Some []) (find test (map (λ (n : Labels). label ∷ n) (prefixes name))) root) ∙ found)

    first_passes : (name : Labels) → test (label ∷ []) ≡ true → find (λ n. test (label ∷ n)) (prefixes name) ≡ Some []
    first_passes [] is = cond-true (test (label ∷ [])) _ _ is
    first_passes (next ∷ more) is = cond-true (test (label ∷ [])) _ _ is

    deeper : (o : Option Labels) → find (λ n. test (label ∷ n)) (prefixes name) ≡ o → option_map (λ (n : Labels). label ∷ n) o ≡ Some front
        → ((f : Labels) → find (λ n. test (label ∷ n)) (prefixes name) ≡ Some f → IsFirstAt (λ n. test (label ∷ n)) name f) → IsFirstAt test (label ∷ name) front
    deeper None is told below = cc
    deeper (Some f) is told below =
        let same : label ∷ f ≡ front = cc in
        let at = below f is in
        record {
          above = label ∷ at.above;
          label = at.label;
          below = at.below;
          is = ap (λ (n : Labels). label ∷ n) at.is;
          front_is = sym same ∙ ap (λ (n : Labels). label ∷ n) at.front_is;
          fails = at.fails;
          passes = subst (λ (n : Labels). test n ≡ true) same at.passes;
        }

    by : (b : Bool) → test (label ∷ []) ≡ b
        → (test (label ∷ []) ≡ false → (f : Labels) → find (λ n. test (label ∷ n)) (prefixes name) ≡ Some f → test (label ∷ []) ≡ false → IsFirstAt (λ n. test (label ∷ n)) name f)
        → option_map (λ (n : Labels). label ∷ n) (find (λ n. test (label ∷ n)) (prefixes name)) ≡ Some front → IsFirstAt test (label ∷ name) front
    by true is below told =
        let same : label ∷ [] ≡ front = (let whole : Some (label ∷ []) ≡ Some front = ap (option_map (λ (n : Labels). label ∷ n)) (sym (first_passes name is)) ∙ told in cc) in
        record {
          above = [];
          label = label;
          below = name;
          is = refl;
          front_is = sym same;
          fails = root;
          passes = subst (λ (n : Labels). test n ≡ true) same is;
        }
    by false is below told = deeper (find (λ n. test (label ∷ n)) (prefixes name)) refl told (λ f found. below is f found is)
