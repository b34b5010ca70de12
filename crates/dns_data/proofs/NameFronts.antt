-- Names whose labels begin another's: those at or above it. And how many octets they have.
use Rattle.std.proofs.Common.{◌≡◌, ℕ, ◌+◌, ◌≤◌, true, List, [], ◌∷◌, ◌++◌, ◌⊎◌, length, refl, sym, ap, ◌∙◌, take, inl, inr, append-nil, arith}
use Rattle.std.specs.Prelude.{sum_by}
use Rattle.std.proofs.lemmas.List.{take_at}
use Rattle.std.proofs.lemmas.List.Sums.{sum_by-append, sum_by-cons}
use Rattle.dns_data.specs.Name.{Labels, wire_octets, is_prefix}
use Rattle.dns_data.proofs.Names.{is_prefix_means}

-- the first name's labels begin the second's
abbrev pub Begins : Labels → Labels → Type 0
Begins above name = (below : Labels) × (above ++ below ≡ name)

-- the test of a prefix tells that it begins the name
pub is_prefix_tells : (above name : Labels) → is_prefix above name ≡ true → Begins above name
is_prefix_tells above name e = (is_prefix_means above name (is_prefix above name) refl).0 e

-- the test of a prefix passes if the first name's labels begin the second's
pub is_prefix_told : (above name : Labels) → Begins above name → is_prefix above name ≡ true
is_prefix_told above name begins = (is_prefix_means above name (is_prefix above name) refl).1 begins

-- a name begins itself
pub begins_itself : (name : Labels) → is_prefix name name ≡ true
begins_itself name = is_prefix_told name name ([], append-nil name)

-- a front is so many labels of the name
pub front_is_take : (above rest name : Labels) → above ++ rest ≡ name → take (length above) name ≡ above
front_is_take above rest name e = ap (take (length above)) (sym e) ∙ take_at above rest (length above) refl

-- of two fronts of the same list one begins the other
pub two_fronts : {X : Type 0} (a b c d : List X) → a ++ b ≡ c ++ d
    → ((rest : List X) × (a ++ rest ≡ c)) ⊎ ((rest : List X) × (c ++ rest ≡ a))
two_fronts [] b c d e = inl (c, refl)
two_fronts (x ∷ a) b [] d e = inr (x ∷ a, refl)
two_fronts {X = X} (x ∷ a) b (y ∷ c) d e = by (two_fronts a b c d (cc)) where
  same : x ≡ y
  same = cc

  by : ((rest : List X) × (a ++ rest ≡ c)) ⊎ ((rest : List X) × (c ++ rest ≡ a))
      → ((rest : List X) × (x ∷ (a ++ rest) ≡ y ∷ c)) ⊎ ((rest : List X) × (y ∷ (c ++ rest) ≡ x ∷ a))
  by (inl (rest, is)) = inl (rest, cc)
  by (inr (rest, is)) = inr (rest, cc)

-- the octets that labels below a name take: for each label its length and one
abbrev pub tail_octets : Labels → ℕ
tail_octets tail = sum_by (λ label. length label + 1) tail

-- a name with labels below it has the octets of both
pub octets_below : (above below : Labels) → wire_octets (above ++ below) ≡ wire_octets above + tail_octets below
octets_below above below = omega (arith, sum_by-append (λ (label : List ℕ). length label + 1) above below)

-- a prefix has no more octets than the name
pub octets_of_prefix : (above name : Labels) → Begins above name → wire_octets above ≤ wire_octets name
octets_of_prefix above name (below, e) = omega (arith, octets_below above below, ap wire_octets e)

-- a label below a name takes its length and one octet more
pub octets_with_label : (above : Labels) (label : List ℕ) → wire_octets (above ++ label ∷ []) ≡ wire_octets above + (length label + 1)
octets_with_label above label = omega (arith, octets_below above (label ∷ []), sum_by-cons (λ (x : List ℕ). length x + 1) label [])
