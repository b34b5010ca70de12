-- The octets of an IPv6 address.
use Rattle.std.proofs.Common.{◌≡◌, ℕ, ◌+◌, ◌-◌, ◌<◌, ◌≤◌, Bool, List, [], ◌∷◌, ◌++◌, length, drop, replicate, eqb, leb, Option, Some, None, option_map, IfSome, refl, ap, sym, subst, ◌∙◌, arith, append_assoc, length-append}
use Rattle.std.proofs.lemmas.Bool.{cond-true, eq-eqb, le-leb}
use Rattle.std.proofs.lemmas.List.{length-replicate, drop-replicate}
use Rattle.dns_data.specs.Options.{◌>>=◌}
use Rattle.rdata_forms.specs.Addresses.{split_on, group_of, octets_of_pieces, octets_of, if_whole, with_zero_groups, ipv4_of_parts}
use Rattle.rdata_forms.proofs.Pieces.{split-some}

-- the parts of an address with zeros between them are sixteen octets
pub short_is_whole : (front back : List ℕ) → length front + length back ≤ 14 → if_whole (front ++ drop (length front + length back) (replicate 16 0) ++ back) ≡ with_zero_groups front back
short_is_whole front back room =
    let n = length front + length back in
    let all : length (front ++ (replicate (16 - n) 0 ++ back)) ≡ 16 =
    omega (arith, length-append front (replicate (16 - n) 0 ++ back), length-append (replicate (16 - n) 0) back, length-replicate {A = ℕ} (16 - n) 0) in
    let zeros : drop n (replicate 16 0) ≡ replicate (16 - n) 0 = drop-replicate {X = ℕ} n 16 0 in
    let same : front ++ drop n (replicate 16 0) ++ back ≡ front ++ (replicate (16 - n) 0 ++ back) =
    ap (λ (l : List ℕ). front ++ l ++ back) zeros ∙ append_assoc front (replicate {A = ℕ} (16 - n) 0) back in
    ap if_whole same ∙ cond-true (eqb (length (front ++ (replicate (16 - n) 0 ++ back))) 16) _ _ (eq-eqb _ 16 all) ∙ sym (cond-true (leb n 14) _ _ (le-leb n 14 room))

-- more than four parts are no IPv4 address
pub five_parts : (a b c d : List ℕ) (rest : List (List ℕ)) → 0 < length rest → ipv4_of_parts (a ∷ b ∷ c ∷ d ∷ rest) ≡ None
five_parts a b c d [] some = absurd (omega arith)
five_parts a b c d (e ∷ rest) some = refl

-- a front, zeros and a back that were put together in two steps are whole by the same test
pub zeros_between : (front with_zeros all back : List ℕ) → length front + length back ≤ 14 → with_zeros ≡ front ++ drop (length front + length back) (replicate 16 0) → all ≡ with_zeros ++ back → if_whole all ≡ with_zero_groups front back
zeros_between front with_zeros all back room middle end =
    ap if_whole (end ∙ ap (λ (l : List ℕ). l ++ back) middle) ∙ short_is_whole front back room

-- the octets of a group before those of other pieces
abbrev pub group_before : Option (List ℕ) → Option (List ℕ) → Option (List ℕ)
group_before group others = group >>= λ octets. others >>= λ more. Some (octets ++ more)

-- a piece that others follow is a group
pub piece_before : (ends : Bool) (piece : List ℕ) (pieces : List (List ℕ)) → 0 < length pieces → octets_of_pieces ends (piece ∷ pieces) ≡ group_before (group_of piece) (octets_of_pieces ends pieces)
piece_before ends piece [] some = absurd (omega arith)
piece_before ends piece (next ∷ pieces) some = refl

-- the octets so far with a group, and then with what follows, are the octets with both
pub group_taken : (old new : List ℕ) (group others : Option (List ℕ)) → option_map (λ more. old ++ more) group ≡ Some new → option_map (λ more. old ++ more) (group_before group others) ≡ option_map (λ more. new ++ more) others
group_taken old new None others h = cc
group_taken old new (Some octets) None h = refl
group_taken old new (Some octets) (Some others) h =
    let same : old ++ octets ≡ new = cc in
    ap (λ (l : List ℕ). Some l) (sym (append_assoc old octets others) ∙ ap (λ (l : List ℕ). l ++ others) same)

-- a group for which there is no room, or that is none, makes more than sixteen octets or none
pub group_refused : (old : List ℕ) (group others : Option (List ℕ)) → IfSome group (λ more. 16 < length old + length more) → IfSome (option_map (λ more. old ++ more) (group_before group others)) (λ octets. 16 < length octets)
group_refused old None others h = tt
group_refused old (Some octets) None h = tt
group_refused old (Some octets) (Some others) h = omega (arith, length-append old (octets ++ others), length-append octets others)

-- what is left goes on behind a group
pub pieces_taken : (ends : Bool) (old new piece rest after : List ℕ) (whole : Option (List ℕ)) → split_on 58 rest ≡ piece ∷ split_on 58 after → option_map (λ more. old ++ more) (group_of piece) ≡ Some new → option_map (λ more. old ++ more) (octets_of ends rest) ≡ whole → option_map (λ more. new ++ more) (octets_of ends after) ≡ whole
pieces_taken ends old new piece rest after whole e taken h =
    sym (group_taken old new (group_of piece) (octets_of ends after) taken)
    ∙ ap (option_map (λ more. old ++ more)) (sym (piece_before ends piece (split_on 58 after) (split-some 58 after)) ∙ ap (octets_of_pieces ends) (sym e))
    ∙ h

-- a group that isn't taken leaves too many octets or none
pub pieces_refused : (ends : Bool) (old piece rest after : List ℕ) (whole : Option (List ℕ)) → split_on 58 rest ≡ piece ∷ split_on 58 after → IfSome (group_of piece) (λ more. 16 < length old + length more) → option_map (λ more. old ++ more) (octets_of ends rest) ≡ whole → IfSome whole (λ octets. 16 < length octets)
pieces_refused ends old piece rest after whole e refused h =
    let same : option_map (λ more. old ++ more) (group_before (group_of piece) (octets_of ends after)) ≡ whole =
    ap (option_map (λ more. old ++ more)) (sym (piece_before ends piece (split_on 58 after) (split-some 58 after)) ∙ ap (octets_of_pieces ends) (sym e)) ∙ h in
    subst (λ (o : Option (List ℕ)). IfSome o (λ octets. 16 < length octets)) same (group_refused old (group_of piece) (octets_of ends after) refused)
