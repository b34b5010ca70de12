-- The faults that a query shows by its blackholes and its referrals, with the first type, one after the other.
use Rattle.std.proofs.Common.{◌≡◌, ℕ, ◌+◌, ◌<◌, List, [], ◌∷◌, ◌++◌, length, map, take, get_or, sym, ap, ◌∙◌}
use Rattle.std.specs.List.{flat_map}
use Rattle.std.proofs.lemmas.Grind.{flat_map-append}
use Rattle.std.proofs.lemmas.List.{append-nil, append_assoc, map-append, take_more}
use Rattle.std.proofs.lemmas.List.Concat.{flat_map-cons}
use Rattle.dns_data.specs.Name.{Labels}
use Rattle.dns_data.specs.declared.rr_type.RrType.TheVariants as types
use Rattle.graph_form.specs.Branches.{with_type}
use Rattle.graph_form.specs.declared.report.Seen.{Seen}
use Rattle.net_model.specs.declared.fault.Fault.{Fault}
use Rattle.net_model.specs.declared.fault.Fault.TheVariants as faults
use Rattle.straight_walks.specs.Faulty.{faults_at, faulty_cut, flag_faults}
use Rattle.straight_walks.specs.Nowhere.{alias_fault, blackholes_at, place_of}
use Rattle.straight_walks.specs.declared.faulty.Faulty.{Faulty}
use Rattle.straight_walks.specs.declared.lent_place.AliasFault.{AliasFault}
use Rattle.straight_walks.specs.declared.lent_place.LentPlace.{LentPlace}

-- a fault with the first type
abbrev seen_of : Fault → Seen
seen_of fault = record { fault = fault; rtype = types.A }

-- faults with the first type are put behind others in two steps as in one
put_both : (old : List Seen) (one other : List Fault) → (old ++ with_type types.A one) ++ with_type types.A other ≡ old ++ with_type types.A (one ++ other)
put_both old one other =
    append_assoc old (with_type types.A one) (with_type types.A other) ∙ ap (λ (all : List Seen). old ++ all) (sym (map-append seen_of one other))

-- faults of four kinds
pub put_four : (old : List Seen) (one two three four : List Fault)
    → (((old ++ with_type types.A one) ++ with_type types.A two) ++ with_type types.A three) ++ with_type types.A four ≡ old ++ with_type types.A (one ++ two ++ three ++ four)
put_four old one two three four =
    ap (λ (all : List Seen). (all ++ with_type types.A three) ++ with_type types.A four) (put_both old one two)
    ∙ ap (λ (all : List Seen). all ++ with_type types.A four) (put_both old (one ++ two) three)
    ∙ put_both old (one ++ two ++ three) four

-- those of one referral more
pub one_more : (query : Labels) (faulty : List Faulty) (at : ℕ) (one : Faulty) → at < length faulty → one ≡ get_or faulty at one
    → with_type types.A (faults_at query (take at faulty)) ++ with_type types.A (flag_faults one.flags (faulty_cut query one))
    ≡ with_type types.A (faults_at query (take (at + 1) faulty))
one_more query faulty at one within is =
    sym (map-append seen_of (faults_at query (take at faulty)) (faults one))
    ∙ ap (with_type types.A) (ap (λ (all : List Fault). faults_at query (take at faulty) ++ all) (sym (alone one)) ∙ sym (flat_map-append faults (take at faulty) (one ∷ [])))
    ∙ ap (λ (all : List Faulty). with_type types.A (faults_at query all)) (sym (take_more faulty at one within ∙ (λ i. take at faulty ++ sym is i ∷ [])))
  where
    faults : Faulty → List Fault
    faults one = flag_faults one.flags (faulty_cut query one)

    alone : (one : Faulty) → flat_map faults (one ∷ []) ≡ faults one
    alone one = flat_map-cons faults one [] ∙ append-nil (faults one)

-- those of one referral more, behind other faults
pub one_more_behind : (others : List Fault) (query : Labels) (faulty : List Faulty) (at : ℕ) (one : Faulty) → at < length faulty → one ≡ get_or faulty at one
    → with_type types.A (others ++ faults_at query (take at faulty)) ++ with_type types.A (flag_faults one.flags (faulty_cut query one))
    ≡ with_type types.A (others ++ faults_at query (take (at + 1) faulty))
one_more_behind others query faulty at one within is =
    let flagged = with_type types.A (flag_faults one.flags (faulty_cut query one)) in
    ap (λ (all : List Seen). all ++ flagged) (map-append seen_of others (faults_at query (take at faulty)))
    ∙ append_assoc (with_type types.A others) (with_type types.A (faults_at query (take at faulty))) flagged
    ∙ ap (λ (all : List Seen). with_type types.A others ++ all) (one_more query faulty at one within is)
    ∙ sym (map-append seen_of others (faults_at query (take (at + 1) faulty)))

-- one blackhole more
pub one_hole_more : (old : List Seen) (places : List LentPlace) (at : ℕ) (one : LentPlace) → at < length places → one ≡ get_or places at one
    → (old ++ with_type types.A (blackholes_at (take at places))) ++ with_type types.A (blackholes_at (one ∷ []))
    ≡ old ++ with_type types.A (blackholes_at (take (at + 1) places))
one_hole_more old places at one within is =
    append_assoc old (with_type types.A (blackholes_at (take at places))) (with_type types.A (blackholes_at (one ∷ [])))
    ∙ ap (λ (all : List Seen). old ++ all)
    (sym (map-append seen_of (blackholes_at (take at places)) (blackholes_at (one ∷ [])))
    ∙ ap (with_type types.A) (sym (map-append hole_of (take at places) (one ∷ []))
    ∙ ap blackholes_at (sym (take_more places at one within ∙ (λ i. take at places ++ sym is i ∷ [])))))
  where
    hole_of : LentPlace → Fault
    hole_of place = faults.Blackhole (place_of place)

-- one fault of an alias more
pub one_alias_more : (old : List Seen) (all : List AliasFault) (at : ℕ) (one : AliasFault) → at < length all → one ≡ get_or all at one
    → (old ++ with_type types.A (map alias_fault (take at all))) ++ with_type types.A (alias_fault one ∷ []) ≡ old ++ with_type types.A (map alias_fault (take (at + 1) all))
one_alias_more old all at one within is =
    append_assoc old (with_type types.A (map alias_fault (take at all))) (with_type types.A (alias_fault one ∷ []))
    ∙ ap (λ (rest : List Seen). old ++ rest)
    (sym (map-append seen_of (map alias_fault (take at all)) (alias_fault one ∷ []))
    ∙ ap (with_type types.A) (sym (map-append alias_fault (take at all) (one ∷ []))
    ∙ ap (map alias_fault) (sym (take_more all at one within ∙ (λ i. take at all ++ sym is i ∷ [])))))
