-- The records of a drill's root zone fit.
use Rattle.std.proofs.Common.{◌≡◌, ◌≢◌, ℕ, zero, suc, ◌+◌, ◌<◌, ◌≤◌, Bool, true, false, ◌&&◌, List, [], ◌∷◌, ◌++◌, decimal, codes, flat_map, None, Ok, refl, ap, arith}
use Rattle.std.specs.List.{AllByRecursion, range_with_len}
use Rattle.std.proofs.Math.Bool.{and-false}
use Rattle.std.proofs.lemmas.Bool.{false_from_ne_true}
use Rattle.std.proofs.lemmas.Fmt.{decimal_injective}
use Rattle.dns_data.specs.Label.{label_eq}
use Rattle.dns_data.specs.Name.{name_eq}
use Rattle.dns_data.specs.declared.rdata.Rr.{Rr}
use Rattle.dns_data.proofs.Names.{label_eq_decides, all_push, all_so}
use Rattle.zone_rules.specs.ZoneOf.{zone_of}
use Rattle.zone_maker.specs.Drill.{zone_numbers}
use Rattle.drill_laws.proofs.Rows.{Row, row_rr, rows_rrs}
use Rattle.drill_laws.proofs.Names.{zone_label, zone_name, host_name}
use Rattle.drill_laws.proofs.DrillRows.{delegation_row, address_row, referral_rows, root_soa, root_ns, root_rows}
use Rattle.drill_laws.proofs.Fitting.{Fits, AllFit, NoSoas, IsNewOwner, new_owner_fits, zone_fits}

-- the labels of two zones differ
pub labels_apart : (i j : ℕ) → i ≢ j → i < 10000 → j < 10000 → label_eq (zone_label (decimal i)) (zone_label (decimal j)) ≡ false
labels_apart i j apart p q =
    false_from_ne_true _ (λ e.
    let same : zone_label (decimal i) ≡ zone_label (decimal j) = (label_eq_decides (zone_label (decimal i)) (zone_label (decimal j))).0 e in
    let digits : decimal i ≡ decimal j = cc in
    absurd (apart (decimal_injective i j (omega arith) (omega arith) digits)))

-- the record's owner isn't in a zone from this number on
record IsEarlier (from : ℕ) (rr : Rr) : Type 0 where
  zone : (j : ℕ) → from ≤ j → j < 10000 → name_eq (zone_name (decimal j)) rr.owner ≡ false
  host : (j : ℕ) → from ≤ j → j < 10000 → name_eq (host_name (codes "ns") (decimal j)) rr.owner ≡ false

later : (from : ℕ) (rr : Rr) → IsEarlier from rr → IsEarlier (from + 1) rr
later from rr is = record {
  zone = λ j above below. is.zone j (omega arith) below;
  host = λ j above below. is.host j (omega arith) below;
}

delegation_earlier : (i line : ℕ) → i < 10000 → IsEarlier (i + 1) (row_rr line (delegation_row (decimal i)))
delegation_earlier i line small = record {
  zone = λ j above below. ap (λ (b : Bool). b && true) (labels_apart j i (λ e. omega arith) below small);
  host = λ j above below. and-false (label_eq (zone_label (decimal j)) (zone_label (decimal i)));
}

server_earlier : (i line : ℕ) → i < 10000 → IsEarlier (i + 1) (row_rr line (address_row (codes "ns") 0 i))
server_earlier i line small = record {
  zone = λ j above below. and-false (label_eq (zone_label (decimal j)) (zone_label (decimal i)));
  host = λ j above below. ap (λ (b : Bool). b && true) (labels_apart j i (λ e. omega arith) below small);
}

referrals_fit : (a k line : ℕ) (before : List Rr) → a + k ≤ 10000 → AllByRecursion (IsEarlier a) before → AllFit [] before (rows_rrs line (flat_map referral_rows (range_with_len a k)))
referrals_fit a zero line before fits are = tt
referrals_fit a (suc k) line before fits are =
    let small : a < 10000 = omega arith in
    let delegation : Rr = row_rr line (delegation_row (decimal a)) in
    let server : Rr = row_rr (line + 1) (address_row (codes "ns") 0 a) in
    let zone_new : IsNewOwner (zone_name (decimal a)) before =
    all_so (IsEarlier a) (λ other. name_eq (zone_name (decimal a)) other.owner ≡ false) before (λ other is. is.zone a (omega arith) small) are in
    let host_new : IsNewOwner (host_name (codes "ns") (decimal a)) before =
    all_so (IsEarlier a) (λ other. name_eq (host_name (codes "ns") (decimal a)) other.owner ≡ false) before (λ other is. is.host a (omega arith) small) are in
    let host_new_behind : IsNewOwner (host_name (codes "ns") (decimal a)) (before ++ delegation ∷ []) =
    all_push (λ other. name_eq (host_name (codes "ns") (decimal a)) other.owner ≡ false) before delegation host_new (and-false (label_eq (zone_label (decimal a)) (zone_label (decimal a)))) in
    let earlier : AllByRecursion (IsEarlier (a + 1)) before = all_so (IsEarlier a) (IsEarlier (a + 1)) before (λ other is. later a other is) are in
    let all : AllByRecursion (IsEarlier (a + 1)) ((before ++ delegation ∷ []) ++ server ∷ []) =
    all_push (IsEarlier (a + 1)) (before ++ delegation ∷ []) server
    (all_push (IsEarlier (a + 1)) before delegation earlier (delegation_earlier a line small))
    (server_earlier a (line + 1) small) in (
      new_owner_fits [] before delegation zone_new refl refl refl refl,
      (
        new_owner_fits [] (before ++ delegation ∷ []) server host_new_behind refl refl refl refl,
        referrals_fit (a + 1) k ((line + 1) + 1) ((before ++ delegation ∷ []) ++ server ∷ []) (omega arith) all,
      ),
    )

referrals_no_soas : (a k line : ℕ) → NoSoas (rows_rrs line (flat_map referral_rows (range_with_len a k)))
referrals_no_soas a zero line = tt
referrals_no_soas a (suc k) line = (refl, (refl, referrals_no_soas (a + 1) k ((line + 1) + 1)))

-- ---- the root zone

root_earlier : (line : ℕ) (row : Row) → row.owner ≡ [] → IsEarlier 0 (row_rr line row)
root_earlier line row root = record {
  zone = λ j above below. ap (name_eq (zone_name (decimal j))) root;
  host = λ j above below. ap (name_eq (host_name (codes "ns") (decimal j))) root;
}

soa_fits : Fits [] [] (row_rr 2 root_soa)
soa_fits = record { new = refl; below = refl; rules = refl }

ns_fits : Fits [] (row_rr 2 root_soa ∷ []) (row_rr 3 root_ns)
ns_fits = record { new = refl; below = refl; rules = refl }

-- the records of the root zone are a zone
pub root_zone : (n : ℕ) → n ≤ 5000 → zone_of None (rows_rrs 2 (root_rows n)) ≡ Ok (record { origin = []; rrs = rows_rrs 2 (root_rows n) })
root_zone n few =
    zone_fits (row_rr 2 root_soa) (rows_rrs 3 (root_ns ∷ flat_map referral_rows (zone_numbers n))) refl
    (refl, referrals_no_soas 0 n 4) refl
    (soa_fits, (ns_fits, referrals_fit 0 n 4 (row_rr 2 root_soa ∷ row_rr 3 root_ns ∷ []) (omega arith) (root_earlier 2 root_soa refl, (root_earlier 3 root_ns refl, tt))))
