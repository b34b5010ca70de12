-- The files of a drill aren't too long.
use Rattle.std.proofs.Common.{ℕ, zero, suc, ◌+◌, ◌*◌, ◌/◌, ◌%◌, ◌<◌, ◌≤◌, Bool, true, false, List, [], ◌++◌, length, codes, decimal, flat_map, if◌then◌else◌, ◌==◌, nat_lt, arith, length-append}
use Rattle.std.specs.List.{range_with_len}
use Rattle.zone_maker.specs.Drill.{zone_numbers, next_zone, own_network, meta_row, meta_rows, meta_text, delegation_line, server_line, referral_lines, root_text, soa_line, web_line, alias_line, gone_line, made_zone_text}
use Rattle.drill_laws.proofs.Parts.{number_of}

short : (n : ℕ) → n < 10000 → length (decimal n) ≤ 4
short n small = (number_of n small).short

-- two texts are no longer than both together
both : (m n : ℕ) (first second : List ℕ) → length first ≤ m → length second ≤ n → length (first ++ second) ≤ m + n
both m n first second p q = omega (arith, length-append first second)

-- ---- lines, whatever their numbers

delegation_long : (d : List ℕ) → length d ≤ 4 → length (codes "z" ++ d ++ codes ". NS ns.z" ++ d ++ codes ".\n") ≤ 30
delegation_long d p = simp length-append (omega (arith, p))

address_long : (host d a b c : List ℕ) → length host ≤ 5 → length d ≤ 4 → length a ≤ 4 → length b ≤ 4 → length c ≤ 4
    → length (host ++ d ++ (codes ". A 10." ++ a ++ codes "." ++ b ++ codes "." ++ c ++ codes "\n")) ≤ 40
address_long host d a b c h p q r s = simp length-append (omega (arith, h, p, q, r, s))

soa_long : (d : List ℕ) → length d ≤ 4 → length (codes "z" ++ d ++ codes ". SOA ns.z" ++ d ++ (codes ". h.z" ++ d ++ codes ". 1 2 3 4 5\n")) ≤ 60
soa_long d p = simp length-append (omega (arith, p))

alias_long : (d e : List ℕ) → length d ≤ 4 → length e ≤ 4 → length (codes "alias.z" ++ d ++ codes ". CNAME www.z" ++ e ++ codes ".\n") ≤ 40
alias_long d e p q = simp length-append (omega (arith, p, q))

gone_long : (d : List ℕ) → length d ≤ 4 → length (codes "gone.z" ++ d ++ codes ". CNAME none.z" ++ d ++ codes ".\n") ≤ 40
gone_long d p = simp length-append (omega (arith, p))

row_long : (d : List ℕ) → length d ≤ 4 → length (codes ",{\"FileName\":\"z" ++ d ++ codes ".zone\",\"NameServer\":\"ns.z" ++ d ++ codes ".\"}") ≤ 70
row_long d p = simp length-append (omega (arith, p))

-- ---- the lines of numbers

server_size : (network i : ℕ) → network < 10000 → i < 10000 → length (server_line network i) ≤ 40
server_size network i fits small =
    address_long (codes "ns.z") (decimal i) (decimal network) (decimal (i / 256)) (decimal (i % 256)) (omega arith) (short i small) (short network fits) (short (i / 256) (omega arith)) (short (i % 256) (omega arith))

web_size : (i : ℕ) → i < 10000 → length (web_line i) ≤ 40
web_size i small =
    address_long (codes "www.z") (decimal i) (decimal 1) (decimal (i / 256)) (decimal (i % 256)) (omega arith) (short i small) (short 1 (omega arith)) (short (i / 256) (omega arith)) (short (i % 256) (omega arith))

gone_size : (i : ℕ) → i < 10000 → length (gone_line i) ≤ 40
gone_size i small = by (i % 10 == 3) where
  by : (b : Bool) → length (if b then codes "gone.z" ++ decimal i ++ codes ". CNAME none.z" ++ decimal i ++ codes ".\n" else []) ≤ 40
  by true = gone_long (decimal i) (short i small)
  by false = omega arith

network_small : (i : ℕ) → own_network i < 10000
network_small i = by (i % 10 == 7) where
  by : (b : Bool) → (if b then 2 else 0) < 10000
  by true = omega arith
  by false = omega arith

next_small : (n i : ℕ) → i < 5000 → next_zone n i < 10000
next_small n i small = by (nat_lt (i + 1) n) where
  by : (b : Bool) → (if b then i + 1 else 0) < 10000
  by true = omega arith
  by false = omega arith

-- ---- texts

-- the text of a zone is no longer than a file usually may be
pub zone_size : (n i : ℕ) → i < 5000 → length (made_zone_text n i) ≤ 16777216
zone_size n i small =
    let below : i < 10000 = omega arith in
    let first : length (codes "$TTL 60\n") ≤ 8 = omega arith in
    let soa = both 8 60 (codes "$TTL 60\n") (soa_line i) first (soa_long (decimal i) (short i below)) in
    let delegation = both 68 30 (codes "$TTL 60\n" ++ soa_line i) (delegation_line i) soa (delegation_long (decimal i) (short i below)) in
    let server = both 98 40 (codes "$TTL 60\n" ++ soa_line i ++ delegation_line i) (server_line (own_network i) i) delegation (server_size (own_network i) i (network_small i) below) in
    let web = both 138 40 (codes "$TTL 60\n" ++ soa_line i ++ delegation_line i ++ server_line (own_network i) i) (web_line i) server (web_size i below) in
    let alias = both 178 40 (codes "$TTL 60\n" ++ soa_line i ++ delegation_line i ++ server_line (own_network i) i ++ web_line i) (alias_line i (next_zone n i)) web (alias_long (decimal i) (decimal (next_zone n i)) (short i below) (short (next_zone n i) (next_small n i small))) in
    let all = both 218 40 (codes "$TTL 60\n" ++ soa_line i ++ delegation_line i ++ server_line (own_network i) i ++ web_line i ++ alias_line i (next_zone n i)) (gone_line i) alias (gone_size i below) in
    omega (arith, all)

-- texts of numbers in order, each of which is no longer than that
numbers_long : (most : ℕ) (text : ℕ → List ℕ) → ((i : ℕ) → i < 5000 → length (text i) ≤ most) → (a k : ℕ) → a + k ≤ 5000 → length (flat_map text (range_with_len a k)) ≤ k * most
numbers_long most text each a zero fits = omega arith
numbers_long most text each a (suc k) fits =
    omega (arith, both most (k * most) (text a) (flat_map text (range_with_len (a + 1) k)) (each a (omega arith)) (numbers_long most text each (a + 1) k (omega arith)))

referral_size : (i : ℕ) → i < 5000 → length (referral_lines i) ≤ 70
referral_size i small = both 30 40 (delegation_line i) (server_line 0 i) (delegation_long (decimal i) (short i (omega arith))) (server_size 0 i (omega arith) (omega arith))

-- the text of the root zone is no longer than a file usually may be
pub root_size : (n : ℕ) → n ≤ 5000 → length (root_text n) ≤ 16777216
root_size n few =
    let lines = numbers_long 70 referral_lines referral_size 0 n (omega arith) in
    let all = both 60 (n * 70) (codes "$TTL 60\n. SOA a.top. h.top. 1 2 3 4 5\n. NS a.top.\n") (flat_map referral_lines (zone_numbers n)) (omega arith) lines in
    omega (arith, all)

row_size : (i : ℕ) → i < 5000 → length (meta_row i) ≤ 70
row_size i small = row_long (decimal i) (short i (omega arith))

-- the text of the metadata is no longer than a file usually may be
pub meta_size : (n : ℕ) → n ≤ 5000 → length (meta_text n) ≤ 16777216
meta_size n few =
    let rows = numbers_long 70 meta_row row_size 0 n (omega arith) in
    let front = both 100 (n * 70) (codes "{\"TopNameServers\":[\"a.top.\"],\"ZoneFiles\":[{\"FileName\":\"root.zone\",\"NameServer\":\"a.top.\"}") (flat_map meta_row (zone_numbers n)) (omega arith) rows in
    let all = both (100 + n * 70) 2 (meta_rows n) (codes "]}") front (omega arith) in
    omega (arith, all)
