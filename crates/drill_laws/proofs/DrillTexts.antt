-- The texts of a drill's zones are the lines of their rows.
use Rattle.std.proofs.Common.{◌≡◌, ℕ, zero, suc, ◌+◌, ◌/◌, ◌%◌, Bool, true, false, List, [], ◌∷◌, ◌++◌, map, codes, decimal, flat_map, if◌then◌else◌, ◌==◌, refl, sym, ap, ◌∙◌, append_assoc, append-nil}
use Rattle.std.specs.List.{range_with_len}
use Rattle.zone_maker.specs.Drill.{next_zone, own_network, delegation_line, server_line, referral_lines, root_text, soa_line, web_line, alias_line, gone_line, made_zone_text}
use Rattle.drill_laws.proofs.Lines.{line_text}
use Rattle.drill_laws.proofs.Rows.{Row, row_words, ttl_line}
use Rattle.drill_laws.proofs.DrillRows.{delegation_row, address_row, soa_row, alias_row, referral_rows, root_rows, gone_rows, zone_rows}

-- the line of a row
abbrev row_line : Row → List ℕ
row_line row = line_text (row_words row)

-- ---- The pieces of lines, grouped as they are made and as words of a row: those of a line with two numbers, of one with
-- three and of one with four.
glue_two : (z d p m e q f : List ℕ) → z ++ d ++ (p ++ m) ++ e ++ (q ++ f) ≡ (z ++ (d ++ p)) ++ (m ++ ((e ++ q) ++ f))
glue_two z d p m e q f = simp append_assoc

glue_three : (z d p m n f : List ℕ) → z ++ d ++ (p ++ m) ++ d ++ ((p ++ n) ++ d ++ (p ++ f)) ≡ (z ++ (d ++ p)) ++ (m ++ ((d ++ p) ++ (n ++ ((d ++ p) ++ f))))
glue_three z d p m n f = simp append_assoc

glue_four : (h d p m t a q b r c f : List ℕ) → h ++ d ++ ((p ++ (m ++ t)) ++ a ++ q ++ b ++ r ++ c ++ f) ≡ (h ++ (d ++ p)) ++ (m ++ ((t ++ a ++ q ++ b ++ r ++ c) ++ f))
glue_four h d p m t a q b r c f = simp append_assoc

-- ---- each line

delegation_same : (i : ℕ) → delegation_line i ≡ row_line (delegation_row (decimal i))
delegation_same i = glue_two (codes "z") (decimal i) (codes ".") (codes " NS ns.z") (decimal i) (codes ".") (codes "\n")

soa_same : (i : ℕ) → soa_line i ≡ row_line (soa_row (decimal i))
soa_same i = glue_three (codes "z") (decimal i) (codes ".") (codes " SOA ns.z") (codes " h.z") (codes " 1 2 3 4 5\n")

server_same : (network i : ℕ) → server_line network i ≡ row_line (address_row (codes "ns") network i)
server_same network i =
    glue_four (codes "ns.z") (decimal i) (codes ".") (codes " A ") (codes "10.") (decimal network) (codes ".") (decimal (i / 256)) (codes ".") (decimal (i % 256)) (codes "\n")

web_same : (i : ℕ) → web_line i ≡ row_line (address_row (codes "www") 1 i)
web_same i =
    glue_four (codes "www.z") (decimal i) (codes ".") (codes " A ") (codes "10.") (decimal 1) (codes ".") (decimal (i / 256)) (codes ".") (decimal (i % 256)) (codes "\n")

alias_same : (i to : ℕ) → alias_line i to ≡ row_line (alias_row (codes "alias") (decimal i) (codes "www") (decimal to))
alias_same i to = glue_two (codes "alias.z") (decimal i) (codes ".") (codes " CNAME www.z") (decimal to) (codes ".") (codes "\n")

abbrev gone : ℕ → Row
gone i = alias_row (codes "gone") (decimal i) (codes "none") (decimal i)

gone_same : (i : ℕ) → gone_line i ≡ flat_map line_text (map row_words (gone_rows i))
gone_same i = by (i % 10 == 3) where
  by : (b : Bool) → (if b then codes "gone.z" ++ decimal i ++ codes ". CNAME none.z" ++ decimal i ++ codes ".\n" else []) ≡ flat_map line_text (map row_words (if b then gone i ∷ [] else []))
  by true =
      glue_two (codes "gone.z") (decimal i) (codes ".") (codes " CNAME none.z") (decimal i) (codes ".") (codes "\n")
      ∙ sym (append-nil (row_line (gone i)))
  by false = refl

-- ---- the root zone

referrals_same : (a k : ℕ) → flat_map referral_lines (range_with_len a k) ≡ flat_map line_text (map row_words (flat_map referral_rows (range_with_len a k)))
referrals_same a zero = refl
referrals_same a (suc k) =
    let rest = referrals_same (a + 1) k in
    append_assoc (delegation_line a) (server_line 0 a) (flat_map referral_lines (range_with_len (a + 1) k))
    ∙ (λ i. delegation_same a i ++ (server_same 0 a i ++ rest i))

-- the text of the root zone is a line with the TTL and a line for each row
pub root_same : (n : ℕ) → root_text n ≡ flat_map line_text (ttl_line ∷ map row_words (root_rows n))
root_same n = ap (λ (rest : List ℕ). codes "$TTL 60\n. SOA a.top. h.top. 1 2 3 4 5\n. NS a.top.\n" ++ rest) (referrals_same 0 n)

-- ---- a zone

seven : (a b c d e f g : List ℕ) → a ++ b ++ c ++ d ++ e ++ f ++ g ≡ a ++ (b ++ (c ++ (d ++ (e ++ (f ++ g)))))
seven a b c d e f g = simp append_assoc

-- the text of a zone is a line with the TTL and a line for each row
pub zone_same : (n i : ℕ) → made_zone_text n i ≡ flat_map line_text (ttl_line ∷ map row_words (zone_rows n i))
zone_same n i =
    seven (codes "$TTL 60\n") (soa_line i) (delegation_line i) (server_line (own_network i) i) (web_line i) (alias_line i (next_zone n i)) (gone_line i)
    ∙ (λ j. codes "$TTL 60\n" ++ (soa_same i j ++ (delegation_same i j ++ (server_same (own_network i) i j ++ (web_same i j ++ (alias_same i (next_zone n i) j ++ gone_same i j))))))
