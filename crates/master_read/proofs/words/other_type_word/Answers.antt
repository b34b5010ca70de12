-- The words that the code compares are those of the definition.
use Rattle.std.proofs.Common.{◌≡◌, ℕ, Bool, false, List, codes, Option, Some, option_map, if◌then◌else◌, refl, ap, sym, ◌∙◌}
use Rattle.master_read.specs.Words.{is_some_word, dropped_words, other_words, number_behind, type_with, other_type_word}
use Rattle.master_read.specs.declared.words.TypeWord.{TypeWord}
use Rattle.master_read.specs.declared.words.TypeWord.TheVariants.{Dropped, Other}
use Rattle.master_read.proofs.words.other_type_word.Goals as goal

-- what is said by whether the octets are among the two lists
abbrev by : List ℕ → Bool → Bool → Option TypeWord
by octets dropped kept =
    if dropped then Some Dropped else (if kept then Some Other else option_map type_with (number_behind (codes "TYPE") octets))

said : (octets : List ℕ) (dropped kept : Bool) → dropped ≡ is_some_word dropped_words octets → kept ≡ is_some_word other_words octets → by octets dropped kept ≡ other_type_word octets
said octets dropped kept p q = ap (λ (d : Bool). by octets d kept) p ∙ ap (λ (k : Bool). by octets (is_some_word dropped_words octets) k) q

-- what is said where they are among neither
numbered : (octets : List ℕ) (dropped kept : Bool) (number : Option ℕ) → dropped ≡ is_some_word dropped_words octets → kept ≡ is_some_word other_words octets → dropped ≡ false → kept ≡ false
    → number ≡ number_behind (codes "TYPE") octets → option_map type_with number ≡ other_type_word octets
numbered octets dropped kept number p q f g r =
    ap (option_map type_with) r ∙ ap (λ (k : Bool). by octets false k) (sym g) ∙ ap (λ (d : Bool). by octets d kept) (sym f) ∙ said octets dropped kept p q

pub returns-then-is_some_word-2 : goal.returns-then-is_some_word-2
returns-then-is_some_word-2 c =
    let e = said c.args.octets.now c.is_some_word.result c.is_some_word-2.result c.is_some_word.ensures c.is_some_word-2.ensures in
    let both : by c.args.octets.now c.is_some_word.result c.is_some_word-2.result ≡ Some Other = rw (c.if-is_some_word.false, c.if-is_some_word-2.true) refl in
    sym both ∙ e

pub returns-in_err-number_behind : goal.returns-in_err-number_behind
returns-in_err-number_behind c =
    let e = numbered c.args.octets.now c.is_some_word.result c.is_some_word-2.result c.number_behind.result c.is_some_word.ensures c.is_some_word-2.ensures c.if-is_some_word.false c.if-is_some_word-2.false c.number_behind.ensures in
    rw c.from_residual.ensures (ap (option_map type_with) (sym c.in_err-number_behind.was) ∙ e)

pub returns : goal.returns
returns c =
    let e = numbered c.args.octets.now c.is_some_word.result c.is_some_word-2.result c.number_behind.result c.is_some_word.ensures c.is_some_word-2.ensures c.if-is_some_word.false c.if-is_some_word-2.false c.number_behind.ensures in
    ap (λ (word : TypeWord). Some word) c.type_with.ensures ∙ ap (option_map type_with) (sym c.in_ok-number_behind.was) ∙ e
