-- The values that `clap` keeps under an id.
use Rattle.std.proofs.Common.{◌≡◌, ◌∙◌, ◌⊎◌, inl, inr, Bool, cond, codes, true, false, refl, sym, ap, subst, List, [], ◌∷◌, ◌++◌, Option, Some, None, is_some, true≢false}
use Rattle.std.specs.Prelude.{find, option_map, unwrap_or, ◌||◌}
use Rattle.std.specs.Str.{bytes_eq}
use Rattle.std.proofs.lemmas.Slice.Eq.{bytes_eq-Decides}
use Rattle.clap.specs.Faults.{use_fault}
use Rattle.clap.specs.Walk.{Row, Rule, Text, all_of, at_row, has_row, more_values, reading_by, used, without}
use Rattle.clap.specs.declared.parser.matches.ValueSource.TheVariants.{CommandLine}
use Rattle.groot_line.specs.Arguments.{Arguments, value_given, with_option_value, with_operand}
use Rattle.groot_line.specs.LineOption.{option_name}
use Rattle.groot_line.specs.declared.line_option.LineOption.{LineOption}
use Rattle.groot_line.specs.declared.line_option.LineOption.TheVariants.{Workers, Classes, Rewrites}
use Rattle.groot_line.proofs.ClapLine.{operands_built, option_built}

text_same : (a b : Text) → bytes_eq a b ≡ true → a ≡ b
text_same a b = (bytes_eq-Decides a b).0

-- the first row of an id, which is the row in front or one behind it
abbrev values_first : Text → Row → List Row → Bool → Option (List Text)
values_first id r rows b = option_map (λ (x : Row). x.values) (cond b (Some r) (find (λ (x : Row). bytes_eq x.id id) rows))

-- a row more, or more values of a row, at another id
at_other : (id other : Text) (vs : List Text) (new : Row) → bytes_eq new.id other ≡ false → bytes_eq id other ≡ false → (rows : List Row)
    → all_of other (at_row id (more_values CommandLine vs) (new ∷ []) rows) ≡ all_of other rows
at_other id other vs new fresh apart [] = ap (values_first other new []) fresh
at_other id other vs new fresh apart (r ∷ rows) = by (at_other id other vs new fresh apart rows) (bytes_eq r.id id) refl where
  by : all_of other (at_row id (more_values CommandLine vs) (new ∷ []) rows) ≡ all_of other rows → (b : Bool) → bytes_eq r.id id ≡ b
      → all_of other (cond b (more_values CommandLine vs r ++ rows) (r ∷ at_row id (more_values CommandLine vs) (new ∷ []) rows)) ≡ all_of other (r ∷ rows)
  by behind true e =
      let not_other : bytes_eq r.id other ≡ false = subst (λ i. bytes_eq i other ≡ false) (sym (text_same r.id id e)) apart in
      rw not_other refl
  by behind false e = deeper (bytes_eq r.id other) where
    deeper : (c : Bool) → values_first other r (at_row id (more_values CommandLine vs) (new ∷ []) rows) c ≡ values_first other r rows c
    deeper true = refl
    deeper false = behind

-- the same at this id
at_same : (id : Text) (vs : List Text) (new : Row) → bytes_eq new.id id ≡ true → new.values ≡ vs → (rows : List Row)
    → all_of id (at_row id (more_values CommandLine vs) (new ∷ []) rows) ≡ Some (unwrap_or (all_of id rows) [] ++ vs)
at_same id vs new own same [] = ap (values_first id new []) own ∙ ap Some same
at_same id vs new own same (r ∷ rows) = by (at_same id vs new own same rows) (bytes_eq r.id id) refl where
  by : all_of id (at_row id (more_values CommandLine vs) (new ∷ []) rows) ≡ Some (unwrap_or (all_of id rows) [] ++ vs) → (b : Bool) → bytes_eq r.id id ≡ b
      → all_of id (cond b (more_values CommandLine vs r ++ rows) (r ∷ at_row id (more_values CommandLine vs) (new ∷ []) rows))
      ≡ Some (unwrap_or (values_first id r rows b) [] ++ vs)
  by behind true e = rw e refl
  by behind false e = rw e behind

-- an id without values has no row
absent : (id : Text) (rows : List Row) → all_of id rows ≡ None → has_row id rows ≡ false
absent id [] e = refl
absent id (r ∷ rows) e = by (absent id rows) (bytes_eq r.id id) e where
  by : (all_of id rows ≡ None → has_row id rows ≡ false) → (b : Bool) → values_first id r rows b ≡ None → (b || has_row id rows) ≡ false
  by behind true e = cc
  by behind false e = behind e

present : (id : Text) (vs : List Text) (rows : List Row) → all_of id rows ≡ Some vs → has_row id rows ≡ true
present id vs [] e = cc
present id vs (r ∷ rows) e = by (present id vs rows) (bytes_eq r.id id) e where
  by : (all_of id rows ≡ Some vs → has_row id rows ≡ true) → (b : Bool) → values_first id r rows b ≡ Some vs → (b || has_row id rows) ≡ true
  by behind true e = refl
  by behind false e = behind e

without_absent : (id : Text) (rows : List Row) → has_row id rows ≡ false → without id rows ≡ rows
without_absent id [] e = refl
without_absent id (r ∷ rows) e = by (without_absent id rows) (bytes_eq r.id id) e where
  by : (has_row id rows ≡ false → without id rows ≡ rows) → (b : Bool) → (b || has_row id rows) ≡ false → cond b rows (r ∷ without id rows) ≡ r ∷ rows
  by behind true e = absurd (true≢false e)
  by behind false e = ap (λ xs. r ∷ xs) (behind e)

-- ---- what rows say of arguments

-- the rows have the value of each option of the arguments that has one, and their operands
pub record Says (rows : List Row) (a : Arguments) : Type 0 where
  pub of_option : (o : LineOption) → all_of (option_name o) rows ≡ option_map (λ v. v ∷ []) (value_given o a)
  pub of_operands : unwrap_or (all_of (codes "operands") rows) [] ≡ a.operands

-- one option, or two with different names, of which one keeps its value
apart : (o p : LineOption) (v : Text) (a : Arguments) → (o ≡ p) ⊎ ((bytes_eq (option_name o) (option_name p) ≡ false) × (value_given p (with_option_value o v a) ≡ value_given p a))
apart Workers Workers v a = inl refl
apart Workers Classes v a = inr (refl, refl)
apart Workers Rewrites v a = inr (refl, refl)
apart Classes Workers v a = inr (refl, refl)
apart Classes Classes v a = inl refl
apart Classes Rewrites v a = inr (refl, refl)
apart Rewrites Workers v a = inr (refl, refl)
apart Rewrites Classes v a = inr (refl, refl)
apart Rewrites Rewrites v a = inl refl

is_given : (o : LineOption) (v : Text) (a : Arguments) → value_given o (with_option_value o v a) ≡ Some v
is_given Workers v a = refl
is_given Classes v a = refl
is_given Rewrites v a = refl

keeps_operands : (o : LineOption) (v : Text) (a : Arguments) → (with_option_value o v a).operands ≡ a.operands
keeps_operands Workers v a = refl
keeps_operands Classes v a = refl
keeps_operands Rewrites v a = refl

own_name : (o : LineOption) → bytes_eq (option_name o) (option_name o) ≡ true
own_name Workers = refl
own_name Classes = refl
own_name Rewrites = refl

keeps_values : (o : LineOption) (v : Text) (a : Arguments) → value_given o (with_operand v a) ≡ value_given o a
keeps_values Workers v a = refl
keeps_values Classes v a = refl
keeps_values Rewrites v a = refl

no_operands : (o : LineOption) → bytes_eq (option_name o) (codes "operands") ≡ false
no_operands Workers = refl
no_operands Classes = refl
no_operands Rewrites = refl

no_option : (o : LineOption) → bytes_eq (codes "operands") (option_name o) ≡ false
no_option Workers = refl
no_option Classes = refl
no_option Rewrites = refl

-- the row of an argument with one value
abbrev one_row : Rule → Text → Row
one_row rule v = record { id = rule.id; values = v ∷ []; count = None; source = Some CommandLine; reading = reading_by rule }

not_there : (o : LineOption) (rows : List Row) (a : Arguments) → Says rows a → value_given o a ≡ None → has_row (option_name o) rows ≡ false
not_there o rows a says none = absent (option_name o) rows (says.of_option o ∙ ap (option_map (λ v. v ∷ [])) none)

there : (o : LineOption) (rows : List Row) (a : Arguments) → Says rows a → is_some (value_given o a) ≡ true → has_row (option_name o) rows ≡ true
there o rows a says some = by (value_given o a) refl some where
  by : (value : Option Text) → value_given o a ≡ value → is_some value ≡ true → has_row (option_name o) rows ≡ true
  by None e some = absurd (true≢false (sym some))
  by (Some v) e some = present (option_name o) (v ∷ []) rows (says.of_option o ∙ ap (option_map (λ v. v ∷ [])) e)

-- a first use of an option
pub once_passes : (o : LineOption) (v : Text) (rows : List Row) (a : Arguments) → Says rows a → value_given o a ≡ None → use_fault false (option_built o) (v ∷ []) rows ≡ []
once_passes o v rows a says none = rw (not_there o rows a says none) refl

-- with an option that is used for the first time, the rows say what the arguments with its value do
pub once_says : (o : LineOption) (v : Text) (rows : List Row) (a : Arguments) → Says rows a → value_given o a ≡ None → Says (used (option_built o) (v ∷ []) rows) (with_option_value o v a)
once_says o v rows a says none = record { of_option = of_option; of_operands = of_operands } where
  id : Text
  id = option_name o

  more : List Row → List Row
  more = at_row id (more_values CommandLine (v ∷ [])) (one_row (option_built o) v ∷ [])

  clean : more (without id rows) ≡ more rows
  clean = ap more (without_absent id rows (not_there o rows a says none))

  empty : all_of id rows ≡ None
  empty = says.of_option o ∙ ap (option_map (λ v. v ∷ [])) none

  of_option : (p : LineOption) → all_of (option_name p) (more (without id rows)) ≡ option_map (λ v. v ∷ []) (value_given p (with_option_value o v a))
  of_option p = by (apart o p v a) where
    by : (o ≡ p) ⊎ ((bytes_eq id (option_name p) ≡ false) × (value_given p (with_option_value o v a) ≡ value_given p a))
        → all_of (option_name p) (more (without id rows)) ≡ option_map (λ v. v ∷ []) (value_given p (with_option_value o v a))
    by (inl same) = subst (λ q. all_of (option_name q) (more (without id rows)) ≡ option_map (λ v. v ∷ []) (value_given q (with_option_value o v a))) same
        (ap (all_of id) clean ∙ at_same id (v ∷ []) (one_row (option_built o) v) (own_name o) refl rows
        ∙ ap (λ found. Some (unwrap_or found [] ++ v ∷ [])) empty ∙ sym (ap (option_map (λ v. v ∷ [])) (is_given o v a)))
    by (inr other) = ap (all_of (option_name p)) clean ∙ at_other id (option_name p) (v ∷ []) (one_row (option_built o) v) other.0 other.0 rows
        ∙ says.of_option p ∙ sym (ap (option_map (λ v. v ∷ [])) other.1)

  of_operands : unwrap_or (all_of (codes "operands") (more (without id rows))) [] ≡ (with_option_value o v a).operands
  of_operands = ap (λ found. unwrap_or found [])
      (ap (all_of (codes "operands")) clean ∙ at_other id (codes "operands") (v ∷ []) (one_row (option_built o) v) (no_operands o) (no_operands o) rows)
      ∙ says.of_operands ∙ sym (keeps_operands o v a)

-- a second use of an option
pub twice_fails : (o : LineOption) (v : Text) (rows : List Row) (a : Arguments) → Says rows a → is_some (value_given o a) ≡ true → use_fault false (option_built o) (v ∷ []) rows ≡ [] → ⊥
twice_fails o v rows a says some = rw (there o rows a says some) (λ e. cc)

-- an operand more
pub operand_passes : (v : Text) (rows : List Row) → use_fault false operands_built (v ∷ []) rows ≡ []
operand_passes v rows = refl

-- with an operand more, the rows say what the arguments with it do
pub operand_says : (v : Text) (rows : List Row) (a : Arguments) → Says rows a → Says (used operands_built (v ∷ []) rows) (with_operand v a)
operand_says v rows a says = record {
  of_option = λ o. at_other (codes "operands") (option_name o) (v ∷ []) (one_row operands_built v) (no_option o) (no_option o) rows
      ∙ says.of_option o ∙ sym (ap (option_map (λ x. x ∷ [])) (keeps_values o v a));
  of_operands = ap (λ found. unwrap_or found []) (at_same (codes "operands") (v ∷ []) (one_row operands_built v) refl refl rows)
      ∙ ap (λ words. words ++ v ∷ []) says.of_operands;
}
