-- One step of `clap` over the words, by what the word looks like.
use Rattle.std.proofs.Common.{◌≡◌, ◌∙◌, ◌&&◌, ◌==◌, ℕ, Bool, cond, codes, true, false, refl, sym, ap, ap₂, subst, List, [], ◌∷◌, Option, Some, None}
use Rattle.std.specs.Option.{option_map_or}
use Rattle.std.specs.Str.{bytes_eq}
use Rattle.std.proofs.Math.Bool.{and-false}
use Rattle.clap.specs.Faults.{bundle_fault, long_fault, settle_fault, flag_word_fault, other_fault, positional_fault, step_fault, stray_fault, turn_fault, use_fault, word_fault}
use Rattle.clap.specs.Kinds.{Kinds, or_else}
use Rattle.clap.specs.Lexer.{long_of, short_of}
use Rattle.clap.specs.Walk.{Held, Row, Rule, Step, Text, Waiting, Walk, after_flag, after_step, arg_by_index, arg_by_long, idle, is_pending, long_met, long_or_other, long_word, next, option, option_word, plain_word, positional, pushed, settled, settled_rows, short_or_plain, subcommand_met, subcommand_or_other, to_positional, trailing, used, value, walked, word_met}
use Rattle.clap.specs.declared.error.kind.ErrorKind.TheVariants as kind
use Rattle.groot_line.specs.Arguments.{is_dashed}
use Rattle.groot_line.specs.Command.{has_option}
use Rattle.groot_line.specs.LineOption.{option_name}
use Rattle.groot_line.specs.declared.command.Command.{Command}
use Rattle.groot_line.specs.declared.line_option.LineOption.{LineOption}
use Rattle.groot_line.specs.declared.line_option.LineOption.TheVariants.{Workers, Classes, Rewrites}
use Rattle.groot_line.proofs.ClapLine.{by_index, by_option, line_shape, operands_built, option_built, rules}

-- what is held between two words, and where the walk stands
abbrev pub held_at : List Row → Option (Text × List Text) → Held
held_at rows pending = record { rows = rows; pending = pending; skip = 0 }

-- the walk between two words, with these rows and the pending values
abbrev pub walk_at : List Row → Option (Text × List Text) → Waiting → Walk
walk_at rows pending waiting = record { held = held_at rows pending; waiting = waiting; position = 1; is_trailing = false; stopped = None }

-- no option waits for its value; operands have come, or not
abbrev pub between : Bool → Waiting
between true = positional
between false = idle

-- kinds with no others behind them are themselves
pub or_else_none : (kinds : Kinds) → or_else kinds [] ≡ kinds
or_else_none [] = refl
or_else_none (k ∷ ks) = refl

-- where there is none of two kinds of faults, there is none of the first
pub first_none : (a b : Kinds) → or_else a b ≡ [] → a ≡ []
first_none [] b e = refl
first_none (k ∷ ks) b e = cc

no_subcommand : (waiting : Waiting) (word : Text) → subcommand_met [] waiting word ≡ None
no_subcommand idle word = refl
no_subcommand (option id) word = refl
no_subcommand positional word = refl

walked_is : (c : List Rule) (rows : List Row) (pending : Option (Text × List Text)) (waiting : Waiting) (word : Text)
    → walked c [] (walk_at rows pending waiting) word
    ≡ after_step c word (walk_at rows pending waiting) (word_met c [] false waiting 1 word (held_at rows pending)).0 (word_met c [] false waiting 1 word (held_at rows pending)).1
unfolding walked
walked_is c rows pending waiting word = refl

-- ---- a word that doesn't begin with a dash

-- of the two kinds of flags it is none
no_short : (x : ℕ) (xs : Text) → (x == 45) ≡ false → short_of (x ∷ xs) ≡ None
no_short x xs e = rw e refl

plain_met : (c : List Rule) (rows : List Row) (pending : Option (Text × List Text)) (waiting : Waiting) (word : Text) → is_dashed word ≡ false
    → word_met c [] false waiting 1 word (held_at rows pending) ≡ plain_word c waiting word (held_at rows pending)
plain_met c rows pending waiting [] e = ap (λ sub. subcommand_or_other c sub waiting 1 [] (held_at rows pending)) (no_subcommand waiting [])
plain_met c rows pending waiting (x ∷ xs) e =
    ap (λ sub. subcommand_or_other c sub waiting 1 (x ∷ xs) (held_at rows pending)) (no_subcommand waiting (x ∷ xs))
    ∙ rw e (ap (λ flags. short_or_plain c waiting (x ∷ xs) flags (held_at rows pending)) (no_short x xs e))

no_flags : (c : List Rule) (rows : List Row) (pending : Option (Text × List Text)) (x : ℕ) (xs : Text) → (x == 45) ≡ false
    → option_map_or (λ flags. bundle_fault c false flags (held_at rows pending)) (short_of (x ∷ xs)) [] ≡ []
no_flags c rows pending x xs e = ap (λ found. option_map_or (λ flags. bundle_fault c false flags (held_at rows pending)) found []) (no_short x xs e)

plain_passes : (c : List Rule) (rows : List Row) (pending : Option (Text × List Text)) (waiting : Waiting) (word : Text) → is_dashed word ≡ false
    → word_fault (line_shape c) [] false waiting word (held_at rows pending) ≡ []
plain_passes c rows pending idle [] e = refl
plain_passes c rows pending (option id) [] e = refl
plain_passes c rows pending positional [] e = refl
plain_passes c rows pending idle (x ∷ xs) e = rw e (no_flags c rows pending x xs e)
plain_passes c rows pending (option id) (x ∷ xs) e = rw e (no_flags c rows pending x xs e)
plain_passes c rows pending positional (x ∷ xs) e = rw e (no_flags c rows pending x xs e)

-- it is an operand, where no option waits
between_plain : (c : List Rule) (b : Bool) (word : Text) (h : Held) → plain_word c (between b) word h ≡ (h, value)
between_plain c true word h = refl
between_plain c false word h = refl

operand_step : (command : Command) (rows : List Row) (pending : Option (Text × List Text)) (b : Bool) (word : Text)
    → to_positional (rules command) (arg_by_index (rules command) 1) word (walk_at rows pending (between b)) (held_at rows pending)
    ≡ walk_at (settled_rows (rules command) pending rows) (Some (codes "operands", word ∷ [])) positional
operand_step command rows pending b word =
    ap (λ found. to_positional (rules command) found word (walk_at rows pending (between b)) (held_at rows pending)) (by_index command)
    ∙ ap (λ (same : Bool). walk_after (pushed (codes "operands") word (cond same (held_at rows pending) (settled (rules command) (held_at rows pending))))) (and-false (is_pending operands_built pending))
  where
    walk_after : Held → Walk
    walk_after h = record { held = h; waiting = positional; position = 1; is_trailing = false; stopped = None }

-- a word without a dash in front waits as an operand, unless an option waits for its value, and what waited before it is
-- settled
pub operand_walked : (command : Command) (rows : List Row) (pending : Option (Text × List Text)) (b : Bool) (word : Text) → is_dashed word ≡ false
    → walked (rules command) [] (walk_at rows pending (between b)) word
    ≡ walk_at (settled_rows (rules command) pending rows) (Some (codes "operands", word ∷ [])) positional
operand_walked command rows pending b word e =
    walked_is (rules command) rows pending (between b) word
    ∙ ap (λ (met : Held × Step). after_step (rules command) word (walk_at rows pending (between b)) met.0 met.1)
    (plain_met (rules command) rows pending (between b) word e ∙ between_plain (rules command) b word (held_at rows pending))
    ∙ operand_step command rows pending b word

-- a word without a dash in front is refused only as what waited before it is, unless an option waits for its value
pub operand_fault : (command : Command) (rows : List Row) (pending : Option (Text × List Text)) (b : Bool) (word : Text) → is_dashed word ≡ false
    → turn_fault (line_shape (rules command)) [] (walk_at rows pending (between b)) word ≡ settle_fault (rules command) false (held_at rows pending)
operand_fault command rows pending b word e =
    ap₂ or_else (plain_passes (rules command) rows pending (between b) word e)
    (ap (λ (met : Held × Step). step_fault (line_shape (rules command)) 1 met.0 met.1)
    (plain_met (rules command) rows pending (between b) word e ∙ between_plain (rules command) b word (held_at rows pending)))
    ∙ position_fault
  where
    position_fault : step_fault (line_shape (rules command)) 1 (held_at rows pending) value ≡ settle_fault (rules command) false (held_at rows pending)
    position_fault =
        ap (λ found. positional_or_stray found) (by_index command)
        ∙ ap (λ (same : Bool). cond same [] (settle_fault (rules command) false (held_at rows pending))) (and-false (is_pending operands_built pending))
      where
        positional_or_stray : Option Rule → Kinds
        positional_or_stray found = option_map_or (λ a. positional_fault (rules command) false a (held_at rows pending)) found (stray_fault (line_shape (rules command)))

-- it is the value of the option that waits
value_word : (o : LineOption) (word : Text) (rows : List Row)
    → option_word (Some (option_built o)) (option_name o) word (held_at rows (Some (option_name o, []))) ≡ (held_at rows (Some (option_name o, word ∷ [])), idle)
value_word Workers word rows = refl
value_word Classes word rows = refl
value_word Rewrites word rows = refl

value_met : (command : Command) (o : LineOption) (rows : List Row) (word : Text) → has_option command o ≡ true → is_dashed word ≡ false
    → word_met (rules command) [] false (option (option_name o)) 1 word (held_at rows (Some (option_name o, []))) ≡ (held_at rows (Some (option_name o, word ∷ [])), next idle)
value_met command o rows word has e =
    plain_met (rules command) rows (Some (option_name o, [])) (option (option_name o)) word e
    ∙ ap (λ (met : Held × Waiting). (met.0, next met.1))
    (ap (λ found. option_word found (option_name o) word (held_at rows (Some (option_name o, [])))) (by_option command o has) ∙ value_word o word rows)

-- a word without a dash in front waits as the value of the option that waits for one
pub value_walked : (command : Command) (o : LineOption) (rows : List Row) (word : Text) → has_option command o ≡ true → is_dashed word ≡ false
    → walked (rules command) [] (walk_at rows (Some (option_name o, [])) (option (option_name o))) word ≡ walk_at rows (Some (option_name o, word ∷ [])) idle
value_walked command o rows word has e =
    walked_is (rules command) rows (Some (option_name o, [])) (option (option_name o)) word
    ∙ ap (λ (met : Held × Step). after_step (rules command) word (walk_at rows (Some (option_name o, [])) (option (option_name o))) met.0 met.1) (value_met command o rows word has e)

-- a word without a dash in front isn't refused where an option waits for its value
pub value_passes : (command : Command) (o : LineOption) (rows : List Row) (word : Text) → has_option command o ≡ true → is_dashed word ≡ false
    → turn_fault (line_shape (rules command)) [] (walk_at rows (Some (option_name o, [])) (option (option_name o))) word ≡ []
value_passes command o rows word has e =
    ap₂ or_else (plain_passes (rules command) rows (Some (option_name o, [])) (option (option_name o)) word e)
    (ap (λ (met : Held × Step). step_fault (line_shape (rules command)) 1 met.0 met.1) (value_met command o rows word has e))

-- ---- a word that begins with two dashes, and something behind them

not_two_dashes : (word : Text) (said : Text × Option Text) → long_of word ≡ Some said → bytes_eq word (45 ∷ 45 ∷ []) ≡ false
not_two_dashes [] said e = refl
not_two_dashes (x ∷ []) said e = and-false (x == 45)
not_two_dashes (x ∷ y ∷ []) said e = by (x == 45) refl (y == 45) refl where
  by : (b : Bool) → (x == 45) ≡ b → (c : Bool) → (y == 45) ≡ c → bytes_eq (x ∷ y ∷ []) (45 ∷ 45 ∷ []) ≡ false
  by false first c second = rw first refl
  by true first false second = rw (first, second) refl
  by true first true second = absurd (none_said (subst (λ found. found ≡ Some said) (rw (first, second) refl) e))
    where
      none_said : None ≡ Some said → ⊥
      none_said same = cc
not_two_dashes (x ∷ y ∷ z ∷ rest) said e = by (x == 45) where
  by : (b : Bool) → (b && ((y == 45) && false)) ≡ false
  by true = and-false (y == 45)
  by false = refl

long_is_met : (c : List Rule) (rows : List Row) (pending : Option (Text × List Text)) (waiting : Waiting) (word : Text) (said : Text × Option Text) → long_of word ≡ Some said
    → word_met c [] false waiting 1 word (held_at rows pending) ≡ long_word c waiting word said.0 said.1 (held_at rows pending)
long_is_met c rows pending waiting word said e =
    ap (λ sub. subcommand_or_other c sub waiting 1 word (held_at rows pending)) (no_subcommand waiting word)
    ∙ ap (λ b. cond b (held_at rows pending, trailing 1) (long_or_other c waiting word (long_of word) (held_at rows pending))) (not_two_dashes word said e)
    ∙ ap (λ found. long_or_other c waiting word found (held_at rows pending)) e

long_is_fault : (c : List Rule) (rows : List Row) (pending : Option (Text × List Text)) (waiting : Waiting) (word : Text) (said : Text × Option Text) → long_of word ≡ Some said
    → word_fault (line_shape c) [] false waiting word (held_at rows pending) ≡ long_fault c false (arg_by_long c said.0) said.1 (held_at rows pending)
long_is_fault c rows pending waiting word said e =
    ap (λ sub. other_fault (line_shape c) sub word (held_at rows pending)) (no_subcommand waiting word)
    ∙ ap (λ b. cond b [] (flag_word_fault c false (long_of word) word (held_at rows pending))) (not_two_dashes word said e)
    ∙ ap (λ found. flag_word_fault c false found word (held_at rows pending)) e

-- a name that no option has
pub unknown_fault : (c : List Rule) (rows : List Row) (pending : Option (Text × List Text)) (waiting : Waiting) (word : Text) (said : Text × Option Text) → long_of word ≡ Some said
    → arg_by_long c said.0 ≡ None → turn_fault (line_shape c) [] (walk_at rows pending waiting) word ≡ [] → ⊥
unknown_fault c rows pending waiting word said e none passed =
    some_kind (sym (long_is_fault c rows pending waiting word said e ∙ ap (λ found. long_fault c false found said.1 (held_at rows pending)) none)
    ∙ first_none (word_fault (line_shape c) [] false waiting word (held_at rows pending)) _ passed)
  where
    some_kind : (kind.UnknownArgument ∷ []) ≡ [] → ⊥
    some_kind same = cc

module _ (c : List Rule) (o : LineOption) (rows : List Row) (pending : Option (Text × List Text)) (waiting : Waiting) (word name : Text) (found : arg_by_long c name ≡ Some (option_built o)) where
  -- an option whose value the next word is
  abbrev alone_met : long_of word ≡ Some (name, None)
      → word_met c [] false waiting 1 word (held_at rows pending)
      ≡ (held_at (settled_rows c pending rows) (Some (option_name o, [])), next (option (option_name o)))
  alone_met e = long_is_met c rows pending waiting word (name, None) e
      ∙ ap (λ a. after_flag c waiting word (long_met c a None (held_at rows pending)).0 (long_met c a None (held_at rows pending)).1) found

  -- an option without a value in its word waits for one, and what waited before it is settled
  pub alone_walked : long_of word ≡ Some (name, None)
      → walked c [] (walk_at rows pending waiting) word ≡ walk_at (settled_rows c pending rows) (Some (option_name o, [])) (option (option_name o))
  alone_walked e = walked_is c rows pending waiting word ∙ ap (λ (met : Held × Step). after_step c word (walk_at rows pending waiting) met.0 met.1) (alone_met e)

  -- an option without a value in its word is refused only as what waited before it is
  pub alone_fault : long_of word ≡ Some (name, None)
      → turn_fault (line_shape c) [] (walk_at rows pending waiting) word ≡ settle_fault c false (held_at rows pending)
  alone_fault e = ap₂ or_else
      (long_is_fault c rows pending waiting word (name, None) e ∙ ap (λ a. long_fault c false a None (held_at rows pending)) found)
      (ap (λ (met : Held × Step). step_fault (line_shape c) 1 met.0 met.1) (alone_met e))
      ∙ or_else_none _

  -- an option with its value
  abbrev valued_met : (v : Text) → long_of word ≡ Some (name, Some v)
      → word_met c [] false waiting 1 word (held_at rows pending)
      ≡ (held_at (used (option_built o) (v ∷ []) (settled_rows c pending rows)) None, next idle)
  valued_met v e = long_is_met c rows pending waiting word (name, Some v) e
      ∙ ap (λ a. after_flag c waiting word (long_met c a (Some v) (held_at rows pending)).0 (long_met c a (Some v) (held_at rows pending)).1) found

  -- an option with its value in its word is used with it, once what waited before it is settled
  pub valued_walked : (v : Text) → long_of word ≡ Some (name, Some v)
      → walked c [] (walk_at rows pending waiting) word ≡ walk_at (used (option_built o) (v ∷ []) (settled_rows c pending rows)) None idle
  valued_walked v e = walked_is c rows pending waiting word ∙ ap (λ (met : Held × Step). after_step c word (walk_at rows pending waiting) met.0 met.1) (valued_met v e)

  -- an option with its value in its word is refused as what waited before it is, or else as its use is
  pub valued_fault : (v : Text) → long_of word ≡ Some (name, Some v)
      → turn_fault (line_shape c) [] (walk_at rows pending waiting) word
      ≡ or_else (settle_fault c false (held_at rows pending)) (use_fault false (option_built o) (v ∷ []) (settled_rows c pending rows))
  valued_fault v e = ap₂ or_else
      (long_is_fault c rows pending waiting word (name, Some v) e ∙ ap (λ a. long_fault c false a (Some v) (held_at rows pending)) found)
      (ap (λ (met : Held × Step). step_fault (line_shape c) 1 met.0 met.1) (valued_met v e))
      ∙ or_else_none _
