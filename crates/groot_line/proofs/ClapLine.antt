-- The command as `clap` has built it, and where it finds its arguments.
use Rattle.std.proofs.Common.{◌≡◌, ◌∙◌, ◌||◌, Bool, cond, codes, true, false, refl, sym, ap, subst, List, [], ◌∷◌, Option, Some, None, true≢false}
use Rattle.std.specs.Prelude.{IfSome, fold, option_map}
use Rattle.std.specs.Str.{bytes_eq}
use Rattle.clap.specs.Faults.{check_fault, default_fault, defaults_fault, given_default_fault, is_simple_and_free}
use Rattle.clap.specs.Simple.{Shape, filled, is_simple, new_shape, with_index}
use Rattle.clap.specs.Walk.{Row, Rule, Text, arg_by_id, arg_by_index, arg_by_long, has_row, with_default}
use Rattle.clap.proofs.FaultLemmas.{past}
use Rattle.groot_line.specs.Arguments.{option_named}
use Rattle.groot_line.specs.Command.{has_option}
use Rattle.groot_line.specs.Line.{command_line, operands_rule, option_rule}
use Rattle.groot_line.specs.LineOption.{option_name}
use Rattle.groot_line.specs.declared.command.Command.{Command}
use Rattle.groot_line.specs.declared.command.Command.TheVariants.{Check, Ask, Classes, Drill, Site, Recheck, Same, Scope, Scopes}
use Rattle.groot_line.specs.declared.line_option.LineOption.{LineOption}
use Rattle.groot_line.specs.declared.line_option.LineOption.TheVariants as options

-- an option, and the operands, as built
abbrev pub option_built : LineOption → Rule
option_built o = filled (option_rule o)

-- the rule of the operands, as clap builds it
abbrev pub operands_built : Rule
operands_built = with_index 1 (filled operands_rule)

-- the rules of a command's options and operands, in the order in which they are built
abbrev pub rules : Command → List Rule
rules Check = option_built options.Workers ∷ option_built options.Classes ∷ option_built options.Rewrites ∷ operands_built ∷ []
rules Ask = operands_built ∷ []
rules Classes = option_built options.Classes ∷ operands_built ∷ []
rules Drill = option_built options.Workers ∷ operands_built ∷ []
rules Site = operands_built ∷ []
rules Recheck = operands_built ∷ []
rules Same = operands_built ∷ []
rules Scope = operands_built ∷ []
rules Scopes = operands_built ∷ []

-- what else `clap` has built
abbrev pub line_shape : List Rule → Shape
line_shape c = record (new_shape (codes "groot")) { rules = c; no_binary_name = true; disable_help_flag = true; disable_help_subcommand = true; is_built = true }

-- the command line of each command is simple, in `clap`'s sense, and no argument has a rule on another
pub is_free : (command : Command) → is_simple_and_free (command_line command) ≡ true
is_free Check = refl
is_free Ask = refl
is_free Classes = refl
is_free Drill = refl
is_free Site = refl
is_free Recheck = refl
is_free Same = refl
is_free Scope = refl
is_free Scopes = refl

-- the command line of each command is simple, in `clap`'s sense: its definitions give the matches
pub is_plain : (command : Command) → is_simple (command_line command) ≡ true
is_plain Check = refl
is_plain Ask = refl
is_plain Classes = refl
is_plain Drill = refl
is_plain Site = refl
is_plain Recheck = refl
is_plain Same = refl
is_plain Scope = refl
is_plain Scopes = refl

-- the option with this name
pub by_long : (command : Command) (name : Text) → arg_by_long (rules command) name ≡ option_map option_built (option_named command name)
by_long Check name = go (bytes_eq (codes "workers") name) (bytes_eq (codes "classes") name) (bytes_eq (codes "rewrites") name) where
  go : (a b c : Bool)
      → cond (a || false) (Some (option_built options.Workers))
      (cond (b || false) (Some (option_built options.Classes)) (cond (c || false) (Some (option_built options.Rewrites)) None))
      ≡ option_map option_built (cond a (Some options.Workers) (cond b (Some options.Classes) (cond c (Some options.Rewrites) None)))
  go true b c = refl
  go false true c = refl
  go false false true = refl
  go false false false = refl
by_long Ask name = refl
by_long Classes name = go (bytes_eq (codes "classes") name) where
  go : (b : Bool) → cond (b || false) (Some (option_built options.Classes)) None ≡ option_map option_built (cond b (Some options.Classes) None)
  go true = refl
  go false = refl
by_long Drill name = go (bytes_eq (codes "workers") name) where
  go : (b : Bool) → cond (b || false) (Some (option_built options.Workers)) None ≡ option_map option_built (cond b (Some options.Workers) None)
  go true = refl
  go false = refl
by_long Site name = refl
by_long Recheck name = refl
by_long Same name = refl
by_long Scope name = refl
by_long Scopes name = refl

-- an option that the command has is found under its name
pub by_option : (command : Command) (o : LineOption) → has_option command o ≡ true → arg_by_id (rules command) (option_name o) ≡ Some (option_built o)
by_option Check options.Workers has = refl
by_option Check options.Classes has = refl
by_option Check options.Rewrites has = refl
by_option Ask o has = absurd (true≢false (sym has))
by_option Classes options.Workers has = absurd (true≢false (sym has))
by_option Classes options.Classes has = refl
by_option Classes options.Rewrites has = absurd (true≢false (sym has))
by_option Drill options.Workers has = refl
by_option Drill options.Classes has = absurd (true≢false (sym has))
by_option Drill options.Rewrites has = absurd (true≢false (sym has))
by_option Site o has = absurd (true≢false (sym has))
by_option Recheck o has = absurd (true≢false (sym has))
by_option Same o has = absurd (true≢false (sym has))
by_option Scope o has = absurd (true≢false (sym has))
by_option Scopes o has = absurd (true≢false (sym has))

-- the operands are found under their name
pub by_operands : (command : Command) → arg_by_id (rules command) (codes "operands") ≡ Some operands_built
by_operands Check = refl
by_operands Ask = refl
by_operands Classes = refl
by_operands Drill = refl
by_operands Site = refl
by_operands Recheck = refl
by_operands Same = refl
by_operands Scope = refl
by_operands Scopes = refl

-- the first operand's argument is that of all operands
pub by_index : (command : Command) → arg_by_index (rules command) 1 ≡ Some operands_built
by_index Check = refl
by_index Ask = refl
by_index Classes = refl
by_index Drill = refl
by_index Site = refl
by_index Recheck = refl
by_index Same = refl
by_index Scope = refl
by_index Scopes = refl

-- the option that a name gives is one of the command
pub named_has : (command : Command) (name : Text) (o : LineOption) → option_named command name ≡ Some o → has_option command o ≡ true
named_has Check name o e = refl
named_has Ask name o e = cc
named_has Classes name o e = go (bytes_eq (codes "classes") name) e where
  go : (b : Bool) → cond b (Some options.Classes) None ≡ Some o → has_option Classes o ≡ true
  go true same = subst (λ (x : Option LineOption). IfSome x (λ p. has_option Classes p ≡ true)) same refl
  go false same = cc
named_has Drill name o e = go (bytes_eq (codes "workers") name) e where
  go : (b : Bool) → cond b (Some options.Workers) None ≡ Some o → has_option Drill o ≡ true
  go true same = subst (λ (x : Option LineOption). IfSome x (λ p. has_option Drill p ≡ true)) same refl
  go false same = cc
named_has Site name o e = cc
named_has Recheck name o e = cc
named_has Same name o e = cc
named_has Scope name o e = cc
named_has Scopes name o e = cc

-- ---- after the words

or_true : (b : Bool) → (b || true) ≡ true
or_true true = refl
or_true false = refl

cond_same : {X : Type 0} (b : Bool) (x : X) → cond b x x ≡ x
cond_same true x = refl
cond_same false x = refl

-- no argument has a default value
no_default : (rows : List Row) (o : LineOption) → with_default rows (option_built o) ≡ rows
no_default rows o = cond_same (has_row (option_name o) rows) rows

no_operand : (rows : List Row) → with_default rows operands_built ≡ rows
no_operand rows = cond_same (has_row (codes "operands") rows) rows

-- at the end no default value is put with the rows
pub rows_end : (command : Command) (rows : List Row) → fold with_default rows (rules command) ≡ rows
rows_end Check rows = no_operand _ ∙ no_default _ options.Rewrites ∙ no_default _ options.Classes ∙ no_default rows options.Workers
rows_end Ask rows = no_operand rows
rows_end Classes rows = no_operand _ ∙ no_default rows options.Classes
rows_end Drill rows = no_operand _ ∙ no_default rows options.Workers
rows_end Site rows = no_operand rows
rows_end Recheck rows = no_operand rows
rows_end Same rows = no_operand rows
rows_end Scope rows = no_operand rows
rows_end Scopes rows = no_operand rows

option_passes : (rows : List Row) (o : LineOption) → default_fault rows (option_built o) ≡ []
option_passes rows o = ap (λ b. cond b [] (given_default_fault (option_built o) (option_built o).defaults)) (or_true (has_row (option_name o) rows))

operands_pass : (rows : List Row) → default_fault rows operands_built ≡ []
operands_pass rows = ap (λ b. cond b [] (given_default_fault operands_built operands_built.defaults)) (or_true (has_row (codes "operands") rows))

-- no default value is refused at the end
pub defaults_pass : (command : Command) (rows : List Row) → defaults_fault rows (rules command) ≡ []
unfolding defaults_fault
defaults_pass Check rows =
    let first = with_default rows (option_built options.Workers) in
    let second = with_default first (option_built options.Classes) in
    past _ _ (option_passes rows options.Workers) ∙ past _ _ (option_passes first options.Classes) ∙ past _ _ (option_passes second options.Rewrites)
    ∙ past _ _ (operands_pass (with_default second (option_built options.Rewrites)))
defaults_pass Ask rows = past _ _ (operands_pass rows)
defaults_pass Classes rows = past _ _ (option_passes rows options.Classes) ∙ past _ _ (operands_pass (with_default rows (option_built options.Classes)))
defaults_pass Drill rows = past _ _ (option_passes rows options.Workers) ∙ past _ _ (operands_pass (with_default rows (option_built options.Workers)))
defaults_pass Site rows = past _ _ (operands_pass rows)
defaults_pass Recheck rows = past _ _ (operands_pass rows)
defaults_pass Same rows = past _ _ (operands_pass rows)
defaults_pass Scope rows = past _ _ (operands_pass rows)
defaults_pass Scopes rows = past _ _ (operands_pass rows)

-- no argument is required at the end
pub nothing_required : (command : Command) (rows : List Row) → check_fault (line_shape (rules command)) rows false ≡ []
nothing_required Check rows = refl
nothing_required Ask rows = refl
nothing_required Classes rows = refl
nothing_required Drill rows = refl
nothing_required Site rows = refl
nothing_required Recheck rows = refl
nothing_required Same rows = refl
nothing_required Scope rows = refl
nothing_required Scopes rows = refl
