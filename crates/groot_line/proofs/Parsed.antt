-- What `clap` makes of the words behind a command is what the words say.
use Rattle.std.proofs.Common.{◌≡◌, ◌∙◌, ◌⊎◌, ◌&&◌, ◌||◌, inl, inr, Bool, cond, codes, true, false, not, refl, sym, ap, ap₂, subst, List, [], ◌∷◌, Option, Some, None, Result, Ok, Err, is_some, true≢false}
use Rattle.std.specs.Prelude.{IfErr, find, fold, option_and_then, option_map, slice_get, unwrap_or}
use Rattle.std.specs.List.{list_all}
use Rattle.std.specs.Option.{option_map_or}
use Rattle.std.specs.Str.{bytes_eq}
use Rattle.clap.specs.Faults.{fault_of, level_fault, settle_fault, turn_fault, use_fault, walk_fault}
use Rattle.clap.specs.Kinds.{HasKind, IsAmong, Kinds, or_else}
use Rattle.clap.specs.Lexer.{long_of}
use Rattle.clap.specs.Matches.{found_of, first_value}
use Rattle.clap.specs.Simple.{HasMatchesOf, built, matches_of}
use Rattle.clap.specs.Values.{kind_of}
use Rattle.clap.specs.Walk.{Held, Row, Rule, Text, Waiting, Walk, all_of, arg_by_long, finished, first_of, idle, nothing_held, option, rows_of, settled_rows, used, used_by_id, walked}
use Rattle.clap.specs.declared.error.Error.{Error}
use Rattle.clap.specs.declared.error.kind.ErrorKind.TheVariants as kind
use Rattle.clap.specs.declared.parser.matches.ArgMatches.{ArgMatches}
use Rattle.clap.proofs.FaultLemmas.{leaf_fault}
use Rattle.clap.proofs.WalkLemmas.{both, first_value-rows, raw_values-rows}
use Rattle.dns_data.specs.Answers.{◌>>=◌}
use Rattle.groot_line.specs.Arguments.{Arguments, no_arguments, value_given, with_option_value, with_value, awaiting, with_operand, option_named, is_dashed, after_option, after_dash, after_word, after_words, arguments_of}
use Rattle.groot_line.specs.Command.{has_option}
use Rattle.groot_line.specs.Line.{command_line}
use Rattle.groot_line.specs.LineOption.{option_name}
use Rattle.groot_line.specs.Matches.{refusal_by, is_in_form, operands_in, arguments_in}
use Rattle.groot_line.specs.declared.command.Command.{Command}
use Rattle.groot_line.specs.declared.command.Command.TheVariants.{Check, Ask, Classes, Drill, Site, Recheck, Same, Scope, Scopes}
use Rattle.groot_line.specs.declared.fault.LineFault.{LineFault}
use Rattle.groot_line.specs.declared.fault.LineFault.TheVariants.{Usage, NoMemory}
use Rattle.groot_line.specs.declared.line_option.LineOption.{LineOption}
use Rattle.groot_line.specs.declared.line_option.LineOption.TheVariants as options
use Rattle.groot_line.proofs.ClapLine.{by_long, by_operands, by_option, defaults_pass, is_plain, line_shape, named_has, nothing_required, operands_built, option_built, rows_end, rules}
use Rattle.groot_line.proofs.ClapRows.{Says, once_passes, once_says, operand_passes, operand_says, twice_fails}
use Rattle.groot_line.proofs.ClapSteps.{alone_fault, alone_walked, between, first_none, held_at, or_else_none, operand_fault, operand_walked, unknown_fault, value_passes, value_walked, valued_fault, valued_walked, walk_at}

-- ---- where the words end

abbrev end_of : List Rule → Walk → List Text → Held
end_of c w words = (fold (walked c []) w words).held

-- the faults of the walk, and of what is held at its end
abbrev total : List Rule → Walk → List Text → Kinds
total c w words = or_else (walk_fault (line_shape c) [] w words) (settle_fault c false (end_of c w words))

abbrev end_rows : List Rule → Walk → List Text → List Row
end_rows c w words = settled_rows c (end_of c w words).pending (end_of c w words).rows

-- a walk that comes to what the words say
abbrev Ends : List Rule → Walk → List Text → Result Arguments LineFault → Type 0
Ends c w words (Ok a) = (total c w words ≡ []) × Says (end_rows c w words) a × (a.awaited ≡ None)
Ends c w words (Err fault) = (total c w words ≡ [] → ⊥) × (fault ≡ Usage)

or_else_again : (a b c : Kinds) → or_else (or_else a b) c ≡ or_else a (or_else b c)
or_else_again [] b c = refl
or_else_again (k ∷ ks) b c = refl

total_next : (c : List Rule) (w : Walk) (word : Text) (words : List Text) → total c w (word ∷ words) ≡ or_else (turn_fault (line_shape c) [] w word) (total c (walked c [] w word) words)
unfolding walk_fault
total_next c w word words = or_else_again (turn_fault (line_shape c) [] w word) (walk_fault (line_shape c) [] (walked c [] w word) words) _

goes_on : (c : List Rule) (w next : Walk) (word : Text) (words : List Text) (said : Result Arguments LineFault) → turn_fault (line_shape c) [] w word ≡ [] → walked c [] w word ≡ next
    → Ends c next words said → Ends c w (word ∷ words) said
goes_on c w next word words (Ok a) passes same ends = (
  total_next c w word words ∙ ap₂ or_else passes (ap (λ v. total c v words) same) ∙ ends.0,
  subst (λ v. Says (end_rows c v words) a) (sym same) ends.1,
  ends.2,
)
goes_on c w next word words (Err fault) passes same ends = (
  λ none. ends.0 (sym (total_next c w word words ∙ ap₂ or_else passes (ap (λ v. total c v words) same)) ∙ none),
  ends.1,
)

refused : (c : List Rule) (w : Walk) (word : Text) (words : List Text) → (turn_fault (line_shape c) [] w word ≡ [] → ⊥) → total c w (word ∷ words) ≡ [] → ⊥
refused c w word words fails none = fails (first_none _ _ (sym (total_next c w word words) ∙ none))

-- ---- what the words say, step by step

operand_said : (command : Command) (word : Text) (a : Arguments) → is_dashed word ≡ false → a.awaited ≡ None → after_word command word a ≡ Ok (with_operand word a)
operand_said command word a e none = rw (e, none) refl

value_said : (command : Command) (word : Text) (a : Arguments) (o : LineOption) → is_dashed word ≡ false → a.awaited ≡ Some o → after_word command word a ≡ with_value o word a
value_said command word a o e some = rw (e, some) refl

dash_said : (command : Command) (word : Text) (a : Arguments) → is_dashed word ≡ true → a.awaited ≡ None → after_word command word a ≡ after_dash command (long_of word) a
dash_said command word a e none = rw (e, none) refl

dash_for_value : (command : Command) (word : Text) (a : Arguments) (o : LineOption) → is_dashed word ≡ true → a.awaited ≡ Some o → after_word command word a ≡ Err Usage
dash_for_value command word a o e some = rw (e, some) refl

-- what a word is that a reading meets
data Look (command : Command) (word : Text) : Type 0 where
  plain : is_dashed word ≡ false → Look command word
  unknown : is_dashed word ≡ true → (said : Text × Option Text) → long_of word ≡ Some said → option_named command said.0 ≡ None → Look command word
  alone : is_dashed word ≡ true → (name : Text) (o : LineOption) → long_of word ≡ Some (name, None) → option_named command name ≡ Some o → Look command word
  valued : is_dashed word ≡ true → (name v : Text) (o : LineOption) → long_of word ≡ Some (name, Some v) → option_named command name ≡ Some o → Look command word

look : (command : Command) (word : Text) → is_in_form word ≡ true → Look command word
look command word form = by (is_dashed word) refl (long_of word) refl form where
  named : (dashed : is_dashed word ≡ true) (name : Text) (value : Option Text) → long_of word ≡ Some (name, value) → (found : Option LineOption) → option_named command name ≡ found → Look command word
  named dashed name value f None e = unknown dashed (name, value) f e
  named dashed name None f (Some o) e = alone dashed name o f e
  named dashed name (Some v) f (Some o) e = valued dashed name v o f e

  by : (b : Bool) → is_dashed word ≡ b → (l : Option (Text × Option Text)) → long_of word ≡ l → (not b || is_some l) ≡ true → Look command word
  by false e l f form = plain e
  by true e None f form = absurd (true≢false (sym form))
  by true e (Some said) f form = named e said.0 said.1 f (option_named command said.0) refl

end_said : (command : Command) (a : Arguments) → a.awaited ≡ None → after_words command [] a ≡ Ok a
end_said command a none = rw none refl

end_refused : (command : Command) (a : Arguments) (o : LineOption) → a.awaited ≡ Some o → after_words command [] a ≡ Err Usage
end_refused command a o some = rw some refl

next_said : (command : Command) (word : Text) (words : List Text) (a : Arguments) (said : Result Arguments LineFault) → after_word command word a ≡ said
    → after_words command (word ∷ words) a ≡ (said >>= λ next. after_words command words next)
next_said command word words a said e = ap (λ first. first >>= λ next. after_words command words next) e

total_end : (c : List Rule) (w : Walk) → total c w [] ≡ settle_fault c false w.held
unfolding walk_fault
total_end c w = refl

keeps_awaiting : (p o : LineOption) (a : Arguments) → value_given p (awaiting o a) ≡ value_given p a
keeps_awaiting options.Workers o a = refl
keeps_awaiting options.Classes o a = refl
keeps_awaiting options.Rewrites o a = refl

awaiting_says : (o : LineOption) (rows : List Row) (a : Arguments) → Says rows a → Says rows (awaiting o a)
awaiting_says o rows a says = record {
  of_option = λ p. says.of_option p ∙ sym (ap (option_map (λ v. v ∷ [])) (keeps_awaiting p o a));
  of_operands = says.of_operands;
}

given_awaits : (o : LineOption) (v : Text) (a : Arguments) → (with_option_value o v a).awaited ≡ None
given_awaits options.Workers v a = refl
given_awaits options.Classes v a = refl
given_awaits options.Rewrites v a = refl

module _ (command : Command) where
  abbrev c : List Rule
  c = rules command

  abbrev option_held : LineOption → Text → Option (Text × List Text)
  option_held o v = Some (option_name o, v ∷ [])

  abbrev operand_held : Text → Option (Text × List Text)
  operand_held v = Some (codes "operands", v ∷ [])

  found : (name : Text) (o : LineOption) → option_named command name ≡ Some o → arg_by_long c name ≡ Some (option_built o)
  found name o e = by_long command name ∙ ap (option_map option_built) e

  -- what is held of an option, and of an operand
  option_settles : (o : LineOption) (v : Text) (rows : List Row) → has_option command o ≡ true → settle_fault c false (held_at rows (option_held o v)) ≡ use_fault false (option_built o) (v ∷ []) rows
  option_settles o v rows has = ap (λ x. option_map_or (λ a. use_fault false a (v ∷ []) rows) x []) (by_option command o has)

  option_rows : (o : LineOption) (v : Text) (rows : List Row) → has_option command o ≡ true → settled_rows c (option_held o v) rows ≡ used (option_built o) (v ∷ []) rows
  option_rows o v rows has = ap (λ x. used_by_id x (v ∷ []) rows) (by_option command o has)

  operand_settles : (v : Text) (rows : List Row) → settle_fault c false (held_at rows (operand_held v)) ≡ []
  operand_settles v rows = ap (λ x. option_map_or (λ a. use_fault false a (v ∷ []) rows) x []) (by_operands command) ∙ operand_passes v rows

  operand_rows : (v : Text) (rows : List Row) → settled_rows c (operand_held v) rows ≡ used operands_built (v ∷ []) rows
  operand_rows v rows = ap (λ x. used_by_id x (v ∷ []) rows) (by_operands command)

  waits_faulty : (o : LineOption) (rows : List Row) → has_option command o ≡ true → settle_fault c false (held_at rows (Some (option_name o, []))) ≡ [] → ⊥
  waits_faulty o rows has e = some_kind (sym (ap (λ x. option_map_or (λ a. use_fault false a [] rows) x []) (by_option command o has)) ∙ e) where
    some_kind : (kind.InvalidValue ∷ []) ≡ [] → ⊥
    some_kind same = cc

  -- a fault of what is held comes with the next word
  faulty_dash : (rows : List Row) (pending : Option (Text × List Text)) (waiting : Waiting) (word : Text) → is_dashed word ≡ true → Look command word
      → (settle_fault c false (held_at rows pending) ≡ [] → ⊥) → turn_fault (line_shape c) [] (walk_at rows pending waiting) word ≡ [] → ⊥
  faulty_dash rows pending waiting word dashed (plain e) fails none = absurd (true≢false (sym dashed ∙ e))
  faulty_dash rows pending waiting word dashed (unknown d said e missing) fails none =
      unknown_fault c rows pending waiting word said e (by_long command said.0 ∙ ap (option_map option_built) missing) none
  faulty_dash rows pending waiting word dashed (alone d name o e named) fails none =
      fails (sym (alone_fault c o rows pending waiting word name (found name o named) e) ∙ none)
  faulty_dash rows pending waiting word dashed (valued d name v o e named) fails none =
      fails (first_none _ _ (sym (valued_fault c o rows pending waiting word name (found name o named) v e) ∙ none))

  stays_faulty : (rows : List Row) (pending : Option (Text × List Text)) (b : Bool) (words : List Text) → list_all is_in_form words ≡ true
      → (settle_fault c false (held_at rows pending) ≡ [] → ⊥) → total c (walk_at rows pending (between b)) words ≡ [] → ⊥
  stays_faulty rows pending b [] forms fails = λ none. fails (sym (total_end c (walk_at rows pending (between b))) ∙ none)
  stays_faulty rows pending b (word ∷ words) forms fails = refused c (walk_at rows pending (between b)) word words (by (is_dashed word) refl) where
    by : (d : Bool) → is_dashed word ≡ d → turn_fault (line_shape c) [] (walk_at rows pending (between b)) word ≡ [] → ⊥
    by false e none = fails (sym (operand_fault command rows pending b word e) ∙ none)
    by true e none = faulty_dash rows pending (between b) word e (look command word (both _ _ forms).0) fails none

  -- what follows, between two words and where an option waits for its value
  abbrev Rests : List Text → Type 0
  Rests words = (rows : List Row) (pending : Option (Text × List Text)) (b : Bool) (a : Arguments) → settle_fault c false (held_at rows pending) ≡ []
      → Says (settled_rows c pending rows) a → a.awaited ≡ None → Ends c (walk_at rows pending (between b)) words (after_words command words a)

  abbrev Waits : List Text → Type 0
  Waits words = (o : LineOption) (rows : List Row) (a : Arguments) → has_option command o ≡ true → Says rows a → a.awaited ≡ Some o
      → Ends c (walk_at rows (Some (option_name o, [])) (option (option_name o))) words (after_words command words a)

  -- a value for an option, which has none yet, or has one
  with_value_ends : (w : Walk) (word : Text) (words : List Text) (o : LineOption) (v : Text) (a : Arguments)
      → (value_given o a ≡ None → Ends c w (word ∷ words) (after_words command words (with_option_value o v a)))
      → (is_some (value_given o a) ≡ true → total c w (word ∷ words) ≡ [] → ⊥)
      → Ends c w (word ∷ words) (with_value o v a >>= λ next. after_words command words next)
  with_value_ends w word words o v a first second = by (value_given o a) refl where
    by : (value : Option Text) → value_given o a ≡ value → Ends c w (word ∷ words) (cond (is_some value) (Err Usage) (Ok (with_option_value o v a)) >>= λ next. after_words command words next)
    by None e = first e
    by (Some x) e = (second (ap is_some e), refl)

  rests : (word : Text) (words : List Text) → Rests words → Waits words → Look command word → Rests (word ∷ words)
  rests word words rest wait (plain e) rows pending b a passes says none =
      subst (Ends c (walk_at rows pending (between b)) (word ∷ words)) (sym (next_said command word words a _ (operand_said command word a e none)))
      (goes_on c _ _ word words _ (operand_fault command rows pending b word e ∙ passes) (operand_walked command rows pending b word e)
      (rest (settled_rows c pending rows) (operand_held word) true (with_operand word a) (operand_settles word _)
      (subst (λ r. Says r (with_operand word a)) (sym (operand_rows word (settled_rows c pending rows))) (operand_says word _ a says)) none))
  rests word words rest wait (unknown d said e missing) rows pending b a passes says none =
      subst (Ends c (walk_at rows pending (between b)) (word ∷ words))
      (sym (next_said command word words a (Err Usage) (dash_said command word a d none ∙ ap (λ l. after_dash command l a) e ∙ ap (λ o. after_option o said.1 a) missing)))
      (refused c _ word words (unknown_fault c rows pending (between b) word said e (by_long command said.0 ∙ ap (option_map option_built) missing)), refl)
  rests word words rest wait (alone d name o e named) rows pending b a passes says none =
      subst (Ends c (walk_at rows pending (between b)) (word ∷ words))
      (sym (next_said command word words a (Ok (awaiting o a)) (dash_said command word a d none ∙ ap (λ l. after_dash command l a) e ∙ ap (λ x. after_option x None a) named)))
      (goes_on c _ _ word words _ (alone_fault c o rows pending (between b) word name (found name o named) e ∙ passes)
      (alone_walked c o rows pending (between b) word name (found name o named) e)
      (wait o (settled_rows c pending rows) (awaiting o a) (named_has command name o named) (awaiting_says o _ a says) refl))
  rests word words rest wait (valued d name v o e named) rows pending b a passes says none =
      subst (Ends c (walk_at rows pending (between b)) (word ∷ words))
      (sym (next_said command word words a (with_value o v a) (dash_said command word a d none ∙ ap (λ l. after_dash command l a) e ∙ ap (λ x. after_option x (Some v) a) named)))
      (with_value_ends _ word words o v a first second)
    where
      fault_is : turn_fault (line_shape c) [] (walk_at rows pending (between b)) word ≡ use_fault false (option_built o) (v ∷ []) (settled_rows c pending rows)
      fault_is = valued_fault c o rows pending (between b) word name (found name o named) v e ∙ ap (λ k. or_else k (use_fault false (option_built o) (v ∷ []) (settled_rows c pending rows))) passes

      first : value_given o a ≡ None → Ends c (walk_at rows pending (between b)) (word ∷ words) (after_words command words (with_option_value o v a))
      first free = goes_on c _ _ word words _ (fault_is ∙ once_passes o v _ a says free) (valued_walked c o rows pending (between b) word name (found name o named) v e)
          (rest (used (option_built o) (v ∷ []) (settled_rows c pending rows)) None false (with_option_value o v a) refl (once_says o v _ a says free) (given_awaits o v a))

      second : is_some (value_given o a) ≡ true → total c (walk_at rows pending (between b)) (word ∷ words) ≡ [] → ⊥
      second taken = refused c _ word words (λ none. twice_fails o v _ a says taken (sym fault_is ∙ none))

  waits : (word : Text) (words : List Text) → list_all is_in_form words ≡ true → Rests words → Look command word → Waits (word ∷ words)
  waits word words forms rest seen o rows a has says some = by (is_dashed word) refl where
    w : Walk
    w = walk_at rows (Some (option_name o, [])) (option (option_name o))

    by : (b : Bool) → is_dashed word ≡ b → Ends c w (word ∷ words) (after_words command (word ∷ words) a)
    by true e = subst (Ends c w (word ∷ words)) (sym (next_said command word words a (Err Usage) (dash_for_value command word a o e some)))
        (refused c w word words (faulty_dash rows (Some (option_name o, [])) (option (option_name o)) word e seen (waits_faulty o rows has)), refl)
    by false e = subst (Ends c w (word ∷ words)) (sym (next_said command word words a (with_value o word a) (value_said command word a o e some)))
        (with_value_ends w word words o word a first second)
      where
        first : value_given o a ≡ None → Ends c w (word ∷ words) (after_words command words (with_option_value o word a))
        first free = goes_on c w _ word words _ (value_passes command o rows word has e) (value_walked command o rows word has e)
            (rest rows (option_held o word) false (with_option_value o word a) (option_settles o word rows has ∙ once_passes o word rows a says free)
            (subst (λ r. Says r (with_option_value o word a)) (sym (option_rows o word rows has)) (once_says o word rows a says free)) (given_awaits o word a))

        second : is_some (value_given o a) ≡ true → total c w (word ∷ words) ≡ [] → ⊥
        second taken none = stays_faulty rows (option_held o word) false words forms
            (λ passes. twice_fails o word rows a says taken (sym (option_settles o word rows has) ∙ passes))
            (sym (total_next c w word words ∙ ap₂ or_else (value_passes command o rows word has e) (ap (λ v. total c v words) (value_walked command o rows word has e))) ∙ none)

  follows : (words : List Text) → list_all is_in_form words ≡ true → Rests words × Waits words
  follows [] forms = (
    λ rows pending b a passes says none. subst (Ends c (walk_at rows pending (between b)) []) (sym (end_said command a none)) (total_end c _ ∙ passes, says, none),
    λ o rows a has says some. subst (Ends c (walk_at rows (Some (option_name o, [])) (option (option_name o))) []) (sym (end_refused command a o some))
        (λ none. waits_faulty o rows has (sym (total_end c _) ∙ none), refl),
  )
  follows (word ∷ words) forms =
      let split = both _ _ forms in
      let behind = follows words split.1 in
      let seen = look command word split.0 in
      (rests word words behind.0 behind.1 seen, waits word words split.1 behind.0 seen)

-- ---- the whole

nothing_said : Says [] no_arguments
nothing_said = record { of_option = of_option; of_operands = refl } where
  of_option : (o : LineOption) → all_of (option_name o) [] ≡ option_map (λ v. v ∷ []) (value_given o no_arguments)
  of_option options.Workers = refl
  of_option options.Classes = refl
  of_option options.Rewrites = refl

whole : (command : Command) (words : List Text) → list_all is_in_form words ≡ true → Ends (rules command) (walk_at [] None idle) words (arguments_of command words)
whole command words forms = (follows command words forms).0 [] None false no_arguments refl nothing_said refl

fault_is : (command : Command) (words : List Text) → fault_of (command_line command) words ≡ total (rules command) (walk_at [] None idle) words
fault_is command words = at_line command ∙ at_level where
  c : List Rule
  c = rules command

  at_line : (own : Command) → fault_of (command_line own) words ≡ level_fault (line_shape (rules own)) [] nothing_held words false []
  at_line Check = leaf_fault (built (command_line Check)) nothing_held words refl
  at_line Ask = leaf_fault (built (command_line Ask)) nothing_held words refl
  at_line Classes = leaf_fault (built (command_line Classes)) nothing_held words refl
  at_line Drill = leaf_fault (built (command_line Drill)) nothing_held words refl
  at_line Site = leaf_fault (built (command_line Site)) nothing_held words refl
  at_line Recheck = leaf_fault (built (command_line Recheck)) nothing_held words refl
  at_line Same = leaf_fault (built (command_line Same)) nothing_held words refl
  at_line Scope = leaf_fault (built (command_line Scope)) nothing_held words refl
  at_line Scopes = leaf_fault (built (command_line Scopes)) nothing_held words refl

  end : Held
  end = end_of c (walk_at [] None idle) words

  at_level : level_fault (line_shape c) [] nothing_held words false [] ≡ total c (walk_at [] None idle) words
  at_level = ap (λ k. or_else (walk_fault (line_shape c) [] (walk_at [] None idle) words) (or_else (settle_fault c false end) k))
      (ap₂ or_else (defaults_pass command (settled_rows c end.pending end.rows)) (nothing_required command (finished c end)))
      ∙ ap (λ k. or_else (walk_fault (line_shape c) [] (walk_at [] None idle) words) k) (or_else_none (settle_fault c false end))

rows_are : (command : Command) (words : List Text) → matches_of (command_line command) words ≡ end_rows (rules command) (walk_at [] None idle) words
rows_are command words = at_line command ∙ rows_end command _ where
  at_line : (own : Command) → matches_of (command_line own) words ≡ finished (rules own) (end_of (rules own) (walk_at [] None idle) words)
  at_line Check = refl
  at_line Ask = refl
  at_line Classes = refl
  at_line Drill = refl
  at_line Site = refl
  at_line Recheck = refl
  at_line Same = refl
  at_line Scope = refl
  at_line Scopes = refl

-- ---- what matches say

first_is : (id : Text) (rows : List Row) → first_of id rows ≡ option_and_then (λ vs. slice_get vs 0) (all_of id rows)
first_is id rows = by (find (λ (r : Row). bytes_eq r.id id) rows) where
  by : (found : Option Row) → option_and_then (λ (r : Row). slice_get r.values 0) found ≡ option_and_then (λ vs. slice_get vs 0) (option_map (λ (r : Row). r.values) found)
  by None = refl
  by (Some r) = refl

one_is : (value : Option Text) → option_and_then (λ vs. slice_get vs 0) (option_map (λ v. v ∷ []) value) ≡ value
one_is None = refl
one_is (Some v) = refl

value_is : (m : ArgMatches) (a : Arguments) → Says (rows_of (found_of m)) a → (o : LineOption) → first_value (found_of m) (option_name o) ≡ value_given o a
value_is m a says o =
    first_value-rows (found_of m) (option_name o) ∙ first_is (option_name o) (rows_of (found_of m))
    ∙ ap (option_and_then (λ vs. slice_get vs 0)) (says.of_option o) ∙ one_is (value_given o a)

operands_are : (m : ArgMatches) (a : Arguments) → Says (rows_of (found_of m)) a → operands_in m ≡ a.operands
operands_are m a says = ap (λ found. unwrap_or found []) (raw_values-rows (found_of m) (codes "operands")) ∙ says.of_operands

said_is : (m : ArgMatches) (a : Arguments) → Says (rows_of (found_of m)) a → a.awaited ≡ None → a ≡ arguments_in m
said_is m a says none = rw (sym (value_is m a says options.Workers), sym (value_is m a says options.Classes), sym (value_is m a says options.Rewrites), sym (operands_are m a says), none) refl

-- `clap` gives what the words say
pub parsed : (command : Command) (words : List Text) (m : ArgMatches) → list_all is_in_form words ≡ true → fault_of (command_line command) words ≡ []
    → HasMatchesOf (command_line command) words m → arguments_of command words ≡ Ok (arguments_in m)
parsed command words m forms passes has = by (arguments_of command words) refl (whole command words forms) where
  by : (said : Result Arguments LineFault) → arguments_of command words ≡ said → Ends (rules command) (walk_at [] None idle) words said → said ≡ Ok (arguments_in m)
  by (Ok a) e ends = ap Ok (said_is m a (subst (λ r. Says r a) (sym ((has (is_plain command)).0 ∙ rows_are command words)) ends.1) ends.2)
  by (Err fault) e ends = absurd (ends.0 (sym (fault_is command words) ∙ passes))

-- or refuses what says nothing
unparsed : (command : Command) (words : List Text) → list_all is_in_form words ≡ true → (fault_of (command_line command) words ≡ [] → ⊥) → arguments_of command words ≡ Err Usage
unparsed command words forms fails = by (arguments_of command words) (whole command words forms) where
  by : (said : Result Arguments LineFault) → Ends (rules command) (walk_at [] None idle) words said → said ≡ Err Usage
  by (Ok a) ends = absurd (fails (fault_is command words ∙ ends.0))
  by (Err fault) ends = ap Err ends.1

-- where `clap` refuses words that are in form, memory ran out or the words say nothing, as the refusal tells
pub refused_line : (command : Command) (words : List Text) (e : Error) → list_all is_in_form words ≡ true → HasKind (fault_of (command_line command) words) e
    → (refusal_by (kind_of e) ≡ NoMemory) ⊎ (arguments_of command words ≡ Err (refusal_by (kind_of e)))
refused_line command words e forms (inl memory) = inl (ap refusal_by memory)
refused_line command words e forms (inr among) = by (refusal_by (kind_of e)) where
  by : (fault : LineFault) → (fault ≡ NoMemory) ⊎ (arguments_of command words ≡ Err fault)
  by NoMemory = inl refl
  by Usage = inr (unparsed command words forms (λ none. subst (IsAmong (kind_of e)) none among))

-- a word that isn't in form is refused before
after_word_refuses : (command : Command) (word : Text) (a : Arguments) → is_in_form word ≡ false → after_word command word a ≡ Err Usage
after_word_refuses command word a form = by (is_dashed word) refl (long_of word) refl form a.awaited refl where
  by : (b : Bool) → is_dashed word ≡ b → (l : Option (Text × Option Text)) → long_of word ≡ l → (not b || is_some l) ≡ false
      → (awaited : Option LineOption) → a.awaited ≡ awaited → after_word command word a ≡ Err Usage
  by false e l f form awaited g = absurd (true≢false form)
  by true e (Some said) f form awaited g = absurd (true≢false form)
  by true e None f form None g = dash_said command word a e g ∙ ap (λ l. after_dash command l a) f
  by true e None f form (Some o) g = dash_for_value command word a o e g

after_word_usage : (command : Command) (word : Text) (a : Arguments) → IfErr (after_word command word a) (λ fault. fault ≡ Usage)
after_word_usage command word a = by (is_dashed word) refl a.awaited refl where
  IsUsage : Result Arguments LineFault → Type 0
  IsUsage said = IfErr said (λ fault. fault ≡ Usage)

  of_value : (o : LineOption) (v : Text) → IsUsage (with_value o v a)
  of_value o v = go (is_some (value_given o a)) where
    go : (b : Bool) → IsUsage (cond b (Err Usage) (Ok (with_option_value o v a)))
    go true = refl
    go false = tt

  of_option : (found : Option LineOption) (value : Option Text) → IsUsage (after_option found value a)
  of_option None value = refl
  of_option (Some o) None = tt
  of_option (Some o) (Some v) = of_value o v

  of_dash : (l : Option (Text × Option Text)) → IsUsage (after_dash command l a)
  of_dash None = refl
  of_dash (Some said) = of_option (option_named command said.0) said.1

  by : (b : Bool) → is_dashed word ≡ b → (awaited : Option LineOption) → a.awaited ≡ awaited → IsUsage (after_word command word a)
  by true e (Some o) g = subst IsUsage (sym (dash_for_value command word a o e g)) refl
  by false e (Some o) g = subst IsUsage (sym (value_said command word a o e g)) (of_value o word)
  by true e None g = subst IsUsage (sym (dash_said command word a e g)) (of_dash (long_of word))
  by false e None g = subst IsUsage (sym (operand_said command word a e g)) tt

out_of_form : (command : Command) (words : List Text) (a : Arguments) → list_all is_in_form words ≡ false → after_words command words a ≡ Err Usage
out_of_form command [] a forms = absurd (true≢false forms)
out_of_form command (word ∷ words) a forms = by (out_of_form command words) (is_in_form word) refl where
  later : ((next : Arguments) → list_all is_in_form words ≡ false → after_words command words next ≡ Err Usage) → (said : Result Arguments LineFault) → IfErr said (λ fault. fault ≡ Usage) → list_all is_in_form words ≡ false → (said >>= λ next. after_words command words next) ≡ Err Usage
  later behind (Ok next) usage rest = behind next rest
  later behind (Err fault) usage rest = ap Err usage

  by : ((next : Arguments) → list_all is_in_form words ≡ false → after_words command words next ≡ Err Usage) → (b : Bool) → is_in_form word ≡ b → after_words command (word ∷ words) a ≡ Err Usage
  by behind false e = next_said command word words a (Err Usage) (after_word_refuses command word a e)
  by behind true e = later behind (after_word command word a) (after_word_usage command word a) (subst (λ b. (b && list_all is_in_form words) ≡ false) e forms)

-- words of which one isn't in form say nothing
pub not_in_form : (command : Command) (words : List Text) → list_all is_in_form words ≡ false → arguments_of command words ≡ Err Usage
not_in_form command words = out_of_form command words no_arguments
