-- The numbers of the job that words ask for are in their ranges.
use Rattle.std.proofs.Common.{◌≡◌, ℕ, ◌≤◌, Bool, true, false, cond, List, [], ◌∷◌, Option, Some, None, Result, Ok, Err, refl, subst, arith}
use Rattle.std.specs.Prelude.{◌&&◌, nat_le, length, option_and_then, ok_or, ◌==◌, IfOk}
use Rattle.std.proofs.lemmas.Bool.{eqb-false, leb-true}
use Rattle.std.proofs.lemmas.Option.{same_Some}
use Rattle.dns_data.specs.Answers.{◌>>=◌}
use Rattle.dns_data.specs.Number.{is_digits, number_up_to}
use Rattle.dns_data.specs.Octet.{digits_after}
use Rattle.groot_line.specs.Arguments.{Arguments, arguments_of}
use Rattle.groot_line.specs.Command.{command_of}
use Rattle.groot_line.specs.Job.{asked, asked_scope, job_by, job_asked, InRange, AreInRange}
use Rattle.groot_line.specs.LineOption.{most_of}
use Rattle.groot_line.specs.Number.{unless_zero, number_to, number_by}
use Rattle.groot_line.specs.Program.{most_digits}
use Rattle.groot_line.specs.Operands.{asked_file, only_meta, two_files, asked_name, asked_type, most_zones, drill_number}
use Rattle.groot_line.specs.declared.command.Command.{Command}
use Rattle.groot_line.specs.declared.command.Command.TheVariants as commands
use Rattle.groot_line.specs.declared.fault.LineFault.{LineFault}
use Rattle.groot_line.specs.declared.fault.LineFault.TheVariants.{Usage}
use Rattle.groot_line.specs.declared.job.Job.{Job}
use Rattle.groot_line.specs.declared.line_option.LineOption.{LineOption}
use Rattle.groot_line.specs.declared.line_option.LineOption.TheVariants as options
use Rattle.groot_line.specs.declared.program.Program.{Program}
use Rattle.groot_line.specs.declared.program.Program.TheVariants.{Groot, GrootLarge}

-- what holds of the value of the first step, and what the next makes of such a value
if_ok_then : {T U E : Type 0} (P : T → Type 0) (Q : U → Type 0) (said : Result T E) (next : T → Result U E) → IfOk said P → ((value : T) → P value → IfOk (next value) Q) → IfOk (said >>= next) Q
if_ok_then P Q (Ok value) next first later = later value first
if_ok_then P Q (Err fault) next first later = tt

-- what holds of whatever the next step makes
through : {T U E : Type 0} (Q : U → Type 0) (said : Result T E) (next : T → Result U E) → ((value : T) → IfOk (next value) Q) → IfOk (said >>= next) Q
through Q (Ok value) next each = each value
through Q (Err fault) next each = tt

-- what holds of an option's value
if_ok_or : {T E : Type 0} (P : T → Type 0) (o : Option T) (fault : E) → ((value : T) → o ≡ Some value → P value) → IfOk (ok_or o fault) P
if_ok_or P None fault each = tt
if_ok_or P (Some value) fault each = each value refl

-- what a condition lets through holds with it
let_through : (b : Bool) (value n : ℕ) (limit : Bool) → (cond (b && limit) (Some value) None ≡ Some n) → (limit ≡ true) × (value ≡ n)
let_through true value n true e = (refl, same_Some value n e)
let_through true value n false e = cc
let_through false value n limit e = cc

at_most : (digits most : ℕ) (word : List ℕ) (n : ℕ) → number_up_to digits most word ≡ Some n → n ≤ most
at_most digits most word n e =
    let through = let_through (is_digits word && nat_le (length word) digits) (digits_after 0 word) n (nat_le (digits_after 0 word) most) e in
    subst (λ m. m ≤ most) through.1 (leb-true (digits_after 0 word) most through.0)

-- the number that a value gives is in the range
number_in_range : (program : Program) (most : ℕ) (word : List ℕ) (n : ℕ) → number_to program most word ≡ Some n → InRange most n
number_in_range program most word n e = by (number_up_to (most_digits program) most word) refl e where
  by : (o : Option ℕ) → number_up_to (most_digits program) most word ≡ o → option_and_then unless_zero o ≡ Some n → InRange most n
  by None is e = cc
  by (Some number) is e = decided (number == 0) refl e where
    decided : (b : Bool) → (number == 0) ≡ b → cond b None (Some number) ≡ Some n → InRange most n
    decided true zero e = cc
    decided false some e =
        let differs = eqb-false number 0 some in
        subst (InRange most) (same_Some number n e) (omega (arith, differs), at_most (most_digits program) most word number is)

-- the number of an option
option_in : (program : Program) (option : LineOption) (value : Option (List ℕ)) → IfOk (number_by program option value) (InRange (most_of program option))
option_in program options.Workers None = (omega arith, omega arith)
option_in Groot options.Classes None = (omega arith, omega arith)
option_in GrootLarge options.Classes None = (omega arith, omega arith)
option_in program options.Rewrites None = (omega arith, omega arith)
option_in program option (Some value) = if_ok_or (InRange (most_of program option)) (number_to program (most_of program option) value) Usage (number_in_range program (most_of program option) value)

asked_in : (program : Program) (operands : List (List ℕ)) → IfOk (asked operands) (AreInRange program)
asked_in program [] = tt
asked_in program (meta ∷ []) = tt
asked_in program (meta ∷ name ∷ []) = tt
asked_in program (meta ∷ name ∷ rtype ∷ []) = through (AreInRange program) (asked_file meta) _ (λ m. through (AreInRange program) (asked_name name) _ (λ n. through (AreInRange program) (asked_type rtype) _ (λ t. tt)))
asked_in program (meta ∷ name ∷ rtype ∷ other ∷ rest) = tt

asked_scope_in : (program : Program) (operands : List (List ℕ)) → IfOk (asked_scope operands) (AreInRange program)
asked_scope_in program [] = tt
asked_scope_in program (meta ∷ []) = tt
asked_scope_in program (meta ∷ name ∷ []) = through (AreInRange program) (asked_file meta) _ (λ m. through (AreInRange program) (asked_name name) _ (λ n. tt))
asked_scope_in program (meta ∷ name ∷ other ∷ rest) = tt

drill_in : (program : Program) (operands : List (List ℕ)) → IfOk (drill_number program operands) (InRange most_zones)
drill_in program [] = tt
drill_in program (word ∷ []) = if_ok_or (InRange most_zones) (number_to program most_zones word) Usage (number_in_range program most_zones word)
drill_in program (word ∷ other ∷ rest) = tt

job_by_in : (program : Program) (command : Command) (arguments : Arguments) → IfOk (job_by program command arguments) (AreInRange program)
job_by_in program commands.Check arguments =
    through (AreInRange program) (only_meta arguments.operands) _
    (λ meta. if_ok_then (InRange (most_of program options.Workers)) (AreInRange program) (number_by program options.Workers arguments.workers) _ (option_in program options.Workers arguments.workers)
    (λ workers first. if_ok_then (InRange (most_of program options.Classes)) (AreInRange program) (number_by program options.Classes arguments.classes) _ (option_in program options.Classes arguments.classes)
    (λ classes second. if_ok_then (InRange (most_of program options.Rewrites)) (AreInRange program) (number_by program options.Rewrites arguments.rewrites) _ (option_in program options.Rewrites arguments.rewrites)
    (λ rewrites third. (first, second, third)))))
job_by_in program commands.Ask arguments = asked_in program arguments.operands
job_by_in program commands.Classes arguments =
    through (AreInRange program) (only_meta arguments.operands) _
    (λ meta. if_ok_then (InRange (most_of program options.Classes)) (AreInRange program) (number_by program options.Classes arguments.classes) _ (option_in program options.Classes arguments.classes) (λ classes within. within))
job_by_in program commands.Drill arguments =
    if_ok_then (InRange most_zones) (AreInRange program) (drill_number program arguments.operands) _ (drill_in program arguments.operands)
    (λ n within. if_ok_then (InRange (most_of program options.Workers)) (AreInRange program) (number_by program options.Workers arguments.workers) _ (option_in program options.Workers arguments.workers) (λ workers second. (within, second)))
job_by_in program commands.Site arguments = through (AreInRange program) (only_meta arguments.operands) _ (λ meta. tt)
job_by_in program commands.Recheck arguments = through (AreInRange program) (two_files arguments.operands) _ (λ files. tt)
job_by_in program commands.Same arguments = through (AreInRange program) (two_files arguments.operands) _ (λ files. tt)
job_by_in program commands.Scope arguments = asked_scope_in program arguments.operands
job_by_in program commands.Scopes arguments = through (AreInRange program) (two_files arguments.operands) _ (λ files. tt)

-- the numbers of the job that words ask for are in their ranges
in_range : (program : Program) (words : List (List ℕ)) → IfOk (job_asked program words) (AreInRange program)
in_range program [] = tt
in_range program (word ∷ words) =
    through (AreInRange program) (ok_or (command_of program word) Usage) _
    (λ command. through (AreInRange program) (arguments_of command words) _ (λ arguments. job_by_in program command arguments))

-- the numbers of a job that words ask for are in their ranges
pub job_in_range : (program : Program) (words : List (List ℕ)) (job : Job) → job_asked program words ≡ Ok job → AreInRange program job
job_in_range program words job e = subst (λ (said : Result Job LineFault). IfOk said (AreInRange program)) e (in_range program words)
