use Rattle.std.proofs.Common.{rules, ◌≡◌, inr, ◌∙◌, sym, ap, subst, map, List, ℕ, true, false}
use Rattle.std.specs.Borrow.{Bor}
use Rattle.std.specs.List.{list_all}
use Rattle.std.proofs.lemmas.List.Folds.{list_all-map}
use Rattle.clap.specs.Faults.{fault_of, is_simple_and_free}
use Rattle.clap.specs.Kinds.{HasKind}
use Rattle.clap.specs.Simple.{HasMatchesOf}
use Rattle.groot_line.specs.Matches.{is_in_form}
use Rattle.groot_line.proofs.ClapLine.{is_free}
use Rattle.groot_line.proofs.Parsed.{not_in_form, parsed, refused_line}
use Rattle.groot_line.proofs.arguments.read_arguments.Goals as goal

pub returns-then-not-are_in_form-clause-err : goal.returns-then-not-are_in_form-clause-err
returns-then-not-are_in_form-clause-err c =
    let words : List (List ℕ) = map (λ word. word.now) c.args.words.now in
    let fails : list_all (λ (word : Bor (List ℕ)). is_in_form word.now) c.args.words.now ≡ false = search rules in
    inr (not_in_form c.args.command words (list_all-map is_in_form (λ (word : Bor (List ℕ)). word.now) c.args.words.now ∙ fails))

pub returns-in-Ok-clause-ok : goal.returns-in-Ok-clause-ok
returns-in-Ok-clause-ok c =
    let line_is = c.in_ok-line.ensures in
    let words : List (List ℕ) = map (λ word. word.now) c.args.words.now in
    let free = ap is_simple_and_free line_is ∙ is_free c.args.command in
    let holds : list_all (λ (word : Bor (List ℕ)). is_in_form word.now) c.args.words.now ≡ true = search rules in
    parsed c.args.command words c.in-Ok.matches (list_all-map is_in_form (λ (word : Bor (List ℕ)). word.now) c.args.words.now ∙ holds)
    (sym (ap (λ app. fault_of app words) line_is) ∙ c.in-Ok.ensures.kinds free)
    (subst (λ app. HasMatchesOf app words c.in-Ok.matches) line_is c.in-Ok.ensures.matches)

pub returns-in-Err-clause-err : goal.returns-in-Err-clause-err
returns-in-Err-clause-err c =
    let line_is = c.in_ok-line.ensures in
    let words : List (List ℕ) = map (λ word. word.now) c.args.words.now in
    let free = ap is_simple_and_free line_is ∙ is_free c.args.command in
    let holds : list_all (λ (word : Bor (List ℕ)). is_in_form word.now) c.args.words.now ≡ true = search rules in
    let refused = refused_line c.args.command words c.in-Err.error (list_all-map is_in_form (λ (word : Bor (List ℕ)). word.now) c.args.words.now ∙ holds)
    (subst (λ app. HasKind (fault_of app words) c.in-Err.error) line_is (c.in-Err.ensures.kinds free)) in
    rw (c.refusal_by.ensures) refused
