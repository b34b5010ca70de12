-- What is answered is what is left.
use Rattle.std.proofs.Common.{◌≡◌, [], ◌∷◌, Ok, Err, inr, sym, ap, ◌∙◌, rules}
use Rattle.dns_data.specs.Answers.{AnswersOr}
use Rattle.master_lex.specs.States.{state_of}
use Rattle.master_lex.specs.declared.position.Mode.TheVariants.{Faulty}
use Rattle.master_lex.specs.declared.taken.Taken.TheVariants as answers
use Rattle.master_lex.proofs.StandsLemmas.{stands_answer, first_answer, fault_answer, more_answer, last_answer, last_keeps, no_first, same_lexer}
use Rattle.master_lex.proofs.lexer.Lexer.take.Goals as goal

pub returns-in-Some-clause-answer : goal.returns-in-Some-clause-answer
returns-in-Some-clause-answer c =
    let s = state_of c.self.inside.scanner in
    let first : s.ready ≡ c.in-Some.entry ∷ c.pop_front.new.self.items = search rules in
    rw (← c.self.view_is) (stands_answer s c.self.inside.fed c.self.inside.finished (Ok (answers.Entry c.in-Some.entry)) c.self.invariant.tidy (first_answer s c.self.inside.fed c.self.inside.finished c.in-Some.entry _ first))

pub returns-in-Faulty-clause-answer : goal.returns-in-Faulty-clause-answer
returns-in-Faulty-clause-answer c =
    let s = state_of c.self.inside.scanner in
    let none : s.ready ≡ [] = no_first _ _ c.in_default.ensures.items c.in_default.ensures.rest in
    let faulty : s.position.mode ≡ Faulty c.in-Faulty.fault = search rules in
    rw (← c.self.view_is) (stands_answer s c.self.inside.fed c.self.inside.finished (Err c.into.result) c.self.invariant.tidy (inr (fault_answer s c.self.inside.fed c.self.inside.finished c.in-Faulty.fault none faulty ∙ sym (ap Err c.into.ensures))))

pub returns-then-not-self-clause-answer : goal.returns-then-not-self-clause-answer
returns-then-not-self-clause-answer c =
    let s = state_of c.self.inside.scanner in
    let none : s.ready ≡ [] = no_first _ _ c.in_default.ensures.items c.in_default.ensures.rest in
    rw (← c.self.view_is) (stands_answer s c.self.inside.fed c.self.inside.finished (Ok answers.More) c.self.invariant.tidy (more_answer s c.self.inside.fed c.self.inside.finished none c.if-not-self.true c.in_default-mode.not-Faulty))

pub returns-clause-answer : goal.returns-clause-answer
returns-clause-answer c =
    let s = state_of c.self.inside.scanner in
    let none : s.ready ≡ [] = no_first _ _ c.in_default.ensures.items c.in_default.ensures.rest in
    let same = c.in_default.ensures.items in
    let said : AnswersOr _ c.take_last.result _ = rw same c.take_last.ensures.answer in
    rw (← c.self.view_is) (stands_answer s c.self.inside.fed c.self.inside.finished c.take_last.result c.self.invariant.tidy (rw (last_answer s c.self.inside.fed c.self.inside.finished none c.if-not-self.false) said))

pub returns-clause-stands : goal.returns-clause-stands
returns-clause-stands c =
    let s = state_of c.self.inside.scanner in
    let none : s.ready ≡ [] = no_first _ _ c.in_default.ensures.items c.in_default.ensures.rest in
    let same = c.in_default.ensures.items in
    rw (← c.self.view_is) (last_keeps s (state_of c.take_last.new.self) c.self.inside.fed c.self.inside.finished c.take_last.result c.if-not-self.false none (rw same c.take_last.ensures.taken))

pub returns-clause-err : goal.returns-clause-err
returns-clause-err c =
    let same = c.in_default.ensures.items in
    rw (← c.self.view_is) (same_lexer (state_of c.self.inside.scanner) (state_of c.take_last.new.self) c.self.inside.fed c.self.inside.finished c.take_last.result (rw same c.take_last.ensures.err))
