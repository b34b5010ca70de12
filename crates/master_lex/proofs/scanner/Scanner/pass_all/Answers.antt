-- The plain octets in front, and the one behind them.
use Rattle.std.proofs.Common.{◌+◌, ◌≤◌, length, subst, sym, ap, ◌∙◌, arith, rules}
use Rattle.std.proofs.lemmas.Bool.{ltb-false}
use Rattle.std.proofs.lemmas.List.{take_all}
use Rattle.master_lex.specs.States.{state_of, run}
use Rattle.master_lex.specs.Undo.{Grew}
use Rattle.master_lex.proofs.UndoLemmas.{halfway_grew}
use Rattle.master_lex.proofs.Reached.{reached, reached_more, octet_more}
use Rattle.master_lex.proofs.scanner.Scanner.pass_all.Goals as goal

pub returns-in_err-passed-clause-err : goal.returns-in_err-passed-clause-err
returns-in_err-passed-clause-err c =
    let old = state_of c.args.self.now in
    let r = reached old _ c.args.octets.now _ c.requires.tidy c.loop-passed.invariant in
    let grew = subst (Grew old) (sym c.in_err-passed.ensures.err) r.grew in
    search rules

pub returns-in_default : goal.returns-in_default
returns-in_default c =
    let old = state_of c.args.self.now in
    let new = state_of c.pass_plain.new.self in
    let r = reached_more old _ new c.args.octets.now _ _ c.requires.tidy c.loop-passed.invariant c.in_ok-passed.ensures.ok in
    let all : length c.args.octets.now ≤ c.loop-passed.passed + c.in_ok-passed.field-0 = ltb-false _ _ (sym c.in_default.ensures.lookup.0) in
    record {
      ok = r.first.passed ∙ ap (run old) (take_all _ c.args.octets.now all);
      tidy = r.far.tidy;
      line = omega (arith, r.far.line, r.first.within);
      depth = omega (arith, r.far.depth, r.first.within);
      err = tt;
    }

pub pass-requires : goal.pass-requires
pass-requires c =
    let old = state_of c.args.self.now in
    let new = state_of c.pass_plain.new.self in
    let r = reached_more old _ new c.args.octets.now _ _ c.requires.tidy c.loop-passed.invariant c.in_ok-passed.ensures.ok in
    record { line = omega (arith, r.far.line, c.in-Some.ensures.lookup.3.0); depth = omega (arith, r.far.depth, c.in-Some.ensures.lookup.3.0) }

pub returns-in_err-pass-clause-err : goal.returns-in_err-pass-clause-err
returns-in_err-pass-clause-err c =
    let old = state_of c.args.self.now in
    let new = state_of c.pass_plain.new.self in
    let r = reached_more old _ new c.args.octets.now _ _ c.requires.tidy c.loop-passed.invariant c.in_ok-passed.ensures.ok in
    let grew = halfway_grew old new (state_of c.pass.new.self) c.in_err-pass.ensures.err r.grew in
    search rules

pub loop-passed-preserved : goal.loop-passed-preserved
loop-passed-preserved c =
    let old = state_of c.args.self.now in
    let new = state_of c.pass_plain.new.self in
    let r = reached_more old _ new c.args.octets.now _ _ c.requires.tidy c.loop-passed.invariant c.in_ok-passed.ensures.ok in
    octet_more old new (state_of c.pass.new.self) c.args.octets.now _ c.in-Some.octet.now c.in-Some.ensures.lookup.3.0 (c.in-Some.ensures.lookup.3.1 0) r.first c.in_ok-pass.ensures.ok
