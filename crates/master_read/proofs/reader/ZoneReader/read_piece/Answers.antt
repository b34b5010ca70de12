-- The next line of the rest was read, or a fault is settled in it.
use Rattle.std.proofs.Common.{◌≡◌, ◌+◌, ◌++◌, ◌∙◌, length, take, sym, ap, arith, rules}
use Rattle.std.specs.Prelude.{◌≢◌, Err}
use Rattle.std.proofs.lemmas.Bool.Decides.{nat_tests}
use Rattle.std.proofs.lemmas.List.{nil_from_length, length-take-le}
use Rattle.master_read.specs.Reader.{Held, IsSettled}
use Rattle.master_read.specs.declared.fault.TextFault.TheVariants.{NoMemory}
use Rattle.master_read.proofs.Parts.{none_read, more_read, rest_within, all_read, rest_settles, cut_at}
use Rattle.master_read.proofs.reader.ZoneReader.read_piece.Goals as goal

pub loop-rest-init : goal.loop-rest-init
loop-rest-init c = none_read _ _

pub read_next-requires : goal.read_next-requires
read_next-requires c =
    let w = rest_within c.args.self.now c.loop-rest.self c.args.piece.now c.loop-rest.rest.now c.loop-rest.invariant in
    record {
      some = grind (arith, nat_tests, c.loop-rest-test.true, c.is_empty.ensures);
      short = omega (arith, w.0, c.requires.short);
      within = omega (arith, w.0, w.1, c.requires.within);
    }

pub loop-rest-preserved : goal.loop-rest-preserved
loop-rest-preserved c =
    let count = c.in_ok-count.count in
    let len : length (take count c.loop-rest.rest.now) ≡ count = length-take-le count c.loop-rest.rest.now c.in_ok-count.ensures.within in
    more_read _ _ _ _ _ _ _ c.loop-rest.invariant (cut_at c.loop-rest.rest.now count) c.in_ok-count.ensures.read c.read_next.ensures.same
    (c.in_ok-count.ensures.fed ∙ ap (λ n. c.loop-rest.self.lexer.fed + n) (sym len))

pub returns-clause-read : goal.returns-clause-read
returns-clause-read c = all_read _ _ _ _ c.loop-rest.invariant (nil_from_length c.loop-rest.rest.now (grind (arith, nat_tests, c.loop-rest-test.false, c.is_empty.ensures)))

pub returns-in_err-count-clause-fault : goal.returns-in_err-count-clause-fault
returns-in_err-count-clause-fault c origin ended text reading =
    let h = c.loop-rest.invariant in
    let fault = c.in_err-count.field-0.0 in
    let limits : c.loop-rest.self.limits ≡ c.args.self.now.limits = ap (λ (held : Held). held.limits) h.same in
    let here : fault ≢ NoMemory → IsSettled fault c.args.self.now.limits origin ended (text ++ c.args.piece.now)
    = λ named. rest_settles c.args.self.now c.loop-rest.self c.args.piece.now c.loop-rest.rest.now fault c.args.self.now.limits origin ended text h
    (rw limits at (c.in_err-count.ensures.fault origin ended (text ++ h.front) (h.reads origin ended text reading) named)) in
    let is : c.from_residual.result ≡ Err fault = search rules in
    rw is here
