-- The text went on by the line, whose entry was given.
use Rattle.std.proofs.Common.{refl, ap, ◌∙◌, arith}
use Rattle.master_lex.specs.States.{state_of}
use Rattle.master_lex.proofs.StandsLemmas.{line_stands, line_sound}
use Rattle.master_lex.proofs.lexer.Lexer.pass_line.Goals as goal

pub pass_line-requires : goal.pass_line-requires
pass_line-requires c = omega (arith, c.self.invariant.line, ap (λ h. h.fed) c.self.view_is, c.requires.short)

pub invariant_of-self : goal.invariant_of-self
invariant_of-self c = rw c.in_err-line.ensures.none c.self.invariant

pub invariant_of-self-2 : goal.invariant_of-self-2
invariant_of-self-2 c =
    line_sound (state_of c.self.inside.scanner) (state_of c.pass_line.new.self) c.self.inside.fed c.pass_line.new.tokens.items c.args.octets.now c.in_ok-line.line c.self.invariant c.in_ok-line.ensures.some
    (omega (arith, ap (λ h. h.fed) c.self.view_is, c.requires.short))

pub returns-clause-stands : goal.returns-clause-stands
returns-clause-stands c =
    rw (← c.self.view_is) (line_stands (state_of c.self.inside.scanner) (state_of c.pass_line.new.self) c.self.inside.fed _ c.self.inside.finished c.pass_line.new.tokens.items c.args.octets.now c.in_ok-line.line
    (ap (λ h. h.finished) c.self.view_is ∙ c.requires.open) c.self.invariant.tidy c.in_ok-line.ensures.some refl)
