-- After an error all is as before; else the text went on.
use Rattle.std.proofs.Common.{◌≡◌, refl, ap, ◌∙◌, rules}
use Rattle.master_lex.specs.States.{state_of, run}
use Rattle.master_lex.specs.Undo.{Grew}
use Rattle.master_lex.proofs.StandsLemmas.{fed_stands}
use Rattle.master_lex.proofs.lexer.Lexer.feed.Goals as goal

pub invariant_of-self : goal.invariant_of-self
invariant_of-self c =
    let grew : Grew (state_of c.self.inside.scanner) (state_of c.pass_all.new.self) = search rules in
    let back : state_of c.undo.new.self ≡ state_of c.self.inside.scanner = c.undo.ensures (state_of c.self.inside.scanner) c.mark-mark.ensures grew in
    rw back c.self.invariant

pub returns-clause-stands : goal.returns-clause-stands
returns-clause-stands c =
    let passed : state_of c.pass_all.new.self ≡ run (state_of c.self.inside.scanner) c.args.piece.now = search rules in
    rw (← c.self.view_is) (λ text given. fed_stands (state_of c.self.inside.scanner) (state_of c.pass_all.new.self) c.self.inside.fed _ text c.args.piece.now given c.self.inside.finished (ap (λ h. h.finished) c.self.view_is ∙ c.requires.open) c.self.invariant.tidy passed refl)
