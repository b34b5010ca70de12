-- What is left of the text is what is held.
use Rattle.std.proofs.Common.{ap, ◌∙◌}
use Rattle.master_lex.specs.States.{state_of}
use Rattle.master_lex.proofs.StandsLemmas.{end_stands}
use Rattle.master_lex.proofs.lexer.Lexer.finish.Goals as goal

pub returns-clause-stands : goal.returns-clause-stands
returns-clause-stands c =
    rw (← c.self.view_is) (end_stands (state_of c.self.inside.scanner) c.self.inside.fed c.self.inside.finished (ap (λ h. h.finished) c.self.view_is ∙ c.requires) c.self.invariant.tidy)
