-- What the pieces of a text spell.
use Rattle.master_lex.proofs.Spelled.{pieces_spelled}
use Rattle.master_lex.proofs.SpelledFronts.{pieces_front}
use Rattle.master_lex.proofs.laws.pieces_spell_the_text.Goals as goal

pub returns-clause-whole : goal.returns-clause-whole
returns-clause-whole c = pieces_spelled

pub returns-clause-front : goal.returns-clause-front
returns-clause-front c = pieces_front
