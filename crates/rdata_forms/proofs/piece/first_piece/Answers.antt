use Rattle.std.proofs.Common.{◌+◌}
use Rattle.std.proofs.lemmas.List.{take_rest}
use Rattle.rdata_forms.proofs.Pieces.{split-at, split-none}
use Rattle.rdata_forms.proofs.piece.first_piece.Goals as goal

pub returns-in-Some-clause-pieces : goal.returns-in-Some-clause-pieces
returns-in-Some-clause-pieces c =
    rw (take_rest c.args.text.now (c.in-Some.at + 1)) (split-at c.args.separator c.args.text.now c.in-Some.at c.in-Some.ensures)

pub returns-in-None-clause-pieces : goal.returns-in-None-clause-pieces
returns-in-None-clause-pieces c = split-none c.args.separator c.args.text.now c.in-None.ensures
