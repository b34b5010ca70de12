use Rattle.name_ends.proofs.KnownNames.{known_more, known_same}
use Rattle.name_ends.proofs.asker.keep.Goals as goal

pub returns-in_err-insert : goal.returns-in_err-insert
returns-in_err-insert c = λ setting known are. known_same setting c.args.known.now c.insert.new.self known c.in_err-insert.ensures.err

pub returns : goal.returns
returns c = λ setting known are.
    known_more setting c.args.known.now c.insert.new.self c.args.name.now c.in_ok-copy.field-0 c.args.ends known c.in_ok-insert.ensures.updates
    c.in_ok-copy.ensures are
