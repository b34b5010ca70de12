use Rattle.alias_ends.specs.Known.{end_cmp, word_there}
use Rattle.alias_ends.proofs.KnownAnswers.{known_more, known_same, one_end}
use Rattle.alias_ends.proofs.asker.keep.Goals as goal

pub returns-in_err-insert : goal.returns-in_err-insert
returns-in_err-insert c = λ setting known is.
    known_same end_cmp (word_there setting) c.args.known.now c.insert.new.self known c.in_err-insert.ensures.err

pub returns : goal.returns
returns c = λ setting known is.
    known_more end_cmp (word_there setting) one_end c.args.known.now c.insert.new.self c.args.at c.args.word known c.in_ok-insert.ensures.updates is
