use Rattle.std.proofs.Common.{sym}
use Rattle.alias_ends.specs.Aliases.{other_types}
use Rattle.alias_ends.specs.Known.{word_at}
use Rattle.alias_ends.proofs.AliasWords.{first_none, no_word}
use Rattle.alias_ends.proofs.words.word_of_ends.Goals as goal

pub returns-then-are_among : goal.returns-then-are_among
returns-then-are_among c =
    sym (first_none (word_at c.args.hosts.now c.args.here.now c.args.tops.now)
    (λ rtype. no_word c.args.hosts.now c.args.here.now c.args.tops.now rtype (sym c.if-are_among.ensures)) other_types)
