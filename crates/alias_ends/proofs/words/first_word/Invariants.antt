-- So far none of the first types has a word.
use Rattle.std.proofs.Common.{◌≡◌, None, take}
use Rattle.alias_ends.specs.Aliases.{first_word}
use Rattle.alias_ends.specs.Known.{word_at}
use Rattle.alias_ends.proofs.words.first_word.Given as goal

abbrev pub invariant-loop-rtype : goal.invariant-loop-rtype
invariant-loop-rtype l = first_word (word_at l.hosts l.here l.tops) (take l.rtype-index l.rtypes) ≡ None
