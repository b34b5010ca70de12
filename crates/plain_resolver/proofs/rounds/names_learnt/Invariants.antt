use Rattle.std.proofs.Common.{◌≡◌, take}
use Rattle.plain_resolver.specs.KnownNames.{names_learnt}
use Rattle.plain_resolver.proofs.rounds.names_learnt.Given as goal

-- those so far that are learnt
abbrev pub invariant-loop-one : goal.invariant-loop-one
invariant-loop-one l = l.learnt ≡ names_learnt (take l.one-index l.known)
