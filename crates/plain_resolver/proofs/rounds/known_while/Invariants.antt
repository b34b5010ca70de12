use Rattle.std.proofs.Common.{◌≡◌, ◌++◌}
use Rattle.std.specs.List.{AllByRecursion}
use Rattle.plain_resolver.specs.KnownNames.{StaysKnown, StaysUnlessNew, names_known}
use Rattle.plain_resolver.proofs.rounds.known_while.Given as goal

-- what is known of the names so far, and of the others what was known before
abbrev pub invariant-loop-one : goal.invariant-loop-one
invariant-loop-one l = record {
  names : names_known l.now ++ names_known l.one-iterator ≡ names_known l.fn.known;
  known : AllByRecursion (StaysKnown l.hosts l.rewrites l.most l.followed.names) l.now;
  before : AllByRecursion (StaysUnlessNew l.hosts l.rewrites l.most l.followed) l.one-iterator;
}
