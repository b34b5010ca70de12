use Rattle.std.proofs.Common.{◌≡◌}
use Rattle.std.specs.List.{AllByRecursion}
use Rattle.net_model.specs.Learnt.{AfterRounds}
use Rattle.net_model.specs.Nearest.{server_names}
use Rattle.plain_resolver.specs.Passed.{NoneInRounds}
use Rattle.plain_resolver.specs.KnownNames.{StaysUnlessNew, names_known}
use Rattle.plain_resolver.proofs.rounds.learnt_at.Given as goal

-- the servers that the rounds so far have learnt, and what was known last of all servers' names
abbrev pub invariant-loop-round : goal.invariant-loop-round
invariant-loop-round l = record {
  after : AfterRounds l.hosts l.rewrites l._round l.from l.followed.names;
  few : NoneInRounds l.hosts l.rewrites l.most l.from l._round;
  names : names_known l.known ≡ server_names l.hosts;
  before : AllByRecursion (StaysUnlessNew l.hosts l.rewrites l.most l.followed) l.known;
}
