use Rattle.std.proofs.Common.{List, ◌++◌, sym, ap, ◌∙◌, rules}
use Rattle.plain_resolver.specs.KnownNames.{Known, names_known}
use Rattle.plain_resolver.proofs.KnownRounds.{first_of}
use Rattle.plain_resolver.proofs.rounds.known_while.Goals as goal

pub returns-in_err-known_again-clause-passed : goal.returns-in_err-known_again-clause-passed
returns-in_err-known_again-clause-passed c = λ name is.
    let inv = c.loop-one.invariant in
    let found = c.in_err-known_again.ensures.passed name (search rules) in
    first_of c.args.hosts.now c.args.rewrites c.args.most c.args.followed.now.names c.loop-one.now c.next.new.self c.in-Some.one (names_known c.args.known) name
    inv.known (ap (λ (left : List Known). names_known c.loop-one.now ++ names_known left) (sym c.in-Some.ensures.steps) ∙ inv.names) found.0 found.1
