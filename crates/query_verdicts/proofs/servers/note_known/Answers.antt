use Rattle.std.proofs.Common.{subst}
use Rattle.std.proofs.lemmas.Result.{on_ok_weaker}
use Rattle.address_deps.specs.Addresses.{IsAddressOf}
use Rattle.query_verdicts.proofs.servers.note_known.Goals as goal

pub returns-in-Known : goal.returns-in-Known
returns-in-Known c =
    let queries = c.args.queries.now in
    on_ok_weaker c.note.result
    (λ so. so queries.rewrites queries.states c.requires.known
    (subst (IsAddressOf queries.trees queries.rewrites c.args.name.now) c.in-Known.is c.requires.address, c.requires.few))
    c.note.ensures
