use Rattle.std.proofs.Common.{ℕ, ◌<◌, List, take, Contains, subst}
use Rattle.dns_data.specs.Name.{Labels}
use Rattle.label_graph.proofs.NewFronts.{all_fronts, prefixes_again}
use Rattle.label_graph.proofs.fronts.put_new_fronts.Goals as goal

pub returns-clause-fronts : goal.returns-clause-fronts
returns-clause-fronts c =
    all_fronts c.args.names.now.items c.put_fronts.new.names.items c.args.name.now c.known_fronts-known.result c.requires
    (subst (λ (names : List Labels). (count : ℕ) → count < c.known_fronts-known.result → Contains names (take count c.args.name.now)) c.as_slice.ensures.value
    c.known_fronts-known.ensures) c.in_ok-put_fronts.ensures

pub returns-clause-prefixes : goal.returns-clause-prefixes
returns-clause-prefixes c =
    prefixes_again c.args.names.now.items c.put_fronts.new.names.items c.args.name.now c.known_fronts-known.result c.requires
    (subst (λ (names : List Labels). (count : ℕ) → count < c.known_fronts-known.result → Contains names (take count c.args.name.now)) c.as_slice.ensures.value
    c.known_fronts-known.ensures) c.in_ok-put_fronts.ensures
