use Rattle.std.proofs.Common.{◌≡◌, ◌↔◌, true, List, [], refl, sym, ◌∙◌, subst}
use Rattle.std.specs.Prelude.{◌⊎◌}
use Rattle.dns_data.specs.Name.{Labels}
use Rattle.net_model.specs.Nearest.{server_names}
use Rattle.address_deps.specs.Addresses.{PathGives}
use Rattle.address_deps.proofs.GraphPaths.{paths_tell}
use Rattle.address_deps.proofs.MoreFollowed.{learns_more}
use Rattle.address_deps.proofs.paths.learnt_by_graph.Goals as goal

pub returns-then-branch : goal.returns-then-branch
returns-then-branch c = λ rewrites name is followed servers.
    let config = c.args.hosts.now in
    let paths = c.in_ok-paths.paths in
    let tells = subst (λ (names : List Labels). (c.in_ok-learns_by_paths.field-0 ≡ true) ↔ (PathGives names paths.four paths.starts ⊎ PathGives names paths.six paths.starts))
    c.new-none.ensures c.in_ok-learns_by_paths.ensures in
    let alone = (paths_tell config rewrites name c.args.graph.now paths is c.in_ok-paths.ensures [] (λ other has. cc)).0 (tells.0 c.if-branch.true) in
    (λ yes. learns_more config rewrites [] followed (λ other has. cc) name alone, λ learns. refl)

pub returns-then-not-branch : goal.returns-then-not-branch
returns-then-not-branch c = λ rewrites name is followed servers.
    let config = c.args.hosts.now in
    let paths = c.in_ok-paths.paths in
    let all = paths_tell config rewrites name c.args.graph.now paths is c.in_ok-paths.ensures (server_names config) (λ other has. has) in (
      λ no. cc,
      λ learns. sym c.if-not-branch.true
          ∙ c.in_ok-learns_by_paths-2.ensures.1 (all.1 (learns_more config rewrites followed (server_names config) servers name learns)),
    )

pub returns : goal.returns
returns c = λ rewrites name is. paths_tell c.args.hosts.now rewrites name c.args.graph.now c.in_ok-paths.paths is c.in_ok-paths.ensures
