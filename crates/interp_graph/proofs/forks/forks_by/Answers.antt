use Rattle.std.proofs.Common.{List, Bool, [], ◌∷◌, ◌++◌, map, take, sym, ap, ◌∙◌, subst}
use Rattle.std.specs.List.{AllByRecursion}
use Rattle.std.proofs.lemmas.List.{map-append, take_more, take_all}
use Rattle.dns_data.specs.TypeSet.{has_bit}
use Rattle.dns_data.proofs.Membership.{each_along}
use Rattle.dns_data.proofs.Names.{all_push}
use Rattle.zone_lookup.specs.Alike.{AreSplit, GoAlike, HasSome}
use Rattle.interp_graph.specs.Steps.{IsFork, types_of}
use Rattle.interp_graph.proofs.forks.forks_by.Goals as goal

pub split_by-requires : goal.split_by-requires
split_by-requires c = (c.args.walker.now.config, c.args.state.now.server, c.args.state.now.name, c.requires)

pub fork-requires-clause-some : goal.fork-requires-clause-some
fork-requires-clause-some c =
    each_along HasSome c.items-sets.result.now (subst (λ (sets : List (List Bool)). AllByRecursion HasSome sets) (sym c.items-sets.ensures) c.in_ok-sets.ensures.split.some)
    c.index-sets-at.result (c.loop-at.at, c.loop-at-test.true, sym c.index-sets-at.is)

pub fork-requires-clause-alike : goal.fork-requires-clause-alike
fork-requires-clause-alike c =
    each_along (GoAlike c.args.reply.now) c.items-sets.result.now (subst (AllByRecursion (GoAlike c.args.reply.now)) (sym c.items-sets.ensures) c.in_ok-sets.ensures.alike)
    c.index-sets-at.result (c.loop-at.at, c.loop-at-test.true, sym c.index-sets-at.is)

pub loop-at-preserved : goal.loop-at-preserved
loop-at-preserved c =
    let sets = c.items-sets.result.now in
    let at = c.loop-at.at in
    let set : List Bool = c.index-sets-at.result in
    let forks = c.loop-at.forks in
    let fork = c.in_ok-fork.field-0 in
    let put = c.in_ok-push.ensures.ok in
    record {
      sets = ap (map types_of) put ∙ map-append types_of forks (fork ∷ [])
          ∙ ap (λ (some : List (List Bool)). some ++ fork.types ∷ []) c.loop-at.invariant.sets
          ∙ ap (λ (s : List Bool). take at sets ++ s ∷ []) c.in_ok-fork.ensures.types
          ∙ sym (take_more sets at set c.loop-at-test.true ∙ ap (λ (s : List Bool). take at sets ++ s ∷ []) (sym c.index-sets-at.is));
      tell = subst (AllByRecursion (IsFork c.args.walker.now c.args.state.now)) (sym put)
          (all_push (IsFork c.args.walker.now c.args.state.now) forks fork c.loop-at.invariant.tell c.in_ok-fork.ensures.fork);
    }

pub returns : goal.returns
returns c =
    let sets = c.items-sets.result.now in
    record {
      split = subst (AreSplit (has_bit c.args.types)) (sym (c.loop-at.invariant.sets ∙ take_all c.loop-at.at sets c.loop-at-test.false ∙ c.items-sets.ensures))
          c.in_ok-sets.ensures.split;
      tell = each_along (IsFork c.args.walker.now c.args.state.now) c.loop-at.forks c.loop-at.invariant.tell;
    }
