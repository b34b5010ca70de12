use Rattle.std.proofs.Common.{List, Bor, sym, subst}
use Rattle.std.specs.List.Sorted.{IsStrictlySortedBy}
use Rattle.std.proofs.lemmas.Result.{IfOk-weaker}
use Rattle.dns_data.specs.Name.{Labels, name_cmp}
use Rattle.straight_walks.specs.Regions.{HasEachOrigin}
use Rattle.zone_lookup.proofs.FirstsByName.{names_rise}
use Rattle.straight_walks.proofs.OriginSets.{names_of}
use Rattle.straight_walks.proofs.origins.origins_of.Goals as goal

pub returns-clause-ordered : goal.returns-clause-ordered
returns-clause-ordered c =
    IfOk-weaker c.set_names.result _ _
    (λ origins are. subst (λ (keys : List (Bor Labels)). IsStrictlySortedBy name_cmp (names_of keys)) (sym are) (names_rise c.in_ok-origins.origins.keys c.len.ensures.ordered))
    c.set_names.ensures

pub returns-clause-all : goal.returns-clause-all
returns-clause-all c =
    IfOk-weaker c.set_names.result _ _
    (λ origins are. subst (λ (keys : List (Bor Labels)). HasEachOrigin c.args.config.now (names_of keys)) (sym are) c.in_ok-origins.ensures)
    c.set_names.ensures
