use Rattle.std.proofs.Common.{List, sym, subst}
use Rattle.straight_walks.specs.Regions.{AreRegions}
use Rattle.straight_walks.specs.declared.region.Region.{Region}
use Rattle.straight_walks.proofs.NearestRegions.{search_for}
use Rattle.straight_walks.proofs.regions.Regions.search_for.Goals as goal

pub returns-in-Some : goal.returns-in-Some
returns-in-Some c = λ config deps are.
    search_for config deps c.as_slice.result.now (subst (λ (regions : List Region). AreRegions config deps regions) (sym c.as_slice.ensures.value) are.0) c.args.query.now
    c.in-Some.region.now c.in-Some.ensures.some
