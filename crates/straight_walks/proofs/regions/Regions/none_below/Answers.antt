use Rattle.std.proofs.Common.{List, is_gt, sym, ◌∙◌, ap, subst, arith}
use Rattle.dns_data.specs.Name.{name_cmp}
use Rattle.dns_data.proofs.NameOrder.{UpTo}
use Rattle.straight_walks.specs.Regions.{AreRegions, IsPastName}
use Rattle.straight_walks.specs.declared.region.Region.{Region}
use Rattle.straight_walks.proofs.NearestRegions.{origin_of}
use Rattle.straight_walks.proofs.OriginsBelow.{next_past, none_below, none_next}
use Rattle.straight_walks.proofs.regions.Regions.none_below.Goals as goal

pub returns-then-near-regions : goal.returns-then-near-regions
returns-then-near-regions c = λ past config deps are.
    let regions = c.as_slice-regions.result.now in
    let name = c.args.name.now in
    let region = c.index-regions-near.result in
    let next = c.index-regions-near-then-near-regions.result in
    let up_to : UpTo (origin_of region) name =
    ap (λ (one : Region). is_gt (name_cmp (origin_of one) name)) c.index-regions-near.is ∙ ap is_gt (sym c.compare.ensures.value) ∙ sym c.is_gt.ensures ∙ c.if-is_gt.false in
    none_below config deps regions (subst (λ (all : List Region). AreRegions config deps all) (sym c.as_slice-regions.ensures.value) are.0) name c.args.near region
    (omega (arith, c.if-regions-near.false)) c.index-regions-near.is up_to
    (next_past regions name c.args.near next (omega (arith, c.if-near-regions.true)) c.index-regions-near-then-near-regions.is
    (subst (λ (one : Region). IsPastName name (origin_of one)) (sym c.index-regions-near-then-near-regions.is) (c.is_past.ensures past)))

pub returns-else-near-regions : goal.returns-else-near-regions
returns-else-near-regions c = λ past config deps are.
    let regions = c.as_slice-regions.result.now in
    let name = c.args.name.now in
    let region = c.index-regions-near.result in
    let up_to : UpTo (origin_of region) name =
    ap (λ (one : Region). is_gt (name_cmp (origin_of one) name)) c.index-regions-near.is ∙ ap is_gt (sym c.compare.ensures.value) ∙ sym c.is_gt.ensures ∙ c.if-is_gt.false in
    none_below config deps regions (subst (λ (all : List Region). AreRegions config deps all) (sym c.as_slice-regions.ensures.value) are.0) name c.args.near region
    (omega (arith, c.if-regions-near.false)) c.index-regions-near.is up_to
    (none_next regions name c.args.near (omega (arith, c.if-near-regions.false)))
