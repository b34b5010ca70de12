use Rattle.std.proofs.Common.{◌≡◌, sym, ap, ◌∙◌, subst}
use Rattle.std.specs.List.Sorted.{IsStrictlySortedBy}
use Rattle.dns_data.specs.Name.{name_cmp}
use Rattle.net_model.specs.declared.config.Config.{Config}
use Rattle.straight_walks.specs.Regions.{HasEachOrigin, region_origins}
use Rattle.straight_walks.proofs.OriginSets.{names_of}
use Rattle.straight_walks.proofs.regions.Regions.build.Goals as goal

pub returns : goal.returns
returns c =
    let origins : names_of c.in_ok-origins.origins.items ≡ region_origins c.in_ok-regions.regions.items =
    sym (c.in_ok-regions.ensures.origins ∙ ap names_of c.as_slice.ensures.value) in (
      record {
        ordered = subst (IsStrictlySortedBy name_cmp) origins c.in_ok-origins.ensures.ordered;
        each = c.in_ok-regions.ensures.each;
        all = subst (λ (config : Config). HasEachOrigin config (region_origins c.in_ok-regions.regions.items)) c.config.ensures
            (subst (HasEachOrigin c.config.result.now) origins c.in_ok-origins.ensures.all);
      },
      c.in_ok-tops.ensures,
    )
