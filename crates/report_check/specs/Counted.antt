-- Queries whose walks were counted. The contracts of inner calls alone cite it.
use Rattle.std.specs.Prelude.{◌≡◌, List, Some, Contains}
use Rattle.std.specs.BTreeMap as map
use Rattle.dns_data.specs.Name.{Labels, name_cmp}
use Rattle.dns_data.specs.declared.rr_type.RrType.{RrType}
use Rattle.net_model.specs.Step.{Setting}
use Rattle.plain_resolver.specs.Passed.{HasMoreWalks, most_walks_followed}

-- none of the queries has more walks than are followed with one of the types listed for it
abbrev pub AreFew : Setting → map.BTreeMap Labels (List RrType) → Type 0
AreFew setting counted =
    (query : Labels) (types : List RrType) (rtype : RrType) → map.get name_cmp counted query ≡ Some types → Contains types rtype
    → HasMoreWalks setting query rtype most_walks_followed → ⊥
