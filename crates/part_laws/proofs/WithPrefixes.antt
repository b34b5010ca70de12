-- Names with all their prefixes, and when they are the base names of what is left where they are held.
use Rattle.std.proofs.Common.{List, [], ◌++◌, Contains, sym, subst, inl, inr, flat_map}
use Rattle.net_model.specs.Prefix.{prefixes}
use Rattle.dns_data.proofs.Membership.{has_first}
use Rattle.dns_data.specs.Name.{Labels}
use Rattle.net_model.specs.declared.config.Config.{Config}
use Rattle.net_model.specs.Reading.{ground_of, origins_and_owners}
use Rattle.net_model.proofs.JoinedNames.{root_is_base, above_is_base, base_is_front}
use Rattle.part_laws.specs.Part.{with_prefixes, restricted}
use Rattle.part_laws.proofs.LocalNames.{start_based, above_based}

module _ (names : List Labels) where
  -- the root is among them
  pub root_there : Contains (with_prefixes names) []
  root_there = root_is_base [] names

  -- and the prefixes of each
  pub prefixes_there : (above below : Labels) → Contains (with_prefixes names) (above ++ below) → Contains (with_prefixes names) above
  prefixes_there above below has = above_is_base [] names above below has

  -- if each names name is an origin or owner of what is left, each of them is a base name of it
  pub met_there : (config : Config)
      → ((name : Labels) → Contains names name → Contains (origins_and_owners (restricted (with_prefixes names) config)) name)
      → (name : Labels) → Contains (with_prefixes names) name → Contains (ground_of (restricted (with_prefixes names) config)).names name
  met_there config each name has =
      elim (base_is_front [] names name has) [
        | inl root ↦ subst (Contains (ground_of (restricted (with_prefixes names) config)).names) root
            (root_of (restricted (with_prefixes names) config))
        | inr (start, among, (below, e)) ↦ above_based (restricted (with_prefixes names) config) name below
            (subst (Contains (ground_of (restricted (with_prefixes names) config)).names) (sym e)
            (start_based (restricted (with_prefixes names) config) start (each start among)))
      ]
    where
      root_of : (c : Config) → Contains (ground_of c).names []
      root_of c = has_first [] (flat_map prefixes (origins_and_owners c))
