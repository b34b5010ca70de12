-- What is left of servers that are consistent, where zones go, is consistent.
use Rattle.std.proofs.Common.{◌≢◌, List, map, subst}
use Rattle.std.proofs.lemmas.List.Kept.{AllPairs-filter}
use Rattle.dns_data.specs.Name.{Labels, is_among}
use Rattle.dns_data.proofs.Membership.{from_filter, from_map, pairs_of_images}
use Rattle.net_model.specs.declared.config.Server.{Server}
use Rattle.net_model.specs.declared.config.Zone.{Zone}
use Rattle.net_model.specs.Configured.{IsConsistent, AreConsistent}
use Rattle.part_checks.specs.Taking.{with_held_zones}

module _ (names : List Labels) where
  server_consistent : (server : Server) → IsConsistent server → IsConsistent (with_held_zones names server)
  server_consistent server is =
      record {
        origins = AllPairs-filter (λ (a b : Zone). a.origin ≢ b.origin) (λ (zone : Zone). is_among names zone.origin) server.zones is.origins;
        within = λ zone has. is.within zone (from_filter (λ (z : Zone). is_among names z.origin) server.zones zone has).0;
      }

  -- what is left of each server
  pub left_consistent : (servers : List Server) → AreConsistent servers → AreConsistent (map (with_held_zones names) servers)
  left_consistent servers are =
      record {
        names = pairs_of_images (with_held_zones names) (λ (a b : Server). a.name ≢ b.name) servers are.names;
        each = λ server has.
            let (whole, among, same) = from_map (with_held_zones names) servers server has in
            subst IsConsistent same (server_consistent whole (are.each whole among));
      }
