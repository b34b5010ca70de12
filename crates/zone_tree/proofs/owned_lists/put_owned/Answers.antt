use Rattle.std.proofs.Common.{[], ◌∷◌, Bor, map, ap, ◌∙◌}
use Rattle.dns_data.specs.Name.{Labels}
use Rattle.zone_tree.specs.declared.owned_lists.OwnedParts.{OwnedParts}
use Rattle.zone_tree.proofs.owned_lists.put_owned.Goals as goal

pub returns : goal.returns
returns c =
    let own : OwnedParts = record { types = c.types_of-types.result; servers = c.in_ok-servers.servers; sets = c.in_ok-sets.sets } in
    record {
      grown = record {
        names = (own ∷ [], c.in_ok-push.ensures.items);
        sets = c.in_ok-sets.ensures.sets;
        several = c.in_ok-sets.ensures.several;
        servers = (c.in_ok-servers_of.field-0.items, c.in_ok-servers.ensures.items);
      };
      own = own;
      names = c.in_ok-push.ensures.items;
      at = c.len-place.ensures ∙ c.args.lists.now.names.ok.0;
      within = record { servers = c.in_ok-servers.ensures.within; sets = c.in_ok-sets.ensures.part; several = c.in_ok-sets.ensures.within };
      tells = record {
        types = c.types_of-types.ensures;
        servers = ap (map (λ (server : Bor Labels). server.now)) c.in_ok-servers.ensures.part ∙ c.in_ok-servers_of.ensures;
        sets = c.in_ok-sets.ensures.all;
      };
    }
