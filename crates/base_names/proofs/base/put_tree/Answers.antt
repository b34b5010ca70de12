use Rattle.std.proofs.Common.{◌∙◌, ◌⊎◌, List, ◌++◌, map, Contains, sym, ap, subst}
use Rattle.std.specs.Prelude.{◌↔◌}
use Rattle.std.specs.List.{flat_map}
use Rattle.dns_data.specs.Name.{Labels}
use Rattle.dns_data.specs.declared.rdata.Rr.{Rr}
use Rattle.net_model.specs.declared.config.Zone.{Zone}
use Rattle.net_model.specs.Reading.{redirection_of}
use Rattle.base_names.specs.Base.{IsInZone, zone_redirections}
use Rattle.label_graph.specs.Pairs.{redirection}
use Rattle.label_graph.specs.Targets.{IsPrefixFrom}
use Rattle.base_names.proofs.ZoneNames.{zone_put, zone_prefixes}
use Rattle.base_names.proofs.base.put_tree.Goals as goal

pub returns-clause-names : goal.returns-clause-names
returns-clause-names c name =
    let old = c.args.names.now.items in
    let first = c.put_new_fronts.new.names.items in
    subst (λ (l : List Labels). Contains l name ↔ (Contains old name ⊎ IsInZone name c.args.tree.now.zone))
    (sym (c.in_ok-put_copies.ensures ∙ ap (λ (l : List Labels). first ++ l) c.names.ensures))
    (zone_put c.args.tree.now.zone c.requires.within old first c.args.tree.now.names
    (subst (λ (zone : Zone). (front : Labels) → Contains first front ↔ (Contains old front ⊎ IsPrefixFrom 0 zone.origin front)) c.zone-zone.ensures.zone
    c.in_ok-put_new_fronts.ensures.fronts)
    c.zone-zone.ensures.names name)

pub returns-clause-prefixes : goal.returns-clause-prefixes
returns-clause-prefixes c =
    zone_prefixes c.args.tree.now.zone c.args.names.now.items c.put_copies.new.names.items c.requires.prefixes (returns-clause-names c)

pub returns-clause-pairs : goal.returns-clause-pairs
returns-clause-pairs c =
    c.in_ok-put_pairs.ensures
    ∙ ap (λ (rrs : List Rr). map redirection c.args.dnames.now.items ++ flat_map (λ (rr : Rr). redirection_of rr.owner rr.rdata) rrs) c.items.ensures
    ∙ ap (λ (zone : Zone). map redirection c.args.dnames.now.items ++ zone_redirections zone) c.zone-zone.ensures.zone
