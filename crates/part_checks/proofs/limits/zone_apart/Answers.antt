use Rattle.std.proofs.Common.{◌≡◌, ◌∙◌, List, ◌++◌, [], map, flat_map, All, Contains, ap, subst}
use Rattle.std.proofs.lemmas.List.Elements.{All-map, All-contains}
use Rattle.std.proofs.lemmas.Result.{on_ok_weaker, IfErr-weaker}
use Rattle.dns_data.specs.Name.{Labels}
use Rattle.dns_data.proofs.Membership.{all_from_contains, map_has}
use Rattle.dns_data.specs.declared.rdata.Rr.{Rr}
use Rattle.net_model.specs.Reading.{Redirection, redirection_of}
use Rattle.net_model.specs.declared.config.Zone.{Zone}
use Rattle.base_names.specs.Base.{zone_redirections}
use Rattle.label_graph.specs.declared.pair.Pair.{Pair}
use Rattle.label_graph.specs.Pairs.{redirection}
use Rattle.part_checks.specs.Outside.{IsApart}
use Rattle.part_checks.specs.declared.fault.PartRule.TheVariants.{Apart}
use Rattle.part_checks.proofs.Refusals.{refuted_by}
use Rattle.part_checks.proofs.limits.zone_apart.Goals as goal

-- pairs that are put behind none are the redirections of the zone
pairs_are : (seen put new : List Pair) (rrs : List Rr) (zone : Zone) → seen ≡ put
    → map redirection put ≡ map redirection new ++ flat_map (λ (rr : Rr). redirection_of rr.owner rr.rdata) rrs → new ≡ [] → rrs ≡ zone.rrs
    → map redirection seen ≡ zone_redirections zone
pairs_are seen put new rrs zone same are none of_zone =
    ap (map redirection) same
    ∙ (are ∙ (ap (λ (l : List Pair). map redirection l ++ flat_map (λ (rr : Rr). redirection_of rr.owner rr.rdata) rrs) none
    ∙ ap (flat_map (λ (rr : Rr). redirection_of rr.owner rr.rdata)) of_zone))

pub returns-clause-apart : goal.returns-clause-apart
returns-clause-apart c =
    let outside = c.args.outside.now in
    let pairs = c.as_slice.result.now in
    let same = pairs_are pairs _ _ _ c.args.zone.now c.as_slice.ensures.value c.in_ok-put_pairs.ensures c.new-pairs.ensures.items c.items.ensures in
    on_ok_weaker c.pairs_apart.result (λ all. subst (All (λ (one : Redirection). All (IsApart one) outside)) same (All-map (λ (one : Redirection). All (IsApart one) outside) redirection pairs all)) c.pairs_apart.ensures.apart

pub returns-clause-refused : goal.returns-clause-refused
returns-clause-refused c =
    let outside = c.args.outside.now in
    let pairs = c.as_slice.result.now in
    let same = pairs_are pairs _ _ _ c.args.zone.now c.as_slice.ensures.value c.in_ok-put_pairs.ensures c.new-pairs.ensures.items c.items.ensures in
    IfErr-weaker c.pairs_apart.result _ _
    (λ fault refuted. refuted_by (λ rule. All (λ (pair : Pair). All (λ (name : Labels). Apart ≡ rule → IsApart (redirection pair) name) outside) pairs) _ fault
    (λ rule all. all_from_contains (λ (pair : Pair). All (λ (name : Labels). Apart ≡ rule → IsApart (redirection pair) name) outside) pairs
    (λ pair has. All-contains (λ (one : Redirection). All (λ (name : Labels). Apart ≡ rule → IsApart one name) outside) (zone_redirections c.args.zone.now) (redirection pair) all
    (subst (λ (l : List Redirection). Contains l (redirection pair)) same (map_has redirection pairs pair has)))) refuted) c.pairs_apart.ensures.refused
