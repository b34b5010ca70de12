use Rattle.std.proofs.Common.{◌∙◌, List, [], flat_map, ap, subst, append-nil}
use Rattle.dns_data.specs.Name.{Labels, is_among}
use Rattle.dns_data.proofs.Membership.{flat_map_has, has_later}
use Rattle.net_model.specs.Prefix.{prefixes}
use Rattle.net_model.proofs.Naming.{from_listed, is_listed}
use Rattle.net_model.proofs.Prefixes.{prefixes_have}
use Rattle.part_laws.specs.Part.{with_prefixes}
use Rattle.part_checks.specs.Marks.{MarksAll}
use Rattle.part_checks.proofs.sets.NameSets.build.Goals as goal

pub invariant_of-result : goal.invariant_of-result
invariant_of-result c =
    let away = c.args.names.now.away in
    let of_held = subst (λ (l : List Labels). MarksAll (with_prefixes l) c.in_ok-held_marks.held_marks) c.items.ensures c.in_ok-held_marks.ensures in
    let of_away = subst (λ (l : List Labels). MarksAll (with_prefixes l) c.in_ok-away_marks.away_marks) c.items-3.ensures c.in_ok-away_marks.ensures in (
      c.in_ok-held.ensures,
      λ name. c.in_ok-away.ensures name ∙ ap (λ (l : List Labels). is_among l name) c.items-2.ensures,
      of_held,
      λ name listed.
          of_away name (is_listed (with_prefixes away) name
          (has_later [] (flat_map prefixes away) name (flat_map_has prefixes away name name (from_listed away name listed) (prefixes_have name name ([], append-nil name))))),
    )
