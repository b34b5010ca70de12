use Rattle.std.proofs.Common.{All, Contains, List, map, inl, inr, sym, subst}
use Rattle.std.proofs.lemmas.List.Elements.{All-cons, All-head, All-map}
use Rattle.dns_data.specs.Name.{Labels}
use Rattle.dns_data.specs.declared.rdata.Rr.{Rr}
use Rattle.dns_data.proofs.Membership.{has_first, has_later, map_has, none_in_nil}
use Rattle.part_checks.specs.Claims.{IsFitName}
use Rattle.part_checks.specs.Outside.{zone_names, IsPassed}
use Rattle.part_checks.proofs.Meets.{first_below}
use Rattle.part_checks.proofs.Passing.{passed_on, all_behind}
use Rattle.part_checks.proofs.Refusals.{refused_by}
use Rattle.part_checks.proofs.outside.outside_of.Goals as goal

pub put_owners-requires-clause-below : goal.put_owners-requires-clause-below
put_owners-requires-clause-below c = λ name has. elim (c.in_ok-put_name.ensures.leaves name has) [
  | inl first ↦ absurd (none_in_nil name (subst (λ (l : List Labels). Contains l name) c.new-outside.ensures first))
  | inr is ↦ first_below c.args.sets.now c.args.zone.now.origin name is
]

pub returns-clause-passed : goal.returns-clause-passed
returns-clause-passed c =
    let names = c.args.sets.now in
    let zone = c.args.zone.now in
    let after = c.put_owners.new.outside in
    All-cons (IsPassed names after) zone.origin (map (λ (rr : Rr). rr.owner) zone.rrs)
    (passed_on names c.put_name.new.outside after zone.origin c.in_ok-put_owners.ensures.stays c.in_ok-put_name.ensures.passed)
    (All-map (IsPassed names after) (λ (rr : Rr). rr.owner) zone.rrs
    (subst (All (λ (rr : Rr). IsPassed names after rr.owner)) c.items.ensures c.in_ok-put_owners.ensures.passed))

pub returns-clause-leaves : goal.returns-clause-leaves
returns-clause-leaves c =
    let names = c.args.sets.now in
    let zone = c.args.zone.now in
    let owners = map (λ (rr : Rr). rr.owner) zone.rrs in λ name has. elim (c.in_ok-put_owners.ensures.leaves name has) [
      | inl old ↦ elim (c.in_ok-put_name.ensures.leaves name old) [
        | inl first ↦ absurd (none_in_nil name (subst (λ (l : List Labels). Contains l name) c.new-outside.ensures first))
        | inr is ↦ (zone.origin, has_first zone.origin owners, is)
      ]
      | inr (rr, among, is) ↦ (
        rr.owner,
        has_later zone.origin owners rr.owner (map_has (λ (one : Rr). one.owner) zone.rrs rr (subst (λ (l : List Rr). Contains l rr) c.items.ensures among)),
        is,
      )
    ]

pub returns-in_err-put_name-clause-refused : goal.returns-in_err-put_name-clause-refused
returns-in_err-put_name-clause-refused c =
    let names = c.args.sets.now in
    let zone = c.args.zone.now in
    refused_by (λ rule. IsFitName rule names zone.origin) (λ rule. All (IsFitName rule names) (zone_names zone)) c.from_residual.result c.in_err-put_name.field-0.0 c.from_residual.ensures.1
    (λ rule all. All-head (IsFitName rule names) zone.origin (map (λ (rr : Rr). rr.owner) zone.rrs) all) c.in_err-put_name.ensures.refused

pub returns-in_err-put_owners-clause-refused : goal.returns-in_err-put_owners-clause-refused
returns-in_err-put_owners-clause-refused c =
    let names = c.args.sets.now in
    let zone = c.args.zone.now in
    refused_by (λ rule. All (λ (rr : Rr). IsFitName rule names rr.owner) c.items.result.now) (λ rule. All (IsFitName rule names) (zone_names zone))
    c.from_residual-in_err-put_owners.result c.in_err-put_owners.field-0.0 c.from_residual-in_err-put_owners.ensures.1
    (λ rule all. subst (All (λ (rr : Rr). IsFitName rule names rr.owner)) (sym c.items.ensures) (all_behind (IsFitName rule names) (λ (rr : Rr). rr.owner) zone.origin zone.rrs all))
    c.in_err-put_owners.ensures.refused
