use Rattle.std.proofs.Common.{subst, inl, inr}
use Rattle.part_checks.specs.Rules.{IsRefused, Keeps}
use Rattle.part_checks.specs.declared.fault.PartFault.TheVariants.{Breaks}
use Rattle.part_checks.specs.declared.fault.PartRule.{PartRule}
use Rattle.part_names.specs.declared.names.PartNames.{PartNames}
use Rattle.part_run.specs.PartReported.{IsPartOf}
use Rattle.parts_run.proofs.part.of_taken.Goals as goal

pub returns-in-Ok : goal.returns-in-Ok
returns-in-Ok g c whole taken =
    let part =
    subst (λ (names : PartNames). IsPartOf whole names c.in-Ok.left) c.requires.names
    (record { left_is = c.in-Ok.ensures.left whole taken; part = c.in-Ok.ensures.part whole taken; own = c.in-Ok.ensures.own whole taken }) in
    let kept = subst (λ (names : PartNames). (rule : PartRule) → Keeps whole names rule) c.requires.names (c.in-Ok.ensures.kept whole taken) in
    elim (c.write_part-ending.ensures whole part) [
      | inl reports ↦ inl (inl (kept, reports))
      | inr ran_out ↦ inr ran_out
    ]

pub returns-in-Err-Breaks : goal.returns-in-Err-Breaks
returns-in-Err-Breaks g c whole taken =
    let rule = c.in-Err-Breaks.rule in
    let name = c.in-Err-Breaks.name in
    let refuted = subst (IsRefused whole c.args.taker.now.names) c.in-Err-Breaks.field-0-is (c.in-Err-Breaks.ensures.refused whole taken) in
    let fails = subst (λ (names : PartNames). IsRefused whole names (Breaks rule name)) c.requires.names refuted in
    elim c.broken.ensures [
      | inl says ↦ inl (inr (record { rule = rule; name = name; fails = fails; says = says }))
      | inr ran_out ↦ inr ran_out
    ]
