use Rattle.std.proofs.Common.{◌≡◌, ◌∙◌, true, List, All, Result, Ok, Err, rules, sym, ap, subst}
use Rattle.std.specs.Prelude.{IsErrAnd}
use Rattle.dns_data.specs.Name.{Labels, is_among}
use Rattle.net_model.specs.Zone.{exists_in}
use Rattle.net_model.specs.declared.config.Zone.{Zone}
use Rattle.part_names.specs.declared.names.PartNames.{PartNames}
use Rattle.part_checks.specs.Outside.{parent}
use Rattle.part_checks.specs.Parts.{held_by}
use Rattle.part_checks.specs.Rules.{Refutes}
use Rattle.part_checks.specs.Taking.{FitsZone, PassesZone, SeesZone}
use Rattle.part_checks.specs.declared.fault.PartFault.{PartFault}
use Rattle.part_checks.specs.declared.fault.PartRule.TheVariants.{Exists}
use Rattle.part_checks.proofs.SeenZones.{lasting_refused, seen_apart, seen_lasting}
use Rattle.part_checks.proofs.taker.lasting_outside.Goals as goal
use Rattle.part_checks.proofs.taker.lasting_outside.Goals.{then-has+in_ok-check_lasting, else-has}

-- a fault by which the zone doesn't fit, handed on
sees_fault : (names : PartNames) (zone : Zone) (result : Result (List Labels) PartFault) (fault : PartFault) → IsErrAnd result (λ passed. passed ≡ fault)
    → Refutes (λ rule. FitsZone rule names zone) fault → SeesZone names zone result
sees_fault names zone (Ok fronts) fault told refuted = absurd told
sees_fault names zone (Err passed) fault told refuted = subst (Refutes (λ rule. FitsZone rule names zone)) (sym told) refuted

pub returns-in_err-check_lasting : goal.returns-in_err-check_lasting
returns-in_err-check_lasting c = λ zone is passes.
    let names = c.args.sets.now in
    let left = c.args.left.now in
    let fault = c.in_err-check_lasting.field-0.0 in
    let is_ok : c.args.fronts ≡ Ok c.in_ok-fronts.fronts = search rules in
    let (passed, leaves) = subst (PassesZone names zone) is_ok passes in
    let held : is_among (held_by names) zone.origin ≡ true = ap (λ (z : Zone). is_among (held_by names) z.origin) (sym is) ∙ (sym c.has.ensures ∙ c.if-has.true) in
    sees_fault names zone c.from_residual-in_err-check_lasting.result fault c.from_residual-in_err-check_lasting.ensures.1
    (lasting_refused names zone left c.in_ok-fronts.fronts fault held is leaves
    (subst (λ (l : List Labels). Refutes (λ rule. All (λ (name : Labels). Exists ≡ rule → exists_in left (parent name) ≡ true) l) fault) c.items.ensures c.in_err-check_lasting.ensures.refused))

pub returns : goal.returns
returns c = λ zone is passes.
    let names = c.args.sets.now in
    let left = c.args.left.now in
    let fronts = c.in_ok-fronts.fronts in
    let is_ok : c.args.fronts ≡ Ok c.in_ok-fronts.fronts = search rules in
    let (passed, leaves) = subst (PassesZone names zone) is_ok passes in
    let origin = ap (λ (z : Zone). is_among (held_by names) z.origin) (sym is) in (
      elim c.if-has.branch [
        | then-has+in_ok-check_lasting w ↦ seen_lasting names zone left fronts is passed
            (subst (All (λ (name : Labels). exists_in left (parent name) ≡ true)) w.items.ensures w.in_ok-check_lasting.ensures.lasting)
        | else-has w ↦ seen_apart names zone fronts (origin ∙ (sym c.has.ensures ∙ w.if-has.false)) passed
      ],
      leaves,
    )
