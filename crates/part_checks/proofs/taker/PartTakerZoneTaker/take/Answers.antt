use Rattle.std.proofs.Common.{◌≡◌, ◌∙◌, true, false, List, All, Contains, Option, Some, None, Result, Ok, Err, refl, sym, ap, subst, true≢false}
use Rattle.std.specs.Prelude.{is_some, IfErr, IfOk, OnOk}
use Rattle.dns_data.specs.Name.{Labels}
use Rattle.net_model.specs.declared.config.Zone.{Zone}
use Rattle.part_laws.specs.Part.{restricted_zone}
use Rattle.part_names.specs.declared.names.PartNames.{PartNames}
use Rattle.part_checks.specs.Claims.{IsFitName}
use Rattle.part_checks.specs.Outside.{zone_names, IsBelowHeld, IsPassed, Leaves}
use Rattle.part_checks.specs.Parts.{held_by}
use Rattle.part_checks.specs.Rules.{Refutes}
use Rattle.part_checks.specs.Skipped.{is_skipped}
use Rattle.part_checks.specs.Taking.{PassesZone, SeesZone, Taking}
use Rattle.part_checks.specs.declared.fault.PartFault.{PartFault}
use Rattle.part_checks.proofs.Meets.{first_below}
use Rattle.part_checks.proofs.TakenZones.{seen_broken, seen_more}
use Rattle.part_checks.proofs.taker.PartTakerZoneTaker.take.Goals as goal

-- what holds in any case holds if a call succeeds
in_any_case : {T E P : Type 0} (result : Result T E) → P → OnOk result P
in_any_case (Ok value) holds = holds
in_any_case (Err fault) holds = tt

-- what is there is something
something : {X : Type 0} (o : Option X) → is_some o ≡ true → (x : X) × (o ≡ Some x)
something (Some x) is = (x, refl)
something None is = absurd (true≢false (sym is))

-- and what isn't is nothing
nothing : {X : Type 0} (o : Option X) → is_some o ≡ false → o ≡ None
nothing None is = refl
nothing (Some x) is = absurd (true≢false is)

-- what a pass over the names of a zone told
passes_zone : (names : PartNames) (zone : Zone) (result : Result (List Labels) PartFault)
    → IfOk result (λ outside. All (IsPassed names outside) (zone_names zone))
    → IfOk result (λ outside. (name : Labels) → Contains outside name → Leaves names (zone_names zone) name)
    → IfErr result (Refutes (λ rule. All (IsFitName rule names) (zone_names zone))) → PassesZone names zone result
passes_zone names zone (Ok fronts) passed leaves refused = (passed, leaves)
passes_zone names zone (Err fault) passed leaves refused = refused

-- the names above those outside are held
sees_below : (names : PartNames) (zone : Zone) (result : Result (List Labels) PartFault) → SeesZone names zone result
    → IfOk result (λ fronts. (name : Labels) → Contains fronts name → IsBelowHeld names name)
sees_below names zone (Ok fronts) (seen, leaves) = λ name has. (let (start, among, found) = leaves name has in first_below names start name found)
sees_below names zone (Err fault) sees = tt

pub returns-then-is_some-clause-took : goal.returns-then-is_some-clause-took
returns-then-is_some-clause-took c =
    in_any_case c.left_zone.result (λ first zones has.
    let (told, some) = something c.self.inside.broken (sym c.is_some.ensures ∙ c.if-is_some.true) in
    (has.0, λ none. seen_broken zones c.args.zone c.requires c.args.self.now told (sym (ap (λ (t : Taking). t.broken) c.self.view_is) ∙ some) (has.1 none)))

pub note-requires : goal.note-requires
note-requires c =
    let names = c.args.self.now.names in
    let zone = c.args.zone in
    let seen = c.lasting_outside-seen.result in
    let same = ap (λ (t : Taking). t.names) c.self.view_is in
    let passes = passes_zone c.self.inside.sets zone c.outside_of-fronts.result c.outside_of-fronts.ensures.passed c.outside_of-fronts.ensures.leaves c.outside_of-fronts.ensures.refused in
    sees_below names zone seen (subst (λ (n : PartNames). SeesZone n zone seen) same (c.lasting_outside-seen.ensures zone c.in_ok-left.ensures passes))

pub returns-in_err-note-clause-same : goal.returns-in_err-note-clause-same
returns-in_err-note-clause-same c = ap (λ (names : PartNames). λ (zone : Zone). restricted_zone (held_by names) zone) c.note.ensures.names

pub returns-clause-took : goal.returns-clause-took
returns-clause-took c = λ first zones has.
    let zone = c.args.zone in
    let seen = c.lasting_outside-seen.result in
    let same = ap (λ (t : Taking). t.names) c.self.view_is in
    let none = sym (ap (λ (t : Taking). t.broken) c.self.view_is) ∙ nothing c.self.inside.broken (sym c.is_some.ensures ∙ c.if-is_some.false) in
    let passes = passes_zone c.self.inside.sets zone c.outside_of-fronts.result c.outside_of-fronts.ensures.passed c.outside_of-fronts.ensures.leaves c.outside_of-fronts.ensures.refused in
    let sees = subst (λ (n : PartNames). SeesZone n zone seen) same (c.lasting_outside-seen.ensures zone c.in_ok-left.ensures passes) in
    (c.note.ensures.names ∙ has.0, λ told. seen_more zones zone c.requires c.args.self.now c.note.new.self seen none sees c.in_ok-note.ensures.noted (has.1 told))

pub returns-in_err-note-clause-same_skips : goal.returns-in_err-note-clause-same_skips
returns-in_err-note-clause-same_skips c = ap is_skipped c.note.ensures.names
