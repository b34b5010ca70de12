use Rattle.std.proofs.Common.{◌≡◌, ◌⊎◌, List, Contains, Result, Ok, Err, refl, sym, ap, subst, inl, inr}
use Rattle.std.specs.Prelude.{IfOk, OnOk}
use Rattle.dns_data.specs.Name.{Labels}
use Rattle.part_names.specs.declared.names.PartNames.{PartNames}
use Rattle.part_checks.specs.Outside.{HasOutside, IsBelowHeld}
use Rattle.part_checks.specs.Taking.{HasNoted, Taking}
use Rattle.part_checks.specs.declared.fault.PartFault.{PartFault}
use Rattle.part_checks.proofs.taker.PartTaker.note.Goals as goal

pub invariant_of-self : goal.invariant_of-self
invariant_of-self c = λ name has. elim (c.put_all.ensures.added name has) [
  | inl old ↦ c.self.invariant name old
  | inr front ↦ subst (λ (names : PartNames). IsBelowHeld names name) (sym (ap (λ (t : Taking). t.names) c.self.view_is))
      (subst (λ (seen : Result (List Labels) PartFault). IfOk seen (λ fronts. (one : Labels) → Contains fronts one → IsBelowHeld c.args.self.now.names one)) c.in-Ok.is c.requires name front)
]

-- names that are put are noted
put_noted : {E : Type 0} (result : Result (Unit {0}) E) (fronts : List Labels) (seen : Result (List Labels) PartFault) (old new : Taking) → seen ≡ Ok fronts
    → new.names ≡ old.names → new.broken ≡ old.broken
    → OnOk result ((front : Labels) → Contains fronts front → HasOutside new.outside front)
    → OnOk result ((name : Labels) → Contains old.outside name → Contains new.outside name)
    → ((name : Labels) → Contains new.outside name → Contains old.outside name ⊎ Contains fronts name)
    → OnOk result (HasNoted seen old new)
put_noted (Ok done) fronts seen old new is names broken there stays added =
    subst (λ (s : Result (List Labels) PartFault). HasNoted s old new) (sym is) (record { names = names; broken = broken; there = there; stays = stays; added = added })
put_noted (Err fault) fronts seen old new is names broken there stays added = tt

pub returns-in-Ok-clause-noted : goal.returns-in-Ok-clause-noted
returns-in-Ok-clause-noted c =
    let old : Taking = record { names = c.self.inside.sets; outside = c.self.inside.outside; broken = c.self.inside.broken } in
    let new : Taking = record { names = c.self.inside.sets; outside = c.put_all.new.outside; broken = c.self.inside.broken } in
    subst (λ (t : Taking). OnOk c.put_all.result (HasNoted c.args.seen t new)) c.self.view_is
    (put_noted c.put_all.result c.in-Ok.fronts c.args.seen old new c.in-Ok.is refl refl c.put_all.ensures.there c.put_all.ensures.stays c.put_all.ensures.added)
