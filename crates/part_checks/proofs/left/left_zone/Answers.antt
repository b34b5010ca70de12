use Rattle.std.proofs.Common.{◌≡◌, ◌∙◌, Bool, true, false, cond, List, [], ◌∷◌, map, filter, refl, ap}
use Rattle.dns_data.specs.First.{chosen}
use Rattle.dns_data.specs.Name.{is_among}
use Rattle.dns_data.specs.declared.rdata.Rr.{Rr}
use Rattle.part_checks.specs.Parts.{held_by}
use Rattle.part_checks.proofs.left.left_zone.Goals as goal

-- those are chosen that pass a test
chosen_by : (test : Rr → Bool) (rrs : List Rr) → chosen rrs (map test rrs) ≡ filter test rrs
chosen_by test [] = refl
chosen_by test (rr ∷ rrs) = by (test rr) (chosen_by test rrs) where
  by : (b : Bool) → chosen rrs (map test rrs) ≡ filter test rrs → cond b (rr ∷ chosen rrs (map test rrs)) (chosen rrs (map test rrs)) ≡ cond b (rr ∷ filter test rrs) (filter test rrs)
  by true rest = ap (λ (l : List Rr). rr ∷ l) rest
  by false rest = rest

pub returns : goal.returns
returns c =
    let zone = c.args.zone in
    let all = c.in_ok-rrs.ensures ∙ (ap (chosen zone.rrs) c.requires ∙ chosen_by (λ (rr : Rr). is_among (held_by c.args.sets.now) rr.owner) zone.rrs) in
    ap (λ (rrs : List Rr). record { origin = zone.origin; rrs = rrs }) all
