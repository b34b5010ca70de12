use Rattle.std.proofs.Common.{ℕ, ◌<◌, List, length, Contains, All, sym, subst}
use Rattle.std.proofs.lemmas.List.Elements.{All-contains}
use Rattle.dns_data.proofs.Membership.{all_from_contains}
use Rattle.label_graph.specs.Targets.{IsStepFrom}
use Rattle.label_graph.proofs.LedPlaces.{from_inside}
use Rattle.label_graph.proofs.following.step_from.Goals as goal

pub close-requires-clause-within : goal.close-requires-clause-within
close-requires-clause-within c = subst (λ (n : ℕ). All (λ (p : ℕ). p < n) c.args.places) (sym c.requires.len) c.requires.within

pub step-requires : goal.step-requires
step-requires c =
    let reads = c.args.reads.now in
    let below = subst (λ (n : ℕ). All (λ (p : ℕ). p < n) c.args.places) (sym c.requires.len) c.requires.within in
    subst (λ (l : List ℕ). All (λ (p : ℕ). p < length c.args.base.now) l) (sym c.places.ensures)
    (all_from_contains (λ (p : ℕ). p < length c.args.base.now) c.in_ok-live.live (λ other has.
    let (place, given, led) = (c.in_ok-live.ensures other).0 has in
    subst (λ (n : ℕ). other < n) c.requires.len
    (from_inside reads c.requires.rows place other (All-contains (λ (p : ℕ). p < length reads) c.args.places place below given) led)))

pub returns : goal.returns
returns c other = (there, back) where
  there : Contains c.in_ok-next.next other → IsStepFrom c.args.base.now c.args.reads.now (Contains c.args.places) c.args.label.now other
  there has =
      let (above, among, step) = (c.in_ok-next.ensures other).0 has in
      let (place, given, led) = (c.in_ok-live.ensures above).0 (subst (λ (l : List ℕ). Contains l above) c.places.ensures among) in
      (place, above, given, led, step)

  back : IsStepFrom c.args.base.now c.args.reads.now (Contains c.args.places) c.args.label.now other → Contains c.in_ok-next.next other
  back (place, above, given, led, step) =
      (c.in_ok-next.ensures other).1 (above, subst (λ (l : List ℕ). Contains l above) (sym c.places.ensures) ((c.in_ok-live.ensures above).1 (place, given, led)), step)
