use Rattle.std.proofs.Common.{[], ◌∷◌, length, get_or, Bor, Vec, Global, refl, sym, ap, ◌∙◌, arith}
use Rattle.std.specs.List.{cons_option}
use Rattle.std.proofs.lemmas.List.{append-nil}
use Rattle.std.proofs.lemmas.Option.{slice_get_past, slice_get_read}
use Rattle.dns_data.specs.Name.{Labels}
use Rattle.zone_lookup.proofs.TopsHolding.{read_more}
use Rattle.zone_lookup.proofs.tops.tops_at.Goals.{in-Some+in_ok-push, in_default}
use Rattle.zone_lookup.proofs.tops.tops_at.Goals as goal

pub loop-place-preserved : goal.loop-place-preserved
loop-place-preserved c =
    let tops = c.args.tops.now in
    let places = c.args.places.now in
    let i = c.loop-place.place-index in
    let place = get_or places i 0 in
    let before = c.loop-place.found.items in
    elim c.match-get.branch [
      | in-Some+in_ok-push w ↦
          ap (λ (found : Vec (Bor Labels) Global). found.items) w.found-is
          ∙ w.in_ok-push.ensures.items
          ∙ read_more tops places i c.loop-place-test.true before c.loop-place.invariant (w.in-Some.top.now ∷ [])
          (ap (λ found. cons_option found []) (slice_get_read tops (length tops) place w.in-Some.top.now refl w.in-Some.ensures.lookup.3.0 w.in-Some.ensures.lookup.1))
      | in_default w ↦
          ap (λ (found : Vec (Bor Labels) Global). found.items) w.found-is
          ∙ sym (append-nil before)
          ∙ read_more tops places i c.loop-place-test.true before c.loop-place.invariant []
          (ap (λ found. cons_option found []) (slice_get_past tops place (omega (arith, w.in_default.ensures.lookup))))
    ]
