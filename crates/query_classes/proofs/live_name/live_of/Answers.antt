use Rattle.std.proofs.Common.{[], ◌∷◌, ◌++◌}
use Rattle.query_classes.proofs.ClassLaws.{label_more}
use Rattle.query_classes.proofs.live_name.live_of.Goals as goal

pub loop-octets-preserved-in_ok-live-2 : goal.loop-octets-preserved-in_ok-live-2
loop-octets-preserved-in_ok-live-2 c =
    let (above, passed, of) = c.loop-octets.invariant in (
      above ++ c.in_ok-label.label ∷ [],
      label_more c.args.name.now above c.loop-octets.rest c.next.new.self c.in_ok-label.label c.in-Some.octets.now passed c.in-Some.ensures.first c.in_ok-label.ensures,
      c.in_ok-live-2.ensures above of,
    )

pub loop-octets-preserved : goal.loop-octets-preserved
loop-octets-preserved c =
    let (above, passed, of) = c.loop-octets.invariant in (
      above ++ c.in_ok-label.label ∷ [],
      label_more c.args.name.now above c.loop-octets.rest c.next.new.self c.in_ok-label.label c.in-Some.octets.now passed c.in-Some.ensures.first c.in_ok-label.ensures,
      c.in_ok-live-2.ensures above of,
    )
