-- The delegation of one zone more stands at the end.
use Rattle.std.proofs.Common.{codes, sym}
use Rattle.zone_maker.specs.Drill.{referral_lines}
use Rattle.zone_maker.proofs.Numbers.{gives_more}
use Rattle.zone_maker.proofs.texts.root_text.Goals as goal

pub loop-i-preserved : goal.loop-i-preserved
loop-i-preserved c =
    let e = gives_more referral_lines (codes "$TTL 60\n. SOA a.top. h.top. 1 2 3 4 5\n. NS a.top.\n") c.loop-i.i in
    rw (c.in_ok-put_referral.ensures, c.loop-i.invariant) (sym e)
