use Rattle.std.proofs.Common.{◌≡◌, false, get_or, ap, ◌∙◌}
use Rattle.std.proofs.lemmas.List.{get_or-map}
use Rattle.zone_rules.proofs.Rivals.{lower-more}
use Rattle.zone_rules.proofs.buckets.lower_keys.Goals as goal

pub loop-i-preserved : goal.loop-i-preserved
loop-i-preserved c = λ may says.
    let keys = c.args.keys.now in
    let i = c.loop-i.i in
    let is : get_or c.args.rivals.now i false ≡ may (get_or keys i (0, false)).0 =
    ap (λ said. get_or said i false) says
    ∙ get_or-map (λ other. may other.0) keys i (0, false) false c.loop-i-test.true in
    c.in_ok-push_lower.ensures ∙ lower-more may keys i (get_or c.args.rivals.now i false) c.loop-i.lower.items c.loop-i-test.true (c.loop-i.invariant may says) is
