use Rattle.std.proofs.Common.{◌≡◌, ◌&&◌, ◌++◌, ◌∷◌, [], ℕ, Bool, false, get_or, ap, ◌∙◌}
use Rattle.std.proofs.lemmas.List.{get_or-map}
use Rattle.zone_rules.specs.Buckets.{has_rival, lower_half}
use Rattle.zone_rules.proofs.Rivals.{told-more}
use Rattle.zone_rules.proofs.buckets.Buckets.rivals_too.Goals as goal

pub loop-i-preserved : goal.loop-i-preserved
loop-i-preserved c = λ may says.
    let keys = c.args.keys.now in
    let i = c.loop-i.i in
    let key : ℕ × Bool = get_or keys i (0, false) in
    let is : get_or c.args.rivals.now i false ≡ may key.0 =
    ap (λ said. get_or said i false) says
    ∙ get_or-map (λ other. may other.0) keys i (0, false) false c.loop-i-test.true in
    c.in_ok-push.ensures.items
    ∙ ((λ j. c.loop-i.invariant may says j ++ (c.is_rival_too.ensures ∙ ap (λ b. b && has_rival c.args.self.now (lower_half key.0)) is) j ∷ [])
    ∙ told-more keys i c.loop-i-test.true (λ other. may other.0 && has_rival c.args.self.now (lower_half other.0)))
