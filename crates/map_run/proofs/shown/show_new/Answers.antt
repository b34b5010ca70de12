use Rattle.std.proofs.Common.{false, refl, inl, inr}
use Rattle.std.proofs.lemmas.Result.{on_ok_weaker}
use Rattle.config_load.proofs.ServerPlaces.{known-added}
use Rattle.map_run.proofs.shown.show_new.Goals as goal

pub returns-then-not-branch-clause-ok : goal.returns-then-not-branch-clause-ok
returns-then-not-branch-clause-ok g c = inl (known-added c.in_ok-put_shown.field-0 _ false c.if-not-branch.true c.in_ok-put_shown.ensures.new, refl)

pub returns-clause-shown : goal.returns-clause-shown
returns-clause-shown g c = on_ok_weaker c.show_origin.result (λ seen. c.in_ok-put_shown.ensures.shown) c.show_origin.ensures.ok

pub returns-clause-ok : goal.returns-clause-ok
returns-clause-ok g c = on_ok_weaker c.show_origin.result (λ seen. inr seen) c.show_origin.ensures.ok
