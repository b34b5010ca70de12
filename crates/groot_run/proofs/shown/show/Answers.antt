use Rattle.std.proofs.lemmas.Result.{on_ok_weaker}
use Rattle.groot_run.proofs.Watched.{saw_all}
use Rattle.groot_run.proofs.shown.show.Goals as goal

pub returns : goal.returns
returns g c = on_ok_weaker c.show_brought.result (λ seen. saw_all _ _ _ _ _ _ _ _ c.in_ok-show.ensures seen) c.show_brought.ensures
