use Rattle.std.proofs.Common.{◌≡◌, Result, subst, sym, refl}
use Rattle.std.specs.Prelude.{◌⊎◌}
use Rattle.std.specs.List.{flat_map}
use Rattle.run_endings.specs.Endings.{no_memory, with_output}
use Rattle.run_endings.specs.declared.ending.Ending.{Ending}
use Rattle.run_endings.specs.declared.status.Status.{Status}
use Rattle.groot_run.specs.declared.scope.ScopeText.{ScopeText}
use Rattle.groot_run.specs.ScopeTexts.{EndsByText}
use Rattle.groot_run.proofs.scope.ended.Goals as goal

pub returns-in-Ok : goal.returns-in-Ok
returns-in-Ok c =
    let text = flat_map (λ piece. piece) c.in-Ok.text.pieces in
    subst (λ (told : Result ScopeText Ending). EndsByText told c.in_pieces.result) (sym c.in-Ok.is)
    (subst (λ (status : Status). (c.in_pieces.result ≡ with_output status text) ⊎ (c.in_pieces.result ≡ no_memory)) c.status_when.ensures (c.in_pieces.ensures text refl))
