use Rattle.std.proofs.Common.{inl, inr, refl}
use Rattle.run_endings.proofs.output.write_ending.Goals as goal

pub returns-in-Ok : goal.returns-in-Ok
returns-in-Ok g c =
    inl (refl, (c.in-Ok.ensures.ok, c.in-Ok.ensures.passes), (rw (← c.octets.ensures) c.tell.ensures.took, rw (← c.octets.ensures) c.tell.ensures.passed))

pub returns-in-Err : goal.returns-in-Err
returns-in-Err g c = inr (
  refl,
  c.in-Err.ensures.cause,
  (inr (refl, c.in-Err.ensures.cause, c.in-Err.ensures.err), inr (refl, c.in-Err.ensures.cause, c.in-Err.ensures.passes_front)),
  (c.tell-in-Err.ensures.took, c.tell-in-Err.ensures.passed),
)
