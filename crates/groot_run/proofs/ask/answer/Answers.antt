use Rattle.std.proofs.Common.{inl, inr}
use Rattle.report_json.specs.Ask.{ask_text}
use Rattle.groot_run.proofs.ask.answer.Goals as goal

pub returns-in-Ok : goal.returns-in-Ok
returns-in-Ok c =
    elim (c.written.ensures (ask_text c.args.name.now c.args.rtype c.items.result.now) c.ask_text.ensures) [
      | inl ends ↦ inl (inr (
        c.in-Ok.ensures.few,
        record { walks = c.items.result.now; are_walks = rw c.items.ensures c.in-Ok.ensures.walks; as_text = ends },
      ))
      | inr none ↦ inr none
    ]
