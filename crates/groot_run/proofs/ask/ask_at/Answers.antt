use Rattle.std.proofs.Common.{◌≡◌, List, Result, Err, inl, inr, ap}
use Rattle.dns_data.specs.Name.{Labels}
use Rattle.plain_resolver.specs.Passed.{most_walks_followed}
use Rattle.plain_resolver.specs.declared.fault.LearntFault.{LearntFault}
use Rattle.plain_resolver.proofs.FromNone.{few_from_none, first_from_none, least_from_none}
use Rattle.run_endings.specs.Endings.{too_many_to_learn}
use Rattle.groot_run.specs.Outcome.{ask_rewrites}
use Rattle.groot_run.proofs.ask.ask_at.Goals as goal

pub returns-in-Ok : goal.returns-in-Ok
returns-in-Ok c =
    elim c.answer.ensures [
      | inl is ↦ inl (inr (record {
        followed = c.items.result.now;
        in_force = least_from_none c.args.hosts.now ask_rewrites c.new-none.result c.new-none.ensures c.items.result.now _ c.items.ensures c.in-Ok.ensures.rounds;
        few = few_from_none c.args.hosts.now ask_rewrites c.new-none.result c.new-none.ensures most_walks_followed c.in-Ok.ensures.few;
        answer = is;
      }))
      | inr ran_out ↦ inr ran_out
    ]

pub returns-in-Err-WalksPassed : goal.returns-in-Err-WalksPassed
returns-in-Err-WalksPassed c =
    elim c.too_many_to_learn.ensures [
      | inl ends ↦ inl (inl (
        c.in-Err-WalksPassed.server,
        first_from_none c.args.hosts.now ask_rewrites c.new-none.result c.new-none.ensures most_walks_followed c.in-Err-WalksPassed.server
            (c.in-Err-WalksPassed.ensures.passed c.in-Err-WalksPassed.server
            (ap {B = Result (List Labels) LearntFault} (λ (fault : LearntFault). Err fault) c.in-Err-WalksPassed.field-0-is)),
        let same : c.too_many_to_learn.result ≡ too_many_to_learn most_walks_followed c.in-Err-WalksPassed.server = cc ends in same,
      ))
      | inr ran_out ↦ inr ran_out
    ]
