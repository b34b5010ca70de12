use Rattle.std.proofs.Common.{◌≤◌, ◌∙◌, subst}
use Rattle.pool_core.specs.History.{issued_in}
use Rattle.verdict_book.proofs.Walks.{walked_step}
use Rattle.verdict_book.proofs.walk.file_all.Goals as goal

pub loop-ticket-preserved : goal.loop-ticket-preserved
loop-ticket-preserved g c =
    let limit = c.file_ticket.ensures.limit ∙ c.loop-ticket.invariant.1 in (
      walked_step _ _ _ _ _ c.loop-ticket.invariant.0 (λ none. c.if-unfiled-eq0.false (c.unfiled.ensures ∙ none)) c.in_ok-file_ticket.ensures.ok (subst (λ n. issued_in c.file_ticket.new.book.history ≤ n) limit c.in_ok-file_ticket.ensures.few),
      limit,
    )
