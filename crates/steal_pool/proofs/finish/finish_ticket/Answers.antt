use Rattle.std.proofs.Common.{◌+◌, ◌∷◌, [], ◌++◌, length, sym, ◌∙◌, ap, subst}
use Rattle.std.proofs.lemmas.Result.{on_ok_weaker}
use Rattle.pool_core.specs.declared.history.HistoryEntry.TheVariants.{File}
use Rattle.verdict_book.specs.Books.{Pages}
use Rattle.steal_pool.specs.Finish.{IsFiledBelow}
use Rattle.steal_pool.proofs.Finishing.{filed_next, gone_next, refused_gone}
use Rattle.steal_pool.proofs.finish.finish_ticket.Goals as goal

pub returns-in-Ok-clause-ok : goal.returns-in-Ok-clause-ok
returns-in-Ok-clause-ok g c =
    on_ok_weaker c.file_claim.result (λ is.
    filed_next c.args.book.now.history c.claim.new.self.history c.file_claim.new.book.history c.args.ticket _ c.requires.below c.in-Ok.ensures.ok
    (is ∙ ap (λ t. c.claim.new.self.history ++ File t (length (g.W.Work.children_of c.in-Ok.claim.item)) ∷ []) c.in-Ok.ensures.claim.0))
    c.file_claim.ensures.ok

pub returns-in-Err-Gone-clause-ok : goal.returns-in-Err-Gone-clause-ok
returns-in-Err-Gone-clause-ok g c =
    subst (λ (p : Pages). IsFiledBelow p.history (c.args.ticket + 1)) (sym c.in-Err-Gone.ensures.err)
    (gone_next c.args.book.now.history c.args.ticket _ c.requires.below c.requires.none_in_hand c.requires.low (refused_gone _ _ _ c.in-Err-Gone.ensures.answers c.in-Err-Gone.field-0-is))
