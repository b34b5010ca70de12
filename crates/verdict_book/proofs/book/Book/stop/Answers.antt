use Rattle.std.proofs.Common.{◌≡◌, ◌∷◌, [], ◌++◌, Some, None, sym, ap, subst, rules}
use Rattle.std.specs.Vec.{vec_capacity}
use Rattle.pool_core.specs.declared.history.HistoryEntry.TheVariants.{Stop as StopOf}
use Rattle.pool_core.specs.declared.event.StopCause.TheVariants.{Full}
use Rattle.verdict_book.specs.Books.{Pages}
use Rattle.verdict_book.specs.Items.{ReachesMore}
use Rattle.verdict_book.specs.Keeping.{IsBookAfter}
use Rattle.verdict_book.proofs.Keeping.{stop_keeps, pages_of}
use Rattle.verdict_book.proofs.book.Book.stop.Goals as goal

pub invariant_of-self : goal.invariant_of-self
invariant_of-self g c =
    let first = g.W.Work.first_item in
    let children = g.W.Work.children_of in
    let unstopped : c.self.inside.stopped ≡ None = search rules in
    let full : c.args.cause ≡ Full → ReachesMore first children c.self.inside.limit = λ is. subst (ReachesMore first children) (ap (λ (p : Pages). p.limit) (sym c.self.view_is)) (c.requires.full is) in
    let kept = stop_keeps first children g.W.Work.verdict_of g.met.W.Work.parents_apart _ _ _ _ _ _ c.self.invariant c.args.cause unstopped full in
    subst (λ l. IsBookAfter first children g.W.Work.verdict_of (pages_of c.self.inside.limit l) c.self.inside.rows.items (Some c.args.cause) c.self.inside.filed (vec_capacity c.push_reserved.new.self)) (sym c.push_reserved.ensures.items)
    (subst (IsBookAfter first children g.W.Work.verdict_of (pages_of c.self.inside.limit (c.self.inside.history.items ++ StopOf c.args.cause ∷ [])) c.self.inside.rows.items (Some c.args.cause) c.self.inside.filed) (sym c.push_reserved.ensures.capacity) kept)
