use Rattle.std.proofs.Common.{◌≡◌, ◌+◌, ◌<◌, length, nat_le, false, sym, ◌∙◌, ap, subst, leb-false}
use Rattle.pool_core.specs.History.{issued_in}
use Rattle.verdict_book.specs.Books.{Pages}
use Rattle.verdict_book.specs.Items.{ReachesMore}
use Rattle.verdict_book.specs.Refusals.{keeps_claim}
use Rattle.verdict_book.proofs.Keeping.{overfull}
use Rattle.verdict_book.proofs.book.Book.file.Goals as goal

pub returns-then-not-has_room-clause-full : goal.returns-then-not-has_room-clause-full
returns-then-not-has_room-clause-full g c is =
    let first = g.W.Work.first_item in
    let children = g.W.Work.children_of in
    let cmp = g.W.Item.Ord.cmp in
    let claim = c.args.claim in
    let kids = c.args.children in
    let keeps = ap (λ (p : Pages). keeps_claim cmp first children p.history claim) c.self.view_is ∙ sym c.keeps_claim.ensures ∙ c.if-not-keeps_claim.false in
    let no_room : nat_le (issued_in c.args.self.now.history + length c.items.result.now) c.args.self.now.limit ≡ false = sym c.has_room.ensures ∙ c.if-not-has_room.true in
    let no_room' = ap (λ l. nat_le (issued_in c.args.self.now.history + length l) c.args.self.now.limit) (sym c.items.ensures) ∙ no_room in
    let more = subst (λ (p : Pages). p.limit < issued_in p.history + length kids) (sym c.self.view_is) (leb-false _ _ no_room') in
    let found = overfull first children g.W.Work.verdict_of g.met.W.Work.parents_apart _ _ _ _ _ _ c.self.invariant cmp g.met.W.Work.equal_is_same claim kids c.self.inside.limit keeps c.requires.children more in
    subst (ReachesMore first children) (ap (λ (p : Pages). p.limit) c.self.view_is) found
