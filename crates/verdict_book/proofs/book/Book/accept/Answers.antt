use Rattle.std.proofs.Common.{◌∷◌, [], ◌++◌, ◌+◌, ◌≤◌, length, sym, ◌∙◌, ap, subst, arith}
use Rattle.std.specs.Vec.{vec_capacity}
use Rattle.std.proofs.lemmas.Option.{slice_get_within}
use Rattle.pool_core.specs.declared.history.HistoryEntry.TheVariants.{File as FileOf}
use Rattle.pool_core.specs.History.{issued_in}
use Rattle.verdict_book.specs.Books.{Pages}
use Rattle.verdict_book.specs.Refusals.{keeps_claim}
use Rattle.verdict_book.proofs.Places.{ok_means}
use Rattle.verdict_book.proofs.Keeping.{within, rows_are, filed_few, claim_there, filing_keeps}
use Rattle.verdict_book.proofs.book.Book.accept.Goals as goal

pub overflow_cast-issued : goal.overflow_cast-issued
overflow_cast-issued g c =
    let rows = c.self.inside.rows.items in
    omega (arith, within g.W.Work.first_item g.W.Work.children_of g.W.Work.verdict_of g.met.W.Work.parents_apart _ _ rows _ _ _ c.self.invariant, c.self.inside.rows.ok.0, c.len.ensures, c.reserve.ensures.len)

pub file_row-requires-clause-place : goal.file_row-requires-clause-place
file_row-requires-clause-place g c =
    let first = g.W.Work.first_item in
    let children = g.W.Work.children_of in
    let cmp = g.W.Item.Ord.cmp in
    let same = g.met.W.Work.equal_is_same in
    let rows = c.self.inside.rows.items in
    let claim = c.args.back.claim in
    let keeps = ap (λ (p : Pages). keeps_claim cmp first children p.history claim) c.self.view_is ∙ c.requires.kept in
    let there = claim_there g.W.Work.first_item g.W.Work.children_of g.W.Work.verdict_of g.met.W.Work.parents_apart _ _ rows _ _ _ c.self.invariant cmp same claim keeps in
    omega (arith, slice_get_within rows claim.ticket there.0 there.1, c.self.inside.rows.ok.0, c.reserve.ensures.len)

pub overflow_add-self : goal.overflow_add-self
overflow_add-self g c =
    let first = g.W.Work.first_item in
    let children = g.W.Work.children_of in
    let cmp = g.W.Item.Ord.cmp in
    let same = g.met.W.Work.equal_is_same in
    let rows = c.self.inside.rows.items in
    let claim = c.args.back.claim in
    let keeps = ap (λ (p : Pages). keeps_claim cmp first children p.history claim) c.self.view_is ∙ c.requires.kept in
    let h = c.self.inside.history.items in
    let len = c.self.inside.history.ok.0 in
    let more = c.reserve-else-is_err.ensures.ok in
    let len' = c.reserve-else-is_err.ensures.len in
    let cap' = c.push_reserved.ensures.capacity in
    let said = ok_means c.reserve-else-is_err.result _ (sym c.is_err-else-is_err.ensures.value ∙ c.if-is_err-2.false) more in
    let room : length h + 2 ≤ vec_capacity c.push_reserved.new.self = omega (arith, len, said, len', cap') in
    let fits = subst (λ (p : Pages). issued_in p.history + length c.args.back.children ≤ p.limit) (sym c.self.view_is) c.requires.room in
    let history = c.push_reserved.ensures.items ∙ ap (λ l. l ++ FileOf claim.ticket (length c.items-count.result.now) ∷ []) c.reserve-else-is_err.ensures.items ∙ ap (λ l. h ++ FileOf claim.ticket (length l) ∷ []) c.items-count.ensures in
    let kept = filing_keeps g.W.Work.first_item g.W.Work.children_of g.W.Work.verdict_of g.met.W.Work.parents_apart _ _ rows _ _ _ c.self.invariant cmp same claim c.shared-verdict.result c.args.back.children c.reserve.new.self.items c.file_row.new.rows.items _ (vec_capacity c.push_reserved.new.self) keeps fits (c.shared-verdict.ensures ∙ c.requires.verdict) c.requires.children c.reserve.ensures.items c.file_row.ensures history room in
    let few = filed_few first children g.W.Work.verdict_of g.met.W.Work.parents_apart _ _ _ _ _ _ kept in
    let low = within first children g.W.Work.verdict_of g.met.W.Work.parents_apart _ _ _ _ _ _ kept in
    omega (arith, few, low)

pub invariant_of-self-2 : goal.invariant_of-self-2
invariant_of-self-2 g c =
    let first = g.W.Work.first_item in
    let children = g.W.Work.children_of in
    let cmp = g.W.Item.Ord.cmp in
    let same = g.met.W.Work.equal_is_same in
    let rows = c.self.inside.rows.items in
    let claim = c.args.back.claim in
    let keeps = ap (λ (p : Pages). keeps_claim cmp first children p.history claim) c.self.view_is ∙ c.requires.kept in
    let h = c.self.inside.history.items in
    let len = c.self.inside.history.ok.0 in
    let more = c.reserve-else-is_err.ensures.ok in
    let len' = c.reserve-else-is_err.ensures.len in
    let cap' = c.push_reserved.ensures.capacity in
    let said = ok_means c.reserve-else-is_err.result _ (sym c.is_err-else-is_err.ensures.value ∙ c.if-is_err-2.false) more in
    let room : length h + 2 ≤ vec_capacity c.push_reserved.new.self = omega (arith, len, said, len', cap') in
    let few = subst (λ (p : Pages). issued_in p.history + length c.args.back.children ≤ p.limit) (sym c.self.view_is) c.requires.room in
    let history = c.push_reserved.ensures.items ∙ ap (λ l. l ++ FileOf claim.ticket (length c.items-count.result.now) ∷ []) c.reserve-else-is_err.ensures.items ∙ ap (λ l. h ++ FileOf claim.ticket (length l) ∷ []) c.items-count.ensures in
    let kept = filing_keeps g.W.Work.first_item g.W.Work.children_of g.W.Work.verdict_of g.met.W.Work.parents_apart _ _ rows _ _ _ c.self.invariant cmp same claim c.shared-verdict.result c.args.back.children c.reserve.new.self.items c.file_row.new.rows.items _ (vec_capacity c.push_reserved.new.self) keeps few (c.shared-verdict.ensures ∙ c.requires.verdict) c.requires.children c.reserve.ensures.items c.file_row.ensures history room in
    kept

pub returns-clause-issued : goal.returns-clause-issued
returns-clause-issued g c =
    let rows = c.self.inside.rows.items in (
      c.len.ensures ∙ c.reserve.ensures.len ∙ c.self.inside.rows.ok.0 ∙ rows_are g.W.Work.first_item g.W.Work.children_of g.W.Work.verdict_of g.met.W.Work.parents_apart _ _ rows _ _ _ c.self.invariant ∙ ap (λ (p : Pages). issued_in p.history) c.self.view_is,
      ap length c.items-count.ensures,
    )
