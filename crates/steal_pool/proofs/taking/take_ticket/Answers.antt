use Rattle.std.proofs.Common.{◌≡◌, ℕ, List, ◌++◌, length, take, drop, ◌≤◌, arith, inr, sym, ap, ◌∙◌, subst}
use Rattle.std.proofs.Math.ListN.{drop_of_length-le}
use Rattle.std.proofs.Math.Seq.{take-length}
use Rattle.std.proofs.lemmas.List.{append-nil}
use Rattle.std.proofs.lemmas.Option.{IfSome_then}
use Rattle.std.specs.Option.{IfSome}
use Rattle.steal_pool.specs.Slots.{TookAtOne, TookNext}
use Rattle.steal_pool.specs.declared.row.OtherRow.{OtherRow}
use Rattle.steal_pool.proofs.taking.take_ticket.Goals as goal

-- a slice of all items, written back
whole : {A : Type 0} (n : ℕ) (left items : List A) → n ≡ length items → length left ≡ length items → take n (left ++ drop (length left) items) ≡ left
whole n left items len same =
    (λ j. take ((len ∙ sym same) j) (left ++ drop (same j) items))
    ∙ (ap (λ rest. take (length left) (left ++ rest)) (drop_of_length-le items none-more)
    ∙ (ap (take (length left)) (append-nil left) ∙ take-length left)) where
      none-more : length items ≤ length items
      none-more = omega arith

pub returns-in-None-clause-taken : goal.returns-in-None-clause-taken
returns-in-None-clause-taken c =
    let items : List OtherRow = c.args.others.now.items in
    let left : List OtherRow = c.steal_first.new.others in
    let value = c.as_mut_slice.ensures.value in
    let len : c.args.others.now.len ≡ length items = sym c.as_mut_slice.ensures.len ∙ ap length value in
    subst (λ others. IfSome c.steal_first.result (TookNext c.args.own.now c.pop.new.self items others))
    (sym (whole c.args.others.now.len left items len (c.steal_first.auto.others ∙ ap length value)))
    (IfSome_then c.steal_first.result c.steal_first.ensures.taken
    (λ ticket took. inr (subst (λ others. TookAtOne others left ticket) value took)))
