use Rattle.std.proofs.Common.{◌≡◌, List, [], ◌∷◌, ◌++◌, append-nil, map, reverse, length, Some, sym, ◌∙◌, ap, subst, refl, arith, rules}
use Rattle.std.specs.Prelude.{All}
use Rattle.std.proofs.lemmas.List.{length-append}
use Rattle.std.proofs.lemmas.List.Elements.{All-nil, All-pop, All-push}
use Rattle.verdict_book.specs.Lists.{Judges, JudgesState, JudgesRow}
use Rattle.verdict_book.specs.declared.filed.Filed.{Filed}
use Rattle.verdict_book.specs.declared.row.Row.{Row}
use Rattle.verdict_book.proofs.Whole.{not_judged, gone_over}
use Rattle.verdict_book.proofs.filed.list_rows.Goals as goal

pub loop-row-init : goal.loop-row-init
loop-row-init g c =
    let verdicts = g.W.Work.verdict_of in
    record {
      items = ap (λ (l : List (Filed g.row.W.Denot g.row.W-Item.Denot g.row.W-Verdict.Denot)). map (λ f. f.item) l ++ reverse (map (λ (r : Row g.row.W-Item.Denot g.row.W-Verdict.Denot). r.item) c.args.rows.items)) c.in_ok-list.ensures.items;
      judged = c.requires.judged;
      verdicts = subst (All (Judges verdicts)) (sym c.in_ok-list.ensures.items) (All-nil (Judges verdicts));
      room = search rules;
    }

-- one of the places that the list was made with is left for the row
pub push_reserved-requires : goal.push_reserved-requires
push_reserved-requires g c =
    let rows = ap (λ (l : List (Row g.row.W-Item.Denot g.row.W-Verdict.Denot)). length l) c.in-Some.ensures.items in
    let one = length-append c.pop.new.self.items (c.in-Some.row ∷ []) in
    omega (arith, c.loop-row.invariant.room, rows, one)

pub loop-row-preserved-in-Filed : goal.loop-row-preserved-in-Filed
loop-row-preserved-in-Filed g c =
    let verdicts = g.W.Work.verdict_of in
    let row = c.in-Some.row in
    let left = c.pop.new.self.items in
    let list = c.loop-row.list.items in
    let so = c.loop-row.invariant in
    let item = λ (f : Filed g.row.W.Denot g.row.W-Item.Denot g.row.W-Verdict.Denot). f.item in
    let item' = λ (r : Row g.row.W-Item.Denot g.row.W-Verdict.Denot). r.item in
    let filed : Filed g.row.W.Denot g.row.W-Item.Denot g.row.W-Verdict.Denot = record { item = row.item; verdict = c.in-Filed.verdict } in
    let judged = All-pop (JudgesRow verdicts) c.loop-row.rows.items left (Some row) c.in-Some.ensures.items so.judged in
    let right = subst (JudgesState verdicts row.item) c.in-Filed.is judged.1 in
    let rows = ap (λ (l : List (Row g.row.W-Item.Denot g.row.W-Verdict.Denot)). length l) c.in-Some.ensures.items in
    let one = length-append left (row ∷ []) in
    let given : c.give_back.new.rows.items ≡ left = c.give_back.ensures in
    let kept = ap (λ (l : List (Row g.row.W-Item.Denot g.row.W-Verdict.Denot)). length l) given in
    record {
      items =
          ap (λ (l : List (Filed g.row.W.Denot g.row.W-Item.Denot g.row.W-Verdict.Denot)). map item l ++ reverse (map item' c.give_back.new.rows.items)) c.push_reserved.ensures.items
          ∙ ap (λ (l : List (Row g.row.W-Item.Denot g.row.W-Verdict.Denot)). map item (list ++ filed ∷ []) ++ reverse (map item' l)) given
          ∙ gone_over item item' list filed left row refl
          ∙ ap (λ (l : List (Row g.row.W-Item.Denot g.row.W-Verdict.Denot)). map item list ++ reverse (map item' l)) (sym c.in-Some.ensures.items)
          ∙ so.items;
      judged = subst (All (JudgesRow verdicts)) (sym given) judged.0;
      verdicts = subst (All (Judges verdicts)) (sym c.push_reserved.ensures.items) (All-push (Judges verdicts) list filed so.verdicts right);
      room = omega (arith, so.room, rows, one, kept, c.push_reserved.ensures.len, c.push_reserved.ensures.capacity);
    }

pub loop-row-preserved : goal.loop-row-preserved
loop-row-preserved g c =
    let verdicts = g.W.Work.verdict_of in
    let row = c.in-Some.row in
    let judged = All-pop (JudgesRow verdicts) c.loop-row.rows.items c.pop.new.self.items (Some row) c.in-Some.ensures.items c.loop-row.invariant.judged in
    absurd (not_judged verdicts row.item row.state judged.1 c.in_default-state.not-Filed)

pub returns-clause-items : goal.returns-clause-items
returns-clause-items g c =
    let item = λ (f : Filed g.row.W.Denot g.row.W-Item.Denot g.row.W-Verdict.Denot). f.item in
    let item' = λ (r : Row g.row.W-Item.Denot g.row.W-Verdict.Denot). r.item in
    let none : c.loop-row.rows.items ≡ [] = search rules in
    sym (append-nil (map item c.loop-row.list.items))
    ∙ ap (λ (l : List (Row g.row.W-Item.Denot g.row.W-Verdict.Denot)). map item c.loop-row.list.items ++ reverse (map item' l)) (sym none)
    ∙ c.loop-row.invariant.items

pub returns-clause-verdicts : goal.returns-clause-verdicts
returns-clause-verdicts g c = c.loop-row.invariant.verdicts
