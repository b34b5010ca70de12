use Rattle.std.proofs.Common.{◌≡◌, ◌∙◌, ◌++◌, ◌∷◌, [], sym, ap, subst}
use Rattle.std.proofs.lemmas.Result.{on_ok_weaker}
use Rattle.query_verdicts.specs.Rows.{KeepsFirsts, class_fault}
use Rattle.query_verdicts.proofs.KeptFirsts.{kept_itself, kept_without}
use Rattle.query_verdicts.proofs.first_classes.FirstClasses.put.Goals as goal

pub returns-then-has : goal.returns-then-has
returns-then-has c =
    let one = class_fault c.args.class.now c.args.seen.now in
    subst (KeepsFirsts (c.args.self.now ++ one ∷ [])) (sym c.has.ensures.same) (kept_without c.args.self.now one (c.has.ensures.shown c.if-has.true))

pub returns : goal.returns
returns c =
    let one = class_fault c.args.class.now c.args.seen.now in
    let was = c.self.view_is ∙ c.has.ensures.same in
    on_ok_weaker c.push.result (λ pushed.
    let now : c.push.new.self ≡ c.args.self.now ++ one ∷ [] =
    pushed ∙ ap (λ x. c.self.inside.found ++ x ∷ []) c.in_ok-one.ensures ∙ ap (λ l. l ++ one ∷ []) was in
    subst (KeepsFirsts (c.args.self.now ++ one ∷ [])) (sym now) (kept_itself (c.args.self.now ++ one ∷ []))) c.push.ensures.ok
