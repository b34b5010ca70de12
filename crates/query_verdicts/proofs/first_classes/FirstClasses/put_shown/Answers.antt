use Rattle.std.proofs.Common.{◌++◌, ◌∷◌, [], List, take, sym, refl, ap, subst}
use Rattle.std.proofs.lemmas.List.{take_all}
use Rattle.query_verdicts.specs.Rows.{KeepsFirsts, class_fault, with_class}
use Rattle.query_verdicts.specs.declared.first_classes.ClassFault.{ClassFault}
use Rattle.query_verdicts.proofs.KeptFirsts.{kept_alone, kept_on, one_more}
use Rattle.query_verdicts.proofs.first_classes.FirstClasses.put_shown.Goals as goal

pub loop-seen-init : goal.loop-seen-init
loop-seen-init c = kept_alone c.args.self.now [] refl

pub loop-seen-preserved : goal.loop-seen-preserved
loop-seen-preserved c =
    let self = c.args.self.now in
    let class = c.args.class.now in
    let shown = c.args.shown.now in
    let i = c.loop-seen.seen-index in
    let seen = c.seen-item.result in
    subst (λ (all : List ClassFault). KeepsFirsts all c.put.new.self) (one_more self class shown i seen c.loop-seen-test.true (sym c.seen-item.is))
    (kept_on (self ++ with_class class (take i shown)) (class_fault class seen ∷ []) c.loop-seen.self c.put.new.self c.loop-seen.invariant c.in_ok-put.ensures)

pub returns : goal.returns
returns c =
    let class = c.args.class.now in
    let shown = c.args.shown.now in
    subst (KeepsFirsts (c.args.self.now ++ with_class class shown)) (sym c.self.view_is)
    (subst (λ (all : List ClassFault). KeepsFirsts all c.loop-seen.self)
    (ap (λ l. c.args.self.now ++ with_class class l) (take_all c.loop-seen.seen-index shown c.loop-seen-test.false)) c.loop-seen.invariant)
