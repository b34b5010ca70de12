use Rattle.std.proofs.Common.{List, [], ◌∷◌, Contains, true≢false, refl, sym, ap, ◌∙◌, subst, inl, inr}
use Rattle.dns_data.proofs.Membership.{none_in_nil, has_first, has_later, first_or_later}
use Rattle.net_model.specs.Shown.{MayShow, WalksShow, with_sets}
use Rattle.net_model.specs.Step.{Setting}
use Rattle.net_model.specs.declared.fault.Fault.{Fault}
use Rattle.report_json.specs.Report.{entry_value}
use Rattle.report_check.specs.Entries.{entry_with, first_repeats}
use Rattle.report_check.proofs.right_entry.is_one_of.Goals as goal

pub shows_fault-requires : goal.shows_fault-requires
shows_fault-requires c =
    let fault = c.in-Some.fault in
    subst (λ (s : Setting). WalksShow (with_sets s) (c.args.walk.now ∷ []) fault) (sym c.loop-fault.invariant.kept)
    (c.loop-fault.invariant.shown fault
    (subst (λ (all : List Fault). Contains all fault) (sym c.in-Some.ensures.steps) (has_first fault c.next.new.self)))

pub returns-then-branch-clause-shown : goal.returns-then-branch-clause-shown
returns-then-branch-clause-shown c = λ value written.
    let fault = c.in-Some.fault in
    let both = (c.in_ok-shows_fault.ensures.shown value written).0 c.if-branch.true in (
      (λ e. record {
        fault = fault;
        may = subst (λ (s : Setting). MayShow s.config c.args.asked.now.query c.args.asked.now.rtype fault) c.loop-fault.invariant.kept both.0;
        show = c.loop-fault.invariant.shown fault
            (subst (λ (all : List Fault). Contains all fault) (sym c.in-Some.ensures.steps) (has_first fault c.next.new.self));
        is = both.1;
      }),
      (λ shown. refl),
    )

pub loop-fault-preserved : goal.loop-fault-preserved
loop-fault-preserved c =
    let fault = c.in-Some.fault in
    let rest = c.next.new.self in
    let walk = c.args.walk.now in
    let query = c.args.asked.now.query in
    let rtype = c.args.asked.now.rtype in
    let inv = c.loop-fault.invariant in
    record {
      kept = c.in_ok-shows_fault.ensures.kept ∙ inv.kept;
      shown = λ other has.
          inv.shown other (subst (λ (all : List Fault). Contains all other) (sym c.in-Some.ensures.steps) (has_later fault rest other has));
      left = λ value written by.
          elim (first_or_later fault rest by.fault (subst (λ (all : List Fault). Contains all by.fault) c.in-Some.ensures.steps (inv.left value written by))) [
            | inl same ↦ absurd (true≢false (sym ((c.in_ok-shows_fault.ensures.shown value written).1 (
              subst (λ (f : Fault). MayShow c.loop-fault.checker.config query rtype f) (sym same)
                  (subst (λ (s : Setting). MayShow s.config query rtype by.fault) (sym inv.kept) by.may),
              by.is ∙ ap (λ (f : Fault). entry_value (entry_with query rtype (first_repeats (walk ∷ [])) (walk ∷ []) f)) (sym same),
            )) ∙ c.if-branch.false))
            | inr later ↦ later
          ];
    }

pub returns-clause-shown : goal.returns-clause-shown
returns-clause-shown c = λ value written. (
  (λ e. absurd (true≢false (sym e))),
  (λ by. absurd (none_in_nil by.fault
      (subst (λ (all : List Fault). Contains all by.fault) c.in-None.ensures.steps.0 (c.loop-fault.invariant.left value written by)))),
)
