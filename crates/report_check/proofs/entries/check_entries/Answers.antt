use Rattle.std.proofs.Common.{◌≤◌, ◌+◌, Bool, Ok, Err, map, subst}
use Rattle.net_model.specs.Step.{Setting}
use Rattle.serde_json.specs.Data.{Data, depth}
use Rattle.serde_json.specs.Read.{max_depth}
use Rattle.serde_json.specs.View.{view}
use Rattle.report_check.specs.Checked.{IsWrong}
use Rattle.report_check.specs.Entries.{EntryComesTo}
use Rattle.report_check.proofs.InOrder.{at_item, fault_comes, handed_on, wrong_comes}
use Rattle.report_check.proofs.entries.check_entries.Goals as goal

pub is_confirmed-requires : goal.is_confirmed-requires
is_confirmed-requires c =
    at_item view (λ (value : Data). depth value ≤ max_depth) c.args.entries.now c.loop-i.i c.index-entries-i.result c.requires c.loop-i-test.true c.index-entries-i.is

pub returns-in_err-is_confirmed : goal.returns-in_err-is_confirmed
returns-in_err-is_confirmed c =
    let setting = c.args.checker.now in
    let entries = c.args.entries.now in
    let value = c.index-entries-i.result in
    let fault = c.in_err-is_confirmed.field-0.0 in
    handed_on setting.config setting.rewrites (map view entries) fault c.from_residual.result c.from_residual.ensures
    (fault_comes view setting.config setting.rewrites entries c.loop-i.i value c.loop-i-test.true c.index-entries-i.is c.loop-i.invariant.confirmed fault
    (subst (λ (s : Setting). EntryComesTo s.config s.rewrites (c.loop-i.i + 1) (view value) (Err fault)) c.loop-i.invariant.kept c.in_err-is_confirmed.ensures.looked))

pub returns-then-not-branch : goal.returns-then-not-branch
returns-then-not-branch c =
    let setting = c.args.checker.now in
    let entries = c.args.entries.now in
    let value = c.index-entries-i.result in
    wrong_comes view setting.config setting.rewrites entries c.loop-i.i value c.loop-i-test.true c.index-entries-i.is c.loop-i.invariant.confirmed
    (subst (λ (s : Setting). IsWrong s.config s.rewrites (view value)) c.loop-i.invariant.kept
    (subst (λ (b : Bool). EntryComesTo c.loop-i.checker.config c.loop-i.checker.rewrites (c.loop-i.i + 1) (view value) (Ok b)) c.if-not-branch.true
    c.in_ok-is_confirmed.ensures.looked))
