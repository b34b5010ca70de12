use Rattle.std.proofs.Common.{rules}
use Rattle.groot_run.proofs.Places.{none_done, one_item_more, all_done}
use Rattle.groot_run.proofs.shown.show_brought.Goals as goal

pub loop-i-init : goal.loop-i-init
loop-i-init g c = none_done _ _

pub loop-i-preserved : goal.loop-i-preserved
loop-i-preserved g c =
    let told = c.in_ok-show_one.ensures in
    one_item_more _ c.loop-i.i _ c.loop-i.sites.items c.index_mut.result.now c.show_one.new.site (search rules) c.index_mut.ensures.value
    (record { name_is = told.name; step_is = told.step; held_is = told.held }) c.loop-i.invariant

pub returns : goal.returns
returns g c = all_done _ _ _ _ (search rules) c.loop-i.invariant
