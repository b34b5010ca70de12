use Rattle.std.proofs.Common.{map, ap, ◌∙◌}
use Rattle.graph_form.specs.Branches.{plain_branch}
use Rattle.rewrite_checks.proofs.Laws.{members_meet, told_back}
use Rattle.rewrite_checks.proofs.Wholly.{wholly}
use Rattle.rewrite_checks.proofs.rewrites.rewrite_faults.Goals as goal

pub returns-clause-shown : goal.returns-clause-shown
returns-clause-shown c =
    wholly c.args.class.now c.args.represents c.args.graph.now c.new-seen.result c.put_end_faults.new.seen c.put_answers.new.seen c.in_ok-shown.shown _ c.new-seen.ensures
    (ap (map plain_branch) c.as_slice.ensures.value ∙ c.in_ok-branches.ensures) c.in_ok-put_end_faults.ensures c.in_ok-put_answers.ensures c.in_ok-shown.ensures

pub returns-clause-overlong : goal.returns-clause-overlong
returns-clause-overlong c setting query for seen place has is member is_name of_class =
    members_meet setting query c.args.class.now c.args.represents c.args.graph.now for c.in_ok-shown.shown (returns-clause-shown c setting query for)
    seen has place is member is_name of_class

pub returns-clause-returns : goal.returns-clause-returns
returns-clause-returns c setting query for rtype walk is_walk back =
    told_back setting query c.args.class.now c.args.represents c.args.graph.now for c.in_ok-shown.shown (returns-clause-shown c setting query for)
    rtype walk is_walk back
