use Rattle.std.proofs.Common.{sym, ◌∙◌}
use Rattle.zone_tree.specs.Tree.{name_of}
use Rattle.straight_walks.proofs.OwnedTypes.{found_equal, neither_owns}
use Rattle.straight_walks.proofs.answers.same_of_type.Goals as goal

pub returns-then-not-has : goal.returns-then-not-has
returns-then-not-has c = λ yes.
    let one = c.args.one.now in
    let other = c.args.other.now in
    neither_owns one.zone other.zone (name_of one c.args.owner) (name_of other c.args.others) c.args.rtype (sym (c.requires.types c.args.rtype) ∙ sym c.has.ensures ∙ c.if-not-has.true)

pub returns : goal.returns
returns c = λ yes. sym c.set.ensures ∙ found_equal c.set.result.now c.set-2.result.now (sym c.eq.ensures ∙ yes) ∙ c.set-2.ensures
