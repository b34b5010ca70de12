use Rattle.std.proofs.Common.{◌≡◌, ℕ, Bool, take, sym, ap, subst, ◌∙◌}
use Rattle.std.specs.Prelude.{◌||◌}
use Rattle.std.specs.List.{AllByRecursion}
use Rattle.std.proofs.lemmas.List.{take_all, take_more}
use Rattle.dns_data.specs.RrType.{types}
use Rattle.dns_data.specs.TypeSet.{has_bit}
use Rattle.dns_data.specs.declared.rr_type.RrType.{RrType}
use Rattle.dns_data.proofs.Membership.{each_along}
use Rattle.dns_data.proofs.Names.{all_push}
use Rattle.graph_form.proofs.Reached.{every_type}
use Rattle.net_model.specs.Zone.{owns}
use Rattle.straight_walks.specs.Answers.{sorted_data}
use Rattle.zone_tree.specs.Tree.{ZoneTree, name_of}
use Rattle.straight_walks.proofs.answers.same_data.Goals as goal

-- both nodes' names own the same data of the type
abbrev AreSame : ZoneTree → ℕ → ZoneTree → ℕ → RrType → Type 0
AreSame one owner other others rtype = sorted_data one.zone (name_of one owner) rtype ≡ sorted_data other.zone (name_of other others) rtype

pub same_of_type-requires-clause-types : goal.same_of_type-requires-clause-types
same_of_type-requires-clause-types c = λ rtype.
    c.union-types.ensures rtype
    ∙ ap (λ (b : Bool). b || has_bit c.types-2.result rtype) (c.types.ensures rtype)
    ∙ ap (λ (b : Bool). owns c.args.one.now.zone (name_of c.args.one.now c.args.owner) rtype || b) (c.types-2.ensures rtype)

pub loop-rtype-preserved : goal.loop-rtype-preserved
loop-rtype-preserved c =
    let i = c.loop-rtype.rtype-index in
    subst (AllByRecursion (AreSame c.args.one.now c.args.owner c.args.other.now c.args.others)) (sym (take_more types i _ c.loop-rtype-test.true))
    (all_push (AreSame c.args.one.now c.args.owner c.args.other.now c.args.others) (take i types) _ c.loop-rtype.invariant
    (c.same_of_type.ensures c.if-not-same_of_type.false))

pub returns : goal.returns
returns c = λ yes rtype.
    each_along (AreSame c.args.one.now c.args.owner c.args.other.now c.args.others) types
    (subst (AllByRecursion (AreSame c.args.one.now c.args.owner c.args.other.now c.args.others)) (take_all c.loop-rtype.rtype-index types c.loop-rtype-test.false)
    c.loop-rtype.invariant)
    rtype (every_type rtype)
