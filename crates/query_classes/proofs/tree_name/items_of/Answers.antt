use Rattle.std.proofs.Common.{rules, ◌∙◌, [], ◌∷◌, ◌++◌, List, All, map, arith, ap, sym, subst}
use Rattle.std.proofs.lemmas.List.{append_assoc}
use Rattle.std.proofs.lemmas.List.Elements.{All-tail}
use Rattle.dns_data.specs.Name.{Labels}
use Rattle.query_classes.specs.TreeNames.{IsTreeName}
use Rattle.query_classes.specs.declared.live_name.LiveName.{LiveName}
use Rattle.query_classes.proofs.tree_name.items_of.Goals as goal

abbrev name_of : LiveName → Labels
name_of one = one.name

pub loop-one-init : goal.loop-one-init
loop-one-init g c = rw c.into_iter-one-iterator.ensures.into_iter_gives.0 record { items = search rules; are = c.requires }

pub of-requires : goal.of-requires
of-requires g c =
    subst (All (IsTreeName g.G.OnGround.ground g.G.OnGround.holds c.args.all_hold)) c.in-Some.ensures.steps c.loop-one.invariant.are 0 c.in-Some.one (omega arith)

pub loop-one-preserved : goal.loop-one-preserved
loop-one-preserved g c =
    let P = IsTreeName g.G.OnGround.ground g.G.OnGround.holds c.args.all_hold in
    let before = c.loop-one.items.items in
    let left = c.next.new.self in
    let put = c.in_ok-push.ensures.items ∙ ap (λ (name : Labels). before ++ name ∷ []) c.of.ensures in
    let passed = ap (λ (some : List LiveName). before ++ map name_of some) (sym c.in-Some.ensures.steps) in
    record {
      items = ap (λ (names : List Labels). names ++ map name_of left) put ∙ append_assoc before (c.in-Some.one.name ∷ []) (map name_of left) ∙ passed ∙ c.loop-one.invariant.items;
      are = All-tail P c.in-Some.one left (subst (All P) c.in-Some.ensures.steps c.loop-one.invariant.are);
    }
