use Rattle.std.proofs.Common.{◌≡◌, ◌∙◌, List, [], ◌∷◌, ◌++◌, reverse, All, Some, sym, ap, subst, arith, true≢false}
use Rattle.std.proofs.lemmas.List.{length-append}
use Rattle.std.proofs.lemmas.List.Elements.{All-nil, All-pop, All-push, All-append}
use Rattle.dns_data.specs.Name.{Labels, IsName}
use Rattle.net_model.specs.Reading.{IsNamed}
use Rattle.label_graph.specs.LiveSet.{IsLiveSet}
use Rattle.query_classes.specs.declared.live_name.LiveName.{LiveName}
use Rattle.query_classes.proofs.ClassLaws.{live_named}
use Rattle.query_classes.proofs.TreeRows.{names_of, last_waits, pass_next, all_reversed}
use Rattle.query_classes.proofs.TreeWalk.{AreWalked, walk_begins, one_more}
use Rattle.query_classes.proofs.tree.count_names.Goals as goal

pub loop-next-init : goal.loop-next-init
loop-next-init c =
    let graph = c.args.graph.now in
    let first : LiveName = c.in_ok-first.first in
    let waits : c.push.new.self.items ≡ first ∷ [] =
    c.in_ok-push.ensures.items ∙ ap (λ (l : List LiveName). l ++ first ∷ []) c.new-waiting.ensures.items in
    let same : first.name ≡ c.args.from.now = c.in_ok-first.ensures.name in
    let named : IsNamed graph first.name =
    live_named graph first.name first.live c.in_ok-first.ensures.live (λ none. true≢false (sym (c.is_empty.ensures.1 none) ∙ c.if-is_empty.false)) in
    let P = λ (found : LiveName). IsLiveSet c.args.graph.now found.name found.live in
    record {
      walked = (
        [],
        omega arith,
        subst (λ (l : List LiveName). AreWalked graph c.args.from.now [] (names_of l)) (sym waits)
            (subst (λ (n : Labels). AreWalked graph c.args.from.now [] (n ∷ [])) (sym same)
            (walk_begins graph c.graph_is_closed.ensures c.args.from.now (subst (IsNamed graph) same named) (subst IsName same c.in_ok-first.ensures.is_name))),
      );
      live = subst (All P) (sym waits) (All-push P [] first (All-nil P) c.in_ok-first.ensures.live);
    }

pub returns-then-left-eq0 : goal.returns-then-left-eq0
returns-then-left-eq0 c said =
    let inv = c.loop-next.invariant in
    let passed = inv.walked.0 in
    one_more c.args.graph.now c.graph_is_closed.ensures c.args.from.now passed (names_of c.pop.new.self.items) c.in-Some.next.name
    (last_waits c.args.graph.now c.args.from.now passed c.loop-next.waiting.items c.pop.new.self.items c.in-Some.next c.in-Some.ensures.items inv.walked.2)
    c.args.most (omega (arith, inv.walked.1, c.if-left-eq0.true))

pub children-requires : goal.children-requires
children-requires c =
    (All-pop (λ (found : LiveName). IsLiveSet c.args.graph.now found.name found.live) c.loop-next.waiting.items c.pop.new.self.items (Some c.in-Some.next)
    c.in-Some.ensures.items c.loop-next.invariant.live).1

pub loop-next-preserved : goal.loop-next-preserved
loop-next-preserved c =
    let ground = c.args.graph.now in
    let from : Labels = c.args.from.now in
    let P = λ (found : LiveName). IsLiveSet c.args.graph.now found.name found.live in
    let below : List LiveName = c.in_ok-below.below in
    let next = c.in-Some.next in
    let inv = c.loop-next.invariant in
    let passed = inv.walked.0 in
    record {
      walked = (
        passed ++ next.name ∷ [],
        omega (arith, inv.walked.1, length-append passed (next.name ∷ [])),
        subst (λ (l : List LiveName). AreWalked ground from (passed ++ next.name ∷ []) (names_of l)) (sym c.in_ok-put_last_first.ensures)
            (pass_next ground c.graph_is_closed.ensures from passed c.pop.new.self.items below next.name
            (last_waits ground from passed c.loop-next.waiting.items c.pop.new.self.items next c.in-Some.ensures.items inv.walked.2) c.in_ok-below.ensures.names),
      );
      live =
          subst (All P) (sym c.in_ok-put_last_first.ensures)
          (All-append P c.pop.new.self.items (reverse below)
          (All-pop P c.loop-next.waiting.items c.pop.new.self.items (Some next) c.in-Some.ensures.items inv.live).0
          (all_reversed P below c.in_ok-below.ensures.live));
    }
