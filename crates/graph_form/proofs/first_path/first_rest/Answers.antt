use Rattle.std.proofs.Common.{◌≡◌, ◌+◌, ◌<◌, false, true, List, [], ◌∷◌, length, map, reverse, set, sym, ap, ◌∙◌, subst, arith, length-append}
use Rattle.std.proofs.lemmas.Option.{slice_get_within}
use Rattle.graph_form.specs.FirstPath.{IsFirstFrom, branch_shows, met_mark}
use Rattle.graph_form.specs.declared.first_path.Turn.{Turn}
use Rattle.graph_form.proofs.SearchStates.{IsSearch, ends_there, goes_back, goes_on, last_first, numbers_more, one_less, wasnt_met, unmet}
use Rattle.graph_form.proofs.first_path.first_rest.Goals as goal

pub returns-in-None-clause-found : goal.returns-in-None-clause-found
returns-in-None-clause-found c =
    let shows = branch_shows c.args.fault.now c.args.walks.now in
    let graph = c.args.graph.now in
    let turn : Turn = c.in-Some.turn in
    let left : List Turn = c.pop.new.self.items in
    let turns : reverse c.loop-turn.path.items ≡ turn ∷ reverse left = ap reverse c.in-Some.ensures.items ∙ last_first left turn in
    let search : IsSearch shows graph c.args.rtype c.args.at (turn ∷ reverse left) c.loop-turn.met =
    subst (λ (ts : List Turn). IsSearch shows graph c.args.rtype c.args.at ts c.loop-turn.met) turns c.loop-turn.invariant in
    let first = ends_there shows graph c.args.rtype c.requires.of_query.0 c.requires.of_query.1 c.requires.of_query.2 c.args.at c.requires.starts turn (reverse left) c.loop-turn.met
    c.in-Some-next_branch.onward search c.in-Some-next_branch.ensures.passed c.in-Some-next_branch.ensures.found c.in-None.is in
    let followed : Turn = record turn { number = c.in-Some-next_branch.onward.number } in
    subst (IsFirstFrom shows graph c.args.rtype false c.args.at)
    (numbers_more left followed
    ∙ (ap (map (λ (t : Turn). t.number)) (sym (c.as_slice.ensures.value ∙ c.in_ok-push-2.ensures.items)) ∙ sym c.in_ok-numbers_of-in-None.ensures)) first

pub bounds-met-met_mark : goal.bounds-met-met_mark
bounds-met-met_mark c =
    let onward = c.in-Some-next_branch.onward in
    let is_false = wasnt_met (branch_shows c.args.fault.now c.args.walks.now) c.args.graph.now c.args.rtype c.requires.of_query.0 c.requires.of_query.1 c.requires.of_query.2 c.args.at c.requires.starts
    c.in-Some.turn c.loop-turn.met onward c.in-Some-to.to c.in-Some-next_branch.ensures.found c.in-Some-to.is in
    let within = slice_get_within c.loop-turn.met (met_mark c.in-Some-to.to onward.taken) false is_false in
    subst (λ n. n < length c.loop-turn.met) (sym c.met_mark.ensures) within

pub loop-turn-smaller-in_ok-push-in-Some-to : goal.loop-turn-smaller-in_ok-push-in-Some-to
loop-turn-smaller-in_ok-push-in-Some-to c =
    let onward = c.in-Some-next_branch.onward in
    let is_false = wasnt_met (branch_shows c.args.fault.now c.args.walks.now) c.args.graph.now c.args.rtype c.requires.of_query.0 c.requires.of_query.1 c.requires.of_query.2 c.args.at c.requires.starts
    c.in-Some.turn c.loop-turn.met onward c.in-Some-to.to c.in-Some-next_branch.ensures.found c.in-Some-to.is in
    let less : unmet (set c.loop-turn.met c.met_mark.result true) + 1 ≡ unmet c.loop-turn.met =
    ap (λ n. unmet (set c.loop-turn.met n true) + 1) c.met_mark.ensures ∙ one_less c.loop-turn.met (met_mark c.in-Some-to.to onward.taken) is_false in
    let turn : Turn = c.in-Some.turn in
    let followed : Turn = record turn { number = onward.number } in
    let behind : Turn = record { node = c.in-Some-to.to; taken = onward.taken; number = 0 } in
    let old = ap length c.in-Some.ensures.items ∙ length-append c.pop.new.self.items (turn ∷ []) in
    let one = ap length c.in_ok-push-2.ensures.items ∙ length-append c.pop.new.self.items (followed ∷ []) in
    let two = ap length c.in_ok-push-in-Some-to.ensures.items ∙ length-append c.push-in-Some-next_branch.new.self.items (behind ∷ []) in
    omega (arith, less, old, one, two)

pub loop-turn-preserved-in_ok-push-in-Some-to : goal.loop-turn-preserved-in_ok-push-in-Some-to
loop-turn-preserved-in_ok-push-in-Some-to c =
    let shows = branch_shows c.args.fault.now c.args.walks.now in
    let graph = c.args.graph.now in
    let turn : Turn = c.in-Some.turn in
    let onward = c.in-Some-next_branch.onward in
    let left : List Turn = c.pop.new.self.items in
    let followed : Turn = record turn { number = onward.number } in
    let behind : Turn = record { node = c.in-Some-to.to; taken = onward.taken; number = 0 } in
    let turns : reverse c.loop-turn.path.items ≡ turn ∷ reverse left = ap reverse c.in-Some.ensures.items ∙ last_first left turn in
    let one : reverse c.push-in-Some-next_branch.new.self.items ≡ followed ∷ reverse left = ap reverse c.in_ok-push-2.ensures.items ∙ last_first left followed in
    let two : reverse c.push-in-Some-to.new.self.items ≡ behind ∷ followed ∷ reverse left =
    ap reverse c.in_ok-push-in-Some-to.ensures.items ∙ (last_first c.push-in-Some-next_branch.new.self.items behind ∙ ap (λ (ts : List Turn). behind ∷ ts) one) in
    let search : IsSearch shows graph c.args.rtype c.args.at (turn ∷ reverse left) c.loop-turn.met =
    subst (λ (ts : List Turn). IsSearch shows graph c.args.rtype c.args.at ts c.loop-turn.met) turns c.loop-turn.invariant in
    let on = goes_on shows graph c.args.rtype c.requires.of_query.0 c.requires.of_query.1 c.requires.of_query.2 c.args.at c.requires.starts turn (reverse left) c.loop-turn.met
    onward c.in-Some-to.to search c.in-Some-next_branch.ensures.passed c.in-Some-next_branch.ensures.found c.in-Some-to.is in
    subst (λ (ts : List Turn). IsSearch shows graph c.args.rtype c.args.at ts (set c.loop-turn.met c.met_mark.result true)) (sym two)
    (subst (λ n. IsSearch shows graph c.args.rtype c.args.at (behind ∷ followed ∷ reverse left) (set c.loop-turn.met n true)) (sym c.met_mark.ensures) on)

pub loop-turn-preserved : goal.loop-turn-preserved
loop-turn-preserved c =
    let shows = branch_shows c.args.fault.now c.args.walks.now in
    let graph = c.args.graph.now in
    let turn : Turn = c.in-Some.turn in
    let left : List Turn = c.pop.new.self.items in
    let turns : reverse c.loop-turn.path.items ≡ turn ∷ reverse left = ap reverse c.in-Some.ensures.items ∙ last_first left turn in
    goes_back shows graph c.args.rtype c.requires.of_query.0 c.requires.of_query.1 c.requires.of_query.2 c.args.at c.requires.starts turn (reverse left) c.loop-turn.met
    (subst (λ (ts : List Turn). IsSearch shows graph c.args.rtype c.args.at ts c.loop-turn.met) turns c.loop-turn.invariant)
    c.in_default-next_branch.ensures.passed
