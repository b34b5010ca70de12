use Rattle.std.proofs.Common.{◌≡◌, ◌∙◌, Option, Some, true, false, sym, subst}
use Rattle.std.specs.Prelude.{MatchOption}
use Rattle.std.specs.Option.{option_map_or}
use Rattle.std.proofs.lemmas.Result.{IfOk-weaker}
use Rattle.same_answers.specs.Rows.{IsFoundBelow, IsSoughtAt, is_sought}
use Rattle.same_answers.specs.Verdict.{IsBelowEnd}
use Rattle.same_answers.specs.declared.verdict.PairEnd.{PairEnd}
use Rattle.same_answers.proofs.FirstSought.{below_found, found_exact, none_found}
use Rattle.same_answers.proofs.pairing.Pairing.sought_at.Goals as goal

pub returns-then-is_sought : goal.returns-then-is_sought
returns-then-is_sought g c =
    found_exact g.N.PairNaming.compared c.args.sought c.args.name.now.name c.requires.in_tree c.args.verdict.now.exact c.requires.verdict.exact
    (sym c.is_sought.ensures ∙ c.if-is_sought.true) c.in_ok-query.query c.in_ok-query.ensures

pub returns-in-Some : goal.returns-in-Some
returns-in-Some g c =
    let two = g.N.PairNaming.compared in
    let sought = c.args.sought in
    let name = c.args.name.now.name in
    let told =
    subst (λ (found : Option PairEnd). MatchOption found (option_map_or (is_sought sought) c.args.verdict.now.below false ≡ false)
    (λ end. (c.args.verdict.now.below ≡ Some end) × (is_sought sought end ≡ true))) c.in-Some.is c.sought_below.ensures in
    IfOk-weaker c.found_below.result (IsFoundBelow two name c.in-Some.end) (IsSoughtAt two sought name)
    (below_found two sought name c.requires.in_tree c.args.verdict.now.exact c.in-Some.end c.requires.verdict.exact
    (sym c.is_sought.ensures ∙ c.if-is_sought.false) (subst (IsBelowEnd two name) told.0 c.requires.verdict.below) told.1)
    c.found_below.ensures

pub returns-in-None : goal.returns-in-None
returns-in-None g c =
    let sought = c.args.sought in
    none_found g.N.PairNaming.compared sought c.args.name.now.name c.requires.in_tree c.args.verdict.now.exact c.args.verdict.now.below
    c.requires.verdict.exact c.requires.verdict.below (sym c.is_sought.ensures ∙ c.if-is_sought.false)
    (subst (λ (found : Option PairEnd). MatchOption found (option_map_or (is_sought sought) c.args.verdict.now.below false ≡ false)
    (λ end. (c.args.verdict.now.below ≡ Some end) × (is_sought sought end ≡ true))) c.in-None.is c.sought_below.ensures)
