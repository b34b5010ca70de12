use Rattle.std.proofs.Common.{◌≡◌, ◌≤◌, ℕ, true, List, Option, sym, subst}
use Rattle.std.specs.Prelude.{IfSome}
use Rattle.std.specs.List.{list_all}
use Rattle.graph_form.specs.declared.report.Seen.{Seen}
use Rattle.walk_laws.specs.OfWalks.{is_of_walks}
use Rattle.query_verdicts.specs.AlikeBelow.{IsOpenGraph}
use Rattle.query_verdicts.proofs.AlikeVerdicts.{alike_copy}
use Rattle.query_verdicts.proofs.alike_rows.row_of.Goals as goal

pub returns : goal.returns
returns c =
    let queries = c.args.queries.now in
    let label = c.args.label.now in
    alike_copy queries.trees queries.rewrites queries.states c.args.above.now label c.args.query.now c.args.graph c.in-Some.most c.requires.query c.requires.built
    (subst (λ (found : Option ℕ). IfSome found (IsOpenGraph queries.trees label c.args.graph)) c.in-Some.is c.in_ok-most.ensures.open_graph) c.labels.ensures.name c.requires.few c.in_ok-shown.shown c.in_ok-shown.ensures
    (subst (λ (told : List Seen). list_all (λ (seen : Seen). is_of_walks seen.fault) told ≡ true) c.items.ensures (sym c.if-not-are_of_walks.ensures))
    (subst (λ (found : Option ℕ). IfSome found (λ most. most ≤ 255)) c.in-Some.is c.in_ok-most.ensures.within) c.in_ok-copy.field-0 c.in_ok-copy-2.field-0 c.octets.result c.in_ok-copy.ensures c.in_ok-copy-2.ensures c.octets.ensures.value
