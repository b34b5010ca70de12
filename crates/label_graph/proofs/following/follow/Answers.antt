use Rattle.std.proofs.Common.{◌∙◌, ℕ, List, ◌<◌, sym, subst}
use Rattle.std.proofs.lemmas.Result.{IfOk-weaker}
use Rattle.label_graph.specs.Rows.{IsPut}
use Rattle.label_graph.proofs.following.follow.Goals as goal

pub put-requires : goal.put-requires
put-requires c = subst (λ (n : ℕ). c.in-Some.owner < n) (sym c.requires.len) c.in-Some.ensures.some.0

pub returns : goal.returns
returns c =
    IfOk-weaker c.put.result _ _ (λ any put. record {
      owner = c.in-Some.owner;
      within = c.in-Some.ensures.some.0;
      is = c.in-Some.ensures.some.1 ∙ c.labels.ensures.same;
      found = c.in_ok-found.found;
      are_found = c.in_ok-found.ensures;
      put = subst (λ (more : List ℕ). IsPut c.args.reads.now c.in-Some.owner more c.put.new.self any) c.places.ensures put;
    }) c.put.ensures
