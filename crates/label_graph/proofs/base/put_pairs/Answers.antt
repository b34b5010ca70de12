use Rattle.std.proofs.Common.{◌∙◌, List, ◌++◌, map, take, append_assoc, sym, ap}
use Rattle.std.specs.List.{flat_map}
use Rattle.dns_data.specs.declared.rdata.Rr.{Rr}
use Rattle.net_model.specs.Reading.{Redirection, redirection_of}
use Rattle.label_graph.specs.Pairs.{redirection}
use Rattle.label_graph.proofs.Passing.{flat_more}
use Rattle.label_graph.proofs.base.put_pairs.Goals as goal

pub loop-rr-preserved : goal.loop-rr-preserved
loop-rr-preserved c =
    c.in_ok-put_pair.ensures
    ∙ ap (λ (l : List Redirection). l ++ redirection_of c.rr-item.result.owner c.rr-item.result.rdata) c.loop-rr.invariant
    ∙ append_assoc (map redirection c.args.dnames.now.items) (flat_map (λ (rr : Rr). redirection_of rr.owner rr.rdata) (take c.loop-rr.rr-index c.args.rrs.now)) _
    ∙ ap (λ (l : List Redirection). map redirection c.args.dnames.now.items ++ l)
    (sym (flat_more (λ (rr : Rr). redirection_of rr.owner rr.rdata) c.args.rrs.now c.loop-rr.rr-index c.rr-item.result c.loop-rr-test.true c.rr-item.is))
