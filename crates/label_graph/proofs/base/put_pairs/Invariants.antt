use Rattle.std.proofs.Common.{◌≡◌, ◌++◌, map, take}
use Rattle.std.specs.List.{flat_map}
use Rattle.dns_data.specs.declared.rdata.Rr.{Rr}
use Rattle.net_model.specs.Reading.{redirection_of}
use Rattle.label_graph.specs.Pairs.{redirection}
use Rattle.label_graph.proofs.base.put_pairs.Given as goal

-- the records passed
abbrev pub invariant-loop-rr : goal.invariant-loop-rr
invariant-loop-rr l =
    map redirection l.dnames.items ≡ map redirection l.initial.dnames.items ++ flat_map (λ (rr : Rr). redirection_of rr.owner rr.rdata) (take l.rr-index l.rrs)
