use Rattle.std.proofs.Common.{◌≡◌, ◌++◌, ◌∷◌, [], All, subst}
use Rattle.std.proofs.lemmas.List.Elements.{All-weaker}
use Rattle.std.proofs.lemmas.Result.{on_ok_weaker, IfErr-weaker}
use Rattle.net_model.specs.Reading.{ground_of}
use Rattle.net_model.specs.declared.class.Class.TheVariants.{Below}
use Rattle.net_model.specs.declared.config.Config.{Config}
use Rattle.net_model.proofs.Naming.{among_named}
use Rattle.label_graph.specs.Pairs.{AreSame}
use Rattle.query_classes.proofs.SameGrounds.{named_same, represents_same, same_back, unnamed_same}
use Rattle.dns_data.specs.Name.{Labels}
use Rattle.part_laws.specs.Part.{HasShorterUnnamed}
use Rattle.part_checks.specs.Claims.{last_octets}
use Rattle.part_checks.specs.declared.fault.PartRule.TheVariants.{Short}
use Rattle.part_checks.proofs.Refusals.{refuted_by}
use Rattle.part_checks.specs.Outside.{parent}
use Rattle.part_checks.specs.Short.{HasShorter}
use Rattle.part_checks.proofs.limits.check_short.Goals as goal

pub check_longer_all-requires : goal.check_longer_all-requires
check_longer_all-requires c = λ name has.
    let graph = c.in_ok-graph.graph in
    let ground = ground_of c.args.config.now in
    let same : AreSame graph ground = subst (λ (config : Config). AreSame graph (ground_of config)) c.in_ok-hosts.ensures c.in_ok-graph.ensures.same in
    named_same ground graph (same_back graph ground same) (parent name) (among_named ground (parent name) (c.requires name has))

pub returns-clause-refused : goal.returns-clause-refused
returns-clause-refused c =
    let graph = c.in_ok-graph.graph in
    let ground = ground_of c.args.config.now in
    let outside = c.args.outside.now in
    let same : AreSame graph ground = subst (λ (config : Config). AreSame graph (ground_of config)) c.in_ok-hosts.ensures c.in_ok-graph.ensures.same in
    IfErr-weaker c.check_longer_all.result _ _
    (λ fault refuted. refuted_by (λ rule. All (λ (name : Labels). Short ≡ rule → HasShorterUnnamed graph (parent name) (last_octets name)) outside)
    (λ rule. All (λ (name : Labels). Short ≡ rule → HasShorterUnnamed ground (parent name) (last_octets name)) outside) fault
    (λ rule all. All-weaker (λ (name : Labels). Short ≡ rule → HasShorterUnnamed ground (parent name) (last_octets name))
    (λ (name : Labels). Short ≡ rule → HasShorterUnnamed graph (parent name) (last_octets name))
    (λ name is same_rule. (let one = is same_rule in record {
      label = one.label;
      is_label = one.is_label;
      shorter = one.shorter;
      unnamed = unnamed_same ground graph (same_back graph ground same) (parent name ++ one.label ∷ []) one.unnamed;
    })) outside all) refuted) c.check_longer_all.ensures.refused

pub returns-clause-longer : goal.returns-clause-longer
returns-clause-longer c =
    let graph = c.in_ok-graph.graph in
    let ground = ground_of c.args.config.now in
    let same : AreSame graph ground = subst (λ (config : Config). AreSame graph (ground_of config)) c.in_ok-hosts.ensures c.in_ok-graph.ensures.same in
    on_ok_weaker c.check_longer_all.result
    (All-weaker (HasShorter graph) (HasShorter ground)
    (λ name is. record {
      representative = is.representative;
      represents = represents_same graph ground same (Below (parent name)) is.representative is.represents;
      shorter = is.shorter;
    }) c.args.outside.now) c.check_longer_all.ensures.longer
