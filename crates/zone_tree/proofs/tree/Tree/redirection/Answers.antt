use Rattle.std.proofs.Common.{Option, Bor, sym, ap, ◌∙◌}
use Rattle.std.specs.Option.{option_map, option_and_then}
use Rattle.dns_data.specs.Name.{Labels}
use Rattle.dns_data.specs.declared.rdata.Rdata.{Rdata}
use Rattle.net_model.specs.Zone.{target_of}
use Rattle.zone_tree.specs.Tree.{name_of}
use Rattle.zone_tree.proofs.Types.{redirection_told}
use Rattle.zone_tree.proofs.tree.Tree.redirection.Goals as goal

pub returns-in_err-first : goal.returns-in_err-first
returns-in_err-first c =
    ap (option_map (λ (target : Bor Labels). target.now)) c.from_residual.ensures
    ∙ sym (ap (λ (found : Option (Bor Rdata)). option_and_then target_of (option_map (λ (rdata : Bor Rdata). rdata.now) found)) c.in_err-first.was)
    ∙ redirection_told c.args.self.now.zone (name_of c.args.self.now c.args.node) c.records.result.sets c.first.result c.records.ensures.sets c.first.ensures

pub returns : goal.returns
returns c =
    c.target_of.ensures
    ∙ sym (ap (λ (found : Option (Bor Rdata)). option_and_then target_of (option_map (λ (rdata : Bor Rdata). rdata.now) found)) c.in_ok-first.was)
    ∙ redirection_told c.args.self.now.zone (name_of c.args.self.now c.args.node) c.records.result.sets c.first.result c.records.ensures.sets c.first.ensures
