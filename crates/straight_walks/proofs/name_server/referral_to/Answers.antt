use Rattle.std.proofs.Common.{◌≡◌, true, false, sym, ap, ◌∙◌, subst}
use Rattle.net_model.specs.declared.place.Cut.{Cut}
use Rattle.net_model.specs.Nearest.{is_configured}
use Rattle.net_model.specs.Step.{Setting, following}
use Rattle.zone_lookup.specs.Leads.{IsLead}
use Rattle.zone_lookup.specs.LentCut.{cut_of}
use Rattle.zone_lookup.specs.declared.leads.Lead.TheVariants as lead
use Rattle.straight_walks.specs.Faulty.{flags_by}
use Rattle.straight_walks.specs.Searching.{IsReferral}
use Rattle.straight_walks.specs.declared.faulty.ReferralFlags.{ReferralFlags}
use Rattle.straight_walks.specs.declared.name_server.Referral.TheVariants as referral
use Rattle.straight_walks.proofs.FlagsByTable.{are_flags, ends_lame, ends_unhosted, goes_on_to, is_independent, none_independent}
use Rattle.straight_walks.proofs.name_server.referral_to.Goals as goal

pub returns-in-Goes : goal.returns-in-Goes
returns-in-Goes c =
    let config = c.args.asked.hosts.now in
    let deps = c.args.asked.sets.now in
    let query = c.args.asked.name.now in
    let to : Cut = cut_of c.args.to in
    let leads : IsLead (following config 0 deps.least) to query (lead.Goes c.in-Goes.field-0) =
    subst (λ (setting : Setting). IsLead setting to query (lead.Goes c.in-Goes.field-0)) c.following_least.ensures
    (subst (IsLead c.following_least.result to query) c.in-Goes.is c.leads.ensures) in
    subst (λ (flags : ReferralFlags). IsReferral config deps query to (referral.GoesOn flags)) (sym c.of.ensures)
    (goes_on_to config deps query to 0 c.in-Goes.field-0 (flags_by c.args.flags false)
    (are_flags config deps to c.args.flags c.requires.flags (is_independent config deps query to 0 leads.0) false) leads)

pub returns-in-Unhosted : goal.returns-in-Unhosted
returns-in-Unhosted c =
    let config = c.args.asked.hosts.now in
    let deps = c.args.asked.sets.now in
    let query = c.args.asked.name.now in
    let to : Cut = cut_of c.args.to in
    let leads : is_configured config to.ns ≡ false =
    ap (λ (setting : Setting). is_configured setting.config to.ns) (sym c.following_least.ensures)
    ∙ subst (IsLead c.following_least.result to query) c.in-Unhosted.is c.leads.ensures in
    subst (λ (flags : ReferralFlags). IsReferral config deps query to (referral.Ends flags)) (sym c.of-in-Unhosted.ensures)
    (ends_unhosted config deps query to (flags_by c.args.flags false)
    (are_flags config deps to c.args.flags c.requires.flags (none_independent config deps query to leads) false) leads)

pub returns-in-Lame : goal.returns-in-Lame
returns-in-Lame c =
    let config = c.args.asked.hosts.now in
    let deps = c.args.asked.sets.now in
    let query = c.args.asked.name.now in
    let to : Cut = cut_of c.args.to in
    let leads : IsLead (following config 0 deps.least) to query lead.Lame =
    subst (λ (setting : Setting). IsLead setting to query lead.Lame) c.following_least.ensures
    (subst (IsLead c.following_least.result to query) c.in-Lame.is c.leads.ensures) in
    subst (λ (flags : ReferralFlags). IsReferral config deps query to (referral.Ends flags)) (sym c.of-in-Lame.ensures)
    (ends_lame config deps query to 0 c.args.flags
    (are_flags config deps to c.args.flags c.requires.flags (is_independent config deps query to 0 leads.0) true) leads)
