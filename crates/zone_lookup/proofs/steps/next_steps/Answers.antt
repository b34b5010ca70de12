use Rattle.std.proofs.Common.{◌∙◌, sym, subst}
use Rattle.std.proofs.lemmas.Result.{IfOk-weaker}
use Rattle.zone_lookup.specs.Reply.{IsReply}
use Rattle.zone_lookup.proofs.Replying.{refers_on}
use Rattle.zone_lookup.proofs.steps.next_steps.Goals as goal

pub returns-in-Refers : goal.returns-in-Refers
returns-in-Refers c =
    let state = c.args.state.now in
    let so = subst (IsReply c.args.walker.now.config state.server state.name) c.in-Refers.is c.requires in
    IfOk-weaker c.referrals.result _ _ (λ steps told. told ∙ sym (refers_on c.args.walker.now state c.args.rtype c.in-Refers.tree c.in-Refers.cut so)) c.referrals.ensures
