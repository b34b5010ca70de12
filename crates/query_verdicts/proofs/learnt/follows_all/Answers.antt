use Rattle.std.proofs.Common.{◌∙◌, List, ap, subst, sym}
use Rattle.std.specs.List.{list_all}
use Rattle.zone_lookup.specs.LearntSets.{IsSetOf}
use Rattle.dns_data.specs.Name.{Labels}
use Rattle.query_verdicts.proofs.FollowedAlike.{all_in, is_in}
use Rattle.query_verdicts.proofs.learnt.follows_all.Goals as goal

pub returns : goal.returns
returns c = λ is.
    let tops = c.in_ok-tops.tops in
    let least = c.args.sets.now.least in
    all_in c.args.config.now least tops (subst (λ (names : List Labels). IsSetOf names tops) c.tops.ensures c.in_ok-tops.ensures)
    (sym (c.are_followed.ensures ∙ ap (list_all (is_in tops least)) c.servers.ensures.servers) ∙ is)
