use Rattle.std.proofs.Common.{◌≡◌, ◌≤◌, List, length, ap, ◌∙◌, subst, arith}
use Rattle.std.proofs.lemmas.Bool.Decides.{nat_tests}
use Rattle.dns_data.specs.Name.{Labels}
use Rattle.net_model.specs.declared.config.Config.{Config}
use Rattle.name_ends.specs.AtOnce.{AreSeen}
use Rattle.name_ends.proofs.WalksAtOnce.{all_at_once}
use Rattle.name_ends.proofs.at_once.ends_at_once.Goals as goal

pub returns : goal.returns
returns c =
    let config = c.args.hosts.now in
    let name = c.args.name.now in
    let seen = c.in_ok-seen.seen in
    let tops : c.tops-tops.result.now ≡ config.tops = c.tops-tops.ensures ∙ ap (λ (one : Config). one.tops) c.config.ensures in
    let few : length c.tops-tops.result.now ≤ 8 = grind (arith, nat_tests, c.if-tops-gt-MOST_TOPS.false) in
    all_at_once config name seen (subst (λ (all : List Labels). length all ≤ 8) tops few) (subst (λ (all : List Labels). AreSeen config name all seen) tops c.in_ok-seen.ensures)
