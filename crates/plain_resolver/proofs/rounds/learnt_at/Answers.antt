use Rattle.std.proofs.Common.{◌≡◌, ◌+◌, List, length, sym, ap, ◌∙◌, subst, arith, rules}
use Rattle.std.specs.Cmp.Lexicographic.{pointwise_decides}
use Rattle.dns_data.specs.Name.{Labels}
use Rattle.dns_data.proofs.Names.{name_eq_decides}
use Rattle.net_model.specs.declared.config.Config.{Config}
use Rattle.net_model.specs.declared.config.Server.{Server}
use Rattle.net_model.specs.Learnt.{AfterRounds, IsRound}
use Rattle.net_model.specs.Nearest.{server_names}
use Rattle.plain_resolver.specs.Passed.{NoneInRounds}
use Rattle.plain_resolver.specs.KnownNames.{FollowedNow, FollowsOn, names_learnt, names_known}
use Rattle.plain_resolver.proofs.Learning.{stays, next_round, next_few, all_more}
use Rattle.plain_resolver.proofs.KnownRounds.{all_unless_new, first_known, none_known, round_known}
use Rattle.plain_resolver.proofs.rounds.learnt_at.Goals as goal

pub returns-in_err-known-2-clause-passed : goal.returns-in_err-known-2-clause-passed
returns-in_err-known-2-clause-passed c = λ name is.
    let inv = c.loop-round.invariant in
    record {
      before = c.loop-round._round;
      is_round = omega (arith, c.loop-round-test.true, ap (λ (ss : List Server). length ss) c.servers-round-end.ensures.servers, ap (λ (x : Config). length x.servers) c.config-config.ensures);
      none_earlier = inv.few;
      followed = c.loop-round.followed.names;
      after = inv.after;
      first = first_known c.args.hosts.now c.args.rewrites c.args.most c.loop-round.followed.names (names_known c.loop-round.known) name inv.names
          (c.in_err-known-2.ensures.passed name (search rules));
    }

pub returns-then-eq-clause-rounds : goal.returns-then-eq-clause-rounds
returns-then-eq-clause-rounds c =
    let config = c.args.hosts.now in
    let inv = c.loop-round.invariant in
    let followed = c.loop-round.followed.names in
    let known = c.in_ok-known-2.known in
    let kept = c.in_ok-known-2.ensures.known in
    let are : names_known known ≡ server_names config = c.in_ok-known-2.ensures.names ∙ inv.names in
    let made : c.in_ok-learnt.learnt ≡ names_learnt known = c.in_ok-learnt.ensures ∙ ap names_learnt c.items.ensures in
    let round : IsRound config c.args.rewrites followed c.in_ok-learnt.learnt =
    subst (IsRound config c.args.rewrites followed) (sym made) (round_known config c.args.rewrites c.args.most followed known kept are) in
    let none = none_known config c.args.rewrites c.args.most followed known kept are in
    let same : c.in_ok-learnt.learnt ≡ followed =
    (pointwise_decides name_eq_decides c.in_ok-learnt.learnt c.followed-in-loop-round.inside.names).0 (sym c.eq.ensures ∙ c.if-eq.true)
    ∙ ap (λ (now : FollowedNow). now.names) c.followed-in-loop-round.view_is in
    let itself : IsRound config c.args.rewrites followed followed = subst (IsRound config c.args.rewrites followed) same round in
    subst (AfterRounds config c.args.rewrites (length config.servers) c.args.from.now) (sym same)
    (stays config c.args.rewrites c.args.from.now followed itself c.loop-round._round (length config.servers)
    (omega (arith, c.loop-round-test.true, ap (λ (ss : List Server). length ss) c.servers-round-end.ensures.servers, ap (λ (x : Config). length x.servers) c.config-config.ensures)) inv.after)

pub returns-then-eq-clause-few : goal.returns-then-eq-clause-few
returns-then-eq-clause-few c =
    let config = c.args.hosts.now in
    let inv = c.loop-round.invariant in
    let followed = c.loop-round.followed.names in
    let known = c.in_ok-known-2.known in
    let kept = c.in_ok-known-2.ensures.known in
    let are : names_known known ≡ server_names config = c.in_ok-known-2.ensures.names ∙ inv.names in
    let made : c.in_ok-learnt.learnt ≡ names_learnt known = c.in_ok-learnt.ensures ∙ ap names_learnt c.items.ensures in
    let round : IsRound config c.args.rewrites followed c.in_ok-learnt.learnt =
    subst (IsRound config c.args.rewrites followed) (sym made) (round_known config c.args.rewrites c.args.most followed known kept are) in
    let none = none_known config c.args.rewrites c.args.most followed known kept are in
    let same : c.in_ok-learnt.learnt ≡ followed =
    (pointwise_decides name_eq_decides c.in_ok-learnt.learnt c.followed-in-loop-round.inside.names).0 (sym c.eq.ensures ∙ c.if-eq.true)
    ∙ ap (λ (now : FollowedNow). now.names) c.followed-in-loop-round.view_is in
    let itself : IsRound config c.args.rewrites followed followed = subst (IsRound config c.args.rewrites followed) same round in
    all_more config c.args.rewrites c.args.most c.args.from.now followed c.loop-round._round (length config.servers) inv.few inv.after none itself

pub loop-round-preserved : goal.loop-round-preserved
loop-round-preserved c =
    let config = c.args.hosts.now in
    let inv = c.loop-round.invariant in
    let followed = c.loop-round.followed.names in
    let known = c.in_ok-known-2.known in
    let kept = c.in_ok-known-2.ensures.known in
    let are : names_known known ≡ server_names config = c.in_ok-known-2.ensures.names ∙ inv.names in
    let made : c.in_ok-learnt.learnt ≡ names_learnt known = c.in_ok-learnt.ensures ∙ ap names_learnt c.items.ensures in
    let round : IsRound config c.args.rewrites followed c.in_ok-learnt.learnt =
    subst (IsRound config c.args.rewrites followed) (sym made) (round_known config c.args.rewrites c.args.most followed known kept are) in
    let none = none_known config c.args.rewrites c.args.most followed known kept are in
    let next = c.in_ok-followed.followed in
    record {
      after = subst (AfterRounds config c.args.rewrites (c.loop-round._round + 1) c.args.from.now) (sym c.in_ok-followed.ensures.names)
          (next_round config c.args.rewrites c.args.from.now followed c.in_ok-learnt.learnt c.loop-round._round inv.after round);
      few = next_few config c.args.rewrites c.args.most c.args.from.now followed c.loop-round._round inv.few inv.after none;
      names = are;
      before = all_unless_new config c.args.rewrites c.args.most followed next known
          (subst (λ (names : List Labels). FollowsOn names next) (c.items-in-loop-round.ensures ∙ ap (λ (now : FollowedNow). now.names) c.followed-in-loop-round.view_is) c.in_ok-followed.ensures.follows) kept;
    }

pub returns-clause-few : goal.returns-clause-few
returns-clause-few c =
    subst (NoneInRounds c.args.hosts.now c.args.rewrites c.args.most c.args.from.now)
    (let end : c.loop-round._round ≡ length c.args.hosts.now.servers = omega (arith, c.loop-round-test.false, c.loop-round.auto._round-end, ap (λ (ss : List Server). length ss) c.servers-round-end.ensures.servers, ap (λ (x : Config). length x.servers) c.config-config.ensures) in end)
    c.loop-round.invariant.few
