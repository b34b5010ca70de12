use Rattle.std.proofs.Common.{◌≡◌, true, false, ◌&&◌, Option, Some, None, refl, sym, subst, true≢false}
use Rattle.std.specs.Prelude.{is_some, not, option_map}
use Rattle.std.proofs.lemmas.Bool.{and_parts}
use Rattle.std.proofs.lemmas.Result.{IfOk-weaker}
use Rattle.net_model.specs.declared.place.Place.{Place}
use Rattle.straight_walks.specs.Aliases.{LeadsByAliases, told_by_fault}
use Rattle.straight_walks.specs.Answers.{AnswerOwners, alias_answering, answering_by, last_owner}
use Rattle.straight_walks.specs.Nowhere.{untold}
use Rattle.zone_lookup.specs.Reply.{IsReply}
use Rattle.straight_walks.specs.Searching.{AnswerIsPut}
use Rattle.straight_walks.specs.declared.lent_place.AliasFault.{AliasFault}
use Rattle.straight_walks.proofs.AliasEnds.{alias_answers_so, answers_by}
use Rattle.straight_walks.proofs.Replies.{nothing_answers, records_answer}
use Rattle.straight_walks.proofs.UnnamedBelow.{nothing_answered}
use Rattle.straight_walks.proofs.answering.put_answer.Goals as goal

-- where no fault is told nothing is
no_fault : (fault : Option AliasFault) → not (is_some fault) ≡ true → told_by_fault fault ≡ untold
no_fault None e = refl
no_fault (Some one) e = absurd (true≢false (sym e))

pub returns-in_ok-none_below-in-Records : goal.returns-in_ok-none_below-in-Records
returns-in_ok-none_below-in-Records c = λ yes.
    let config = c.args.asked.hosts.now in
    let query = c.args.asked.name.now in
    let server = c.args.one.server.now in
    let tree = c.in-Records.tree in
    let so = subst (IsReply config server query) c.in-Records.is c.requires in
    record {
      answering = answering_by tree.now (Some c.in-Records.owner);
      rewrites = 0;
      none_below = c.in_ok-none_below-in-Records.none_below;
      told = untold;
      so = answers_by config query server tree (Some c.in-Records.owner) (records_answer config query server tree c.in-Records.owner so);
      put = subst (λ (answering : AnswerOwners). AnswerIsPut c.args.ends.now answering 0 c.in_ok-none_below-in-Records.none_below untold c.put.new.self) c.of_owner.ensures (c.put.ensures yes);
      below = λ none. nothing_answered config query server tree so.0 (c.in_ok-none_below-in-Records.ensures none so.1.1.decides);
      tells_nothing = λ some. refl;
    }

pub returns-in_ok-none_below-in-Some : goal.returns-in_ok-none_below-in-Some
returns-in_ok-none_below-in-Some c =
    let config = c.args.asked.hosts.now in
    let query = c.args.asked.name.now in
    let server = c.args.one.server.now in
    let tree = c.in-Alias.tree in
    let end = c.in-Some.end in
    let so = subst (IsReply config server query) c.in-Alias.is c.requires in
    let alone = not (is_some end.fault) in
    let below = c.in_ok-none_below-in-Some.none_below in
    IfOk-weaker c.put_alias.result _ _
    (λ answered put yes.
    record {
      answering = alias_answering tree.now c.in-Alias.owner (option_map last_owner end.last);
      rewrites = end.rewrites;
      none_below = below && alone;
      told = told_by_fault end.fault;
      so =
          alias_answers_so config query server tree c.in-Alias.owner c.in-Alias.target end so
          (subst (λ (place : Place). LeadsByAliases config place c.in-Alias.target.now 0 end) c.of_owner-alias.ensures c.in-Some.ensures);
      put = put yes;
      below = λ none. nothing_answered config query server tree so.0 (c.in_ok-none_below-in-Some.ensures (and_parts below alone none).0 so.1.1.decides);
      tells_nothing = λ none. no_fault end.fault (and_parts below alone none).1;
    })
    c.put_alias.ensures

pub returns-in-Nothing : goal.returns-in-Nothing
returns-in-Nothing c = λ yes.
    let config = c.args.asked.hosts.now in
    let query = c.args.asked.name.now in
    let server = c.args.one.server.now in
    let tree = c.in-Nothing.tree in
    let so = subst (IsReply config server query) c.in-Nothing.is c.requires in
    record {
      answering = answering_by tree.now None;
      rewrites = 0;
      none_below = false;
      told = untold;
      so = answers_by config query server tree None (nothing_answers config query server tree so);
      put = subst (λ (answering : AnswerOwners). AnswerIsPut c.args.ends.now answering 0 false untold c.put-in-Nothing.new.self) c.of_nothing.ensures (c.put-in-Nothing.ensures yes);
      below = λ some. absurd (true≢false (sym some));
      tells_nothing = λ some. refl;
    }
