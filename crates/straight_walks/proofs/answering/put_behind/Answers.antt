use Rattle.std.proofs.Common.{false, Option, [], ◌∷◌, None, Some, ap, subst, arith}
use Rattle.std.specs.Prelude.{is_some, option_map}
use Rattle.std.proofs.lemmas.Result.{IfOk-weaker}
use Rattle.net_model.specs.declared.config.Zone.{Zone}
use Rattle.net_model.specs.declared.place.Place.{Place}
use Rattle.straight_walks.specs.Aliases.{LeadsByAliases, told_by_fault}
use Rattle.straight_walks.specs.Answers.{AnswerOwners, alias_answering, answering_by, last_owner}
use Rattle.straight_walks.specs.Nowhere.{place_of, untold}
use Rattle.straight_walks.specs.Searching.{AnswerIsPut}
use Rattle.straight_walks.proofs.AliasEnds.{alias_behind, records_behind}
use Rattle.straight_walks.proofs.Blackholes.{nothing_behind}
use Rattle.straight_walks.proofs.answering.put_behind.Goals as goal

pub returns-in-Records : goal.returns-in-Records
returns-in-Records c = λ yes.
    record {
      held = ap (λ (zone : Option Zone). is_some zone) c.in-Records.ensures.0;
      answering = answering_by c.in-Records.tree.now (Some c.in-Records.owner);
      most = 1;
      told = untold;
      no_fewer = omega arith;
      behind = records_behind c.args.asked.hosts.now c.args.one.server.now c.args.name.now 1 (Some (place_of c.args.by)) c.in-Records.tree c.in-Records.owner c.in-Records.ensures;
      put = subst (λ (answering : AnswerOwners). AnswerIsPut c.args.ends.now answering 1 false untold c.put.new.self) c.of_owner.ensures (c.put.ensures yes);
    }

pub returns-in-Some : goal.returns-in-Some
returns-in-Some c =
    let end = c.in-Some.end in
    IfOk-weaker c.put_alias.result _ _
    (λ answered put yes.
    record {
      held = ap (λ (zone : Option Zone). is_some zone) c.in-Alias.ensures.0;
      answering = alias_answering c.in-Alias.tree.now c.in-Alias.owner (option_map last_owner end.last);
      most = end.rewrites;
      told = told_by_fault end.fault;
      no_fewer = c.in-Some.ensures.no_fewer;
      behind =
          alias_behind c.args.asked.hosts.now c.args.one.server.now c.args.name.now 1 (Some (place_of c.args.by)) c.in-Alias.tree c.in-Alias.owner c.in-Alias.target end c.in-Alias.ensures
          (subst (λ (place : Place). LeadsByAliases c.args.asked.hosts.now place c.in-Alias.target.now 1 end) c.of_owner-alias.ensures c.in-Some.ensures);
      put = put yes;
    })
    c.put_alias.ensures

pub returns-in-Nothing : goal.returns-in-Nothing
returns-in-Nothing c =
    IfOk-weaker c.put_blackhole.result _ _
    (λ put so yes.
    record {
      held = ap (λ (zone : Option Zone). is_some zone) c.in-Nothing.ensures.0;
      answering = answering_by c.in-Nothing.tree.now None;
      most = 1;
      told = record { places = c.args.by ∷ []; aliases = [] };
      no_fewer = omega arith;
      behind = nothing_behind c.args.asked.hosts.now c.args.one.server.now c.args.name.now 1 c.args.by c.in-Nothing.tree c.in-Nothing.ensures;
      put = so yes;
    })
    c.put_blackhole.ensures
