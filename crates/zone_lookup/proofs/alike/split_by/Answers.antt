use Rattle.std.proofs.Common.{◌≡◌, List, Bool, subst}
use Rattle.std.proofs.lemmas.Result.{IfOk-weaker}
use Rattle.dns_data.proofs.Names.{all_so}
use Rattle.zone_lookup.specs.Alike.{AreAlike, GoAlike}
use Rattle.zone_lookup.specs.Reply.{IsReply}
use Rattle.zone_tree.specs.Tree.{name_of}
use Rattle.zone_lookup.proofs.GoingAlike.{alias_alike, nothing_alike, outside_alike, records_alike, redirects_alike, refers_alike}
use Rattle.zone_lookup.proofs.alike.split_by.Goals as goal

pub returns-in-Outside-clause-alike : goal.returns-in-Outside-clause-alike
returns-in-Outside-clause-alike c =
    IfOk-weaker c.one_set.result _ _
    (λ sets same. all_so (λ (set : List Bool). set ≡ c.args.types) (GoAlike c.args.reply.now) sets
    (λ set is setting state so s t has_s has_t. outside_alike setting state (subst (IsReply setting.config state.server state.name) c.in-Outside.is so) s t) same)
    c.one_set.ensures.only

pub returns-in-Refers-clause-alike : goal.returns-in-Refers-clause-alike
returns-in-Refers-clause-alike c =
    IfOk-weaker c.one_set-in-Refers.result _ _
    (λ sets same. all_so (λ (set : List Bool). set ≡ c.args.types) (GoAlike c.args.reply.now) sets
    (λ set is setting state so s t has_s has_t.
    refers_alike setting state c.in-Refers.field-0 c.in-Refers.field-1 (subst (IsReply setting.config state.server state.name) c.in-Refers.is so) s t) same)
    c.one_set-in-Refers.ensures.only

pub returns-in-Redirects-clause-alike : goal.returns-in-Redirects-clause-alike
returns-in-Redirects-clause-alike c =
    IfOk-weaker c.one_set-in-Redirects.result _ _
    (λ sets same. all_so (λ (set : List Bool). set ≡ c.args.types) (GoAlike c.args.reply.now) sets
    (λ set is setting state so s t has_s has_t.
    redirects_alike setting state c.in-Redirects.field-0 c.in-Redirects.field-1 c.in-Redirects.field-2
    (subst (IsReply setting.config state.server state.name) c.in-Redirects.is so) s t) same)
    c.one_set-in-Redirects.ensures.only

pub returns-in-Nothing-clause-alike : goal.returns-in-Nothing-clause-alike
returns-in-Nothing-clause-alike c =
    IfOk-weaker c.one_set-in-Nothing.result _ _
    (λ sets same. all_so (λ (set : List Bool). set ≡ c.args.types) (GoAlike c.args.reply.now) sets
    (λ set is setting state so s t has_s has_t.
    nothing_alike setting state c.in-Nothing.field-0 (subst (IsReply setting.config state.server state.name) c.in-Nothing.is so) s t) same)
    c.one_set-in-Nothing.ensures.only

pub returns-in-Alias-clause-alike : goal.returns-in-Alias-clause-alike
returns-in-Alias-clause-alike c =
    let tree = c.in-Alias.tree in
    IfOk-weaker c.split_types.result _ _
    (λ sets same. all_so (AreAlike tree.now.zone (name_of tree.now c.in-Alias.owner)) (GoAlike c.args.reply.now) sets
    (λ set is setting state so s t has_s has_t.
    alias_alike setting state tree c.in-Alias.owner c.in-Alias.field-2 (subst (IsReply setting.config state.server state.name) c.in-Alias.is so) s t (is s t has_s has_t)) same)
    c.split_types.ensures.alike

pub returns-in-Records-clause-alike : goal.returns-in-Records-clause-alike
returns-in-Records-clause-alike c =
    let tree = c.in-Records.tree in
    IfOk-weaker c.split_types-in-Records.result _ _
    (λ sets same. all_so (AreAlike tree.now.zone (name_of tree.now c.in-Records.owner)) (GoAlike c.args.reply.now) sets
    (λ set is setting state so s t has_s has_t.
    records_alike setting state tree c.in-Records.owner (subst (IsReply setting.config state.server state.name) c.in-Records.is so) s t (is s t has_s has_t)) same)
    c.split_types-in-Records.ensures.alike

pub split_types-requires : goal.split_types-requires
split_types-requires c =
    let (config, server, name, so) = c.requires in
    (subst (IsReply config server name) c.in-Alias.is so).1.0

pub split_types-requires-in-Records : goal.split_types-requires-in-Records
split_types-requires-in-Records c =
    let (config, server, name, so) = c.requires in
    (subst (IsReply config server name) c.in-Records.is so).1.0
