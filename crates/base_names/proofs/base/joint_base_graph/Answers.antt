use Rattle.std.proofs.Common.{◌≡◌, ◌∙◌, Bor, List, [], ◌∷◌, ◌++◌, map, sym, ap, subst}
use Rattle.std.proofs.lemmas.Result.{IfOk-weaker}
use Rattle.dns_data.specs.Name.{Labels}
use Rattle.net_model.specs.Reading.{joined_ground}
use Rattle.label_graph.specs.LiveSet.{HavePrefixes}
use Rattle.label_graph.specs.Pairs.{ground_with}
use Rattle.label_graph.proofs.BaseGround.{base_closed, joined_closed}
use Rattle.label_graph.proofs.OrderedNames.{same_then}
use Rattle.base_names.proofs.ZoneNames.{config_of, joined_base}
use Rattle.base_names.proofs.JoinedBase.{root_alone}
use Rattle.base_names.proofs.base.joint_base_graph.Goals as goal

-- the names behind references
abbrev names_of : List (Bor Labels) → List Labels
names_of more = map (λ name. name.now) more

pub put_all-requires : goal.put_all-requires
put_all-requires c =
    let first : c.push.new.self.items ≡ [] ∷ [] =
    c.in_ok-push.ensures.items ∙ ap (λ (l : List Labels). l ++ c.root.result ∷ []) c.new-names.ensures.items ∙ ap (λ (n : Labels). n ∷ []) c.root.ensures in
    subst HavePrefixes (sym first) root_alone

pub build-requires : goal.build-requires
build-requires c =
    let first : c.push.new.self.items ≡ [] ∷ [] =
    c.in_ok-push.ensures.items ∙ ap (λ (l : List Labels). l ++ c.root.result ∷ []) c.new-names.ensures.items ∙ ap (λ (n : Labels). n ∷ []) c.root.ensures in
    base_closed _ _
    (joined_base c.args.all.now c.args.more.now _ _ _ _ _ _ first c.new-dnames.ensures.items c.as_slice.ensures.value
    c.in_ok-put_all.ensures.names c.in_ok-put_names.ensures c.in_ok-put_all.ensures.pairs)
    (joined_closed (map config_of c.args.all.now) (names_of c.args.more.now))

pub returns-clause-same : goal.returns-clause-same
returns-clause-same c =
    let first : c.push.new.self.items ≡ [] ∷ [] =
    c.in_ok-push.ensures.items ∙ ap (λ (l : List Labels). l ++ c.root.result ∷ []) c.new-names.ensures.items ∙ ap (λ (n : Labels). n ∷ []) c.root.ensures in
    IfOk-weaker c.build.result _ _
    (λ graph same. same_then graph (ground_with c.put_names.new.names.items c.as_slice.result.now)
    (joined_ground (map config_of c.args.all.now) (names_of c.args.more.now)) same
    (joined_base c.args.all.now c.args.more.now _ _ _ _ _ _ first c.new-dnames.ensures.items c.as_slice.ensures.value
    c.in_ok-put_all.ensures.names c.in_ok-put_names.ensures c.in_ok-put_all.ensures.pairs))
    c.build.ensures.same
