use Rattle.std.proofs.Common.{[], ◌∷◌, ◌++◌, ◌∙◌, sym, refl, subst, true≢false}
use Rattle.dns_data.specs.Name.{Labels}
use Rattle.net_model.specs.Reading.{Ground}
use Rattle.label_graph.specs.LiveSet.{IsLiveSet}
use Rattle.query_classes.proofs.ClassLaws.{not_named, live_named}
use Rattle.query_classes.proofs.live_name.LiveName.descend.Goals as goal

pub returns-then-is_empty-clause-named : goal.returns-then-is_empty-clause-named
returns-then-is_empty-clause-named c =
    let graph : Ground = c.args.graph.now in
    let name : Labels = c.args.self.now.name ++ c.args.label.now ∷ [] in (
      λ no. absurd (true≢false (sym no)),
      λ named. absurd (not_named graph name c.in_ok-next.next (c.in_ok-next.ensures c.args.self.now.name c.requires.live) (c.is_empty.ensures.0 c.if-is_empty.true) named),
    )

pub returns-in-Ok-clause-named : goal.returns-in-Ok-clause-named
returns-in-Ok-clause-named c =
    let graph : Ground = c.args.graph.now in
    let name : Labels = c.args.self.now.name ++ c.args.label.now ∷ [] in (
      λ yes. live_named graph name c.in_ok-next.next (c.in_ok-next.ensures c.args.self.now.name c.requires.live)
          (λ none. true≢false (sym (c.is_empty.ensures.1 none) ∙ c.if-is_empty.false)),
      λ named. refl,
    )

pub returns-in-Ok-clause-live : goal.returns-in-Ok-clause-live
returns-in-Ok-clause-live c =
    subst (λ (name : Labels). IsLiveSet c.args.graph.now name c.in_ok-next.next) (sym c.in-Ok.ensures.ok)
    (c.in_ok-next.ensures c.args.self.now.name c.requires.live)
