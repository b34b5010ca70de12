use Rattle.std.proofs.Common.{◌≡◌, ◌∙◌, List, map, All, sym, ap, subst}
use Rattle.std.proofs.lemmas.List.Elements.{All-contains}
use Rattle.dns_data.specs.Name.{Labels, IsName}
use Rattle.dns_data.proofs.Membership.{from_map, all_from_contains}
use Rattle.label_graph.specs.LiveSet.{IsLiveSet}
use Rattle.label_graph.specs.declared.next.NextName.{NextName}
use Rattle.query_classes.specs.Children.{AreChildren, of_name_length}
use Rattle.query_classes.specs.declared.live_name.LiveName.{LiveName}
use Rattle.query_classes.proofs.NamesBelow.{all_live, children_are, names_of_live}
use Rattle.query_classes.proofs.live_name.LiveName.children.Goals as goal

all_named : (found : List LiveName) → All (λ one. IsName one.name) found → All IsName (map (λ one. one.name) found)
all_named found each =
    all_from_contains IsName (map (λ (one : LiveName). one.name) found) (λ name has.
    let (one, among, is) = from_map (λ (o : LiveName). o.name) found name has in
    subst IsName is (All-contains (λ (o : LiveName). IsName o.name) found one each among))

pub returns-clause-names : goal.returns-clause-names
returns-clause-names c =
    let above : Labels = c.args.self.now.name in
    let found : List LiveName = c.in_ok-names.names.items in
    let labels = map (λ (next : NextName). next.label) c.in_ok-nexts.nexts in
    let same : map (λ (one : LiveName). one.name) found ≡ of_name_length above labels =
    ap (map (λ (one : LiveName). one.name)) c.in_ok-names.ensures.below ∙ names_of_live above c.in_ok-nexts.nexts in
    subst (λ (l : List LiveName). AreChildren c.args.graph.now above (map (λ (one : LiveName). one.name) l)) (sym c.from_vec.ensures)
    (subst (AreChildren c.args.graph.now above) (sym same)
    (children_are c.args.graph.now above labels c.in_ok-nexts.ensures.order
    (c.in_ok-nexts.ensures.labels above c.requires) (subst (All IsName) same (all_named found c.in_ok-names.ensures.names))))

pub returns-clause-live : goal.returns-clause-live
returns-clause-live c =
    let above : Labels = c.args.self.now.name in
    let ground = c.args.graph.now in
    subst (All (λ (below : LiveName). IsLiveSet ground below.name below.live)) (sym (c.from_vec.ensures ∙ c.in_ok-names.ensures.below))
    (all_live ground above c.in_ok-nexts.nexts (c.in_ok-nexts.ensures.live above c.requires))
