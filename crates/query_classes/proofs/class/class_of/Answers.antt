use Rattle.std.proofs.Common.{◌≡◌, ◌∙◌, ℕ, Bool, List, [], ◌∷◌, ◌++◌, cond, append-nil, refl, sym, ap, subst, true≢false, arith}
use Rattle.dns_data.specs.Name.{Labels, IsName}
use Rattle.dns_data.proofs.NameFronts.{octets_of_prefix}
use Rattle.net_model.specs.declared.class.Class.TheVariants.{Exact, Below}
use Rattle.net_model.specs.Class.{IsClassOf}
use Rattle.net_model.specs.Reading.{Ground, IsNamed}
use Rattle.label_graph.specs.LiveSet.{IsClosed, IsLiveSet}
use Rattle.label_graph.proofs.LiveNames.{prefix_is_named}
use Rattle.query_classes.specs.Members.{RepresentsClass}
use Rattle.net_model.proofs.OneClass.{one_class}
use Rattle.query_classes.proofs.ClassLaws.{in_below, below_stood, first_label_of, label_more, stands_exact}
use Rattle.query_classes.proofs.FirstFree.{first_free}
use Rattle.query_classes.proofs.class.class_of.Goals as goal

-- what stands for the class below a name, where one of a name's labels is free
stood : (ground : Ground) → IsClosed ground → (above rest : Labels) (own : List ℕ) (live : List ℕ) → IsLiveSet ground above live → IsNamed ground above
    → (IsNamed ground (above ++ own ∷ []) → ⊥) → IsName (above ++ own ∷ rest) → (name : Labels) × RepresentsClass ground (Below above) name
stood ground closed above rest own live of named unnamed is =
    let (label, first) = first_free ground closed above live of own (first_label_of above own rest is) unnamed in
    (above ++ label ∷ [], below_stood ground closed above label own rest named unnamed is first)

-- the name with its next label
at_label : (q above rest after : Labels) (own octets : List ℕ) → q ≡ above ++ rest → rest ≡ octets ∷ after → own ≡ octets → q ≡ above ++ own ∷ after
at_label q above rest after own octets passed first same =
    passed ∙ ap (λ (l : Labels). above ++ l) first ∙ ap (λ (l : List ℕ). above ++ l ∷ after) (sym same)

pub descend-requires-clause-short : goal.descend-requires-clause-short
descend-requires-clause-short c =
    let above : Labels = c.loop-octets.above.name in
    let own : List ℕ = c.in_ok-label.label in
    let passed = label_more c.args.q.now above c.loop-octets.rest c.next.new.self own c.in-Some.octets.now c.loop-octets.invariant.passed c.in-Some.ensures.first c.in_ok-label.ensures in
    let short = octets_of_prefix (above ++ own ∷ []) c.args.q.now (c.next.new.self, sym passed) in
    omega (arith, short, c.labels-rest.ensures.name.short)

pub loop-octets-init : goal.loop-octets-init
loop-octets-init c =
    let root : c.in_ok-above.above.name ≡ [] = c.in_ok-above.ensures.root in
    record {
      passed = sym c.labels-rest.ensures.same ∙ ap (λ (n : Labels). n ++ c.labels-rest.result) (sym root);
      live = c.in_ok-above.ensures.live;
      named = subst (IsNamed c.args.graph.now) (sym root) (record { base = []; among = c.graph_is_closed.ensures.names.root; reads = ([], refl) });
    }

pub returns-then-not-branch-clause-class : goal.returns-then-not-branch-clause-class
returns-then-not-branch-clause-class c =
    let graph : Ground = c.args.graph.now in
    let above : Labels = c.loop-octets.above.name in
    let own : List ℕ = c.in_ok-label.label in
    let q_is = at_label c.args.q.now above c.loop-octets.rest c.next.new.self own c.in-Some.octets.now c.loop-octets.invariant.passed c.in-Some.ensures.first c.in_ok-label.ensures in
    let unnamed : IsNamed graph (above ++ own ∷ []) → ⊥ = λ named. true≢false (sym (c.in_ok-descend.ensures.named.1 named) ∙ c.if-not-branch.true) in
    let name_is : c.into_name.result ≡ above =
    c.into_name.ensures ∙ c.in_ok-descend.ensures.name ∙ ap (λ (b : Bool). cond b (above ++ own ∷ []) above) c.if-not-branch.true in
    subst (λ (n : Labels). IsClassOf graph c.args.q.now (Below n)) (sym name_is)
    (subst (λ (n : Labels). IsClassOf graph n (Below above)) (sym q_is)
    (in_below graph c.graph_is_closed.ensures above own c.next.new.self c.loop-octets.invariant.named unnamed))

pub returns-then-not-branch-clause-one : goal.returns-then-not-branch-clause-one
returns-then-not-branch-clause-one c other of =
    one_class c.args.graph.now c.args.q.now (Below c.into_name.result) other (returns-then-not-branch-clause-class c) of

pub returns-then-not-branch-clause-represented : goal.returns-then-not-branch-clause-represented
returns-then-not-branch-clause-represented c =
    let graph : Ground = c.args.graph.now in
    let above : Labels = c.loop-octets.above.name in
    let own : List ℕ = c.in_ok-label.label in
    let q_is = at_label c.args.q.now above c.loop-octets.rest c.next.new.self own c.in-Some.octets.now c.loop-octets.invariant.passed c.in-Some.ensures.first c.in_ok-label.ensures in
    let unnamed : IsNamed graph (above ++ own ∷ []) → ⊥ = λ named. true≢false (sym (c.in_ok-descend.ensures.named.1 named) ∙ c.if-not-branch.true) in
    let name_is : c.into_name.result ≡ above =
    c.into_name.ensures ∙ c.in_ok-descend.ensures.name ∙ ap (λ (b : Bool). cond b (above ++ own ∷ []) above) c.if-not-branch.true in
    subst (λ (n : Labels). (name : Labels) × RepresentsClass graph (Below n) name) (sym name_is)
    (stood graph c.graph_is_closed.ensures above c.next.new.self own c.loop-octets.above.live c.loop-octets.invariant.live c.loop-octets.invariant.named unnamed
    (subst IsName q_is c.labels-rest.ensures.name))

pub returns-then-not-branch-clause-prefixes : goal.returns-then-not-branch-clause-prefixes
returns-then-not-branch-clause-prefixes c = prefix_is_named c.args.graph.now c.graph_is_closed.ensures

pub loop-octets-preserved : goal.loop-octets-preserved
loop-octets-preserved c =
    let graph : Ground = c.args.graph.now in
    let above : Labels = c.loop-octets.above.name in
    let own : List ℕ = c.in_ok-label.label in
    let passed = label_more c.args.q.now above c.loop-octets.rest c.next.new.self own c.in-Some.octets.now c.loop-octets.invariant.passed c.in-Some.ensures.first c.in_ok-label.ensures in
    let same : c.descend.new.self.name ≡ above ++ own ∷ [] =
    c.in_ok-descend.ensures.name ∙ ap (λ (b : Bool). cond b (above ++ own ∷ []) above) c.if-not-branch.false in
    record {
      passed = passed ∙ ap (λ (n : Labels). n ++ c.next.new.self) (sym same);
      live = c.in_ok-descend.ensures.live;
      named = subst (IsNamed graph) (sym same) (c.in_ok-descend.ensures.named.0 c.if-not-branch.false);
    }

pub returns-clause-class : goal.returns-clause-class
returns-clause-class c =
    let above : Labels = c.loop-octets.above.name in
    let q_is : c.args.q.now ≡ above = c.loop-octets.invariant.passed ∙ ap (λ (rest : Labels). above ++ rest) c.in_default.ensures.first ∙ append-nil above in
    (c.into_name-2.ensures ∙ sym q_is, subst (IsNamed c.args.graph.now) (sym q_is) c.loop-octets.invariant.named)

pub returns-clause-one : goal.returns-clause-one
returns-clause-one c other of = one_class c.args.graph.now c.args.q.now (Exact c.into_name-2.result) other (returns-clause-class c) of

pub returns-clause-represented : goal.returns-clause-represented
returns-clause-represented c =
    let graph : Ground = c.args.graph.now in
    let q : Labels = c.args.q.now in
    let of = returns-clause-class c in
    (q, subst (λ (n : Labels). RepresentsClass graph (Exact n) q) (sym of.0) (stands_exact graph c.graph_is_closed.ensures q of.1 c.labels-rest.ensures.name))

pub returns-clause-prefixes : goal.returns-clause-prefixes
returns-clause-prefixes c = prefix_is_named c.args.graph.now c.graph_is_closed.ensures
