use Rattle.std.proofs.Common.{◌≡◌, ◌<◌, ◌*◌, ◌-◌, ◌≤◌, ℕ, zero, suc, Bool, false, List, [], length, replicate, refl, sym, ap, ◌∙◌, subst, inl, inr, true≢false, arith}
use Rattle.std.specs.Prelude.{Contains}
use Rattle.std.proofs.lemmas.List.{length-replicate}
use Rattle.dns_data.specs.TypeSet.{has_bit}
use Rattle.dns_data.specs.declared.rr_type.RrType.{RrType}
use Rattle.interp_graph.specs.Restricted.{has_type, many_types}
use Rattle.interp_graph.proofs.Gaining.{most_types}
use Rattle.interp_graph.proofs.reached.types_reached.Goals as goal

-- among empty sets no node has a type
none_has : (set : List Bool) → ((rtype : RrType) → has_bit set rtype ≡ false) → (count at : ℕ) (rtype : RrType) → has_type (replicate count set) at rtype ≡ false
none_has set none zero at rtype = refl
none_has set none (suc count) zero rtype = none rtype
none_has set none (suc count) (suc at) rtype = none_has set none count at rtype

pub loop-init : goal.loop-init
loop-init c =
    let size = c.nodes.result in
    let items : c.in_ok-sets.sets.items ≡ replicate size c.empty.result = c.in_ok-sets.ensures.items_if_clones_equal (λ y is. is) in
    let long : length c.in_ok-sets.sets.items ≡ length c.args.graph.now.nodes =
    ap (λ (xs : List (List Bool)). length xs) items ∙ (length-replicate size c.empty.result ∙ c.nodes.ensures) in
    record {
      many = c.begin.ensures.many ∙ long;
      begun = λ at has below rtype. c.begin.ensures.has at rtype (at, subst (λ (starts : List ℕ). Contains starts at) (sym c.starts.ensures) has, refl) (omega (arith, below, long));
      sound = λ at rtype has. elim (c.begin.ensures.only at rtype has) [
        | inl had ↦ absurd (true≢false (sym had ∙ (ap (λ (xs : List (List Bool)). has_type xs at rtype) items ∙ none_has c.empty.result c.empty.ensures size at rtype)))
        | inr start ↦ ([], subst (Contains c.args.graph.now.starts) (sym start.2) (subst (λ (starts : List ℕ). Contains starts start.0) c.starts.ensures start.1))
      ];
    }

pub loop-preserved : goal.loop-preserved
loop-preserved c =
    record {
      many = c.pass.ensures.many;
      begun = λ at has below rtype. c.pass.ensures.keeps at rtype (c.loop.invariant.begun at has below rtype);
      sound = c.pass.ensures.sound c.args.graph.now.starts c.loop.invariant.sound;
    }

pub loop-smaller : goal.loop-smaller
loop-smaller c =
    of (length c.pass.new.self.sets.items) (length c.loop.reaching.sets.items) (many_types c.pass.new.self.sets.items) (many_types c.loop.reaching.sets.items)
    (c.pass.ensures.many ∙ sym c.loop.invariant.many) (c.pass.ensures.fewer c.loop-test.true) (most_types c.pass.new.self.sets.items)
  where
    of : (n m a b : ℕ) → n ≡ m → b < a → a ≤ 12 * n → 12 * n - a < 12 * m - b
    of n m a b same fewer most = omega (arith, same, fewer, most)

pub returns : goal.returns
returns c =
    record {
      many = c.pass.ensures.many;
      begun = λ at has below rtype. c.pass.ensures.keeps at rtype (c.loop.invariant.begun at has below rtype);
      sound = c.pass.ensures.sound c.args.graph.now.starts c.loop.invariant.sound;
      closed = c.pass.ensures.closed c.loop-test.false;
    }
