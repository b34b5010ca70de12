use Rattle.std.proofs.Common.{◌≡◌, ◌⊎◌, ◌≤◌, ◌+◌, ℕ, true, length, take, List, [], ◌∷◌, ◌++◌, sym, ap, ◌∙◌, subst, arith}
use Rattle.dns_data.specs.Name.{Labels, is_among}
use Rattle.dns_data.proofs.Names.{name_eq_decides}
use Rattle.plain_resolver.specs.KnownNames.{IsPartOf}
use Rattle.plain_resolver.proofs.NewNames.{either_met, either_put, part_met, part_passed}
use Rattle.plain_resolver.proofs.known_names.put_newly.Goals as goal
use Rattle.plain_resolver.proofs.known_names.put_newly.Goals.{then-met-before+then-eq, else-met-before+in_ok-copy+in_ok-push}

pub loop-name-preserved : goal.loop-name-preserved
loop-name-preserved c =
    let before = c.args.before.now in
    let names = c.args.names.now in
    let newly = c.loop-name.newly in
    let met = c.loop-name.met in
    let index = c.loop-name.name-index in
    let name = c.name-item.result in
    let inv = c.loop-name.invariant in
    elim c.if-met-before.branch [
      | then-met-before+then-eq w ↦ (
          let same : w.index-before-met.result ≡ name = (name_eq_decides w.index-before-met.result name).0 (sym w.eq.ensures ∙ w.if-eq.true) in
          record {
            within = subst (λ (n : ℕ). n ≤ length before) (sym w.met-is) (let e : met + 1 ≤ length before = omega (arith, w.if-met-before.true) in e);
            part = subst (λ (n : ℕ). IsPartOf (take n before) (take (index + 1) names)) (sym w.met-is)
                (part_met before names newly met index name c.loop-name-test.true c.name-item.is inv.part inv.either w.index-before-met.result w.if-met-before.true w.index-before-met.is same);
            either = subst (λ (ns : List Labels). (other : Labels) → is_among (take (index + 1) names) other ≡ true → (is_among before other ≡ true) ⊎ (is_among ns other ≡ true)) (sym w.newly-is)
                (either_met before names newly met index name c.loop-name-test.true c.name-item.is inv.part inv.either w.index-before-met.result w.if-met-before.true w.index-before-met.is same);
          })
      | else-met-before+in_ok-copy+in_ok-push w ↦ (
          let put : c.if-met-before.newly ≡ newly ++ name ∷ [] =
          w.newly-is ∙ w.in_ok-push.ensures.ok ∙ ap (λ (n : Labels). newly ++ n ∷ []) w.in_ok-copy.ensures in
          record {
            within = subst (λ (n : ℕ). n ≤ length before) (sym w.met-is) inv.within;
            part = subst (λ (n : ℕ). IsPartOf (take n before) (take (index + 1) names)) (sym w.met-is)
                (part_passed before names newly met index name c.loop-name-test.true c.name-item.is inv.part inv.either);
            either = subst (λ (ns : List Labels). (other : Labels) → is_among (take (index + 1) names) other ≡ true → (is_among before other ≡ true) ⊎ (is_among ns other ≡ true)) (sym put)
                (either_put before names newly met index name c.loop-name-test.true c.name-item.is inv.part inv.either);
          })
    ]
