use Rattle.std.proofs.Common.{◌≡◌, ℕ, true, List, get_or, sym, subst}
use Rattle.std.proofs.lemmas.List.{take_all}
use Rattle.std.proofs.lemmas.Option.{slice_get-get_or, get_or_from_slice_get}
use Rattle.dns_data.specs.TypeSet.{has_bit}
use Rattle.dns_data.specs.declared.rr_type.RrType.{RrType}
use Rattle.interp_graph.specs.Restricted.{ForOne, Gains}
use Rattle.interp_graph.proofs.Gaining.{gains_as, gains_first, gains_next}
use Rattle.interp_graph.proofs.reached.Reaching.begin.Goals as goal

pub loop-at-init : goal.loop-at-init
loop-at-init c = gains_first (λ (start at : ℕ) (rtype : RrType). at ≡ start) c.args.self.now

pub loop-at-preserved : goal.loop-at-preserved
loop-at-preserved c =
    let starts = c.args.starts.now in
    let at : ℕ = get_or starts c.loop-at.at-index 0 in
    gains_next (λ (start at : ℕ) (rtype : RrType). at ≡ start) starts c.loop-at.at-index at c.args.self.now c.loop-at.self c.gain.new.self c.loop-at-test.true
    (sym (get_or_from_slice_get starts c.loop-at.at-index at at (slice_get-get_or starts c.loop-at.at-index 0 c.loop-at-test.true))) c.loop-at.invariant
    (gains_as (λ (other : ℕ) (rtype : RrType). (other ≡ at) × (has_bit c.all.result rtype ≡ true)) (λ (other : ℕ) (rtype : RrType). other ≡ at)
    c.loop-at.self c.gain.new.self (λ other rtype is. is.0) (λ other rtype is. (is, c.all.ensures rtype)) c.gain.ensures)

pub returns : goal.returns
returns c =
    subst (λ (xs : List ℕ). Gains (ForOne (λ (start at : ℕ) (rtype : RrType). at ≡ start) xs) c.args.self.now c.loop-at.self)
    (take_all c.loop-at.at-index c.args.starts.now c.loop-at-test.false) c.loop-at.invariant
