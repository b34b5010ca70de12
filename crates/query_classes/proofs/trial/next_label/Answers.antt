use Rattle.std.proofs.Common.{◌≡◌, ◌∙◌, ℕ, ◌++◌, List, length, take, replicate, sym, ap, subst}
use Rattle.std.specs.Prelude.{◌-◌}
use Rattle.dns_data.specs.Label.{IsLabel}
use Rattle.query_classes.specs.Trials.{AreNextOctets, IsLastBut, IsLabelBehind}
use Rattle.query_classes.proofs.TrialSteps.{next_is_behind, next_is_label, last_label_of_all}
use Rattle.query_classes.proofs.trial.next_label.Goals as goal
use Rattle.query_classes.proofs.trial.next_label.Goals.{else-place-eq0-via-then-place-eq0+else-octets-eq63, else-place-eq0-via-else-place-eq0}

pub returns-then-octets-eq63 : goal.returns-then-octets-eq63
returns-then-octets-eq63 c =
    let last = subst (λ (l : List ℕ). IsLastBut l c.before_last-place.result) c.items-octets.ensures.same c.before_last-place.ensures in
    let size : length c.args.label.now ≡ 63 = ap (λ (l : List ℕ). length l) (sym c.items-octets.ensures.same) ∙ c.if-octets-eq63.true in
    let all : c.args.label.now ≡ replicate 63 255 =
    last.last ∙ ap (λ (p : ℕ). take p c.args.label.now ++ replicate (length c.args.label.now - p) 255) c.if-place-eq0.true
    ∙ ap (λ (n : ℕ). replicate (n - 0) 255) size in
    last_label_of_all c.args.label.now size all

pub with_octets-requires : goal.with_octets-requires
with_octets-requires c =
    let same = c.items-octets.ensures.same in
    let label : List ℕ = c.args.label.now in
    let place : ℕ = c.before_last-place.result in
    let last = subst (λ (l : List ℕ). IsLastBut l place) same c.before_last-place.ensures in
    let next = subst (λ (l : List ℕ). AreNextOctets l place c.in_ok-next.next.items) same c.in_ok-next.ensures in
    let room : place ≡ 0 → length label ≡ 63 → ⊥ =
    elim c.else-place-eq0.branch [
      | else-place-eq0-via-then-place-eq0+else-octets-eq63 w ↦ λ z e. w.if-octets-eq63.false (ap (λ (l : List ℕ). length l) same ∙ e)
      | else-place-eq0-via-else-place-eq0 w ↦ λ z e. absurd (w.if-place-eq0.false z)
    ] in
    subst IsLabel (sym c.as_slice.ensures.value) (next_is_label label c.in_ok-next.next.items place c.items-octets.ensures.label room last.within next)

pub returns : goal.returns
returns c =
    let same = c.items-octets.ensures.same in
    let label : List ℕ = c.args.label.now in
    let place : ℕ = c.before_last-place.result in
    let last = subst (λ (l : List ℕ). IsLastBut l place) same c.before_last-place.ensures in
    let next = subst (λ (l : List ℕ). AreNextOctets l place c.in_ok-next.next.items) same c.in_ok-next.ensures in
    let room : place ≡ 0 → length label ≡ 63 → ⊥ =
    elim c.else-place-eq0.branch [
      | else-place-eq0-via-then-place-eq0+else-octets-eq63 w ↦ λ z e. w.if-octets-eq63.false (ap (λ (l : List ℕ). length l) same ∙ e)
      | else-place-eq0-via-else-place-eq0 w ↦ λ z e. absurd (w.if-place-eq0.false z)
    ] in
    let is : IsLabel c.in_ok-next.next.items = next_is_label label c.in_ok-next.next.items place c.items-octets.ensures.label room last.within next in
    let made : c.in_ok-with_octets.field-0 ≡ c.in_ok-next.next.items = c.in_ok-with_octets.ensures ∙ c.as_slice.ensures.value in
    subst (IsLabelBehind label) (sym made) (next_is_behind label c.in_ok-next.next.items place last next is)
