use Rattle.std.proofs.Common.{List, Contains, inl, inr, sym, subst}
use Rattle.dns_data.specs.Name.{Labels}
use Rattle.dns_data.proofs.Membership.{first_or_later, has_first, has_later}
use Rattle.part_checks.specs.Outside.{HasOutside}
use Rattle.part_checks.proofs.taker.put_all.Goals as goal

pub loop-front-preserved : goal.loop-front-preserved
loop-front-preserved c =
    let front = c.in-Some.front in
    let left = c.next.new.self in
    let known = c.loop-front.invariant in
    let put = c.in_ok-put_outside.ensures in
    record {
      others = λ one has. known.others one (subst (λ (l : List Labels). Contains l one) (sym c.in-Some.ensures.steps) (has_later front left one has));
      there = λ one has. elim (known.there one has) [
        | inl rest ↦ elim (first_or_later front left one (subst (λ (l : List Labels). Contains l one) c.in-Some.ensures.steps rest)) [
          | inl same ↦ inr (subst (HasOutside c.put_outside.new.outside) same put.there)
          | inr later ↦ inl later
        ]
        | inr there ↦ inr (record { name = there.name; there = put.stays there.name there.there; beside = there.beside; no_longer = there.no_longer })
      ];
      stays = λ name has. put.stays name (known.stays name has);
      added = λ name has. elim (put.added name has) [
        | inl old ↦ known.added name old
        | inr same ↦ inr (subst (Contains c.args.fronts) same
            (known.others front (subst (λ (l : List Labels). Contains l front) (sym c.in-Some.ensures.steps) (has_first front left))))
      ];
    }

pub returns-in_err-put_outside-clause-added : goal.returns-in_err-put_outside-clause-added
returns-in_err-put_outside-clause-added c = λ name has. elim (c.put_outside.ensures.added name has) [
  | inl old ↦ c.loop-front.invariant.added name old
  | inr same ↦ inr (subst (Contains c.args.fronts) same
      (c.loop-front.invariant.others c.in-Some.front
      (subst (λ (l : List Labels). Contains l c.in-Some.front) (sym c.in-Some.ensures.steps) (has_first c.in-Some.front c.next.new.self))))
]
