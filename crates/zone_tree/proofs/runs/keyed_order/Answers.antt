use Rattle.std.proofs.Common.{◌≡◌, ℕ, Ordering, Equal, sym, refl, ap, ◌∙◌, subst}
use Rattle.std.specs.Ordering.{nat_cmp, ordering_then}
use Rattle.std.proofs.lemmas.Cmp.{nat_cmp_total, tied_itself}
use Rattle.dns_data.specs.Name.{name_cmp}
use Rattle.dns_data.proofs.CommonOctets.{decided}
use Rattle.zone_tree.proofs.runs.keyed_order.Goals as goal

-- numbers that are one tie
one_number : (x y : ℕ) → x ≡ y → nat_cmp x y ≡ Equal
one_number x y same = subst (λ (n : ℕ). nat_cmp x n ≡ Equal) same (tied_itself nat_cmp_total x)

pub returns-then-a-b : goal.returns-then-a-b
returns-then-a-b c =
    let a = c.args.a.now in
    let b = c.args.b.now in
    c.compare.ensures.value
    ∙ sym (ap (λ (o : Ordering). ordering_then o (name_cmp a.first.now.owner b.first.now.owner)) (one_number a.key b.key c.if-a-b.true))

pub returns-else-a-b : goal.returns-else-a-b
returns-else-a-b c =
    let a = c.args.a.now in
    let b = c.args.b.now in
    c.cmp.ensures
    ∙ sym (decided a.key b.key (nat_cmp a.key b.key) (name_cmp a.first.now.owner b.first.now.owner) refl c.if-a-b.false)
