use Rattle.std.proofs.Common.{◌≡◌, ◌∙◌, ℕ, ◌+◌, ◌<◌, ◌≤◌, ◌⊎◌, List, [], ◌∷◌, ◌++◌, length, take, Contains, inl, inr, sym, refl, subst, arith}
use Rattle.std.specs.Prelude.{◌↔◌}
use Rattle.std.proofs.lemmas.Bool.{cases_lt}
use Rattle.std.proofs.lemmas.List.Elements.{Contains-append_left, Contains-append_right, Contains-append_cases}
use Rattle.dns_data.specs.Name.{Labels}
use Rattle.dns_data.proofs.Membership.{none_in_nil, has_first, first_or_later}
use Rattle.label_graph.specs.Targets.{IsPrefixFrom}
use Rattle.label_graph.proofs.fronts.put_fronts.Goals as goal

abbrev AreCounted : Labels → ℕ → ℕ → List Labels → List Labels → Type 0
AreCounted name from count before names =
    (front : Labels) → Contains names front ↔ (Contains before front ⊎ ((front_is : IsPrefixFrom from name front) × (front_is.0 < count)))

-- one front more
counted_more : (name : Labels) (from count : ℕ) (before names : List Labels) (front : Labels) → from ≤ count → count < length name + 1
    → front ≡ take count name → AreCounted name from count before names → AreCounted name from (count + 1) before (names ++ front ∷ [])
counted_more name from count before names front low high is counted other = (there, back) where
  there : Contains (names ++ front ∷ []) other → Contains before other ⊎ ((front_is : IsPrefixFrom from name other) × (front_is.0 < count + 1))
  there has =
      elim (Contains-append_cases names (front ∷ []) other has) [
        | inl old ↦ elim ((counted other).0 old) [
          | inl was ↦ inl was
          | inr (front_is, below) ↦ inr (front_is, omega (arith, below))
        ]
        | inr new ↦ elim (first_or_later front [] other new) [
          | inl same ↦ inr ((count, low, omega arith, sym same ∙ is), omega arith)
          | inr none ↦ absurd (none_in_nil other none)
        ]
      ]

  back : Contains before other ⊎ ((front_is : IsPrefixFrom from name other) × (front_is.0 < count + 1)) → Contains (names ++ front ∷ []) other
  back (inl was) = Contains-append_left names (front ∷ []) other ((counted other).1 (inl was))
  back (inr (front_is, below)) =
      elim (cases_lt front_is.0 count) [
        | inl fewer ↦ Contains-append_left names (front ∷ []) other ((counted other).1 (inr (front_is, fewer)))
        | inr last ↦ (
            let same : count ≡ front_is.0 = omega (arith, below) in
            let one : front ≡ other = is ∙ subst (λ (k : ℕ). take count name ≡ take k name) same refl ∙ sym front_is.3 in
            Contains-append_right names (front ∷ []) other (subst (Contains (front ∷ [])) one (has_first front [])))
      ]

pub loop-count-init : goal.loop-count-init
loop-count-init c front = (λ has. inl has, λ either. elim either [ inl has ↦ has | inr (front_is, below) ↦ absurd (omega (arith, front_is.1, below)) ])

pub loop-count-preserved : goal.loop-count-preserved
loop-count-preserved c =
    let counted = counted_more c.args.name.now c.args.from c.loop-count.count c.args.names.now.items c.loop-count.names.items c.in_ok-copy_front.field-0
    c.loop-count.auto.count (omega (arith, c.loop-count-test.true, c.len.ensures.value)) c.in_ok-copy_front.ensures c.loop-count.invariant in
    rw c.in_ok-push.ensures.items counted

pub returns : goal.returns
returns c front = (
  λ has. elim ((c.loop-count.invariant front).0 has) [ inl was ↦ inl was | inr (front_is, below) ↦ inr front_is ],
  λ either. elim either [
    | inl was ↦ (c.loop-count.invariant front).1 (inl was)
    | inr front_is ↦ (c.loop-count.invariant front).1 (inr (front_is, omega (arith, front_is.2, c.loop-count-test.false, c.len.ensures.value)))
  ],
)
