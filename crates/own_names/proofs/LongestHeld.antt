-- The longest prefix of a name that passes a test, looked for from the name upwards.
use Rattle.std.proofs.Common.{◌≡◌, ◌∙◌, ℕ, ◌+◌, ◌-◌, ◌≤◌, ◌<◌, Bool, true, false, [], length, take, inl, inr, sym, ap, arith}
use Rattle.std.specs.Option.{option_map_or}
use Rattle.std.proofs.lemmas.Bool.{cases_lt}
use Rattle.dns_data.specs.Name.{Labels}
use Rattle.net_model.specs.Prefix.{longest}
use Rattle.zone_lookup.proofs.NearestZones.{longest_at}

module _ (test : Labels → Bool) (name : Labels) where
  -- so many fronts, from the name upwards, don't pass the test
  abbrev pub HavePassed : ℕ → Type 0
  HavePassed passed = (labels : ℕ) → length name < labels + passed → labels ≤ length name → test (take labels name) ≡ false

  -- at first there is none
  pub none_yet : HavePassed 0
  none_yet labels more within = absurd (omega (arith, more, within))

  module _ (passed : ℕ) (before : HavePassed passed) (front : Labels) (within : passed ≤ length name) (is : front ≡ take (length name - passed) name) where
    -- the next doesn't either
    pub one_more : test front ≡ false → HavePassed (passed + 1)
    one_more fails labels more fits =
        elim (cases_lt (length name) (labels + passed)) [
          | inl old ↦ before labels old fits
          | inr next ↦ (
              let same : length name - passed ≡ labels = omega (arith, next, more, within) in
              ap test (sym (ap (λ (n : ℕ). take n name) same) ∙ sym is) ∙ fails)
        ]

    -- the next passes: it is the longest that does
    pub found_here : {X : Type 0} (f : Labels → X) (none : X) → test front ≡ true → f front ≡ option_map_or f (longest test name) none
    found_here f none passes =
        ap f is
        ∙ sym (ap (λ o. option_map_or f o none)
        (longest_at test name (length name - passed) (omega arith) (ap test (sym is) ∙ passes)
        (λ labels more fits. before labels (omega (arith, more, within)) fits)))

  -- where all fronts are passed, the root doesn't pass
  pub root_fails : (passed : ℕ) → HavePassed passed → length name < passed → test [] ≡ false
  root_fails passed before all = before 0 (omega (arith, all)) (omega arith)
