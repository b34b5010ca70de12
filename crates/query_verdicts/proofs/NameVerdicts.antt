-- The verdict of each name of a class tree, as a value: there is one, and it is the only one.
use Rattle.std.proofs.Common.{◌≡◌, ◌∙◌, Bool, true, false, Option, Some, None, inl, inr, refl, sym, ap, subst, true≢false}
use Rattle.dns_data.specs.Name.{Labels, IsName}
use Rattle.dns_data.proofs.Names.{is_name, is_name_tells, is_name_told}
use Rattle.net_model.specs.declared.class.Class.TheVariants.{Below}
use Rattle.net_model.specs.Class.{IsRepresentative}
use Rattle.net_model.specs.Reading.{Ground}
use Rattle.net_model.proofs.TrialOrder.{one_representative}
use Rattle.query_classes.proofs.Decided.{Decided}
use Rattle.query_verdicts.specs.TreeVerdicts.{IsVerdictAt, IsVerdictBelow}
use Rattle.query_verdicts.specs.declared.verdict.NameVerdict.{NameVerdict}

-- ---- each name has a verdict, where each query has one, and it is decided whether a class has a
-- representative

module _ {C : Type 0} (ground : Ground) (IsVerdictOf : Labels → C → Type 0) (nothing : C) (verdict_exists : (query : Labels) → IsName query → (verdict : C) × IsVerdictOf query verdict)
    (decided : (above : Labels) → IsName above → Decided ((query : Labels) × IsRepresentative ground (Below above) query)) where
  below_exists : (above : Labels) → IsName above → (below : Option C) × IsVerdictBelow ground IsVerdictOf above below
  below_exists above is = by (decided above is) where
    by : Decided ((query : Labels) × IsRepresentative ground (Below above) query) → (below : Option C) × IsVerdictBelow ground IsVerdictOf above below
    by (inr none) = (None, λ query stands. none (query, stands))
    by (inl (query, stands)) = let (verdict, right) = verdict_exists query stands.is_name in (Some verdict, (query, stands, right))

  exists : (name : Labels) → IsName name → (verdict : NameVerdict C) × IsVerdictAt ground IsVerdictOf name verdict
  exists name is =
      let (exact, right) = verdict_exists name is in
      let (below, also) = below_exists name is in
      (record { exact = exact; below = below }, record { exact = right; below = also })

  by_test : (name : Labels) (test : Bool) → is_name name ≡ test → NameVerdict C
  by_test name true e = (exists name (is_name_tells name e)).0
  by_test name false e = record { exact = nothing; below = None }

  -- the verdict of a name; of what isn't a name it says nothing
  pub verdict_of : Labels → NameVerdict C
  verdict_of name = by_test name (is_name name) refl

  tested : (name : Labels) (test : Bool) (e : is_name name ≡ test) → IsName name → IsVerdictAt ground IsVerdictOf name (by_test name test e)
  unfolding by_test
  tested name true e is = (exists name (is_name_tells name e)).1
  tested name false e is = let told : is_name name ≡ true = is_name_told name is in absurd (true≢false (sym told ∙ e))

  -- the verdict that is computed for a name is the name's verdict
  pub verdict_is : (name : Labels) → IsName name → IsVerdictAt ground IsVerdictOf name (verdict_of name)
  unfolding verdict_of
  verdict_is name is = tested name (is_name name) refl is

-- ---- a name has one verdict, where each query has one

module _ {C : Type 0} (ground : Ground) (IsVerdictOf : Labels → C → Type 0) (one_of_each : (query : Labels) (a b : C) → IsVerdictOf query a → IsVerdictOf query b → a ≡ b) where
  one_below : (above : Labels) (a b : Option C) → IsVerdictBelow ground IsVerdictOf above a → IsVerdictBelow ground IsVerdictOf above b → a ≡ b
  one_below above None None one other = refl
  one_below above None (Some verdict) none (query, represents, is) = absurd (none query represents)
  one_below above (Some verdict) None (query, represents, is) none = absurd (none query represents)
  one_below above (Some a) (Some b) (query, represents, is) (also, stands, other) =
      let same : also ≡ query = one_representative ground (Below above) also query stands represents in
      ap (λ (verdict : C). Some verdict) (one_of_each query a b is (subst (λ (name : Labels). IsVerdictOf name b) same other))

  -- a name has one verdict
  pub one_name_verdict : (name : Labels) (a b : NameVerdict C) → IsVerdictAt ground IsVerdictOf name a → IsVerdictAt ground IsVerdictOf name b → a ≡ b
  one_name_verdict name a b one other =
      ap (λ (verdict : C). record a { exact = verdict }) (one_of_each name a.exact b.exact one.exact other.exact)
      ∙ ap (λ (below : Option C). record b { below = below }) (one_below name a.below b.below one.below other.below)
