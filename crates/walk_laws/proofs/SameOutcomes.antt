-- A query that is bounded and a name with another unnamed tail in place of its own have the same outcomes.
use Rattle.std.proofs.Common.{◌≡◌, ℕ, ◌≤◌, List, ◌∷◌, ◌++◌, length, Option, Some, None, option_map, sym, refl, ap, ◌∙◌, subst, inl, inr, arith}
use Rattle.std.proofs.lemmas.Bool.{cases_lt}
use Rattle.dns_data.specs.Name.{Labels, IsName, wire_octets}
use Rattle.dns_data.specs.declared.rr_type.RrType.{RrType}
use Rattle.net_model.specs.declared.class.Class.{Class}
use Rattle.net_model.specs.declared.class.Class.TheVariants.{Exact, Below}
use Rattle.net_model.specs.declared.walk.Walk.{Walk}
use Rattle.net_model.specs.Class.{IsClassOf, IsRepresentative}
use Rattle.net_model.specs.Reading.{Ground, Covers}
use Rattle.net_model.specs.Retail.{retail}
use Rattle.net_model.specs.Step.{Setting}
use Rattle.net_model.specs.Tails.{AreTails}
use Rattle.net_model.specs.Walk.{IsWalk, IsBoundedWith, walk_along}
use Rattle.walk_laws.specs.Outcome.{outcome_of, HaveSameOutcomes}
use Rattle.walk_laws.proofs.WalksAlike.ClassTails.{UnnamedBelow, named_everywhere, member_below, tail_of, class_tails}
use Rattle.walk_laws.proofs.WalksAlike.QueryWalks.{walks_as}

-- what an image is of
image_of : {A B : Type 0} (f : A → B) (o : Option A) (b : B) → option_map f o ≡ Some b → (a : A) × (o ≡ Some a) × (f a ≡ b)
image_of f None b e = absurd cc
image_of f (Some a) b e = (a, refl, cc)

-- ---- of two tails

module _ (setting : Setting) (above own other : Labels) (tails : AreTails setting.config above own other) (rtype : RrType)
    (bounded : IsBoundedWith setting (above ++ own) rtype) where
  abbrev changed : Walk → Walk
  changed = retail (length own) other

  same_along : (numbers : List ℕ)
      → walk_along setting (above ++ other) rtype numbers ≡ option_map changed (walk_along setting (above ++ own) rtype numbers)
  same_along numbers = let alike = walks_as setting above own other tails rtype in alike.along bounded numbers

  -- each walk of the other name is one of the query, with the tail replaced
  from_own : (walk : Walk) → IsWalk setting (above ++ other) rtype walk
      → (of_own : Walk) × IsWalk setting (above ++ own) rtype of_own × (changed of_own ≡ walk)
  from_own walk (numbers, is) =
      let found = image_of changed (walk_along setting (above ++ own) rtype numbers) walk (sym (same_along numbers) ∙ is) in
      (found.0, (numbers, found.1), found.2)

  -- so the other name is bounded too: a walk ends as the one that it was made of
  bounded_too : IsBoundedWith setting (above ++ other) rtype
  bounded_too walk place is e =
      let of_own = from_own walk is in
      bounded of_own.0 place of_own.1 (ap (λ (w : Walk). w.leaf) of_own.2 ∙ e)

  -- The two names have the same outcomes. The same numbers walk for both, the walk of the other name being that of the
  -- query with the tail replaced (same_along, from QueryWalks.walks_as), and a tail plays no part in what an end tells; and
  -- each walk of the other name comes from one of the query (from_own).
  same_outcomes : HaveSameOutcomes setting (above ++ own) (above ++ other) rtype
  same_outcomes outcome = (
    (λ has. (changed has.0, (has.1.0, same_along has.1.0 ∙ ap (option_map changed) has.1.1), has.2)),
    (λ has. let of_own = from_own has.0 has.1 in (of_own.0, of_own.1, ap (λ (w : Walk). outcome_of w.leaf) of_own.2 ∙ has.2)),
  )

-- what is said of two names is said of them in the other order
turned_round : (setting : Setting) (one other : Labels) (rtype : RrType) → HaveSameOutcomes setting one other rtype → HaveSameOutcomes setting other one rtype
turned_round setting one other rtype same outcome = let both = same outcome in (both.1, both.0)

-- ---- of a class

-- a query that is bounded and the representative of its class, under a ground that covers the configuration
module _ (setting : Setting) (ground : Ground) (covers : Covers ground setting.config) (rtype : RrType) where
  -- The representative of the class of a bounded query is bounded too. It is the query itself where the class is of one
  -- name; below a name the two are this name with two tails (ClassTails.class_tails), of which the representative's is no
  -- longer, and then a walk of the representative ends as the walk of the query that it comes from (bounded_too).
  pub bounded_representative : (class : Class) (query representative : Labels) → IsName query
      → IsClassOf ground query class → IsRepresentative ground class representative
      → IsBoundedWith setting query rtype → IsBoundedWith setting representative rtype
  bounded_representative (Exact alone) query representative is of_class stands bounded =
      subst (λ (name : Labels). IsBoundedWith setting name rtype) (sym (stands ∙ of_class.0)) bounded
  bounded_representative (Below above) query representative is of_class stands bounded =
      let (own, other, query_is, other_is, tails) = class_tails setting.config ground covers above query representative is of_class stands in
      subst (λ (name : Labels). IsBoundedWith setting name rtype) (sym other_is)
      (bounded_too setting above own other tails rtype (subst (λ (name : Labels). IsBoundedWith setting name rtype) query_is bounded))

  -- A bounded query and the representative of its class have the same outcomes: they are one name, or one name with two
  -- tails (ClassTails.class_tails), and so walk alike (same_outcomes).
  pub outcomes_of_representative : (class : Class) (query representative : Labels) → IsName query
      → IsClassOf ground query class → IsRepresentative ground class representative
      → IsBoundedWith setting query rtype → HaveSameOutcomes setting query representative rtype
  outcomes_of_representative (Exact alone) query representative is of_class stands bounded =
      subst (λ (name : Labels). HaveSameOutcomes setting query name rtype) (sym (stands ∙ of_class.0)) (λ outcome. ((λ has. has), (λ has. has)))
  outcomes_of_representative (Below above) query representative is of_class stands bounded =
      let (own, other, query_is, other_is, tails) = class_tails setting.config ground covers above query representative is of_class stands in
      subst (λ (name : Labels). HaveSameOutcomes setting query name rtype) (sym other_is)
      (subst (λ (name : Labels). HaveSameOutcomes setting name (above ++ other) rtype) (sym query_is)
      (same_outcomes setting above own other tails rtype (subst (λ (name : Labels). IsBoundedWith setting name rtype) query_is bounded)))

  -- of two members of a class below a name the one with no more octets walks as the other
  below_alike : (above one other : Labels) (of_one : UnnamedBelow ground above one) (of_other : UnnamedBelow ground above other)
      → wire_octets (above ++ of_other.first ∷ of_other.rest) ≤ wire_octets (above ++ of_one.first ∷ of_one.rest)
      → IsBoundedWith setting one rtype → HaveSameOutcomes setting one other rtype
  below_alike above one other of_one of_other fits bounded =
      let told = named_everywhere setting.config ground covers in
      let tails : AreTails setting.config above (of_one.first ∷ of_one.rest) (of_other.first ∷ of_other.rest) = record {
        of_own = tail_of setting.config ground told above one of_one;
        of_other = tail_of setting.config ground told above other of_other;
        no_longer = fits;
      } in
      subst (λ (name : Labels). HaveSameOutcomes setting one name rtype) (sym of_other.is)
      (subst (λ (name : Labels). HaveSameOutcomes setting name (above ++ of_other.first ∷ of_other.rest) rtype) (sym of_one.is)
      (same_outcomes setting above (of_one.first ∷ of_one.rest) (of_other.first ∷ of_other.rest) tails rtype
      (subst (λ (name : Labels). IsBoundedWith setting name rtype) of_one.is bounded)))

  -- Two bounded queries of one class have the same outcomes. In a class of one name they are equal. Below a name each is
  -- this name with a tail that the ground doesn't name (ClassTails.member_below), nor then the configuration, which the
  -- ground covers (ClassTails.named_everywhere, tail_of). The one with no more octets walks as the other
  -- (QueryWalks.walks_as):
  -- number by number the walks end alike, but for the tail, of which an end tells nothing (same_outcomes). Neither need be
  -- a representative, so either may be the one with fewer octets (below_alike, turned_round).
  pub outcomes_in_class : (class : Class) (one other : Labels) → IsClassOf ground one class → IsClassOf ground other class
      → IsBoundedWith setting one rtype → IsBoundedWith setting other rtype → HaveSameOutcomes setting one other rtype
  outcomes_in_class (Exact alone) one other of_one of_other bounded bounded_other =
      subst (λ (name : Labels). HaveSameOutcomes setting one name rtype) (sym of_one.0 ∙ of_other.0) (λ outcome. ((λ has. has), (λ has. has)))
  outcomes_in_class (Below above) one other of_one of_other bounded bounded_other =
      let below_one = member_below ground above one of_one in
      let below_other = member_below ground above other of_other in
      elim (cases_lt (wire_octets (above ++ below_one.first ∷ below_one.rest)) (wire_octets (above ++ below_other.first ∷ below_other.rest))) [
        | inl less ↦ turned_round setting other one rtype (below_alike above other one below_other below_one (omega (arith, less)) bounded_other)
        | inr fits ↦ below_alike above one other below_one below_other fits bounded
      ]
