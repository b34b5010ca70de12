-- Each query that both configurations bound has the same outcomes in them exactly where the representative of its class
-- has, which they bound too.
use Rattle.std.proofs.Common.{◌↔◌, ℕ, List, [], ◌∷◌, Option, refl, sym, subst}
use Rattle.dns_data.specs.Name.{Labels, IsName}
use Rattle.dns_data.specs.declared.rr_type.RrType.{RrType}
use Rattle.dns_data.proofs.Membership.{has_first, has_later}
use Rattle.dns_data.proofs.NameFronts.{is_prefix_told}
use Rattle.net_model.specs.declared.class.Class.{Class}
use Rattle.net_model.specs.declared.class.Class.TheVariants.{Exact, Below}
use Rattle.net_model.specs.declared.config.Config.{Config}
use Rattle.net_model.specs.declared.walk.Leaf.{Leaf}
use Rattle.net_model.specs.Class.{class_name, IsClassOf, IsRepresentative}
use Rattle.net_model.specs.Learnt.{IsInForce}
use Rattle.net_model.specs.Reading.{Ground, Covers}
use Rattle.net_model.specs.Step.{following}
use Rattle.net_model.specs.Walk.{IsBoundedWith}
use Rattle.net_model.proofs.InForce.{one_in_force}
use Rattle.query_classes.specs.Children.{IsInTree}
use Rattle.query_classes.specs.Members.{IsInOneClass}
use Rattle.query_verdicts.specs.Carried.{at_all_names}
use Rattle.query_verdicts.specs.Subjects.{IsCovering}
use Rattle.query_verdicts.proofs.Carrying.{class_of_name}
use Rattle.query_verdicts.proofs.CoveringGrounds.{in_class, root_in_tree}
use Rattle.walk_laws.specs.Outcome.{HaveSameOutcomes}
use Rattle.walk_laws.proofs.JoinedGround.{joined_covers}
use Rattle.walk_laws.proofs.SameOutcomes.{bounded_representative, outcomes_of_representative}
use Rattle.same_answers.specs.Alike.{AllAlike, ClassesAlike, HasOutcomeIn, IsBoundedIn}
use Rattle.same_answers.specs.Compared.{Compared, joint}

-- a query of a configuration and the representative of its class, under a ground that covers the configuration
module _ (config : Config) (rewrites : ℕ) (ground : Ground) (covers : Covers ground config)
    (class : Class) (query representative : Labels) (is : IsName query)
    (of_class : IsClassOf ground query class) (stands : IsRepresentative ground class representative)
    (bounded : IsBoundedIn config rewrites query) where
  -- where the query is bounded, so is the representative
  pub bounded_too : IsBoundedIn config rewrites representative
  bounded_too =
      record {
        followed = bounded.followed;
        in_force = bounded.in_force;
        bounded = λ rtype.
            bounded_representative (following config rewrites bounded.followed) ground covers rtype class query representative is of_class stands
            (bounded.bounded rtype);
      }

  same_outcomes : (rtype : RrType) (followed : List Labels) → IsInForce config rewrites followed
      → HaveSameOutcomes (following config rewrites followed) query representative rtype
  same_outcomes rtype followed in_force =
      outcomes_of_representative (following config rewrites followed) ground covers rtype class query representative is of_class stands
      (subst (λ (set : List Labels). IsBoundedWith (following config rewrites set) query rtype)
      (one_in_force config rewrites bounded.followed followed bounded.in_force in_force) (bounded.bounded rtype))

  -- a query and its class's representative have the same outcomes, if the query is bounded
  pub outcomes_too : (rtype : RrType) (outcome : Option Leaf)
      → HasOutcomeIn config rewrites query rtype outcome ↔ HasOutcomeIn config rewrites representative rtype outcome
  outcomes_too rtype outcome = (
    λ has. record { followed = has.followed; in_force = has.in_force; has = (same_outcomes rtype has.followed has.in_force outcome).0 has.has },
    λ has. record { followed = has.followed; in_force = has.in_force; has = (same_outcomes rtype has.followed has.in_force outcome).1 has.has },
  )

module _ (two : Compared) where
  -- the joint ground covers both configurations
  pub covers_first : Covers (joint two) two.first
  covers_first = joined_covers (two.first ∷ two.second ∷ []) [] two.first (has_first two.first (two.second ∷ []))

  -- the joint ground covers the second configuration
  pub covers_second : Covers (joint two) two.second
  covers_second = joined_covers (two.first ∷ two.second ∷ []) [] two.second (has_later two.first (two.second ∷ []) two.second (has_first two.second []))

  -- the joint ground covers the first configuration, and the root is in its class tree
  pub is_covering : IsCovering (at_all_names two.first two.rewrites (joint two))
  is_covering = record { covers = covers_first; in_tree = root_in_tree two.first (joint two) covers_first }

  -- the class of a name is one of the joint tree
  pub class_in_tree : (class : Class) (query : Labels) → IsName query → IsClassOf (joint two) query class → IsInTree (joint two) (class_name class)
  class_in_tree class query is of_class =
      let part = class_of_name (at_all_names two.first two.rewrites (joint two)) is_covering class query is (is_prefix_told [] query (query, refl)) of_class in
      (part.named, part.is_name)

  -- the representative of a class of the joint tree is a name
  pub representative_is_name : (class : Class) (query : Labels) → IsInTree (joint two) (class_name class) → IsRepresentative (joint two) class query → IsName query
  representative_is_name (Exact alone) query in_tree same = subst IsName (sym same) in_tree.1
  representative_is_name (Below above) query in_tree stands = stands.is_name

  all_alike : ClassesAlike two → AllAlike two
  all_alike each query is (first, second) rtype outcome =
      let of : IsInOneClass (joint two) query = in_class two.first (joint two) covers_first query is in
      let (representative, stands) = of.stands in
      let of_first = outcomes_too two.first two.rewrites (joint two) covers_first of.class query representative is of.is stands.represents first rtype outcome in
      let of_second = outcomes_too two.second two.rewrites (joint two) covers_second of.class query representative is of.is stands.represents second rtype outcome in
      let alike =
      each of.class representative (class_in_tree of.class query is of.is) stands.represents (
        bounded_too two.first two.rewrites (joint two) covers_first of.class query representative is of.is stands.represents first,
        bounded_too two.second two.rewrites (joint two) covers_second of.class query representative is of.is stands.represents second,
      )
      rtype outcome in
      (λ has. of_second.1 (alike.0 (of_first.0 has)), λ has. of_first.1 (alike.1 (of_second.0 has)))

  -- Each query that both bound is alike in both exactly where each representative is that both bound. A query is in one
  -- class of the joint ground (CoveringGrounds.in_class), which covers both configurations (covers_first, covers_second);
  -- where they bound the query they bound the class's representative (bounded_too), which has the query's outcomes in each
  -- of them (outcomes_too). And a representative is itself such a query (representative_is_name).
  pub alike_by_classes : AllAlike two ↔ ClassesAlike two
  alike_by_classes = (
    λ all class query in_tree stands bounded. all query (representative_is_name class query in_tree stands) bounded,
    all_alike,
  )
