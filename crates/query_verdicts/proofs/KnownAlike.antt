-- What is known of one name of a class is known of each other one that has as many octets: they walk alike.
use Rattle.std.proofs.Common.{◌≡◌, ℕ, ◌≤◌, Bool, true, false, List, [], ◌∷◌, ◌++◌, length, Contains, refl, sym, ap, ◌∙◌, subst, inl, inr, arith}
use Rattle.std.proofs.lemmas.List.Elements.{Contains-append_cases}
use Rattle.dns_data.specs.Name.{Labels, wire_octets}
use Rattle.dns_data.specs.declared.rr_type.RrType.{RrType}
use Rattle.dns_data.specs.declared.rr_type.RrType.TheVariants as types
use Rattle.dns_data.proofs.Membership.{first_or_later, none_in_nil}
use Rattle.net_model.specs.declared.class.Class.TheVariants.{Below}
use Rattle.net_model.specs.declared.config.Config.{Config}
use Rattle.net_model.specs.declared.walk.Leaf.{Leaf}
use Rattle.net_model.specs.declared.walk.Leaf.TheVariants.{Answer, NoData, NxDomain, Outside, Unhosted, Lame, Limit, Overlong, NoAddress}
use Rattle.net_model.specs.Class.{IsClassOf}
use Rattle.net_model.specs.Learnt.{Learns, LearnsBy, gives_address}
use Rattle.net_model.specs.Reading.{Ground, ground_of}
use Rattle.net_model.specs.Retail.{retail}
use Rattle.net_model.specs.Step.{following}
use Rattle.net_model.specs.Tails.{AreTails, IsUnnamedTail, is_overlong}
use Rattle.label_graph.specs.Pairs.{AreSame}
use Rattle.query_classes.proofs.SameGrounds.{unnamed_same}
use Rattle.walk_laws.proofs.WalksAlike.ClassTails.{member_below}
use Rattle.walk_laws.proofs.WalksAlike.QueryWalks.{reaches_more, walks_as}
use Rattle.query_verdicts.specs.Learnt.{IsKnownBelow, IsKnownOf}
use Rattle.query_verdicts.specs.declared.known_classes.KnownBelow.{KnownBelow}

-- an end that gives an address isn't overlong
not_overlong : (leaf : Leaf) → gives_address leaf ≡ true → is_overlong leaf ≡ false
not_overlong (Answer rdata) gives = refl
not_overlong NoData gives = refl
not_overlong NxDomain gives = refl
not_overlong Outside gives = refl
not_overlong (Unhosted ns) gives = refl
not_overlong (Lame ns) gives = refl
not_overlong (Limit place) gives = refl
not_overlong (NoAddress ns) gives = refl
not_overlong (Overlong place) gives = cc

module _ (config : Config) (rewrites : ℕ) (above own other : Labels) (tails : AreTails config above own other) where
  -- if an address of the name with its own tail is learnt, one is with the other tail
  learnt_alike : (followed : List Labels) → Learns (following config rewrites followed) (above ++ own) → Learns (following config rewrites followed) (above ++ other)
  learnt_alike followed learns = elim learns [ inl four ↦ inl (by types.A four) | inr six ↦ inr (by types.Aaaa six) ] where
    by : (rtype : RrType) → LearnsBy (following config rewrites followed) (above ++ own) rtype → LearnsBy (following config rewrites followed) (above ++ other) rtype
    by rtype one =
        record {
          walk = retail (length own) other one.walk;
          is_walk = (
            one.is_walk.0,
            (walks_as (following config rewrites followed) above own other tails rtype).walks one.is_walk.0 one.walk one.is_walk.1 (not_overlong one.walk.leaf one.ends),
          );
          ends = one.ends;
        }

-- what is known of the name with its own tail is known of it with another one of as many octets
known_alike : (config : Config) (rewrites states : ℕ) (above own other : Labels) (learnt : Bool) → IsUnnamedTail config above own → IsUnnamedTail config above other
    → wire_octets (above ++ own) ≡ wire_octets (above ++ other) → IsKnownOf config rewrites states (above ++ own) learnt
    → IsKnownOf config rewrites states (above ++ other) learnt
known_alike config rewrites states above own other learnt of_own of_other same (told, few) =
    let there : AreTails config above own other = record { of_own = of_own; of_other = of_other; no_longer = omega (arith, same) } in
    let back : AreTails config above other own = record { of_own = of_other; of_other = of_own; no_longer = omega (arith, same) } in (
      λ followed servers. (
        λ yes. learnt_alike config rewrites above own other there followed ((told followed servers).0 yes),
        λ learns. (told followed servers).1 (learnt_alike config rewrites above other own back followed learns),
      ),
      λ passes. few (reaches_more config rewrites above other own back states passes),
    )

module _ (config : Config) (names : Ground) (same : AreSame names (ground_of config)) (above name : Labels) (of : IsClassOf names name (Below above)) where
  -- a name of a class below another is that one with an unnamed tail
  tail_in_class : (tail : Labels) × IsUnnamedTail config above tail × (name ≡ above ++ tail)
  tail_in_class =
      let below = member_below names above name of in (
        below.first ∷ below.rest,
        record {
          first = below.first;
          rest = below.rest;
          is = refl;
          unnamed = unnamed_same names (ground_of config) same (above ++ below.first ∷ []) below.unnamed;
        },
        below.is,
      )

  -- so what is known of the names in the class with as many octets is known of it
  pub known_by_class : (rewrites states : ℕ) (one : KnownBelow) → IsKnownBelow config rewrites states one → one.above ≡ above → one.octets ≡ wire_octets name
      → IsKnownOf config rewrites states name one.learnt
  known_by_class rewrites states one known at long =
      let (tail, is, whole) = tail_in_class in
      let here : one.above ++ tail ≡ name = ap (λ (n : Labels). n ++ tail) at ∙ sym whole in
      subst (λ (n : Labels). IsKnownOf config rewrites states n one.learnt) here
      (known tail (subst (λ (n : Labels). IsUnnamedTail config n tail) (sym at) is) (ap wire_octets here ∙ sym long))

  -- and what is known of it is known of those
  pub known_for_class : (rewrites states : ℕ) (learnt : Bool) → IsKnownOf config rewrites states name learnt
      → IsKnownBelow config rewrites states (record { above = above; octets = wire_octets name; learnt = learnt })
  known_for_class rewrites states learnt known other of_other long =
      let (tail, is, whole) = tail_in_class in
      known_alike config rewrites states above tail other learnt is of_other (ap wire_octets (sym whole) ∙ sym long)
      (subst (λ (n : Labels). IsKnownOf config rewrites states n learnt) whole known)

-- with one thing more that holds all that is known holds
pub one_more_known : (config : Config) (rewrites states : ℕ) (known : List KnownBelow) (one : KnownBelow)
    → ((other : KnownBelow) → Contains known other → IsKnownBelow config rewrites states other) → IsKnownBelow config rewrites states one
    → (other : KnownBelow) → Contains (known ++ one ∷ []) other → IsKnownBelow config rewrites states other
one_more_known config rewrites states known one each holds other has =
    elim (Contains-append_cases known (one ∷ []) other has) [
      | inl old ↦ each other old
      | inr last ↦ elim (first_or_later one [] other last) [
        | inl same ↦ subst (IsKnownBelow config rewrites states) same holds
        | inr none ↦ absurd (none_in_nil other none)
      ]
    ]
