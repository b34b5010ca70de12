-- Each name is in one class, and a name stands for it: the class is found label by label, where each name has a live set.
use Rattle.std.proofs.Common.{◌≡◌, ℕ, ◌⊎◌, List, [], ◌∷◌, ◌++◌, inl, inr, sym, refl, subst, append_assoc, append-nil}
use Rattle.dns_data.specs.Name.{Labels, IsName}
use Rattle.net_model.specs.declared.class.Class.{Class}
use Rattle.net_model.specs.declared.class.Class.TheVariants.{Exact, Below}
use Rattle.net_model.specs.Class.{IsClassOf}
use Rattle.net_model.specs.Reading.{Ground, IsNamed}
use Rattle.label_graph.specs.LiveSet.{IsClosed, IsLiveSet}
use Rattle.label_graph.specs.Pairs.{AreSame}
use Rattle.query_classes.specs.Members.{RepresentsClass, IsInOneClass}
use Rattle.net_model.proofs.OneClass.{one_class}
use Rattle.query_classes.proofs.ClassLaws.{in_below, below_stood, stands_exact, first_label_of, not_named, live_named}
use Rattle.query_classes.proofs.FirstFree.{first_free}
use Rattle.query_classes.proofs.SameGrounds.{class_same, stands_same}

module _ (ground : Ground) (closed : IsClosed ground) (live : (name : Labels) → (places : List ℕ) × IsLiveSet ground name places) where
  -- a name is named or not
  pub named_or_not : (name : Labels) → IsNamed ground name ⊎ (IsNamed ground name → ⊥)
  named_or_not name = by (live name).0 (live name).1 where
    by : (places : List ℕ) → IsLiveSet ground name places → IsNamed ground name ⊎ (IsNamed ground name → ⊥)
    by [] of = inr (not_named ground name [] of refl)
    by (place ∷ places) of = inl (live_named ground name (place ∷ places) of (λ none. cc))

  -- a name at or below a named one
  class_from : (above rest : Labels) → IsNamed ground above → IsName (above ++ rest)
      → (class : Class) × IsClassOf ground (above ++ rest) class × ((name : Labels) × RepresentsClass ground class name)
  class_from above [] named is =
      let whole : above ++ [] ≡ above = append-nil above in (
        Exact (above ++ []),
        (refl, subst (IsNamed ground) (sym whole) named),
        (above ++ [], stands_exact ground closed (above ++ []) (subst (IsNamed ground) (sym whole) named) is),
      )
  class_from above (label ∷ rest) named is =
      elim (named_or_not (above ++ label ∷ [])) [
        | inl further ↦ (
            let whole : (above ++ label ∷ []) ++ rest ≡ above ++ label ∷ rest = append_assoc above (label ∷ []) rest in
            let (class, of, stands) = class_from (above ++ label ∷ []) rest further (subst IsName (sym whole) is) in
            (class, subst (λ (n : Labels). IsClassOf ground n class) whole of, stands))
        | inr unnamed ↦ (
            let (first, is_first) = first_free ground closed above (live above).0 (live above).1 label (first_label_of above label rest is) unnamed in (
              Below above,
              in_below ground closed above label rest named unnamed,
              (above ++ first ∷ [], below_stood ground closed above first label rest named unnamed is is_first),
            ))
      ]

  -- each name is in one class, for which a name stands
  pub in_one_class : (query : Labels) → IsName query → IsInOneClass ground query
  in_one_class query is =
      let (class, of, stands) = class_from [] query (record { base = []; among = closed.names.root; reads = ([], refl) }) is in
      record { class = class; is = of; one = λ other also. one_class ground query class other of also; stands = stands }

-- a name that is in one class of a ground is in one class of each ground with the same names and redirections
pub one_class_same : (one other : Ground) → AreSame one other → (query : Labels) → IsInOneClass one query → IsInOneClass other query
one_class_same one other same query is =
    let of : IsClassOf other query is.class = class_same one other same query is.class is.is in
    record {
      class = is.class;
      is = of;
      one = λ class also. one_class other query is.class class of also;
      stands = (is.stands.0, stands_same one other same is.class is.stands.0 is.stands.1);
    }
