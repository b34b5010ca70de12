-- Names that represent their class.
use Rattle.std.proofs.Common.{◌≡◌, ◌↔◌, subst}
use Rattle.dns_data.specs.Name.{Labels}
use Rattle.label_graph.specs.Pairs.{AreSame}
use Rattle.net_model.specs.Class.{IsClassOf, IsRepresentative}
use Rattle.net_model.specs.Reading.{Ground}
use Rattle.net_model.specs.declared.class.Class.{Class}
use Rattle.net_model.proofs.OneClass.{one_class}
use Rattle.net_model.proofs.TrialOrder.{one_representative}
use Rattle.query_classes.proofs.SameGrounds.{class_same, represents_same, same_back}

-- the name represents its class
abbrev pub StandsForIts : Ground → Labels → Type 0
StandsForIts ground query = (class : Class) × IsClassOf ground query class × IsRepresentative ground class query

-- the representative of a query's class is the query exactly if the query represents its class
pub stands_told : (ground : Ground) (query : Labels) (class : Class) → IsClassOf ground query class → (name : Labels) → IsRepresentative ground class name
    → (name ≡ query) ↔ StandsForIts ground query
stands_told ground query class is name stands = (
  λ same. (class, is, subst (IsRepresentative ground class) same stands),
  λ (other, also, represents).
      one_representative ground class name query stands
      (subst (λ (c : Class). IsRepresentative ground c query) (one_class ground query class other is also) represents),
)

-- a name that represents its class under a ground does so under each ground with the same names and redirections
pub stands_alike : (one other : Ground) → AreSame one other → (query : Labels) → StandsForIts one query → StandsForIts other query
stands_alike one other same query (class, is, represents) =
    (class, class_same one other same query class is, represents_same one other same class query represents)

-- under grounds that are the same the same names stand for their classes
pub stands_both : (one other : Ground) → AreSame one other → (query : Labels) → StandsForIts one query ↔ StandsForIts other query
stands_both one other same query = (stands_alike one other same query, stands_alike other one (same_back one other same) query)
