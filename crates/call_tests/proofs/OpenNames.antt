-- Names with an open tail: none of a zone, and not told apart by a configuration.
use Rattle.std.proofs.Common.{◌≡◌, ◌∙◌, ◌≤◌, ◌++◌, ◌∷◌, [], false, List, ℕ, Option, Some, None, refl, ap, subst}
use Rattle.std.specs.Prelude.{IfSome}
use Rattle.dns_data.specs.Name.{Labels, wire_octets}
use Rattle.name_rules.specs.SymName.{tail_labels, whole}
use Rattle.name_rules.specs.declared.sym_name.SymName.{SymName}
use Rattle.net_model.specs.Class.{IsClassOf}
use Rattle.net_model.specs.Reading.{Ground, ground_of}
use Rattle.net_model.specs.Zone.{exists_in}
use Rattle.net_model.specs.declared.class.Class.{Class}
use Rattle.net_model.specs.declared.class.Class.TheVariants.{Below}
use Rattle.net_model.specs.declared.config.Config.{Config}
use Rattle.net_model.specs.declared.config.Zone.{Zone}
use Rattle.label_graph.specs.Pairs.{AreSame}
use Rattle.query_classes.proofs.SameGrounds.{unnamed_same}
use Rattle.interp_graph.specs.Asked.{AskedWith, IsAsked, IsOpenName}

-- a name that is below its class's name in the configuration's label graph is an open name
pub open_below : (config : Config) (graph : Ground) (name above : Labels) (class : Class) → wire_octets name ≤ 255
    → AreSame graph (ground_of config) → IsClassOf graph name class → class ≡ Below above → IsOpenName config name
open_below config graph name above class short same of below =
    record {
      short = short;
      unnamed = unnamed_same graph (ground_of config) same name (subst (λ (x : Class). IsClassOf graph name x) below of).0;
    }

-- a graph may be asked for of a known name with a tail that together make an open name
pub asked_with_tail : (config : Config) (name : SymName) (joined : Labels) → joined ≡ whole name → IsOpenName config joined → IsAsked config name
asked_with_tail config name joined is open_name = by name.tail where
  by : (tail : Option (List ℕ)) → AskedWith config name tail
  by None = tt
  by (Some label) = subst (λ (x : Labels). IsOpenName config x) is open_name

-- the name with its tail is none of the zone
pub missing_with_tail : (zone : Zone) (name : SymName) (joined : Labels) → joined ≡ whole name → exists_in zone joined ≡ false
    → IfSome name.tail (λ label. exists_in zone (name.known ++ label ∷ []) ≡ false)
missing_with_tail zone name joined is missing = by name.tail refl where
  by : (tail : Option (List ℕ)) → name.tail ≡ tail → IfSome tail (λ label. exists_in zone (name.known ++ label ∷ []) ≡ false)
  by None has = tt
  by (Some label) has =
      let made : joined ≡ name.known ++ label ∷ [] = is ∙ ap (λ t. name.known ++ tail_labels t) has in
      subst (λ (x : Labels). exists_in zone x ≡ false) made missing
