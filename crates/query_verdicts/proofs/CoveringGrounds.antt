-- A ground that covers a configuration is closed, and so each name is in one class of it, at or below a named name where
-- the name is.
use Rattle.std.proofs.Common.{◌≡◌, ◌≤◌, [], ◌∷◌, ◌++◌, length, refl, sym, subst, arith}
use Rattle.dns_data.specs.Name.{Labels, IsName}
use Rattle.dns_data.proofs.Names.{root_is_name}
use Rattle.net_model.specs.declared.class.Class.{Class}
use Rattle.net_model.specs.declared.class.Class.TheVariants.{Exact, Below}
use Rattle.net_model.specs.declared.config.Config.{Config}
use Rattle.net_model.specs.Class.{class_name, IsClassOf}
use Rattle.net_model.specs.Reading.{Ground, IsNamed, Covers, ground_of}
use Rattle.walk_laws.proofs.JoinedGround.{own_covers}
use Rattle.label_graph.specs.LiveSet.{IsClosed}
use Rattle.query_classes.specs.Children.{IsInTree}
use Rattle.query_classes.specs.Members.{IsInOneClass}
use Rattle.query_classes.proofs.LiveSetsExist.{live_set_of}
use Rattle.query_classes.proofs.Partition.{in_one_class}

-- a ground that covers a configuration has the root, the prefixes of its names and the owners of its redirections
pub is_closed : (config : Config) (ground : Ground) → Covers ground config → IsClosed ground
is_closed config ground covers =
    record { names = record { root = covers.root; prefixes = covers.prefixes }; redirected = covers.redirected }

-- the root is in the class tree of a ground that covers a configuration
pub root_in_tree : (config : Config) (ground : Ground) → Covers ground config → IsInTree ground []
root_in_tree config ground covers = (record { base = []; among = covers.root; reads = ([], refl) }, root_is_name)

-- each name is in one class of a ground that covers a configuration
pub in_class : (config : Config) (ground : Ground) → Covers ground config → (query : Labels) → IsName query → IsInOneClass ground query
in_class config ground covers query is =
    let closed : IsClosed ground = is_closed config ground covers in in_one_class ground closed (live_set_of ground closed) query is

-- each name is in one class of a configuration's own ground
pub in_own_class : (config : Config) (query : Labels) → IsName query → IsInOneClass (ground_of config) query
in_own_class config = in_class config (ground_of config) (own_covers config)

-- the name of a query's class is named
pub class_is_named : (ground : Ground) (class : Class) (query : Labels) → IsClassOf ground query class → IsNamed ground (class_name class)
class_is_named ground (Exact alone) query (same, named) = subst (IsNamed ground) (sym same) named
class_is_named ground (Below above) query (unnamed, longest) = longest.named

-- the class of a query at or below a named name is at or below that name
pub class_at_or_below : (ground : Ground) (scope below : Labels) (class : Class) → IsNamed ground scope → IsClassOf ground (scope ++ below) class
    → (rest : Labels) × (class_name class ≡ scope ++ rest)
class_at_or_below ground scope below (Exact alone) named of_class = (below, of_class.0)
class_at_or_below ground scope below (Below above) named (unnamed, longest) =
    let long : length scope ≤ length above = longest.longest scope below refl named in
    split above longest.below scope below (sym longest.prefix) long
  where
    split : (a b c d : Labels) → a ++ b ≡ c ++ d → length c ≤ length a → (rest : Labels) × (a ≡ c ++ rest)
    split a b [] d e long = (a, refl)
    split [] b (x ∷ c) d e long = absurd (omega arith)
    split (y ∷ a) b (x ∷ c) d e long =
        let rest = split a b c d (cc) (omega arith) in
        let head : y ≡ x = cc in
        (rest.0, cc)
