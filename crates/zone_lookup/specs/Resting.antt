-- Names that rest: their walks end at the top servers, where they begin.
use Rattle.std.specs.Prelude.{◌≡◌, ◌↔◌, ◌||◌, ℕ, Bool, true, false, List, [], ◌∷◌, map, None}
use Rattle.dns_data.specs.Name.{Labels}
use Rattle.dns_data.specs.declared.rdata.Rdata.{Rdata}
use Rattle.dns_data.specs.declared.rr_type.RrType.{RrType}
use Rattle.dns_data.specs.declared.rr_type.RrType.TheVariants as types
use Rattle.net_model.specs.declared.config.Config.{Config}
use Rattle.net_model.specs.declared.walk.Leaf.{Leaf}
use Rattle.net_model.specs.declared.walk.Leaf.TheVariants.{Answer, NoData}
use Rattle.net_model.specs.declared.walk.Walk.{Walk}
use Rattle.net_model.specs.Learnt.{Learns, gives_address}
use Rattle.net_model.specs.Nearest.{nearest_of}
use Rattle.net_model.specs.Order.{in_order}
use Rattle.net_model.specs.Step.{End, arrived, following, next, start}
use Rattle.net_model.specs.Walk.{AreWalks}
use Rattle.net_model.specs.Zone.{data_at, data_cmp}
use Rattle.zone_tree.specs.Tree.{ZoneTree, name_of}

-- The name rests: whichever servers are followed, it has with each type one walk for each state in which its walks begin,
-- and no other state stands on that walk. So it's told whether an address of the name can be learnt.
pub record Rests (config : Config) (name : Labels) (learnt : Bool) : Type 0 where
  pub walks : (rewrites : ℕ) (followed : List Labels) (rtype : RrType) → (all : List Walk)
      × AreWalks (following config rewrites followed) name rtype all × (map (λ walk. walk.states) all ≡ map (λ state. state ∷ []) (start config name))
  pub learns : (rewrites : ℕ) (followed : List Labels) → (learnt ≡ true) ↔ Learns (following config rewrites followed) name

-- The walks of the name that begin at the server, or at another that looks it up in the same zone, end there, whichever
-- servers are followed; it's told whether one with an address type gives an address. The contracts of inner calls alone
-- cite what follows.
pub record EndsAt (config : Config) (name server : Labels) (gives : Bool) : Type 0 where
  pub leaf : RrType → Leaf
  pub ends : (other : Labels) → nearest_of config other name ≡ nearest_of config server name → (rewrites : ℕ) (followed : List Labels) (rtype : RrType)
      → next (following config rewrites followed) rtype (arrived config name true 0 None other) ≡ End None (leaf rtype) ∷ []
  pub is_given : gives ≡ (gives_address (leaf types.A) || gives_address (leaf types.Aaaa))

-- walks of the name end at each of the servers where they begin, and it's told whether one of them gives an address
abbrev pub AreEnds : Config → Labels → List Labels → Bool → Type 0
AreEnds config name [] given = given ≡ false
AreEnds config name (server ∷ servers) given =
    (here : Bool) × (later : Bool) × EndsAt config name server here × AreEnds config name servers later × (given ≡ (here || later))

-- what a walk ends in by an owner's data of the type
abbrev pub data_leaf : List Rdata → Leaf
data_leaf [] = NoData
data_leaf (first ∷ rest) = Answer (first ∷ rest)

-- what a walk with the type ends in at the records of the tree's node, which are no alias
abbrev pub records_leaf : ZoneTree → ℕ → RrType → Leaf
records_leaf tree owner rtype = data_leaf (in_order data_cmp (data_at tree.zone (name_of tree owner) rtype))
