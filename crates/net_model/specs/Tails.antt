-- Names that differ only in labels that nothing in a configuration names, and how one of them walks as the other.
use Rattle.std.specs.Prelude.{◌≡◌, ℕ, ◌≤◌, Bool, true, false, List, [], ◌∷◌, ◌++◌, length, map, Some, option_map}
use Rattle.dns_data.specs.Name.{Labels, wire_octets}
use Rattle.dns_data.specs.declared.rr_type.RrType.{RrType}
use Rattle.net_model.specs.declared.config.Config.{Config}
use Rattle.net_model.specs.declared.walk.Hop.{Hop}
use Rattle.net_model.specs.declared.walk.Leaf.{Leaf}
use Rattle.net_model.specs.declared.walk.Leaf.TheVariants.{Overlong}
use Rattle.net_model.specs.declared.walk.State.{State}
use Rattle.net_model.specs.declared.walk.Walk.{Walk}
use Rattle.net_model.specs.Reading.{IsNamed, ground_of}
use Rattle.net_model.specs.Retail.{retail}
use Rattle.net_model.specs.Step.{Setting}
use Rattle.net_model.specs.Walk.{IsWalk, AreWalks, IsBoundedWith, walk_along}

-- one label or more below a name, of which the first makes an unnamed name
pub record IsUnnamedTail (config : Config) (above tail : Labels) : Type 0 where
  pub first : List ℕ
  pub rest : Labels
  pub is : tail ≡ first ∷ rest
  pub unnamed : IsNamed (ground_of config) (above ++ first ∷ []) → ⊥

-- Two unnamed tails of one name: the query's own, and another one, with which the name has no more octets than the
-- query.
pub record AreTails (config : Config) (above own other : Labels) : Type 0 where
  pub of_own : IsUnnamedTail config above own
  pub of_other : IsUnnamedTail config above other
  pub no_longer : wire_octets (above ++ other) ≤ wire_octets (above ++ own)

-- the walk ends where the rewritten name has more than 255 octets (RFC 6672 section 2.2)
abbrev pub is_overlong : Leaf → Bool
is_overlong (Overlong place) = true
is_overlong leaf = false

-- the walk's states and hops are the first ones of another's
pub record IsFrontOf (walk whole : Walk) : Type 0 where
  pub states : List State
  pub states_are : whole.states ≡ walk.states ++ states
  pub hops : List Hop
  pub hops_are : whole.hops ≡ walk.hops ++ hops

-- The query is the name with its own tail. With the other tail in its place the name walks as the query does, up to the
-- labels of the tails.
pub record WalksAs (setting : Setting) (rtype : RrType) (above own other : Labels) : Type 0 where
  -- a walk of the query that doesn't end overlong is, with the tail replaced, the other name's walk by the same branches
  pub walks : (numbers : List ℕ) (walk : Walk) → walk_along setting (above ++ own) rtype numbers ≡ Some walk
      → is_overlong walk.leaf ≡ false
      → walk_along setting (above ++ other) rtype numbers ≡ Some (retail (length own) other walk)
  -- where no walk of the query ends overlong, the two names have the same walks, item by item
  pub bounded : IsBoundedWith setting (above ++ own) rtype → (walks : List Walk) → AreWalks setting (above ++ own) rtype walks
      → AreWalks setting (above ++ other) rtype (map (retail (length own) other) walks)
  -- where no walk of the query ends overlong, each list of numbers leads the two names along the same walk, or along none
  pub along : IsBoundedWith setting (above ++ own) rtype → (numbers : List ℕ)
      → walk_along setting (above ++ other) rtype numbers
      ≡ option_map (retail (length own) other) (walk_along setting (above ++ own) rtype numbers)
  -- a walk of the query that ends overlong is, with the tail replaced, the front of a walk of the other name
  pub overlong : (walk : Walk) → IsWalk setting (above ++ own) rtype walk → is_overlong walk.leaf ≡ true
      → (whole : Walk) × IsWalk setting (above ++ other) rtype whole × IsFrontOf (retail (length own) other walk) whole
