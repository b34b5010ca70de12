-- Walks that come back to a server and a name.
use Rattle.std.specs.Prelude.{◌≡◌, suc, Bool, List, ◌∷◌, ◌++◌, length, take, drop, Contains}
use Rattle.dns_data.specs.Name.{Labels}
use Rattle.net_model.specs.declared.place.Place.{Place}
use Rattle.net_model.specs.declared.walk.Hop.{Hop}
use Rattle.net_model.specs.declared.walk.Hop.TheVariants.{Rewrite}
use Rattle.net_model.specs.declared.walk.State.{State}
use Rattle.net_model.specs.declared.walk.Walk.{Walk}

-- two states of the walk have one server and one name; with the states before and between them
pub record ComesBack (walk : Walk) : Type 0 where
  pub before : List State
  pub first : State
  pub between : List State
  pub again : State
  pub after : List State
  pub states : walk.states ≡ before ++ first ∷ (between ++ again ∷ after)
  pub server : first.server ≡ again.server
  pub name : first.name ≡ again.name

-- what the walk takes from the first of the two states to the other
abbrev pub hops_round : (walk : Walk) → ComesBack walk → List Hop
hops_round walk back = take (suc (length back.between)) (drop (length back.before) walk.hops)

-- the place is that of a rewrite among the hops
abbrev pub RewritesAt : List Hop → Place → Type 0
RewritesAt hops place = (by_dname : Bool) × (to : Labels) × Contains hops (Rewrite place by_dname to)
