-- What the walks of a query end in, type by type.
use Rattle.std.specs.Prelude.{◌≡◌, Bool, true, false, ◌&&◌, List, [], ◌∷◌, map}
use Rattle.std.specs.List.{flat_map, list_any}
use lib.Pointwise.{pointwise}
use Rattle.dns_data.specs.Distinct.{distinct}
use Rattle.dns_data.specs.Name.{Labels, name_eq}
use Rattle.dns_data.specs.Rdata.{data_eq}
use Rattle.dns_data.specs.RrType.{types, type_eq}
use Rattle.dns_data.specs.declared.rr_type.RrType.{RrType}
use Rattle.graph_form.specs.FirstPath.{place_eq}
use Rattle.net_model.specs.Step.{Setting}
use Rattle.net_model.specs.Walk.{AreWalks}
use Rattle.net_model.specs.declared.walk.Leaf.{Leaf}
use Rattle.net_model.specs.declared.walk.Leaf.TheVariants.{Answer, NoData, NxDomain, Outside, Unhosted, Lame, Limit, Overlong, NoAddress}
use Rattle.net_model.specs.declared.walk.State.{State}
use Rattle.net_model.specs.declared.walk.Walk.{Walk}
use Rattle.site_checks.specs.declared.views.TypedEnd.{TypedEnd}

-- the server of the last state; a walk has at least one
abbrev pub last_server : List State → Labels
last_server [] = []
last_server (state ∷ []) = state.server
last_server (state ∷ next ∷ states) = last_server (next ∷ states)

-- an end with a type: at a server, by a leaf
abbrev pub typed_end : RrType → Labels → Leaf → TypedEnd
typed_end rtype server leaf = record { rtype = rtype; server = server; leaf = leaf }

-- the end of a walk with a type: the server of its last state, and its leaf
abbrev pub end_of : RrType → Walk → TypedEnd
end_of rtype walk = typed_end rtype (last_server walk.states) walk.leaf

-- two leaves are one
abbrev pub leaf_eq : Leaf → Leaf → Bool
leaf_eq (Answer a) (Answer b) = pointwise data_eq a b
leaf_eq NoData NoData = true
leaf_eq NxDomain NxDomain = true
leaf_eq Outside Outside = true
leaf_eq (Unhosted a) (Unhosted b) = name_eq a b
leaf_eq (Lame a) (Lame b) = name_eq a b
leaf_eq (Limit a) (Limit b) = place_eq a b
leaf_eq (Overlong a) (Overlong b) = place_eq a b
leaf_eq (NoAddress a) (NoAddress b) = name_eq a b
leaf_eq a b = false

-- two ends are one
abbrev pub end_eq : TypedEnd → TypedEnd → Bool
end_eq a b = type_eq a.rtype b.rtype && name_eq a.server b.server && leaf_eq a.leaf b.leaf

-- the end of each of these walks: type by type in the order of the types' numbers
abbrev pub all_ends : (RrType → List Walk) → List TypedEnd
all_ends walks = flat_map (λ rtype. map (end_of rtype) (walks rtype)) types

-- each of these ends once, where it comes first
abbrev pub ends_of : (RrType → List Walk) → List TypedEnd
ends_of walks = distinct end_eq (all_ends walks)

-- the ends are those of all walks of the query
pub record AreEnds (setting : Setting) (query : Labels) (ends : List TypedEnd) : Type 0 where
  pub walks : RrType → List Walk
  pub are_walks : (rtype : RrType) → AreWalks setting query rtype (walks rtype)
  pub are_ends : ends ≡ ends_of walks

-- the walk ends in data of the type
abbrev pub is_answer : Leaf → Bool
is_answer (Answer rdata) = true
is_answer leaf = false

-- some end of the type is an answer
abbrev pub is_answered : RrType → List TypedEnd → Bool
is_answered rtype ends = list_any (λ end. type_eq end.rtype rtype && is_answer end.leaf) ends
