-- For the code alone, no public clause cites it: the words for targets by what walks of type A ask last, since those of all
-- types but CNAME go alike.
use Rattle.std.specs.Prelude.{◌≡◌, ◌&&◌, nat_lt, Bool, false, List, length, map, Option, Some, None, option_map, if◌then◌else◌}
use Rattle.std.specs.BTreeMap as maps
use Rattle.std.specs.List.{flat_map, list_any}
use Rattle.std.specs.Ordering.{ordering_then}
use Rattle.std.specs.declared.cmp.Ordering.{Ordering}
use Rattle.dns_data.specs.Name.{Labels, name_cmp, name_eq}
use Rattle.dns_data.specs.declared.rr_type.RrType.{RrType}
use Rattle.net_model.specs.declared.config.Config.{Config}
use Rattle.net_model.specs.declared.config.Zone.{Zone}
use Rattle.net_model.specs.declared.found.Found.{Found}
use Rattle.net_model.specs.declared.found.Found.TheVariants as found_as
use Rattle.net_model.specs.declared.walk.Leaf.{Leaf}
use Rattle.net_model.specs.declared.walk.Leaf.TheVariants as leaves
use Rattle.net_model.specs.declared.walk.Walk.{Walk}
use Rattle.net_model.specs.Lookup.{found}
use Rattle.net_model.specs.Nearest.{nearest_of}
use Rattle.net_model.specs.Step.{Setting}
use Rattle.plain_resolver.specs.WalkEnds.{zone_ends_of}
use Rattle.plain_resolver.specs.declared.walk_end.ZoneEnd.{ZoneEnd}
use Rattle.plain_resolver.proofs.AskedWalks.{all_walks}
use Rattle.name_ends.specs.Ends.{most_walks}
use Rattle.alias_ends.specs.Aliases.{WalksByName, ends_word, first_word, other_types, target_word}
use Rattle.alias_ends.specs.declared.words.TargetWord.{TargetWord}
use Rattle.alias_ends.specs.declared.words.AliasWord.{AliasWord}

-- ---- what is asked

-- walks, unless they are more than are followed
abbrev pub unless_many : List Walk → Option (List Walk)
unless_many walks = if nat_lt most_walks (length walks) then None else Some walks

-- all walks of each name with each type
unfoldable pub walks_in : Setting → WalksByName
walks_in setting server name rtype = unless_many (all_walks setting name rtype server)

-- what they ask last
abbrev pub ends_in : Setting → RrType → Option Labels → Labels → Option (List ZoneEnd)
ends_in setting rtype server name = option_map (flat_map zone_ends_of) (walks_in setting server name rtype)

-- what walks are read in, and the type with which names are asked for
pub record NamesAsked : Type 0 where
  pub setting : Setting
  pub rtype : RrType

-- two are one
abbrev pub end_eq : ZoneEnd → ZoneEnd → Bool
end_eq a b = name_eq a.server b.server && name_eq a.name b.name

-- their order
abbrev pub end_cmp : ZoneEnd → ZoneEnd → Ordering
end_cmp a b = ordering_then (name_cmp a.server b.server) (name_cmp a.name b.name)

-- ---- what is known

-- each entry of the map is what is known of its key
abbrev pub Knows : {K V : Type 0} → (K → K → Ordering) → (K → V) → maps.BTreeMap K V → Type 0
Knows {K = K} {V = V} cmp tell known = (key : K) (value : V) → maps.get cmp known key ≡ Some value → value ≡ tell key

-- the word for a target at a server
abbrev pub word_there : Setting → ZoneEnd → Option TargetWord
word_there setting at = target_word (walks_in setting) at.server at.name

-- ---- the word for each type

-- what was found where walks end in what a zone tells
abbrev pub leaf_of : Found → Leaf
leaf_of (found_as.Answer rdata) = leaves.Answer rdata
leaf_of found_as.NxDomain = leaves.NxDomain
leaf_of found = leaves.NoData

-- what a zone tells of the name
abbrev pub leaf_in : RrType → Labels → Option Zone → Leaf
leaf_in rtype name None = leaves.NoData
leaf_in rtype name (Some zone) = leaf_of (found zone name rtype)

-- what a zone tells with a type where a walk ends
abbrev pub leaf_at : Config → RrType → ZoneEnd → Leaf
leaf_at config rtype end = leaf_in rtype end.name (nearest_of config end.server end.name)

-- the word for a type
abbrev pub word_at : Config → List ZoneEnd → List ZoneEnd → RrType → Option AliasWord
word_at config here tops rtype = ends_word (map (leaf_at config rtype) here) (map (leaf_at config rtype) tops)

-- the word for a target, by what its walks from a server ask last, and by what those from the top servers do
abbrev pub word_by_ends : Config → Option (List ZoneEnd) → Option (List ZoneEnd) → Option TargetWord
word_by_ends config (Some here) (Some tops) = first_word (word_at config here tops) other_types
word_by_ends config here tops = None

-- a walk asks the server last, for the name
abbrev pub is_at : Labels → Labels → ZoneEnd → Bool
is_at server name end = name_eq server end.server && name_eq name end.name

-- some walk does, as far as they are followed
abbrev pub some_at : Labels → Labels → Option (List ZoneEnd) → Bool
some_at server name None = false
some_at server name (Some ends) = list_any (is_at server name) ends
