-- How the walks of each name end, as a function, and what is known of it. That these are its ends, the lemma
-- `ends_are` says.
use Rattle.std.specs.Prelude.{◌≡◌, nat_lt, Bool, List, length, Option, Some, None, if◌then◌else◌}
use Rattle.std.specs.BTreeMap as map
use Rattle.std.specs.List.{flat_map, list_any}
use Rattle.dns_data.specs.Name.{Labels, name_cmp}
use Rattle.dns_data.specs.declared.rr_type.RrType.{RrType}
use Rattle.dns_data.specs.declared.rr_type.RrType.TheVariants as types
use Rattle.net_model.specs.declared.walk.Walk.{Walk}
use Rattle.net_model.specs.Step.{Setting, start}
use Rattle.net_model.proofs.AllWalks.{walks_within}
use Rattle.net_model.proofs.RoundsExist.{query_settles}
use Rattle.plain_resolver.specs.declared.walk_end.WalkEnd.{WalkEnd}
use Rattle.name_ends.specs.Ends.{ends_among, is_kind, most_walks}
use Rattle.name_ends.specs.declared.kinds.EndKind.{EndKind}
use Rattle.name_ends.specs.declared.kinds.EndKind.TheVariants as kinds
use Rattle.name_ends.specs.declared.ends.NameEnds.{NameEnds}
use Rattle.name_ends.specs.declared.ends.TypeEnds.{TypeEnds}

-- some of these ends is of the kind
abbrev pub some_kind : EndKind → List WalkEnd → Bool
some_kind kind ends = list_any (λ one. is_kind kind one.leaf) ends

-- the kinds that some of these ends have
abbrev pub kinds_of : List WalkEnd → TypeEnds
kinds_of ends =
    record {
      answer = some_kind kinds.Answer ends;
      no_data = some_kind kinds.NoData ends;
      no_name = some_kind kinds.NxDomain ends;
      outside = some_kind kinds.Outside ends;
      unhosted = some_kind kinds.Unhosted ends;
      lame = some_kind kinds.Lame ends;
      no_address = some_kind kinds.NoAddress ends;
      limit = some_kind kinds.Limit ends;
      overlong = some_kind kinds.Overlong ends;
      rewritten = list_any (λ one. one.rewritten) ends;
    }

-- what is told of walks, unless they are more than are followed
abbrev pub ends_unless_many : List Walk → Option TypeEnds
ends_unless_many walks = if nat_lt most_walks (length walks) then None else Some (ends_among walks)

-- how all walks of a name with a type end
unfoldable pub type_ends : Setting → Labels → RrType → Option TypeEnds
type_ends setting name rtype =
    ends_unless_many (flat_map (walks_within (query_settles setting rtype name).0 setting rtype) (start setting.config name))

-- how the walks of a name of type A and those of type AAAA end
abbrev pub ends_in : Setting → Labels → NameEnds
ends_in setting name = record { four = type_ends setting name types.A; six = type_ends setting name types.Aaaa }

-- what is known of names is how their walks end
abbrev pub AreKnown : Setting → map.BTreeMap Labels NameEnds → Type 0
AreKnown setting known = (name : Labels) (ends : NameEnds) → map.get name_cmp known name ≡ Some ends → ends ≡ ends_in setting name
