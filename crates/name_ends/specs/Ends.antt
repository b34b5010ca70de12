-- How the walks of a name end that a query for an address begins, of which at most 1,000 are followed.
use Rattle.std.specs.Prelude.{◌≡◌, ◌⊎◌, ℕ, Bool, true, false, ◌&&◌, ◌||◌, not, List, Option, Some, None, ◌==◌}
use Rattle.std.specs.List.{list_any}
use Rattle.dns_data.specs.Name.{Labels}
use Rattle.dns_data.specs.declared.rr_type.RrType.{RrType}
use Rattle.dns_data.specs.declared.rr_type.RrType.TheVariants as types
use Rattle.net_model.specs.declared.walk.Leaf.{Leaf}
use Rattle.net_model.specs.declared.walk.Leaf.TheVariants as leaves
use Rattle.net_model.specs.declared.walk.Walk.{Walk}
use Rattle.net_model.specs.Step.{Setting}
use Rattle.net_model.specs.Walk.{AreWalks}
use Rattle.plain_resolver.specs.Passed.{HasMoreWalks}
use Rattle.plain_resolver.specs.WalkEnds.{is_rewrite}
use Rattle.name_ends.specs.declared.kinds.EndKind.{EndKind}
use Rattle.name_ends.specs.declared.kinds.EndKind.TheVariants as kinds
use Rattle.name_ends.specs.declared.ends.TypeEnds.{TypeEnds}
use Rattle.name_ends.specs.declared.ends.NameEnds.{NameEnds}

-- how many walks of a name with one type are followed at most
abbrev pub most_walks : ℕ
most_walks = 1000

-- ---- the kinds of ends, and rewrites

-- the kind of an end
abbrev pub kind_of : Leaf → EndKind
kind_of (leaves.Answer rdata) = kinds.Answer
kind_of leaves.NoData = kinds.NoData
kind_of leaves.NxDomain = kinds.NxDomain
kind_of leaves.Outside = kinds.Outside
kind_of (leaves.Unhosted ns) = kinds.Unhosted
kind_of (leaves.Lame ns) = kinds.Lame
kind_of (leaves.NoAddress ns) = kinds.NoAddress
kind_of (leaves.Limit place) = kinds.Limit
kind_of (leaves.Overlong place) = kinds.Overlong

-- the place of a kind among all
abbrev pub kind_number : EndKind → ℕ
kind_number kinds.Answer = 0
kind_number kinds.NoData = 1
kind_number kinds.NxDomain = 2
kind_number kinds.Outside = 3
kind_number kinds.Unhosted = 4
kind_number kinds.Lame = 5
kind_number kinds.NoAddress = 6
kind_number kinds.Limit = 7
kind_number kinds.Overlong = 8

-- the end is of the kind
abbrev pub is_kind : EndKind → Leaf → Bool
is_kind kind leaf = kind_number (kind_of leaf) == kind_number kind

-- some walk has an end of the kind
abbrev pub some_ends : EndKind → List Walk → Bool
some_ends kind walks = list_any (λ walk. is_kind kind walk.leaf) walks

-- some walk is rewritten: the name is an alias, or below the owner of a DNAME record, or led there by a rewrite
abbrev pub some_rewrites : List Walk → Bool
some_rewrites walks = list_any (λ walk. list_any is_rewrite walk.hops) walks

-- what is told of walks: of each kind of end whether some walk ends so, and whether some walk is rewritten
abbrev pub ends_among : List Walk → TypeEnds
ends_among walks =
    record {
      answer = some_ends kinds.Answer walks;
      no_data = some_ends kinds.NoData walks;
      no_name = some_ends kinds.NxDomain walks;
      outside = some_ends kinds.Outside walks;
      unhosted = some_ends kinds.Unhosted walks;
      lame = some_ends kinds.Lame walks;
      no_address = some_ends kinds.NoAddress walks;
      limit = some_ends kinds.Limit walks;
      overlong = some_ends kinds.Overlong walks;
      rewritten = some_rewrites walks;
    }

-- ---- the walks of a name

-- the ends are those of all walks of the name with the type; there are none to tell where there are more walks than are
-- followed
abbrev pub EndSo : Setting → Labels → RrType → Option TypeEnds → Type 0
EndSo setting name rtype ends =
    (HasMoreWalks setting name rtype most_walks × (ends ≡ None))
    ⊎ ((HasMoreWalks setting name rtype most_walks → ⊥)
    × ((walks : List Walk) × AreWalks setting name rtype walks × (ends ≡ Some (ends_among walks))))

-- the ends are those of the name's walks of type A and of type AAAA
pub record AreNameEnds (setting : Setting) (name : Labels) (ends : NameEnds) : Type 0 where
  pub four : EndSo setting name types.A ends.four
  pub six : EndSo setting name types.Aaaa ends.six

-- ---- what the ends tell

-- no walk ends otherwise than in no data or in no such name
abbrev pub only_dead : TypeEnds → Bool
only_dead ends =
    not (ends.answer || ends.outside || ends.unhosted || ends.lame || ends.no_address || ends.limit || ends.overlong)

-- of one type there are no more walks than are followed, and each ends in no data or in no such name
abbrev pub is_type_dead : Option TypeEnds → Bool
is_type_dead None = false
is_type_dead (Some ends) = only_dead ends

-- the name is dead: each walk of it, of type A and of type AAAA, ends in no data or in no such name
abbrev pub is_dead : NameEnds → Bool
is_dead ends = is_type_dead ends.four && is_type_dead ends.six

-- some walk of the type ends in an answer
abbrev pub is_type_answered : Option TypeEnds → Bool
is_type_answered None = false
is_type_answered (Some ends) = ends.answer

-- some walk of the name ends in an address
abbrev pub is_answered : NameEnds → Bool
is_answered ends = is_type_answered ends.four || is_type_answered ends.six

-- some walk of the type is rewritten
abbrev pub is_type_rewritten : Option TypeEnds → Bool
is_type_rewritten None = false
is_type_rewritten (Some ends) = ends.rewritten

-- the name is an alias: some walk of it is rewritten (RFC 2181 section 10.3)
abbrev pub is_alias : NameEnds → Bool
is_alias ends = is_type_rewritten ends.four || is_type_rewritten ends.six
