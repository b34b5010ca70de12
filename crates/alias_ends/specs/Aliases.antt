-- What a server answers for the target of an alias, beside what is found from the top servers (RFC 2181 section 5.4.1).
use Rattle.std.specs.Prelude.{ℕ, Bool, true, false, ◌&&◌, not, List, [], ◌∷◌, length, map, codes, Option, Some, None, if◌then◌else◌, ◌==◌}
use Rattle.std.specs.List.{filter, list_any}
use Rattle.std.specs.Option.{option_map_or}
use Rattle.dns_data.specs.Name.{Labels, name_eq}
use Rattle.dns_data.specs.declared.rr_type.RrType.{RrType}
use Rattle.dns_data.specs.declared.rr_type.RrType.TheVariants as rr_types
use Rattle.graph_form.specs.FirstPath.{answer_eq}
use Rattle.net_model.specs.declared.walk.Leaf.{Leaf}
use Rattle.net_model.specs.declared.walk.Walk.{Walk}
use Rattle.net_model.specs.Shown.{is_authoritative}
use Rattle.net_model.specs.Step.{Setting}
use Rattle.plain_resolver.specs.FromServer.{AreAsked, HasMoreAsked}
use Rattle.plain_resolver.specs.WalkEnds.{zone_ends_of}
use Rattle.name_ends.specs.Ends.{most_walks}
use Rattle.alias_ends.specs.declared.words.TargetWord.{TargetWord}
use Rattle.alias_ends.specs.declared.words.AliasWord.{AliasWord}
use Rattle.alias_ends.specs.declared.words.AliasWord.TheVariants.{Differs, Elsewhere}

-- ---- the walks of names

-- the walks are all there are, or there are none to tell where there are more than are followed
abbrev pub FollowsWalks : (ℕ → Type 0) → (List Walk → Type 0) → Option (List Walk) → Type 0
FollowsWalks HasMore AreAll (Some walks) = (HasMore most_walks → ⊥) × AreAll walks
FollowsWalks HasMore AreAll None = HasMore most_walks

-- The walks of each name with each type: those that begin at the top servers where no server is named, and else those that
-- begin at that server, in the state in which it is asked for the name with no rewrite used; none to tell where there are
-- more than are followed.
abbrev pub WalksByName : Type 0
WalksByName = Option Labels → Labels → RrType → Option (List Walk)

-- they are those walks
abbrev pub AreWalksByName : Setting → WalksByName → Type 0
AreWalksByName setting walks =
    (server : Option Labels) (name : Labels) (rtype : RrType)
    → FollowsWalks (HasMoreAsked setting name rtype server) (AreAsked setting name rtype server) (walks server name rtype)

-- ---- where an alias is found

-- the walk asks the server last, for this name, and ends in what a zone tells
abbrev pub is_ended_at : Labels → Labels → Walk → Bool
is_ended_at server name walk = list_any (λ end. name_eq server end.server && name_eq name end.name) (zone_ends_of walk)

-- a query for the alias of the name finds it at the server
abbrev pub is_found : WalksByName → Labels → Labels → Bool
is_found walks server name = option_map_or (list_any (is_ended_at server name)) (walks None name rr_types.Cname) false

-- ---- the words for them

-- the ends of walks that a zone tells: an answer, no data, no such name
abbrev pub zone_leaves : List Walk → List Leaf
zone_leaves walks = filter is_authoritative (map (λ walk. walk.leaf) walks)

-- some end of the first is none of the second
abbrev pub has_other_end : List Leaf → List Leaf → Bool
has_other_end here tops = list_any (λ leaf. not (list_any (answer_eq leaf) tops)) here

-- there is no end
abbrev pub is_empty : List Leaf → Bool
is_empty ends = length ends == 0

-- The word for what a server answers, beside what is found from the top servers: other ends are found, or none that a zone
-- tells, since the target's zone is served elsewhere.
abbrev pub ends_word : List Leaf → List Leaf → Option AliasWord
ends_word here tops =
    if is_empty here then None else (if is_empty tops then Some Elsewhere else (if has_other_end here tops then Some Differs else None))

-- the word for the walks of one type
abbrev pub walks_word : Option (List Walk) → Option (List Walk) → Option AliasWord
walks_word (Some here) (Some tops) = ends_word (zone_leaves here) (zone_leaves tops)
walks_word here tops = None

-- the types other than CNAME, in the order of their numbers
abbrev pub other_types : List RrType
other_types =
    rr_types.A ∷ rr_types.Ns ∷ rr_types.Soa ∷ rr_types.Ptr ∷ rr_types.Hinfo ∷ rr_types.Mx ∷ rr_types.Txt ∷ rr_types.Aaaa ∷ rr_types.Srv
    ∷ rr_types.Dname ∷ rr_types.Caa ∷ []

-- the word for a type, of a target at a server
abbrev pub type_word : WalksByName → Labels → Labels → RrType → Option AliasWord
type_word walks server target rtype = walks_word (walks (Some server) target rtype) (walks None target rtype)

-- the first of some types that has a word, with it
abbrev pub first_word : (RrType → Option AliasWord) → List RrType → Option TargetWord
first_word word_for [] = None
first_word word_for (rtype ∷ rtypes) =
    option_map_or (λ word. Some (record { word = word; rtype = rtype })) (word_for rtype) (first_word word_for rtypes)

-- the word for a target at a server
abbrev pub target_word : WalksByName → Labels → Labels → Option TargetWord
target_word walks server target = first_word (type_word walks server target) other_types

-- ---- the words

-- a word's text
abbrev pub alias_text : AliasWord → List ℕ
alias_text Differs = codes "differs"
alias_text Elsewhere = codes "elsewhere"

-- an alias counts whose target has other ends
abbrev pub alias_counts : AliasWord → Bool
alias_counts Differs = true
alias_counts Elsewhere = false
