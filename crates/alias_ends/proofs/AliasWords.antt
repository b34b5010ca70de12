-- The words for aliases by what walks ask last are those by the walks with each type.
use Rattle.std.proofs.Common.{◌≡◌, ℕ, Bool, true, false, cond, List, [], ◌∷◌, ◌++◌, length, map, Option, Some, None, option_map, refl, sym, ap, ◌∙◌, subst, arith, true≢false}
use Rattle.std.specs.Prelude.{◌||◌, nat_lt, not}
use Rattle.std.specs.List.{AllByRecursion, flat_map, list_all, list_any}
use Rattle.std.specs.Option.{option_map_or}
use Rattle.std.proofs.Math.Path.{fun_ext}
use Rattle.std.proofs.lemmas.Bool.{and_parts, eqb-true}
use Rattle.std.proofs.lemmas.Bool.Decides.{nat_tests}
use Rattle.std.proofs.lemmas.List.{length-map}
use Rattle.std.proofs.lemmas.List.Folds.{list_any-append}
use Rattle.dns_data.specs.Name.{Labels, name_eq}
use Rattle.dns_data.specs.RrType.{type_eq}
use Rattle.dns_data.specs.declared.rr_type.RrType.{RrType}
use Rattle.dns_data.specs.declared.rr_type.RrType.TheVariants as rr_types
use Rattle.dns_data.proofs.Membership.{map_has}
use Rattle.dns_data.proofs.Names.{name_eq_decides}
use Rattle.dns_data.proofs.Searches.{any_has, from_any}
use Rattle.graph_form.specs.FirstPath.{answer_eq}
use Rattle.graph_form.proofs.EqualAnswers.{answer_itself}
use Rattle.net_model.specs.declared.config.Config.{Config}
use Rattle.net_model.specs.declared.walk.Leaf.{Leaf}
use Rattle.net_model.specs.declared.walk.Walk.{Walk}
use Rattle.net_model.specs.Nearest.{nearest_of}
use Rattle.net_model.specs.Step.{Setting}
use Rattle.plain_resolver.specs.FromServer.{AreAsked, HasMoreAsked}
use Rattle.plain_resolver.specs.WalkEnds.{zone_ends_of}
use Rattle.plain_resolver.specs.declared.walk_end.ZoneEnd.{ZoneEnd}
use Rattle.plain_resolver.proofs.AskedWalks.{all_are_asked, all_walks, more_asked, no_more_asked, one_asked}
use Rattle.name_ends.specs.Ends.{most_walks}
use Rattle.alias_ends.specs.Aliases.{AreWalksByName, FollowsWalks, WalksByName, ends_word, first_word, has_other_end, is_empty, is_ended_at, is_found, other_types, target_word, type_word, walks_word}
use Rattle.alias_ends.specs.Known.{end_eq, ends_in, is_at, leaf_at, some_at, word_by_ends, unless_many, walks_in, word_at}
use Rattle.alias_ends.specs.declared.words.AliasWord.{AliasWord}
use Rattle.alias_ends.specs.declared.words.AliasWord.TheVariants.{Differs, Elsewhere}
use Rattle.alias_ends.proofs.TypesAlike.{asked_as, is_of_zone_in, leaves_as, walk_as}

-- ---- the walks of names

module _ (setting : Setting) (server : Option Labels) (name : Labels) (rtype : RrType) where
  -- all walks that are asked for
  abbrev all : List Walk
  all = all_walks setting name rtype server

  -- they are those that are followed
  pub walks_so : FollowsWalks (HasMoreAsked setting name rtype server) (AreAsked setting name rtype server) (walks_in setting server name rtype)
  unfolding walks_in
  walks_so = by (nat_lt most_walks (length all)) refl where
    by : (b : Bool) → nat_lt most_walks (length all) ≡ b
        → FollowsWalks (HasMoreAsked setting name rtype server) (AreAsked setting name rtype server) (cond b None (Some all))
    by true e = more_asked setting name rtype server most_walks (grind (arith, nat_tests, e))
    by false e = (no_more_asked setting name rtype server most_walks (grind (arith, nat_tests, e)), all_are_asked setting name rtype server)

  -- no others are
  walks_one : (walks : Option (List Walk)) → FollowsWalks (HasMoreAsked setting name rtype server) (AreAsked setting name rtype server) walks
      → walks ≡ walks_in setting server name rtype
  unfolding walks_in
  walks_one None more = by (nat_lt most_walks (length all)) refl where
    by : (b : Bool) → nat_lt most_walks (length all) ≡ b → None ≡ cond b None (Some all)
    by true e = refl
    by false e = absurd (no_more_asked setting name rtype server most_walks (grind (arith, nat_tests, e)) more)
  walks_one (Some walks) (few, are) = by (nat_lt most_walks (length all)) refl where
    by : (b : Bool) → nat_lt most_walks (length all) ≡ b → Some walks ≡ cond b None (Some all)
    by true e = absurd (few (more_asked setting name rtype server most_walks (grind (arith, nat_tests, e))))
    by false e = ap (λ (ws : List Walk). Some ws) (one_asked setting name rtype server walks all are (all_are_asked setting name rtype server))

  -- where there are more walks than are followed, nothing is known of what they ask last
  pub ends_many : HasMoreAsked setting name rtype server most_walks → None ≡ ends_in setting rtype server name
  ends_many more = ap (option_map (flat_map zone_ends_of)) (walks_one None more)

  -- where there are no more, it is known
  pub ends_few : (walks : List Walk) → AreAsked setting name rtype server walks → (HasMoreAsked setting name rtype server most_walks → ⊥)
      → Some (flat_map zone_ends_of walks) ≡ ends_in setting rtype server name
  ends_few walks are few = ap (option_map (flat_map zone_ends_of)) (walks_one (Some walks) (few, are))

-- they are the walks of all names
pub all_walks_so : (setting : Setting) → AreWalksByName setting (walks_in setting)
all_walks_so setting server name rtype = walks_so setting server name rtype

-- the walks of all names are one thing
pub all_one : (setting : Setting) (told : WalksByName) → AreWalksByName setting told → told ≡ walks_in setting
all_one setting told are = fun_ext (λ server. fun_ext (λ name. fun_ext (λ rtype. walks_one setting server name rtype (told server name rtype) (are server name rtype))))

-- ---- which aliases are found

-- whether a server is asked last for the name by some of the walks
pub any_ended : (server name : Labels) (walks : List Walk) → list_any (is_at server name) (flat_map zone_ends_of walks) ≡ list_any (is_ended_at server name) walks
any_ended server name [] = refl
any_ended server name (walk ∷ walks) =
    list_any-append (is_at server name) (zone_ends_of walk) (flat_map zone_ends_of walks)
    ∙ ap (λ (b : Bool). is_ended_at server name walk || b) (any_ended server name walks)

-- whether a server is asked last for the name by walks of type CNAME is whether the alias is found there
pub found_there : (setting : Setting) (server name : Labels) → some_at server name (ends_in setting rr_types.Cname None name) ≡ is_found (walks_in setting) server name
found_there setting server name = by (walks_in setting None name rr_types.Cname) where
  by : (walks : Option (List Walk)) → some_at server name (option_map (flat_map zone_ends_of) walks) ≡ option_map_or (list_any (is_ended_at server name)) walks false
  by None = refl
  by (Some walks) = any_ended server name walks

-- ---- the word for each type

-- the words for some types are the same if each is
first_same : (f g : RrType → Option AliasWord) (rtypes : List RrType) → AllByRecursion (λ (rtype : RrType). f rtype ≡ g rtype) rtypes → first_word f rtypes ≡ first_word g rtypes
first_same f g [] same = refl
first_same f g (rtype ∷ rtypes) same =
    λ i. option_map_or (λ (word : AliasWord). Some (record { word = word; rtype = rtype })) (same.0 i) (first_same f g rtypes same.1 i)

-- there is no word if no type has one
pub first_none : (f : RrType → Option AliasWord) → ((rtype : RrType) → f rtype ≡ None) → (rtypes : List RrType) → first_word f rtypes ≡ None
first_none f none [] = refl
first_none f none (rtype ∷ rtypes) =
    λ i. option_map_or (λ (word : AliasWord). Some (record { word = word; rtype = rtype })) (none rtype i) (first_none f none rtypes i)

-- types without a word before others change nothing
pub first_behind : (f : RrType → Option AliasWord) (before after : List RrType) → first_word f before ≡ None → first_word f (before ++ after) ≡ first_word f after
first_behind f [] after none = refl
first_behind f (rtype ∷ before) after none = by (f rtype) none (first_behind f before after) where
  by : (word : Option AliasWord) → option_map_or (λ (word : AliasWord). Some (record { word = word; rtype = rtype })) word (first_word f before) ≡ None
      → (first_word f before ≡ None → first_word f (before ++ after) ≡ first_word f after)
      → option_map_or (λ (word : AliasWord). Some (record { word = word; rtype = rtype })) word (first_word f (before ++ after)) ≡ first_word f after
  by None none later = later none
  by (Some word) none later = absurd cc

-- with one type more that has no word there is still none
pub first_more : (f : RrType → Option AliasWord) (before : List RrType) (rtype : RrType) → first_word f before ≡ None → f rtype ≡ None
    → first_word f (before ++ rtype ∷ []) ≡ None
first_more f before rtype none also =
    first_behind f before (rtype ∷ []) none
    ∙ ap (λ (word : Option AliasWord). option_map_or (λ (word : AliasWord). Some (record { word = word; rtype = rtype })) word None) also

-- the first type with a word stands with it
pub first_here : (f : RrType → Option AliasWord) (before after : List RrType) (rtype : RrType) (word : AliasWord) → first_word f before ≡ None → f rtype ≡ Some word
    → first_word f (before ++ rtype ∷ after) ≡ Some (record { word = word; rtype = rtype })
first_here f before after rtype word none is =
    first_behind f before (rtype ∷ after) none
    ∙ ap (λ (word : Option AliasWord). option_map_or (λ (word : AliasWord). Some (record { word = word; rtype = rtype })) word (first_word f after)) is

-- the word for one type, by what walks ask last
abbrev typed_word : Config → Option (List ZoneEnd) → Option (List ZoneEnd) → RrType → Option AliasWord
typed_word config (Some here) (Some tops) rtype = word_at config here tops rtype
typed_word config here tops rtype = None

by_types : (config : Config) (here tops : Option (List ZoneEnd)) → word_by_ends config here tops ≡ first_word (typed_word config here tops) other_types
by_types config None tops = refl
by_types config (Some here) None = refl
by_types config (Some here) (Some tops) = refl

module _ (setting : Setting) where
  module _ (t : RrType) (other : type_eq t rr_types.Cname ≡ false) where
    few_as : (walks : List Walk) → unless_many (map (walk_as setting t other) walks) ≡ option_map (map (walk_as setting t other)) (unless_many walks)
    few_as walks =
        ap (λ (n : ℕ). cond (nat_lt most_walks n) None (Some (map (walk_as setting t other) walks))) (length-map walks (walk_as setting t other))
        ∙ by (nat_lt most_walks (length walks))
      where
        by : (b : Bool) → cond b None (Some (map (walk_as setting t other) walks)) ≡ option_map (map (walk_as setting t other)) (cond b None (Some walks))
        by true = refl
        by false = refl

    -- the walks with the type are those of type A with it
    walks_as : (server : Option Labels) (name : Labels) → walks_in setting server name t ≡ option_map (map (walk_as setting t other)) (walks_in setting server name rr_types.A)
    unfolding walks_in
    walks_as server name =
        let here = all_walks setting name rr_types.A server in
        ap unless_many (one_asked setting name t server (all_walks setting name t server) (map (walk_as setting t other) here) (all_are_asked setting name t server)
        (asked_as setting t other server name here (all_are_asked setting name rr_types.A server)))
        ∙ few_as here

    word_as : (here tops : Option (List Walk))
        → walks_word (option_map (map (walk_as setting t other)) here) (option_map (map (walk_as setting t other)) tops)
        ≡ typed_word setting.config (option_map (flat_map zone_ends_of) here) (option_map (flat_map zone_ends_of) tops) t
    word_as None tops = refl
    word_as (Some here) None = refl
    word_as (Some here) (Some tops) = λ i. ends_word (leaves_as setting t other here i) (leaves_as setting t other tops i)

    -- the word for the type is that by what walks of type A ask last
    type_as : (server target : Labels) → typed_word setting.config (ends_in setting rr_types.A (Some server) target) (ends_in setting rr_types.A None target) t
        ≡ type_word (walks_in setting) server target t
    type_as server target =
        sym ((λ i. walks_word (walks_as (Some server) target i) (walks_as None target i))
        ∙ word_as (walks_in setting (Some server) target rr_types.A) (walks_in setting None target rr_types.A))

  -- the word by what walks of type A ask last is that by the walks with each type
  pub same_word : (server target : Labels) → word_by_ends setting.config (ends_in setting rr_types.A (Some server) target) (ends_in setting rr_types.A None target)
      ≡ target_word (walks_in setting) server target
  same_word server target =
      by_types setting.config (ends_in setting rr_types.A (Some server) target) (ends_in setting rr_types.A None target)
      ∙ first_same (typed_word setting.config (ends_in setting rr_types.A (Some server) target) (ends_in setting rr_types.A None target)) (type_word (walks_in setting) server target) other_types (
        type_as rr_types.A refl server target,
        (
          type_as rr_types.Ns refl server target,
          (
            type_as rr_types.Soa refl server target,
            (
              type_as rr_types.Ptr refl server target,
              (
                type_as rr_types.Hinfo refl server target,
                (
                  type_as rr_types.Mx refl server target,
                  (
                    type_as rr_types.Txt refl server target,
                    (
                      type_as rr_types.Aaaa refl server target,
                      (
                        type_as rr_types.Srv refl server target,
                        (
                          type_as rr_types.Dname refl server target,
                          (type_as rr_types.Caa refl server target, tt),
                        ),
                      ),
                    ),
                  ),
                ),
              ),
            ),
          ),
        ),
      )

-- ---- where nothing is asked last that isn't from the top servers

module _ (config : Config) (tops : List ZoneEnd) (rtype : RrType) where
  same_leaf : (end : ZoneEnd) → list_any (end_eq end) tops ≡ true → list_any (answer_eq (leaf_at config rtype end)) (map (leaf_at config rtype) tops) ≡ true
  same_leaf end among =
      let found = from_any (end_eq end) tops among in
      let parts = and_parts (name_eq end.server found.0.server) (name_eq end.name found.0.name) found.2 in
      let server = (name_eq_decides end.server found.0.server).0 parts.0 in
      let name = (name_eq_decides end.name found.0.name).0 parts.1 in
      let same : end ≡ found.0 = λ i. record { server = server i; name = name i } in
      any_has (answer_eq (leaf_at config rtype end)) (map (leaf_at config rtype) tops) (leaf_at config rtype found.0)
      (map_has (leaf_at config rtype) tops found.0 found.1)
      (subst (λ (other : ZoneEnd). answer_eq (leaf_at config rtype end) (leaf_at config rtype other) ≡ true) same
      (answer_itself (leaf_at config rtype end) (is_of_zone_in rtype end.name (nearest_of config end.server end.name))))

  no_other : (here : List ZoneEnd) → list_all (λ (end : ZoneEnd). list_any (end_eq end) tops) here ≡ true
      → has_other_end (map (leaf_at config rtype) here) (map (leaf_at config rtype) tops) ≡ false
  no_other [] among = refl
  no_other (end ∷ here) among =
      let parts = and_parts (list_any (end_eq end) tops) (list_all (λ (end : ZoneEnd). list_any (end_eq end) tops) here) among in
      ap (λ (b : Bool). not b || has_other_end (map (leaf_at config rtype) here) (map (leaf_at config rtype) tops)) (same_leaf end parts.0)
      ∙ no_other here parts.1

some_end : (leaf : Leaf) (rest : List Leaf) → is_empty (leaf ∷ rest) ≡ false
some_end leaf rest = by (is_empty (leaf ∷ rest)) refl where
  by : (b : Bool) → is_empty (leaf ∷ rest) ≡ b → b ≡ false
  by false e = refl
  by true e = let none : length (leaf ∷ rest) ≡ 0 = eqb-true (length (leaf ∷ rest)) 0 e in absurd (omega (arith, none))

-- there is no word where all that walks from a server ask last is asked last from the top servers
pub no_word : (config : Config) (here tops : List ZoneEnd) (rtype : RrType) → list_all (λ (end : ZoneEnd). list_any (end_eq end) tops) here ≡ true
    → word_at config here tops rtype ≡ None
no_word config [] tops rtype among = refl
no_word config (end ∷ here) [] rtype among = absurd (true≢false (sym among))
no_word config (end ∷ here) (top ∷ tops) rtype among =
    λ i. cond (some_end (leaf_at config rtype end) (map (leaf_at config rtype) here) i) None
    (cond (some_end (leaf_at config rtype top) (map (leaf_at config rtype) tops) i) (Some Elsewhere)
    (cond (no_other config (top ∷ tops) rtype (end ∷ here) among i) (Some Differs) None))
