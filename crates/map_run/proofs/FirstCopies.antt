-- What is kept of rows to tell copies, with one row more.
use Rattle.std.proofs.Common.{◌≡◌, ℕ, ◌+◌, Bool, true, false, ◌&&◌, ◌||◌, not, cond, List, [], ◌∷◌, ◌++◌, Option, Some, None, is_eq, is_some, option_map, length, refl, sym, ap, ◌∙◌}
use Rattle.std.proofs.Math.Bool.{and-false, or-false, or-true}
use Rattle.std.proofs.lemmas.Bool.{or_parts}
use Rattle.std.proofs.lemmas.List.Folds.{list_any-append}
use Rattle.std.specs.BTreeMap as map
use Rattle.std.specs.BTreeSet as tree
use Rattle.std.specs.Cmp.Lexicographic.{lists_equiv, lists_ties, nat_list_eq_equiv, slice_cmp, texts_ties}
use Rattle.std.specs.List.{find, list_any}
use Rattle.std.specs.Map.{lookup}
use Rattle.std.specs.Option.{option_map_or}
use Rattle.dns_data.specs.Label.{label_cmp}
use Rattle.dns_data.specs.Name.{Labels, name_cmp, name_eq}
use Rattle.dns_data.specs.Rdata.{strings_eq}
use Rattle.dns_data.proofs.Names.{name_eq_decides}
use Rattle.net_model.specs.declared.config.Config.{Config}
use Rattle.net_model.specs.declared.config.Zone.{Zone}
use Rattle.net_model.specs.Nearest.{held_zone}
use Rattle.config_load.specs.declared.loaded.RowFiles.{RowFiles}
use Rattle.zone_copies.specs.declared.version.Version.{Version}
use Rattle.zone_copies.specs.Versions.{octets_cmp, version_of}
use Rattle.map_run.specs.Copies.{copy_lines, equal_versions, is_equal_copy, is_first_copy, line_beside, row_version, version_at}
use Rattle.map_run.specs.FirstCopies.{AreLike, HasMoreKeys, KnowsCopies, KnowsFirsts, LikeAlone, alone_after, has_key, has_origin, is_copy_alone, key_cmp, key_of, known_lines, version_alone}
use Rattle.map_run.specs.declared.versions.CopyKey.{CopyKey}
use Rattle.map_run.specs.declared.versions.KnownCopies.{KnownCopies}
use Rattle.alias_ends.proofs.KnownAnswers.{both_equal}
use Rattle.map_run.proofs.RowsBefore.{found_last, found_still}

-- a map without entries knows of no row
pub none_known : (config : Config) (firsts : map.BTreeMap Labels (Option Version)) → map.IsEmpty firsts → KnowsFirsts config [] firsts
none_known config firsts empty origin = ap (λ (entries : List (Labels × Option Version)). lookup (λ (key : Labels). is_eq (name_cmp origin key)) entries) empty

module _ (config : Config) (before : List RowFiles) (row : RowFiles) where
  module _ (old : map.BTreeMap Labels (Option Version)) (known : KnowsFirsts config before old) where
    -- where a row with the origin is known, the rows with one more are known
    pub first_known : (first : Option Version) → map.get name_cmp old row.origin ≡ Some first → KnowsFirsts config (before ++ row ∷ []) old
    first_known first has origin = by (name_eq origin row.origin) refl (find (has_origin origin) before) refl where
      by : (b : Bool) → name_eq origin row.origin ≡ b → (found : Option RowFiles) → find (has_origin origin) before ≡ found
          → map.get name_cmp old origin ≡ option_map (row_version config) (find (has_origin origin) (before ++ row ∷ []))
      by b e (Some other) is =
          known origin ∙ ap (option_map (row_version config)) is
          ∙ sym (ap (option_map (row_version config)) (found_still (has_origin origin) before row other is))
      by false e None is =
          known origin ∙ ap (option_map (row_version config)) is
          ∙ sym (ap (option_map (row_version config)) (found_last (has_origin origin) before row is ∙ ap (λ (c : Bool). cond c (Some row) None) e))
      by true e None is =
          let same : origin ≡ row.origin = (name_eq_decides origin row.origin).0 e in
          let none : map.get name_cmp old origin ≡ None = known origin ∙ ap (option_map (row_version config)) is in
          let some : map.get name_cmp old origin ≡ Some first = ap (map.get name_cmp old) same ∙ has in
          absurd (never (sym none ∙ some))
        where
          never : None ≡ Some first → ⊥
          never h = cc

    -- and so they are where the map has an entry for the origin
    pub known_still : is_some (map.get name_cmp old row.origin) ≡ true → KnowsFirsts config (before ++ row ∷ []) old
    known_still has = by (map.get name_cmp old row.origin) refl has where
      by : (first : Option (Option Version)) → map.get name_cmp old row.origin ≡ first → is_some first ≡ true → KnowsFirsts config (before ++ row ∷ []) old
      by None is some = cc
      by (Some first) is some = first_known first is

    -- the line beside what is known is the line that is put
    pub known_line : (number : ℕ) → number ≡ length before + 1
        → known_lines number row (row_version config row) (map.get name_cmp old row.origin) ≡ copy_lines config before row
    known_line number is =
        ap (known_lines number row (row_version config row)) (known row.origin)
        ∙ by (find (has_origin row.origin) before)
        ∙ ap (λ (n : ℕ). option_map_or (λ (first : RowFiles). line_beside n row (row_version config first) (row_version config row)) (find (has_origin row.origin) before) []) is
      where
        by : (found : Option RowFiles) → known_lines number row (row_version config row) (option_map (row_version config) found)
            ≡ option_map_or (λ (first : RowFiles). line_beside number row (row_version config first) (row_version config row)) found []
        by None = refl
        by (Some first) = refl

    -- without an entry there is no line
    pub no_line : is_some (map.get name_cmp old row.origin) ≡ false → copy_lines config before row ≡ []
    no_line none = by (find (has_origin row.origin) before) refl where
      by : (found : Option RowFiles) → find (has_origin row.origin) before ≡ found
          → option_map_or (λ (first : RowFiles). line_beside (length before + 1) row (row_version config first) (row_version config row)) found [] ≡ []
      by None is = refl
      by (Some first) is =
          let has : true ≡ false = sym (ap is_some (known row.origin ∙ ap (option_map (row_version config)) is)) ∙ none in
          cc

    -- without an entry the map has none
    pub no_entry : is_some (map.get name_cmp old row.origin) ≡ false → map.get name_cmp old row.origin ≡ None
    no_entry none = by (map.get name_cmp old row.origin) none where
      by : (first : Option (Option Version)) → is_some first ≡ false → first ≡ None
      by None is = refl
      by (Some first) is = cc

    -- where none is known, the rows with one more are known with what is compared of it
    pub first_more : (new : map.BTreeMap Labels (Option Version)) (key : Labels) (own : Option Version) → map.get name_cmp old row.origin ≡ None → key ≡ row.origin
        → own ≡ row_version config row → map.Updates name_cmp old new key (Some own) → KnowsFirsts config (before ++ row ∷ []) new
    first_more new key own has is are updates origin =
        updates.0 origin
        ∙ ap (λ (b : Bool). cond b (Some own) (map.get name_cmp old origin)) test
        ∙ by (name_eq origin row.origin) refl (find (has_origin origin) before) refl
      where
        test : is_eq (name_cmp key origin) ≡ name_eq origin row.origin
        test = ap (λ (k : Labels). is_eq (name_cmp k origin)) is ∙ sym (lists_ties label_cmp texts_ties row.origin origin) ∙ (lists_equiv nat_list_eq_equiv).symm row.origin origin

        by : (b : Bool) → name_eq origin row.origin ≡ b → (found : Option RowFiles) → find (has_origin origin) before ≡ found
            → cond (name_eq origin row.origin) (Some own) (map.get name_cmp old origin) ≡ option_map (row_version config) (find (has_origin origin) (before ++ row ∷ []))
        by true e None found =
            ap (λ (b : Bool). cond b (Some own) (map.get name_cmp old origin)) e
            ∙ ap (λ (version : Option Version). Some version) are
            ∙ sym (ap (option_map (row_version config)) (found_last (has_origin origin) before row found ∙ ap (λ (c : Bool). cond c (Some row) None) e))
        by true e (Some other) found =
            let same : origin ≡ row.origin = (name_eq_decides origin row.origin).0 e in
            let some : map.get name_cmp old origin ≡ Some (row_version config other) = known origin ∙ ap (option_map (row_version config)) found in
            let none : map.get name_cmp old origin ≡ None = ap (map.get name_cmp old) same ∙ has in
            absurd (never (sym none ∙ some))
          where
            never : None ≡ Some (row_version config other) → ⊥
            never h = cc
        by false e None found =
            ap (λ (b : Bool). cond b (Some own) (map.get name_cmp old origin)) e
            ∙ known origin ∙ ap (option_map (row_version config)) found
            ∙ sym (ap (option_map (row_version config)) (found_last (has_origin origin) before row found ∙ ap (λ (c : Bool). cond c (Some row) None) e))
        by false e (Some other) found =
            ap (λ (b : Bool). cond b (Some own) (map.get name_cmp old origin)) e
            ∙ known origin ∙ ap (option_map (row_version config)) found
            ∙ sym (ap (option_map (row_version config)) (found_still (has_origin origin) before row other found))

-- ---- equal copies

-- whether two keys are one
keys_equal : (one other : CopyKey) → is_eq (key_cmp one other) ≡ (name_eq other.origin one.origin && strings_eq other.others one.others)
keys_equal one other =
    both_equal (name_cmp one.origin other.origin) (slice_cmp octets_cmp one.others other.others)
    ∙ (λ i. (sym (lists_ties label_cmp texts_ties one.origin other.origin) ∙ (lists_equiv nat_list_eq_equiv).symm one.origin other.origin) i
    && (sym (lists_ties octets_cmp texts_ties one.others other.others) ∙ (lists_equiv nat_list_eq_equiv).symm one.others other.others) i)

-- no version is equal to none
equal_none : (version : Option Version) → equal_versions version None ≡ false
equal_none None = refl
equal_none (Some version) = refl

-- a set that is unchanged has the keys of a zone more that isn't there
pub same_keys : (keys : tree.BTreeSet CopyKey) (origin : Labels) (version : Option Version) → version ≡ None → HasMoreKeys keys keys origin version
same_keys keys origin version none other own =
    sym (
    ap (λ (one : Option Version). has_key keys other own || (name_eq other origin && equal_versions own one)) none
    ∙ ap (λ (b : Bool). has_key keys other own || (name_eq other origin && b)) (equal_none own)
    ∙ ap (λ (b : Bool). has_key keys other own || b) (and-false (name_eq other origin))
    ∙ or-false (has_key keys other own)
    )

-- a set with the key of a version more has it
pub more_keys : (old new : tree.BTreeSet CopyKey) (origin : Labels) (version : Option Version) (own : Version) → version ≡ Some own
    → tree.Updates key_cmp old new (key_of origin own) true → HasMoreKeys old new origin version
more_keys old new origin version own is updates other one =
    by one ∙ ap (λ (v : Option Version). has_key old other one || (name_eq other origin && equal_versions one v)) (sym is)
  where
    either : (was b c : Bool) → cond (b && c) true was ≡ (was || (b && c))
    either true true true = refl
    either true true false = refl
    either true false c = refl
    either false true true = refl
    either false true false = refl
    either false false c = refl

    by : (version : Option Version) → has_key new other version ≡ (has_key old other version || (name_eq other origin && equal_versions version (Some own)))
    by None = sym (ap (λ (b : Bool). false || b) (and-false (name_eq other origin)))
    by (Some version) =
        updates.0 (key_of other version)
        ∙ ap (λ (b : Bool). cond b true (tree.contains key_cmp old (key_of other version))) (keys_equal (key_of origin own) (key_of other version))
        ∙ either (tree.contains key_cmp old (key_of other version)) (name_eq other origin) (strings_eq version.others own.others)

-- no row is known before the first
pub none_are_known : (config : Config) (known : KnownCopies) → map.IsEmpty known.alone → tree.IsEmpty known.keys → KnowsCopies config [] known
none_are_known config known alone keys = record {
  each = λ row. sym ((λ i. no_key row (row_version config row) i || is_copy_alone config row (no_origin row.origin i)));
  none = λ origin is. refl;
} where
  no_key : (row : RowFiles) (version : Option Version) → has_key known.keys row.origin version ≡ false
  no_key row None = refl
  no_key row (Some version) = ap (λ (all : List CopyKey). list_any (λ (key : CopyKey). is_eq (key_cmp (key_of row.origin version) key)) all) keys

  no_origin : (origin : Labels) → map.get name_cmp known.alone origin ≡ None
  no_origin origin = ap (λ (entries : List (Labels × Option Labels)). lookup (λ (key : Labels). is_eq (name_cmp origin key)) entries) alone

module _ (config : Config) (before : List RowFiles) (row : RowFiles) where
  -- the rows with one more have an equal copy, if they had or it is one
  any_more : (other : RowFiles) → list_any (is_equal_copy config other) (before ++ row ∷ []) ≡ (list_any (is_equal_copy config other) before || is_equal_copy config other row)
  any_more other =
      list_any-append (is_equal_copy config other) before (row ∷ [])
      ∙ ap (λ (b : Bool). list_any (is_equal_copy config other) before || b) (or-false (is_equal_copy config other row))

  -- no copy has an origin that none of the rows has
  no_copy : (rows : List RowFiles) → list_any (has_origin row.origin) rows ≡ false → list_any (is_equal_copy config row) rows ≡ false
  no_copy [] none = refl
  no_copy (first ∷ rows) none =
      let parts = or_parts (name_eq row.origin first.origin) (list_any (has_origin row.origin) rows) none in
      (λ i. (parts.0 i && equal_versions (row_version config row) (row_version config first)) || no_copy rows parts.1 i)

  module _ (known : KnownCopies) (knows : KnowsCopies config before known) where
    -- the first row with its origin is no copy
    pub first_is_new : map.get name_cmp known.alone row.origin ≡ None → true ≡ is_first_copy config before row
    first_is_new is = sym (ap not (no_copy before (knows.none row.origin is)))

    -- whether a row is a copy where rows with its origin are known, by the keys with that of the only one
    pub copy_by_keys : (alone : Option Labels) (mid : tree.BTreeSet CopyKey) → map.get name_cmp known.alone row.origin ≡ Some alone
        → HasMoreKeys known.keys mid row.origin (version_alone config alone row.origin)
        → not (has_key mid row.origin (row_version config row)) ≡ is_first_copy config before row
    copy_by_keys alone mid is more =
        ap not (
        more row.origin (row_version config row)
        ∙ ap (λ (b : Bool). has_key known.keys row.origin (row_version config row) || (b && equal_versions (row_version config row) (version_alone config alone row.origin)))
        ((name_eq_decides row.origin row.origin).1 refl)
        ∙ ap (λ (found : Option (Option Labels)). has_key known.keys row.origin (row_version config row) || is_copy_alone config row found) (sym is)
        ∙ sym (knows.each row)
        )

    -- the version of a row's zone is there, and is that of the only row with its origin
    like : (own alone : Option Zone) → AreLike alone own → equal_versions (option_map version_of own) (option_map version_of alone) ≡ true
    like (Some own) (Some alone) is =
        ap (λ (version : Version). strings_eq (version_of own).others version.others) is ∙ (lists_equiv nat_list_eq_equiv).refl (version_of own).others
    like None (Some alone) is = absurd is
    like (Some own) None is = absurd is
    like None None is = absurd is

    -- a row whose zone is like that of the only row with its origin is a copy
    pub like_is_copy : LikeAlone config (map.get name_cmp known.alone row.origin) row → false ≡ is_first_copy config before row
    like_is_copy (server, is, same) =
        sym (ap not (
        knows.each row
        ∙ ap (λ (found : Option (Option Labels)). has_key known.keys row.origin (row_version config row) || is_copy_alone config row found) is
        ∙ ap (λ (b : Bool). has_key known.keys row.origin (row_version config row) || b) (like (held_zone config row.server row.origin) (held_zone config server row.origin) same)
        ∙ or-true (has_key known.keys row.origin (row_version config row))
        ))

    -- and nothing else is known with it
    pub known_with_like : LikeAlone config (map.get name_cmp known.alone row.origin) row → KnowsCopies config (before ++ row ∷ []) known
    known_with_like (server, is, same) = record {
      each = λ other. any_more other ∙ ap (λ (b : Bool). b || is_equal_copy config other row) (knows.each other) ∙ by other (name_eq other.origin row.origin) refl;
      none = λ origin nothing.
          list_any-append (has_origin origin) before (row ∷ [])
          ∙ (λ i. knows.none origin nothing i || (apart origin (name_eq origin row.origin) refl nothing i || false));
    } where
      one : (own alone : Option Zone) → AreLike alone own → option_map version_of own ≡ option_map version_of alone
      one (Some own) (Some alone) is = ap (λ (version : Version). Some version) (sym is)
      one None (Some alone) is = absurd is
      one (Some own) None is = absurd is
      one None None is = absurd is

      apart : (origin : Labels) (b : Bool) → name_eq origin row.origin ≡ b → map.get name_cmp known.alone origin ≡ None → name_eq origin row.origin ≡ false
      apart origin true e nothing =
          let some : None ≡ Some (Some server) = sym nothing ∙ ap (map.get name_cmp known.alone) ((name_eq_decides origin row.origin).0 e) ∙ is in
          cc
      apart origin false e nothing = e

      twice : (a b : Bool) → ((a || b) || b) ≡ (a || b)
      twice true b = refl
      twice false true = refl
      twice false false = refl

      by : (other : RowFiles) (b : Bool) → name_eq other.origin row.origin ≡ b
          → ((has_key known.keys other.origin (row_version config other) || is_copy_alone config other (map.get name_cmp known.alone other.origin)) || is_equal_copy config other row)
          ≡ (has_key known.keys other.origin (row_version config other) || is_copy_alone config other (map.get name_cmp known.alone other.origin))
      by other true e =
          let at : other.origin ≡ row.origin = (name_eq_decides other.origin row.origin).0 e in
          let own : Option Version = row_version config other in
          let has : Bool = has_key known.keys other.origin own in
          let found : map.get name_cmp known.alone other.origin ≡ Some (Some server) = ap (map.get name_cmp known.alone) at ∙ is in
          (λ i. (has || is_copy_alone config other (found i)) || (e i && equal_versions own (row_version config row)))
          ∙ ap (λ (version : Option Version). (has || equal_versions own (version_at config server other.origin)) || equal_versions own version)
          (one (held_zone config row.server row.origin) (held_zone config server row.origin) same ∙ ap (version_at config server) (sym at))
          ∙ twice has (equal_versions own (version_at config server other.origin))
          ∙ (λ i. has || is_copy_alone config other (sym found i))
      by other false e =
          let was : Bool = has_key known.keys other.origin (row_version config other) || is_copy_alone config other (map.get name_cmp known.alone other.origin) in
          (λ i. was || (e i && equal_versions (row_version config other) (row_version config row))) ∙ or-false was

    module _ (new : KnownCopies)
        (updates : map.Updates name_cmp known.alone new.alone row.origin (Some (alone_after row.server (map.get name_cmp known.alone row.origin)))) where
      -- what is known of an origin then
      found : (origin : Labels) (b : Bool) → name_eq row.origin origin ≡ b
          → map.get name_cmp new.alone origin ≡ cond b (Some (alone_after row.server (map.get name_cmp known.alone row.origin))) (map.get name_cmp known.alone origin)
      found origin b e =
          updates.0 origin
          ∙ ap (λ (c : Bool). cond c (Some (alone_after row.server (map.get name_cmp known.alone row.origin))) (map.get name_cmp known.alone origin))
          (sym (lists_ties label_cmp texts_ties row.origin origin) ∙ e)

      -- an origin of which nothing is known then none of the rows has, nor the one more
      none_then : (origin : Labels) → map.get name_cmp new.alone origin ≡ None → list_any (has_origin origin) (before ++ row ∷ []) ≡ false
      none_then origin is = by (name_eq row.origin origin) refl where
        by : (b : Bool) → name_eq row.origin origin ≡ b → list_any (has_origin origin) (before ++ row ∷ []) ≡ false
        by true e =
            let some : Some (alone_after row.server (map.get name_cmp known.alone row.origin)) ≡ None = sym (found origin true e) ∙ is in
            cc
        by false e =
            list_any-append (has_origin origin) before (row ∷ [])
            ∙ (λ i. knows.none origin (sym (found origin false e) ∙ is) i || (((lists_equiv nat_list_eq_equiv).symm origin row.origin ∙ e) i || false))

      -- the rows with one more are known, which is the first with its origin
      pub known_with_first : map.get name_cmp known.alone row.origin ≡ None → new.keys ≡ known.keys → KnowsCopies config (before ++ row ∷ []) new
      known_with_first is same = record {
        each = λ other. any_more other ∙ ap (λ (b : Bool). b || is_equal_copy config other row) (knows.each other) ∙ by other (name_eq row.origin other.origin) refl;
        none = none_then;
      } where
        by : (other : RowFiles) (b : Bool) → name_eq row.origin other.origin ≡ b
            → ((has_key known.keys other.origin (row_version config other) || is_copy_alone config other (map.get name_cmp known.alone other.origin)) || is_equal_copy config other row)
            ≡ (has_key new.keys other.origin (row_version config other) || is_copy_alone config other (map.get name_cmp new.alone other.origin))
        by other true e =
            let at : row.origin ≡ other.origin = (name_eq_decides row.origin other.origin).0 e in
            let has : Bool = has_key known.keys other.origin (row_version config other) in
            (λ i. (has || is_copy_alone config other ((ap (map.get name_cmp known.alone) (sym at) ∙ is) i))
            || (((lists_equiv nat_list_eq_equiv).symm other.origin row.origin ∙ e) i && equal_versions (row_version config other) (row_version config row)))
            ∙ ap (λ (b : Bool). b || equal_versions (row_version config other) (row_version config row)) (or-false has)
            ∙ ap (λ (origin : Labels). has || equal_versions (row_version config other) (version_at config row.server origin)) at
            ∙ (λ i. has_key (sym same i) other.origin (row_version config other)
            || is_copy_alone config other (sym (found other.origin true e ∙ ap (λ (f : Option (Option Labels)). Some (alone_after row.server f)) is) i))
        by other false e =
            let was : Bool = has_key known.keys other.origin (row_version config other) || is_copy_alone config other (map.get name_cmp known.alone other.origin) in
            (λ i. was || (((lists_equiv nat_list_eq_equiv).symm other.origin row.origin ∙ e) i && equal_versions (row_version config other) (row_version config row)))
            ∙ or-false was
            ∙ (λ i. has_key (sym same i) other.origin (row_version config other) || is_copy_alone config other (sym (found other.origin false e) i))

      -- the rows with one more are known, of which others have its origin
      pub known_with_copy : (alone : Option Labels) (mid : tree.BTreeSet CopyKey) → map.get name_cmp known.alone row.origin ≡ Some alone
          → HasMoreKeys known.keys mid row.origin (version_alone config alone row.origin)
          → HasMoreKeys mid new.keys row.origin (row_version config row) → KnowsCopies config (before ++ row ∷ []) new
      known_with_copy alone mid is more last = record {
        each = λ other. any_more other ∙ ap (λ (b : Bool). b || is_equal_copy config other row) (knows.each other) ∙ by other (name_eq row.origin other.origin) refl;
        none = none_then;
      } where
        by : (other : RowFiles) (b : Bool) → name_eq row.origin other.origin ≡ b
            → ((has_key known.keys other.origin (row_version config other) || is_copy_alone config other (map.get name_cmp known.alone other.origin)) || is_equal_copy config other row)
            ≡ (has_key new.keys other.origin (row_version config other) || is_copy_alone config other (map.get name_cmp new.alone other.origin))
        by other true e =
            let at : row.origin ≡ other.origin = (name_eq_decides row.origin other.origin).0 e in
            let own : Option Version = row_version config other in
            let has : Bool = has_key known.keys other.origin own in
            let same : name_eq other.origin row.origin ≡ true = (lists_equiv nat_list_eq_equiv).symm other.origin row.origin ∙ e in
            (λ i. (has || is_copy_alone config other ((ap (map.get name_cmp known.alone) (sym at) ∙ is) i)) || (same i && equal_versions own (row_version config row)))
            ∙ ap (λ (origin : Labels). (has || equal_versions own (version_alone config alone origin)) || equal_versions own (row_version config row)) (sym at)
            ∙ (λ i. (has || (sym same i && equal_versions own (version_alone config alone row.origin))) || (sym same i && equal_versions own (row_version config row)))
            ∙ (λ i. sym (more other.origin own) i || (name_eq other.origin row.origin && equal_versions own (row_version config row)))
            ∙ sym (last other.origin own)
            ∙ sym (or-false (has_key new.keys other.origin own))
            ∙ (λ i. has_key new.keys other.origin own || sym (equal_none own) i)
            ∙ (λ i. has_key new.keys other.origin own
            || is_copy_alone config other (sym (found other.origin true e ∙ ap (λ (f : Option (Option Labels)). Some (alone_after row.server f)) is) i))
        by other false e =
            let own : Option Version = row_version config other in
            let has : Bool = has_key known.keys other.origin own in
            let alike : Bool = is_copy_alone config other (map.get name_cmp known.alone other.origin) in
            let differs : name_eq other.origin row.origin ≡ false = (lists_equiv nat_list_eq_equiv).symm other.origin row.origin ∙ e in
            (λ i. (has || alike) || (differs i && equal_versions own (row_version config row)))
            ∙ or-false (has || alike)
            ∙ (λ i. sym (
            last other.origin own
            ∙ (λ j. more other.origin own j || (differs j && equal_versions own (row_version config row)))
            ∙ (λ j. (has || (differs j && equal_versions own (version_alone config alone row.origin))) || false)
            ∙ or-false (has || false)
            ∙ or-false has
            ) i || alike)
            ∙ (λ i. has_key new.keys other.origin own || is_copy_alone config other (sym (found other.origin false e) i))
