-- A row is reached exactly where the view of its origin shows it.
use Rattle.std.proofs.Common.{◌≡◌, Bool, true, false, ◌&&◌, cond, List, [], ◌∷◌, ◌++◌, map, Contains, refl, sym, subst, inl, inr, true≢false}
use Rattle.std.specs.Prelude.{◌↔◌, ◌⊎◌}
use Rattle.std.specs.List.{list_any}
use Rattle.std.proofs.lemmas.Bool.{and_parts, and_from, eqb-true, or_left, or_right}
use Rattle.std.proofs.lemmas.List.Elements.{Contains-append_cases}
use Rattle.dns_data.specs.Distinct.{distinct, distinct_behind}
use Rattle.dns_data.specs.Name.{Labels, name_eq}
use Rattle.dns_data.specs.RrType.{number_of, type_eq, types}
use Rattle.dns_data.specs.declared.rr_type.RrType.{RrType}
use Rattle.dns_data.specs.declared.rr_type.RrType.TheVariants.{Soa}
use Rattle.dns_data.proofs.Membership.{none_in_nil, has_first, has_later, first_or_later, map_has, from_map, flat_map_has, from_flat_map}
use Rattle.dns_data.proofs.Names.{name_eq_decides}
use Rattle.dns_data.proofs.Searches.{any_has, from_any}
use Rattle.graph_form.proofs.Reached.{every_type}
use Rattle.net_model.specs.declared.class.Class.{Class}
use Rattle.net_model.specs.declared.config.Config.{Config}
use Rattle.net_model.specs.declared.walk.Leaf.{Leaf}
use Rattle.net_model.specs.declared.walk.Leaf.TheVariants.{Answer}
use Rattle.net_model.specs.declared.walk.Walk.{Walk}
use Rattle.net_model.specs.Step.{Setting, following}
use Rattle.net_model.specs.Walk.{IsWalk}
use Rattle.net_model.proofs.FaultOrder.{one_type}
use Rattle.net_model.proofs.InForce.{one_in_force}
use Rattle.config_load.specs.declared.loaded.RowFiles.{RowFiles}
use Rattle.site_checks.specs.Ends.{end_eq, end_of, ends_of, is_answer, last_server, leaf_eq, all_ends}
use Rattle.site_checks.specs.declared.views.TypedEnd.{TypedEnd}
use Rattle.site_checks.specs.declared.views.View.{View}
use Rattle.zone_lookup.proofs.ListedWalks.{is_listed, listed_is}
use Rattle.map_run.specs.Limits.{reached_queries}
use Rattle.map_run.specs.Reached.{IsRowReached, answers_at, is_alone, shows_reached}
use Rattle.map_run.specs.Rewrites.{most_rewrites}
use Rattle.map_run.specs.ShownOrigins.{AreViewsOfRows, IsViewOf}
use Rattle.map_run.proofs.SeenRows.{is_seen}

-- ---- of equal items the first

module _ {X : Type 0} (eq : X → X → Bool) where
  from_behind : (before items : List X) (x : X) → Contains (distinct_behind eq before items) x → Contains items x
  from_behind before [] x has = absurd (none_in_nil x has)
  from_behind before (item ∷ items) x has = by (list_any (eq item) before) has (from_behind (before ++ item ∷ []) items x) where
    rest : List X
    rest = distinct_behind eq (before ++ item ∷ []) items

    by : (b : Bool) → Contains (cond b rest (item ∷ rest)) x → (Contains rest x → Contains items x) → Contains (item ∷ items) x
    by true among later = has_later item items x (later among)
    by false among later = elim (first_or_later item rest x among) [
      | inl same ↦ subst (Contains (item ∷ items)) same (has_first item items)
      | inr behind ↦ has_later item items x (later behind)
    ]

  -- each of them is an item
  from_distinct : (items : List X) (x : X) → Contains (distinct eq items) x → Contains items x
  from_distinct items x has = from_behind [] items x has

  module _ (test : X → Bool) (agrees : (a b : X) → eq a b ≡ true → test a ≡ true → test b ≡ true) where
    any_behind : (before items : List X) (x : X) → Contains items x → test x ≡ true
        → (list_any test before ≡ true) ⊎ (list_any test (distinct_behind eq before items) ≡ true)
    any_behind before [] x has passes = absurd (none_in_nil x has)
    any_behind before (item ∷ items) x has passes =
        elim (first_or_later item items x has) [
          | inl same ↦ here (list_any (eq item) before) refl (subst (λ (y : X). test y ≡ true) (sym same) passes)
          | inr later ↦ next (list_any (eq item) before) refl (any_behind (before ++ item ∷ []) items x later passes)
        ]
      where
        rest : List X
        rest = distinct_behind eq (before ++ item ∷ []) items

        here : (b : Bool) → list_any (eq item) before ≡ b → test item ≡ true → (list_any test before ≡ true) ⊎ (list_any test (cond b rest (item ∷ rest)) ≡ true)
        here true e holds = let (other, there, equal) = from_any (eq item) before e in inl (any_has test before other there (agrees item other equal holds))
        here false e holds = inr (or_left (test item) (list_any test rest) holds)

        next : (b : Bool) → list_any (eq item) before ≡ b → (list_any test (before ++ item ∷ []) ≡ true) ⊎ (list_any test rest ≡ true)
            → (list_any test before ≡ true) ⊎ (list_any test (cond b rest (item ∷ rest)) ≡ true)
        next b e (inl old) =
            let (y, among, holds) = from_any test (before ++ item ∷ []) old in
            elim (Contains-append_cases before (item ∷ []) y among) [
              | inl was ↦ inl (any_has test before y was holds)
              | inr last ↦ elim (first_or_later item [] y last) [
                | inl same ↦ here b e (subst (λ (z : X). test z ≡ true) (sym same) holds)
                | inr none ↦ absurd (none_in_nil y none)
              ]
            ]
        next true e (inr later) = inr later
        next false e (inr later) = inr (or_right (test item) (list_any test rest) later)

    -- where an item passes that equal ones share, one of the first ones does
    any_distinct : (items : List X) (x : X) → Contains items x → test x ≡ true → list_any test (distinct eq items) ≡ true
    any_distinct items x has passes =
        elim (any_behind [] items x has passes) [
          | inl none ↦ absurd (true≢false (sym none))
          | inr some ↦ some
        ]

-- ---- ends

answers_alike : (a b : Leaf) → leaf_eq a b ≡ true → is_answer a ≡ true → is_answer b ≡ true
answers_alike (Answer a) (Answer b) e h = refl
answers_alike a b e h = cc

-- an end equal to an answer at a server is one
ends_alike : (server : Labels) (a b : TypedEnd) → end_eq a b ≡ true → answers_at server a ≡ true → answers_at server b ≡ true
ends_alike server a b e h =
    let two = and_parts (type_eq a.rtype b.rtype && name_eq a.server b.server) (leaf_eq a.leaf b.leaf) e in
    let one = and_parts (type_eq a.rtype b.rtype) (name_eq a.server b.server) two.0 in
    let same_type : a.rtype ≡ b.rtype = one_type a.rtype b.rtype (eqb-true (number_of a.rtype) (number_of b.rtype) one.0) in
    let same_server : a.server ≡ b.server = (name_eq_decides a.server b.server).0 one.1 in
    let parts = and_parts (type_eq a.rtype Soa && name_eq a.server server) (is_answer a.leaf) h in
    and_from (type_eq b.rtype Soa && name_eq b.server server) (is_answer b.leaf)
    (subst (λ (name : Labels). (type_eq b.rtype Soa && name_eq name server) ≡ true) same_server
    (subst (λ (rtype : RrType). (type_eq rtype Soa && name_eq a.server server) ≡ true) same_type parts.0))
    (answers_alike a.leaf b.leaf two.1 parts.1)

-- ---- views

module _ (config : Config) (row : RowFiles) where
  -- a view that shows that the row is reached tells a walk
  by_view : (name : Labels) (view : View) → IsViewOf (reached_queries config) name view → shows_reached view row ≡ true → IsRowReached config row
  by_view name view is shown =
      let both = and_parts (is_alone row.origin view.class) (list_any (answers_at row.server) view.ends) shown in
      let own : name ≡ row.origin = (name_eq_decides name row.origin).0 (subst (λ (class : Class). is_alone row.origin class ≡ true) is.is_class both.0) in
      let walks = is.ends.walks in
      let setting : Setting = following config most_rewrites is.followed in
      let (end, among, passes) = from_any (answers_at row.server) (ends_of walks)
      (subst (λ (ends : List TypedEnd). list_any (answers_at row.server) ends ≡ true) is.ends.are_ends both.1) in
      let (rtype, known, with_type) = from_flat_map (λ (t : RrType). map (end_of t) (walks t)) types end (from_distinct end_eq (all_ends walks) end among) in
      let (walk, has, is_end) = from_map (end_of rtype) (walks rtype) end with_type in
      let parts = and_parts (type_eq rtype Soa && name_eq (last_server walk.states) row.server) (is_answer walk.leaf)
      (subst (λ (e : TypedEnd). answers_at row.server e ≡ true) (sym is_end) passes) in
      let one = and_parts (type_eq rtype Soa) (name_eq (last_server walk.states) row.server) parts.0 in
      let soa : rtype ≡ Soa = one_type rtype Soa (eqb-true (number_of rtype) (number_of Soa) one.0) in
      record {
        followed = is.followed;
        in_force = is.in_force;
        walk = walk;
        is_walk = subst (λ (query : Labels). IsWalk setting query Soa walk) own
            (subst (λ (t : RrType). IsWalk setting name t walk) soa (listed_is setting name rtype (walks rtype) (is.ends.are_walks rtype) walk has));
        ends = ((name_eq_decides (last_server walk.states) row.server).0 one.1, parts.1);
      }

  -- where the row is reached, the view of its origin shows it
  by_walk : (view : View) → IsViewOf (reached_queries config) row.origin view → IsRowReached config row → shows_reached view row ≡ true
  by_walk view is reached =
      let walks = is.ends.walks in
      let setting : Setting = following config most_rewrites is.followed in
      let walk : Walk = reached.walk in
      let is_walk : IsWalk setting row.origin Soa walk =
      subst (λ (names : List Labels). IsWalk (following config most_rewrites names) row.origin Soa walk)
      (one_in_force config most_rewrites reached.followed is.followed reached.in_force is.in_force) reached.is_walk in
      let has = is_listed setting row.origin Soa (walks Soa) (is.ends.are_walks Soa) walk is_walk in
      let among = flat_map_has (λ (t : RrType). map (end_of t) (walks t)) types Soa (end_of Soa walk) (every_type Soa) (map_has (end_of Soa) (walks Soa) walk has) in
      let passes : answers_at row.server (end_of Soa walk) ≡ true =
      and_from (type_eq Soa Soa && name_eq (last_server walk.states) row.server) (is_answer walk.leaf)
      (and_from (type_eq Soa Soa) (name_eq (last_server walk.states) row.server) refl ((name_eq_decides (last_server walk.states) row.server).1 reached.ends.0)) reached.ends.1 in
      let some = any_distinct end_eq (answers_at row.server) (ends_alike row.server) (all_ends walks) (end_of Soa walk) among passes in
      and_from (is_alone row.origin view.class) (list_any (answers_at row.server) view.ends)
      (subst (λ (class : Class). is_alone row.origin class ≡ true) (sym is.is_class) ((name_eq_decides row.origin row.origin).1 refl))
      (subst (λ (ends : List TypedEnd). list_any (answers_at row.server) ends ≡ true) (sym is.ends.are_ends) some)

-- ---- rows and their views

-- a row is reached exactly where some view of the rows' origins shows it
pub seen_means : (config : Config) (rows : List RowFiles) (views : List View) → AreViewsOfRows (reached_queries config) rows views
    → (row : RowFiles) → Contains rows row → (is_seen views row ≡ true) ↔ IsRowReached config row
seen_means config rows views are row has = (
  λ seen.
      let (view, among, shown) = from_any (λ (v : View). shows_reached v row) views seen in
      let (other, of_rows, is) = are.of_rows view among in
      by_view config row other.origin view is shown,
  λ reached.
      let (view, among, is) = are.for_rows row has in
      any_has (λ (v : View). shows_reached v row) views view among (by_walk config row view is reached),
)
