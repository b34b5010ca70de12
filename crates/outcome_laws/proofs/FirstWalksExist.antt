-- If a query shows a fault there is a first walk, or a first pair of walks, that shows it.
use Rattle.std.proofs.Common.{◌≡◌, ◌∙◌, ℕ, Bool, true, false, List, [], ◌∷◌, ◌++◌, map, flat_map, Contains, Some, refl, sym, ap, subst, inl, inr, true≢false}
use Rattle.std.specs.Cmp.{IsTotalOrder}
use Rattle.std.specs.List.{AllByRecursion}
use Rattle.std.specs.declared.cmp.Ordering.{Ordering}
use Rattle.std.proofs.lemmas.Cmp.{on_total, lists_total, nat_list_cmp_total}
use Rattle.std.proofs.lemmas.List.Elements.{Contains-append_left, Contains-append_right, Contains-append_cases}
use Rattle.dns_data.specs.Name.{Labels}
use Rattle.dns_data.specs.declared.rr_type.RrType.{RrType}
use Rattle.dns_data.proofs.LeastItems.{IsLeastItem, least_or_none}
use Rattle.dns_data.proofs.Membership.{map_has, from_map, flat_map_has, from_flat_map}
use Rattle.graph_form.specs.Report.{paths_cmp}
use Rattle.graph_form.specs.Trails.{WalksTake, ZonesShow}
use Rattle.graph_form.proofs.Taking.{taken, zones, shown}
use Rattle.net_model.specs.declared.fault.Fault.{Fault}
use Rattle.net_model.specs.declared.walk.Walk.{Walk}
use Rattle.net_model.specs.Shown.{Shows, with_sets}
use Rattle.net_model.specs.Step.{Setting}
use Rattle.net_model.specs.Walk.{IsWalk, walk_along}
use Rattle.net_model.proofs.AllWalks.{Numbered, all_along, all_along_are, none_missing_along}
use Rattle.net_model.proofs.RoundsExist.{query_settles}
use Rattle.query_classes.proofs.Decided.{Decided}
use Rattle.query_verdicts.proofs.FirstWalksShow.{AreFirstWalks}
use Rattle.query_verdicts.proofs.ShowsDecided.{walks_take}

module _ (setting : Setting) (query : Labels) (rtype : RrType) (fault : Fault) where
  -- all walks of the query, with their numbers
  abbrev every : List Numbered
  every = all_along (query_settles setting rtype query).0 setting rtype query

  has_every : (path : List ℕ) (walk : Walk) → walk_along setting query rtype path ≡ Some walk → Contains every (path, walk)
  has_every path walk is = none_missing_along setting rtype (query_settles setting rtype query).0 query path walk (query_settles setting rtype query).1 is

  from_every : (one : Numbered) → Contains every one → walk_along setting query rtype one.0 ≡ Some one.1
  from_every one has = all_along_are setting rtype (query_settles setting rtype query).0 query one has

  abbrev paths_of : List Numbered → List (List ℕ)
  paths_of some = map (λ (one : Numbered). one.0) some

  abbrev walks_of : List Numbered → List Walk
  walks_of some = map (λ (one : Numbered). one.1) some

  abbrev alone : Numbered → List Numbered
  alone one = one ∷ []

  abbrev beside : Numbered → Numbered → List Numbered
  beside one other = one ∷ other ∷ []

  abbrev beside_each : Numbered → List (List Numbered)
  beside_each one = map (beside one) every

  -- one of them, or two
  abbrev choices : List (List Numbered)
  choices = map alone every ++ flat_map beside_each every

  abbrev test_of : {P : Type 0} → Decided P → Bool
  test_of (inl holds) = true
  test_of (inr fails) = false

  abbrev takes : List Numbered → Bool
  takes some = test_of (walks_take (walks_of some) fault)

  by_takes : (some : List Numbered) → takes some ≡ true → WalksTake (walks_of some) fault
  by_takes some e = by (walks_take (walks_of some) fault) e where
    by : (decided : Decided (WalksTake (walks_of some) fault)) → test_of decided ≡ true → WalksTake (walks_of some) fault
    by (inl holds) e = holds
    by (inr fails) e = cc

  takes_by : (some : List Numbered) → WalksTake (walks_of some) fault → takes some ≡ true
  takes_by some take = by (walks_take (walks_of some) fault) where
    by : (decided : Decided (WalksTake (walks_of some) fault)) → test_of decided ≡ true
    by (inl holds) = refl
    by (inr fails) = absurd (fails take)

  abbrev choice_cmp : List Numbered → List Numbered → Ordering
  choice_cmp a b = paths_cmp (paths_of a) (paths_of b)

  choices_total : IsTotalOrder choice_cmp
  choices_total = on_total paths_of (lists_total nat_list_cmp_total)

  -- walks along paths that show the fault are among the choices
  chosen_paths : (paths : List (List ℕ)) (walks : List Walk) → map (walk_along setting query rtype) paths ≡ map Some walks → WalksTake walks fault
      → (some : List Numbered) × Contains choices some × (paths_of some ≡ paths) × (walks_of some ≡ walks)
  chosen_paths paths [] are take = absurd take
  chosen_paths [] (walk ∷ walks) are take = cc
  chosen_paths (path ∷ []) (walk ∷ []) are take =
      let along : walk_along setting query rtype path ≡ Some walk = cc in (
        (path, walk) ∷ [],
        Contains-append_left (map alone every) (flat_map beside_each every) ((path, walk) ∷ []) (map_has alone every (path, walk) (has_every path walk along)),
        refl,
        refl,
      )
  chosen_paths (path ∷ other ∷ paths) (walk ∷ []) are take = cc
  chosen_paths (path ∷ []) (walk ∷ other ∷ walks) are take = cc
  chosen_paths (path ∷ second ∷ []) (walk ∷ other ∷ []) are take =
      let along : walk_along setting query rtype path ≡ Some walk = cc in
      let along_too : walk_along setting query rtype second ≡ Some other = cc in (
        (path, walk) ∷ (second, other) ∷ [],
        Contains-append_right (map alone every) (flat_map beside_each every) ((path, walk) ∷ (second, other) ∷ [])
            (flat_map_has beside_each every (path, walk) ((path, walk) ∷ (second, other) ∷ []) (has_every path walk along)
            (map_has (beside (path, walk)) every (second, other) (has_every second other along_too))),
        refl,
        refl,
      )
  chosen_paths (path ∷ second ∷ third ∷ paths) (walk ∷ other ∷ []) are take = cc
  chosen_paths paths (walk ∷ other ∷ third ∷ walks) are take = absurd take

  -- and the choices are walks along their paths
  choice_is : (some : List Numbered) → Contains choices some → map (walk_along setting query rtype) (paths_of some) ≡ map Some (walks_of some)
  choice_is some has =
      elim (Contains-append_cases (map alone every) (flat_map beside_each every) some has) [
        | inl first ↦ (
            let (one, inside, is) = from_map alone every some first in
            subst (λ (s : List Numbered). map (walk_along setting query rtype) (paths_of s) ≡ map Some (walks_of s)) is
            (ap (λ w. w ∷ []) (from_every one inside)))
        | inr second ↦ (
            let (one, inside, pairs) = from_flat_map beside_each every some second in
            let (other, also, is) = from_map (beside one) every some pairs in
            subst (λ (s : List Numbered). map (walk_along setting query rtype) (paths_of s) ≡ map Some (walks_of s)) is
            (ap (λ w. w ∷ walk_along setting query rtype other.0 ∷ []) (from_every one inside) ∙ ap (λ w. Some one.1 ∷ w ∷ []) (from_every other also)))
      ]

  -- walks of the query have paths
  paths_along : (walks : List Walk) → AllByRecursion (IsWalk setting query rtype) walks → (paths : List (List ℕ)) × (map (walk_along setting query rtype) paths ≡ map Some walks)
  paths_along [] are = ([], refl)
  paths_along (walk ∷ walks) ((path, along), are) =
      let (paths, rest) = paths_along walks are in
      (path ∷ paths, ap (λ w. w ∷ map (walk_along setting query rtype) paths) along ∙ ap (λ more. Some walk ∷ more) rest)

  -- so there are first ones
  pub first_walks_exist : Shows (with_sets setting) query rtype fault → (walks : List Walk) × AreFirstWalks setting query rtype fault walks
  first_walks_exist shows =
      let hold : ZonesShow (with_sets setting) fault = zones (with_sets setting) shows.walks fault shows.show in
      let (paths, are) = paths_along shows.walks shows.are_walks in
      let (some, inside, paths_are, walks_are) = chosen_paths paths shows.walks are (taken (with_sets setting) shows.walks fault shows.show) in
      let take : WalksTake (walks_of some) fault = subst (λ (w : List Walk). WalksTake w fault) (sym walks_are) (taken (with_sets setting) shows.walks fault shows.show) in
      elim (least_or_none choice_cmp choices_total takes choices) [
        | inl none ↦ absurd (true≢false (sym (takes_by some take) ∙ none some inside))
        | inr (least, first) ↦ (walks_of least, firsts least first hold)
      ]
    where
      firsts : (least : List Numbered) → IsLeastItem choice_cmp takes choices least → ZonesShow (with_sets setting) fault → AreFirstWalks setting query rtype fault (walks_of least)
      firsts least first hold =
          record {
            paths = paths_of least;
            show = record {
              are_walks = choice_is least first.among;
              show = shown (with_sets setting) (walks_of least) fault (by_takes least first.passes) hold;
            };
            first = λ others other also less.
                let (some, inside, paths_are, walks_are) = chosen_paths others other also.are_walks (taken (with_sets setting) other fault also.show) in
                let take : WalksTake (walks_of some) fault = subst (λ (w : List Walk). WalksTake w fault) (sym walks_are) (taken (with_sets setting) other fault also.show) in
                first.none_before some inside (takes_by some take) (ap (λ (p : List (List ℕ)). paths_cmp p (paths_of least)) paths_are ∙ less);
          }
