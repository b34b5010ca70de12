-- The walks from one state as one list: those that are found by following all its branches are all its walks in order, no
-- other list has them all, and there are more walks than so many exactly where the list is longer.
use Rattle.std.proofs.Common.{◌≡◌, ℕ, ◌<◌, ◌≤◌, List, map, length, get_or, Contains, AllPairs, Some, Less, is_some, sym, ap, ◌∙◌, subst, arith}
use Rattle.std.specs.Prelude.{IsSome}
use Rattle.std.specs.Cmp.Lexicographic.{nat_list_cmp_total}
use Rattle.std.proofs.lemmas.List.{length-map}
use Rattle.std.proofs.lemmas.Simd.{map-map}
use Rattle.dns_data.specs.declared.rr_type.RrType.{RrType}
use Rattle.dns_data.proofs.Membership.{all_images, from_map, map_has, pairs_of_images}
use Rattle.dns_data.proofs.OrderedLists.{never_before_itself, same_rising}
use Rattle.net_model.specs.declared.walk.State.{State}
use Rattle.net_model.specs.declared.walk.Walk.{Walk}
use Rattle.net_model.specs.Step.{Setting}
use Rattle.net_model.specs.Walk.{path_cmp, walk_from}
use Rattle.net_model.proofs.AllWalks.{Numbered, Settled, all_are, all_from, from_rises, none_missing, pairs_rise, same_walks, walk_of, walks_within}
use Rattle.net_model.proofs.Counting.{no_more_than}
use Rattle.net_model.proofs.WalkLists.{map_same, same_items, the_walk}
use Rattle.plain_resolver.specs.FromServer.{AreWalksFrom, HasMoreWalksFrom}

module _ (setting : Setting) (rtype : RrType) where
  module _ (state : State) where
    -- the walks from a state are one list
    pub one_walks_from : (a b : List Walk) → AreWalksFrom setting state rtype a → AreWalksFrom setting state rtype b → a ≡ b
    one_walks_from a b (paths, are, walks) (others, also, same) =
        let one : paths ≡ others =
        same_rising path_cmp nat_list_cmp_total paths others are.ordered also.ordered
        (λ path has. (also.all path).1 ((are.all path).0 has)) (λ path has. (are.all path).1 ((also.all path).0 has)) in
        same_items a b (sym walks ∙ ap (map (λ (numbers : List ℕ). walk_from setting rtype numbers state)) one ∙ same)

    module _ (depth : ℕ) where
      -- the walks of so many states at most, with their numbers
      abbrev numbered : List Numbered
      numbered = all_from depth setting rtype state

      -- their lists of numbers
      abbrev paths : List (List ℕ)
      paths = map (λ (x : Numbered). x.0) numbered

      as_many : length paths ≡ length (walks_within depth setting rtype state)
      as_many =
          length-map numbered (λ (x : Numbered). x.0) ∙ sym (length-map numbered walk_of)
          ∙ ap (λ (xs : List Walk). length xs) (same_walks setting rtype depth state)

      ordered : AllPairs (λ a b. path_cmp a b ≡ Less) paths
      ordered = pairs_of_images (λ (x : Numbered). x.0) (λ a b. path_cmp a b ≡ Less) numbered (pairs_rise numbered (from_rises setting rtype depth state))

      is_walk : (numbers : List ℕ) → Contains paths numbers → IsSome (walk_from setting rtype numbers state)
      is_walk numbers has =
          let found = from_map (λ (x : Numbered). x.0) numbered numbers has in
          subst (λ (ns : List ℕ). IsSome (walk_from setting rtype ns state)) found.2 (ap is_some (all_are setting rtype depth state found.0 found.1))

      -- if more walks than so many are listed, there are more
      pub has_more_from : (most : ℕ) → most < length (walks_within depth setting rtype state) → HasMoreWalksFrom setting state rtype most
      has_more_from most more = record {
        items = paths;
        more = omega (arith, more, as_many);
        differ = λ i j d before within same.
            never_before_itself path_cmp nat_list_cmp_total (get_or paths j d)
            (subst (λ (ns : List ℕ). path_cmp ns (get_or paths j d) ≡ Less) same (ordered i j d before within));
        each = all_images (λ (x : Numbered). x.0) (λ (ns : List ℕ). IsSome (walk_from setting rtype ns state)) numbered
            (λ x has. ap is_some (all_are setting rtype depth state x has));
      }

      module _ (settled : Settled depth setting rtype state) where
        has_walk : (numbers : List ℕ) → IsSome (walk_from setting rtype numbers state) → Contains paths numbers
        has_walk numbers some =
            let walk = the_walk (walk_from setting rtype numbers state) some in
            map_has (λ (x : Numbered). x.0) numbered (numbers, walk.0) (none_missing setting rtype depth state numbers walk.0 settled walk.1)

        -- if no more walks than so many are listed, there are no more
        pub has_no_more_from : (most : ℕ) → length (walks_within depth setting rtype state) ≤ most → HasMoreWalksFrom setting state rtype most → ⊥
        has_no_more_from most few =
            no_more_than (λ (ns : List ℕ). IsSome (walk_from setting rtype ns state)) most paths (omega (arith, few, as_many)) has_walk

        -- the listed walks are all walks from the state
        pub are_walks_from : AreWalksFrom setting state rtype (walks_within depth setting rtype state)
        are_walks_from = (
          paths,
          record { ordered = ordered; all = λ numbers. (is_walk numbers, has_walk numbers) },
          map-map (λ (ns : List ℕ). walk_from setting rtype ns state) (λ (x : Numbered). x.0) numbered
              ∙ map_same (λ (x : Numbered). walk_from setting rtype x.0 state) (λ (x : Numbered). Some x.1) numbered (λ x has. all_are setting rtype depth state x has)
              ∙ sym (map-map (λ (w : Walk). Some w) walk_of numbered)
              ∙ ap (map (λ (w : Walk). Some w)) (same_walks setting rtype depth state),
        )
