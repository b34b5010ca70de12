-- The walks of a query as one list: those that are found by following all its branches are all its walks in order, and no
-- other list has them all.
use Rattle.std.proofs.Common.{◌≡◌, ℕ, List, [], ◌∷◌, map, length, Contains, AllPairs, Option, Some, None, is_some, true, Less, sym, refl, ap, ◌∙◌, subst}
use Rattle.std.specs.Prelude.{IsSome}
use Rattle.std.specs.Cmp.Lexicographic.{nat_list_cmp_total}
use Rattle.std.specs.List.{AllByRecursion, flat_map}
use Rattle.std.proofs.lemmas.List.{length-map}
use Rattle.std.proofs.lemmas.Simd.{map-map}
use Rattle.dns_data.specs.Name.{Labels}
use Rattle.dns_data.specs.declared.rr_type.RrType.{RrType}
use Rattle.dns_data.proofs.Membership.{has_first, has_later, map_has, from_map, pairs_of_images}
use Rattle.dns_data.proofs.OrderedLists.{same_rising}
use Rattle.net_model.specs.declared.walk.Walk.{Walk}
use Rattle.net_model.specs.Step.{Setting, start}
use Rattle.net_model.specs.Walk.{walk_along, path_cmp, AreWalks}
use Rattle.net_model.proofs.AllWalks.{Numbered, all_along, walks_within, Settled, walk_of, all_along_are, none_missing_along, same_walks_along, along_ordered}

-- lists are equal if their items under `Some` are
pub same_items : {X : Type 0} (xs ys : List X) → map (λ (x : X). Some x) xs ≡ map (λ (x : X). Some x) ys → xs ≡ ys
same_items [] [] e = refl
same_items [] (y ∷ ys) e = cc
same_items (x ∷ xs) [] e = cc
same_items {X = X} (x ∷ xs) (y ∷ ys) e =
    let first : x ≡ y = cc in
    let rest : map (λ (z : X). Some z) xs ≡ map (λ (z : X). Some z) ys = cc in
    ap (λ (z : X). z ∷ xs) first ∙ ap (λ (zs : List X). y ∷ zs) (same_items xs ys rest)

-- the walks of a query are one list
pub one_walks : (setting : Setting) (query : Labels) (rtype : RrType) (a b : List Walk) → AreWalks setting query rtype a → AreWalks setting query rtype b → a ≡ b
one_walks setting query rtype a b (paths, are, walks) (others, also, same) =
    let one : paths ≡ others =
    same_rising path_cmp nat_list_cmp_total paths others are.ordered also.ordered
    (λ path has. (also.all path).1 ((are.all path).0 has)) (λ path has. (are.all path).1 ((also.all path).0 has)) in
    same_items a b (sym walks ∙ ap (map (walk_along setting query rtype)) one ∙ same)

-- two maps that agree on the items of a list give one list
pub map_same : {X Y : Type 0} (f g : X → Y) (xs : List X) → ((x : X) → Contains xs x → f x ≡ g x) → map f xs ≡ map g xs
map_same f g [] agree = refl
map_same f g (x ∷ xs) agree =
    ap (λ y. y ∷ map f xs) (agree x (has_first x xs)) ∙ ap (λ ys. g x ∷ ys) (map_same f g xs (λ y has. agree y (has_later x xs y has)))

-- what is there
pub the_walk : (o : Option Walk) → is_some o ≡ true → (walk : Walk) × (o ≡ Some walk)
the_walk None e = cc
the_walk (Some walk) e = (walk, refl)

module _ (setting : Setting) (rtype : RrType) (depth : ℕ) (query : Labels) where
  -- all walks of the query of so many states at most, with their numbers
  abbrev pub numbered : List Numbered
  numbered = all_along depth setting rtype query

  -- the numbers of a walk that is listed with them
  abbrev pub numbers_of : Numbered → List ℕ
  numbers_of x = x.0

  -- the lists of numbers of all walks of the query of so many states at most, in order
  abbrev pub paths : List (List ℕ)
  paths = map numbers_of numbered

  -- all walks of the query of so many states at most, without their numbers
  abbrev pub total : List Walk
  total = flat_map (walks_within depth setting rtype) (start setting.config query)

  -- as many lists of numbers as walks are listed
  pub as_many : length paths ≡ length total
  as_many = length-map numbered numbers_of ∙ sym (length-map numbered walk_of) ∙ ap (λ (xs : List Walk). length xs) (same_walks_along setting rtype depth query)

  is_walk : (numbers : List ℕ) → Contains paths numbers → IsSome (walk_along setting query rtype numbers)
  is_walk numbers has =
      let found = from_map numbers_of numbered numbers has in
      subst (λ (ns : List ℕ). IsSome (walk_along setting query rtype ns)) found.2 (ap is_some (all_along_are setting rtype depth query found.0 found.1))

  -- each list of numbers that leads along a walk of the query is listed
  pub has_walk : AllByRecursion (Settled depth setting rtype) (start setting.config query) → (numbers : List ℕ)
      → IsSome (walk_along setting query rtype numbers) → Contains paths numbers
  has_walk settled numbers some =
      let walk = the_walk (walk_along setting query rtype numbers) some in
      map_has numbers_of numbered (numbers, walk.0) (none_missing_along setting rtype depth query numbers walk.0 settled walk.1)

  -- the lists of numbers of a query's walks stand in order
  pub ordered : AllPairs (λ a b. path_cmp a b ≡ Less) paths
  ordered = pairs_of_images numbers_of (λ a b. path_cmp a b ≡ Less) numbered (along_ordered setting rtype depth query)

  -- the listed walks are all walks of the query
  pub are_walks : (walks : List Walk) → walks ≡ total → AllByRecursion (Settled depth setting rtype) (start setting.config query) → AreWalks setting query rtype walks
  are_walks walks is settled = (
    paths,
    record { ordered = ordered; all = λ numbers. (is_walk numbers, has_walk settled numbers) },
    map-map (walk_along setting query rtype) numbers_of numbered
        ∙ map_same (λ (x : Numbered). walk_along setting query rtype x.0) (λ (x : Numbered). Some x.1) numbered (λ x has. all_along_are setting rtype depth query x has)
        ∙ sym (map-map (λ (w : Walk). Some w) walk_of numbered)
        ∙ ap (map (λ (w : Walk). Some w)) (same_walks_along setting rtype depth query ∙ sym is),
  )
