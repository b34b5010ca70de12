-- The walks of a query, shown one branch of a state after another.
use Rattle.std.proofs.Common.{◌≡◌, ℕ, zero, suc, ◌+◌, ◌<◌, List, [], ◌∷◌, ◌++◌, map, length, Option, refl, sym, ap, ◌∙◌, subst, arith, length-append, append_assoc}
use Rattle.std.specs.List.{AllByRecursion, flat_map, fold}
use Rattle.std.proofs.lemmas.List.{append-nil, length-map, map-append}
use Rattle.std.proofs.lemmas.List.Sums.{fold-append}
use Rattle.dns_data.specs.declared.rr_type.RrType.{RrType}
use Rattle.net_model.specs.declared.walk.Hop.{Hop}
use Rattle.net_model.specs.declared.walk.Leaf.{Leaf}
use Rattle.net_model.specs.declared.walk.State.{State}
use Rattle.net_model.specs.declared.walk.Walk.{Walk}
use Rattle.net_model.specs.Step.{Setting, Branch, Go, End, next}
use Rattle.net_model.specs.Walk.{led_on}
use Rattle.net_model.proofs.AllWalks.{walks_by, walks_within, LeadsTo, Settled}
use Rattle.plain_resolver.specs.Asked.{Asked}
use Rattle.plain_resolver.specs.Begun.{Begun, led_along, ended, states_left, walks_on}
use Rattle.plain_resolver.specs.WalkEnds.{end_of, zone_ends_of}
use Rattle.plain_resolver.specs.declared.walk_end.WalkEnd.{WalkEnd}
use Rattle.plain_resolver.specs.declared.walk_end.ZoneEnd.{ZoneEnd}

-- no walk is begun
abbrev pub nothing : Begun
nothing = record { states = []; hops = [] }

-- the begun walk with the state behind it
abbrev pub entered : Begun → State → Begun
entered begun state = record { states = begun.states ++ state ∷ []; hops = begun.hops }

-- the begun walk with the state and a hop from it behind it
abbrev pub gone : Begun → State → Hop → Begun
gone begun state hop = record { states = begun.states ++ state ∷ []; hops = begun.hops ++ hop ∷ [] }

-- ---- how many states are left

some_left : (depth : ℕ) (setting : Setting) (rtype : RrType) (state : State) → Settled depth setting rtype state → 0 < depth
some_left zero setting rtype state settled = absurd settled
some_left (suc depth) setting rtype state settled = omega arith

module _ (asked : Asked) where
  module _ (begun : Begun) (state : State) (settled : Settled (states_left asked begun) asked.setting asked.rtype state) where
    -- once the state is entered one state less is left
    pub one_less_left : states_left asked begun ≡ suc (states_left asked (entered begun state))
    one_less_left =
        let some = some_left (states_left asked begun) asked.setting asked.rtype state settled in
        omega (arith, some, length-append begun.states (state ∷ []))

    -- fewer states are left when one is entered
    pub fewer_left : states_left asked (entered begun state) < states_left asked begun
    fewer_left = omega (arith, one_less_left)

    -- once a state is entered, the states to which its branches lead have walks of no more states than are left
    pub branches_settled : AllByRecursion (LeadsTo (Settled (states_left asked (entered begun state)) asked.setting asked.rtype)) (next asked.setting asked.rtype state)
    branches_settled = subst (λ (depth : ℕ). Settled depth asked.setting asked.rtype state) one_less_left settled

    -- the walks that a state's branches give are the walks from the state
    pub walks_by_branches : flat_map (walks_by (walks_on asked (entered begun state)) state) (next asked.setting asked.rtype state) ≡ walks_on asked begun state
    walks_by_branches = sym (ap (λ (depth : ℕ). walks_within depth asked.setting asked.rtype state) one_less_left)

-- ---- the branches of a state

-- walks with nothing before them are the walks
pub along_nothing : (walks : List Walk) → map (led_along nothing) walks ≡ walks
along_nothing [] = refl
along_nothing (walk ∷ walks) = ap (λ (ws : List Walk). walk ∷ ws) (along_nothing walks)

module _ (begun : Begun) (state : State) where
  along_on : (hop : Hop) (walk : Walk) → led_along (gone begun state hop) walk ≡ led_along begun (led_on state hop walk)
  along_on hop walk =
      ap (λ (states : List State). record { states = states; hops = (begun.hops ++ hop ∷ []) ++ walk.hops; leaf = walk.leaf }) (append_assoc begun.states (state ∷ []) walk.states)
      ∙ ap (λ (hops : List Hop). record { states = begun.states ++ state ∷ walk.states; hops = hops; leaf = walk.leaf }) (append_assoc begun.hops (hop ∷ []) walk.hops)

  all_along_on : (hop : Hop) (walks : List Walk) → map (led_along (gone begun state hop)) walks ≡ map (led_along begun) (map (led_on state hop) walks)
  all_along_on hop [] = refl
  all_along_on hop (walk ∷ walks) =
      ap (λ (w : Walk). w ∷ map (led_along (gone begun state hop)) walks) (along_on hop walk)
      ∙ ap (λ (ws : List Walk). led_along begun (led_on state hop walk) ∷ ws) (all_along_on hop walks)

  module _ (on : State → List Walk) where
    -- the walks that the branches give from the state
    abbrev pub by_branches : List Branch → List Walk
    by_branches branches = flat_map (walks_by on state) branches

    going_gives : (hop : Hop) (to : State) (rest : List Branch)
        → map (led_along begun) (by_branches (Go hop to ∷ rest)) ≡ map (led_along (gone begun state hop)) (on to) ++ map (led_along begun) (by_branches rest)
    going_gives hop to rest =
        map-append (led_along begun) (map (led_on state hop) (on to)) (by_branches rest)
        ∙ ap (λ (ws : List Walk). ws ++ map (led_along begun) (by_branches rest)) (sym (all_along_on hop (on to)))

    -- how many a branch gives that goes on
    pub count_going : (hop : Hop) (to : State) (rest : List Branch) → length (by_branches (Go hop to ∷ rest)) ≡ length (on to) + length (by_branches rest)
    count_going hop to rest =
        length-append (map (led_on state hop) (on to)) (by_branches rest)
        ∙ ap (λ (n : ℕ). n + length (by_branches rest)) (length-map (on to) (led_on state hop))

    module _ {V : Type 0} (after : V → Walk → V) (old new total : V) where
      -- what is shown when a branch was followed that goes on
      pub shown_going : (hop : Hop) (to : State) (rest : List Branch) → fold after old (map (led_along begun) (by_branches (Go hop to ∷ rest))) ≡ total
          → new ≡ fold after old (map (led_along (gone begun state hop)) (on to)) → fold after new (map (led_along begun) (by_branches rest)) ≡ total
      shown_going hop to rest before is =
          ap (λ (v : V). fold after v (map (led_along begun) (by_branches rest))) is
          ∙ sym (fold-append after old (map (led_along (gone begun state hop)) (on to)) (map (led_along begun) (by_branches rest)))
          ∙ ap (λ (ws : List Walk). fold after old ws) (sym (going_gives hop to rest))
          ∙ before

      -- what is shown when a branch was followed that ends
      pub shown_ending : (hop : Option Hop) (leaf : Leaf) (rest : List Branch) → fold after old (map (led_along begun) (by_branches (End hop leaf ∷ rest))) ≡ total
          → new ≡ after old (ended (entered begun state) hop leaf) → fold after new (map (led_along begun) (by_branches rest)) ≡ total
      shown_ending hop leaf rest before is = ap (λ (v : V). fold after v (map (led_along begun) (by_branches rest))) is ∙ before

-- ---- what visitors become

-- the list of the walks that were shown
pub all_listed : (before walks : List Walk) → fold (λ (all : List Walk) (walk : Walk). all ++ walk ∷ []) before walks ≡ before ++ walks
all_listed before [] = sym (append-nil before)
all_listed before (walk ∷ walks) = all_listed (before ++ walk ∷ []) walks ∙ append_assoc before (walk ∷ []) walks

-- the list of the ends of the walks that were shown
pub ends_listed : (before : List WalkEnd) (walks : List Walk)
    → fold (λ (all : List WalkEnd) (walk : Walk). all ++ end_of walk ∷ []) before walks ≡ before ++ map end_of walks
ends_listed before [] = sym (append-nil before)
ends_listed before (walk ∷ walks) =
    ends_listed (before ++ end_of walk ∷ []) walks ∙ append_assoc before (end_of walk ∷ []) (map end_of walks)

-- the list of what the walks that were shown ask last
pub zone_ends_listed : (before : List ZoneEnd) (walks : List Walk)
    → fold (λ (all : List ZoneEnd) (walk : Walk). all ++ zone_ends_of walk) before walks ≡ before ++ flat_map zone_ends_of walks
zone_ends_listed before [] = sym (append-nil before)
zone_ends_listed before (walk ∷ walks) =
    zone_ends_listed (before ++ zone_ends_of walk) walks ∙ append_assoc before (zone_ends_of walk) (flat_map zone_ends_of walks)
