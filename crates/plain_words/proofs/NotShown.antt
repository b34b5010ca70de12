-- How a query is seen not to show a fault, by all its walks.
use Rattle.std.proofs.Common.{◌≡◌, ◌∙◌, ℕ, zero, suc, Bool, true, false, List, [], ◌∷◌, sym, refl, ap, subst}
use Rattle.std.specs.List.{AllByRecursion, list_all}
use Rattle.dns_data.specs.Name.{Labels}
use Rattle.dns_data.specs.declared.rr_type.RrType.{RrType}
use Rattle.dns_data.proofs.Membership.{along, each_along}
use Rattle.dns_data.proofs.Searches.{each_of_all}
use Rattle.net_model.specs.declared.config.Config.{Config}
use Rattle.net_model.specs.declared.fault.Fault.{Fault}
use Rattle.net_model.specs.declared.fault.Fault.TheVariants as faults
use Rattle.net_model.specs.declared.walk.Leaf.{Leaf}
use Rattle.net_model.specs.declared.walk.Leaf.TheVariants as leaves
use Rattle.net_model.specs.declared.walk.State.{State}
use Rattle.net_model.specs.declared.walk.Walk.{Walk}
use Rattle.net_model.specs.declared.place.Cut.{Cut}
use Rattle.net_model.specs.Learnt.{IsInForce, InLeast}
use Rattle.net_model.specs.Shown.{FaultSetting, ZonesDiffer, WantsGlue, AddressesDiffer, WalksShow, ShowsIn, with_sets}
use Rattle.net_model.specs.Step.{Setting, Branch, Go, End, following, next, start}
use Rattle.net_model.specs.Walk.{IsWalk}
use Rattle.net_model.proofs.AllWalks.{Numbered, all_along, LeadsTo, Settled, none_missing_along}
use Rattle.net_model.proofs.InForce.{one_in_force}

-- ---- all walks of a query

abbrev branch_settles : (State → Bool) → Branch → Bool
branch_settles settles (Go hop to) = settles to
branch_settles settles (End hop leaf) = true

-- no walk from the state has more states than so many
abbrev pub settles : Setting → RrType → ℕ → State → Bool
settles setting rtype zero state = false
settles setting rtype (suc depth) state = list_all (branch_settles (settles setting rtype depth)) (next setting rtype state)

module _ (setting : Setting) (rtype : RrType) where
  settled : (depth : ℕ) (state : State) → settles setting rtype depth state ≡ true → Settled depth setting rtype state
  settled zero state h = cc
  settled (suc depth) state h =
      along (LeadsTo (Settled depth setting rtype)) (next setting rtype state)
      (λ branch has. by branch (each_of_all (branch_settles (settles setting rtype depth)) (next setting rtype state) h branch has) (λ to h. settled depth to h))
    where
      by : (branch : Branch) → branch_settles (settles setting rtype depth) branch ≡ true
          → ((to : State) → settles setting rtype depth to ≡ true → Settled depth setting rtype to) → LeadsTo (Settled depth setting rtype) branch
      by (Go hop to) h rest = rest to h
      by (End hop leaf) h rest = tt

  -- what holds of each listed walk of a query holds of each of its walks
  pub each_walk : (P : Walk → Type 0) (depth : ℕ) (query : Labels) → list_all (settles setting rtype depth) (start setting.config query) ≡ true
      → AllByRecursion (λ x. P x.1) (all_along depth setting rtype query) → (walk : Walk) → IsWalk setting query rtype walk → P walk
  each_walk P depth query h all walk (numbers, is) =
      each_along (λ (x : Numbered). P x.1) (all_along depth setting rtype query) all (numbers, walk)
      (none_missing_along setting rtype depth query numbers walk
      (along (Settled depth setting rtype) (start setting.config query)
      (λ state has. settled depth state (each_of_all (settles setting rtype depth) (start setting.config query) h state has))) is)

-- ---- walks with one end

-- walks that end so may show the fault: what a delegation shows isn't told by the end, and differing answers are two ends
-- that aren't equal
abbrev pub may_show : Fault → Leaf → Bool
may_show (faults.Lame cut) (leaves.Lame ns) = true
may_show (faults.Lame cut) leaf = false
may_show (faults.Differs cut) leaf = true
may_show (faults.NoGlue cut) leaf = true
may_show (faults.GlueDiffers cut) leaf = true
may_show (faults.Cyclic cut) leaf = true
may_show (faults.Limit place) (leaves.Limit other) = true
may_show (faults.Limit place) leaf = false
may_show (faults.Blackhole place) leaves.NxDomain = true
may_show (faults.Blackhole place) leaf = false
may_show (faults.Answers class rtype) leaf = false
may_show (faults.Overlong place) (leaves.Overlong other) = true
may_show (faults.Overlong place) leaf = false
may_show (faults.NoAddress cut) (leaves.NoAddress ns) = true
may_show (faults.NoAddress cut) leaf = false

module _ (setting : FaultSetting) (leaf : Leaf) where
  -- a walk that ends in another leaf may show it
  by_end : (fault : Fault) (walk : Walk) (other : Leaf) → may_show fault leaf ≡ false → walk.leaf ≡ leaf → walk.leaf ≡ other → may_show fault other ≡ true → ⊥
  by_end fault walk other none ends is may = let no : true ≡ false = sym may ∙ ap (may_show fault) (sym is ∙ ends) ∙ none in cc

  -- walks that all end in a leaf which doesn't show the fault don't show it
  none_shows : (fault : Fault) (walks : List Walk) → may_show fault leaf ≡ false → AllByRecursion (λ walk. walk.leaf ≡ leaf) walks → WalksShow setting walks fault → ⊥
  none_shows fault [] none are show = show
  none_shows fault (one ∷ other ∷ third ∷ walks) none are show = show
  none_shows (faults.Answers class rtype) (one ∷ other ∷ []) none are show = show.differ (are.0 ∙ sym are.1.0)
  none_shows (faults.Lame cut) (one ∷ other ∷ []) none are show = show
  none_shows (faults.Differs cut) (one ∷ other ∷ []) none are show = show
  none_shows (faults.NoGlue cut) (one ∷ other ∷ []) none are show = show
  none_shows (faults.GlueDiffers cut) (one ∷ other ∷ []) none are show = show
  none_shows (faults.Cyclic cut) (one ∷ other ∷ []) none are show = show
  none_shows (faults.Limit place) (one ∷ other ∷ []) none are show = show
  none_shows (faults.Blackhole place) (one ∷ other ∷ []) none are show = show
  none_shows (faults.Overlong place) (one ∷ other ∷ []) none are show = show
  none_shows (faults.NoAddress cut) (one ∷ other ∷ []) none are show = show
  none_shows (faults.Lame cut) (walk ∷ []) none are show = by_end (faults.Lame cut) walk (leaves.Lame cut.ns) none are.0 show.ends refl
  none_shows (faults.Differs cut) (walk ∷ []) none are show = cc
  none_shows (faults.NoGlue cut) (walk ∷ []) none are show = cc
  none_shows (faults.GlueDiffers cut) (walk ∷ []) none are show = cc
  none_shows (faults.Cyclic cut) (walk ∷ []) none are show = cc
  none_shows (faults.Limit place) (walk ∷ []) none are show = by_end (faults.Limit place) walk (leaves.Limit place) none are.0 show refl
  none_shows (faults.Blackhole place) (walk ∷ []) none are show = by_end (faults.Blackhole place) walk leaves.NxDomain none are.0 show.ends refl
  none_shows (faults.Answers class rtype) (walk ∷ []) none are show = show
  none_shows (faults.Overlong place) (walk ∷ []) none are show = by_end (faults.Overlong place) walk (leaves.Overlong place) none are.0 show refl
  none_shows (faults.NoAddress cut) (walk ∷ []) none are show = by_end (faults.NoAddress cut) walk (leaves.NoAddress cut.ns) none are.0 show.ends refl

module _ (config : Config) (rewrites : ℕ) (query : Labels) (rtype : RrType) (leaf : Leaf) (depth : ℕ) where
  -- all walks of the query end in the leaf while these servers are followed, and none has more states than so many
  abbrev pub AllEnd : List Labels → Type 0
  AllEnd followed =
      (list_all (settles (following config rewrites followed) rtype depth) (start config query) ≡ true)
      × AllByRecursion (λ (x : Numbered). x.1.leaf ≡ leaf) (all_along depth (following config rewrites followed) rtype query)

  every : (followed : List Labels) (walks : List Walk) → AllByRecursion (IsWalk (following config rewrites followed) query rtype) walks
      → ((walk : Walk) → IsWalk (following config rewrites followed) query rtype walk → walk.leaf ≡ leaf) → AllByRecursion (λ walk. walk.leaf ≡ leaf) walks
  every followed [] are each = tt
  every followed (walk ∷ walks) are each = (each walk are.0, every followed walks are.1 each)

  by_ends : (fault : Fault) → may_show fault leaf ≡ false → (shown : ShowsIn config rewrites query rtype fault) → AllEnd shown.followed → ⊥
  by_ends fault none shown (settle, ends) =
      none_shows (with_sets (following config rewrites shown.followed)) leaf fault shown.shows.walks none
      (every shown.followed shown.shows.walks shown.shows.are_walks
      (each_walk (following config rewrites shown.followed) rtype (λ walk. walk.leaf ≡ leaf) depth query settle ends))
      shown.shows.show

  -- a query whose walks all end in one leaf, which doesn't show the fault, whatever servers are followed, doesn't show it
  pub not_shown : (fault : Fault) → may_show fault leaf ≡ false → ((followed : List Labels) → AllEnd followed) → ShowsIn config rewrites query rtype fault → ⊥
  not_shown fault none all shown = by_ends fault none shown (all shown.followed)

  -- and so it is if they end so while the servers of the set in force are followed
  pub not_shown_while : (followed : List Labels) → IsInForce config rewrites followed → (fault : Fault) → may_show fault leaf ≡ false → AllEnd followed
      → ShowsIn config rewrites query rtype fault → ⊥
  not_shown_while followed in_force fault none ends shown =
      by_ends fault none shown (subst AllEnd (one_in_force config rewrites followed shown.followed in_force shown.in_force) ends)

-- ---- faults of delegations

module _ (config : Config) (rewrites : ℕ) (query : Labels) (rtype : RrType) (cut : Cut) where
  -- if the query shows that the delegation differs, the zones list other name servers
  pub zones_differ : ShowsIn config rewrites query rtype (faults.Differs cut) → ZonesDiffer config cut
  zones_differ shown = by shown.shows.walks shown.shows.show where
    by : (walks : List Walk) → WalksShow (with_sets (following config rewrites shown.followed)) walks (faults.Differs cut) → ZonesDiffer config cut
    by [] show = absurd show
    by (walk ∷ []) show = show.zones
    by (one ∷ other ∷ []) show = absurd show
    by (one ∷ other ∷ third ∷ walks) show = absurd show

  -- if it shows missing glue, the name server wants glue
  pub wants_glue : ShowsIn config rewrites query rtype (faults.NoGlue cut) → WantsGlue config cut
  wants_glue shown = by shown.shows.walks shown.shows.show where
    by : (walks : List Walk) → WalksShow (with_sets (following config rewrites shown.followed)) walks (faults.NoGlue cut) → WantsGlue config cut
    by [] show = absurd show
    by (walk ∷ []) show = show.wants
    by (one ∷ other ∷ []) show = absurd show
    by (one ∷ other ∷ third ∷ walks) show = absurd show

  -- if it shows that glue differs, the zones hold other addresses
  pub addresses_differ : ShowsIn config rewrites query rtype (faults.GlueDiffers cut) → AddressesDiffer config cut
  addresses_differ shown = by shown.shows.walks shown.shows.show where
    by : (walks : List Walk) → WalksShow (with_sets (following config rewrites shown.followed)) walks (faults.GlueDiffers cut) → AddressesDiffer config cut
    by [] show = absurd show
    by (walk ∷ []) show = show.glue
    by (one ∷ other ∷ []) show = absurd show
    by (one ∷ other ∷ third ∷ walks) show = absurd show

  -- if it shows a cyclic dependency, the name server isn't in the least set
  pub not_least : ShowsIn config rewrites query rtype (faults.Cyclic cut) → InLeast config rewrites cut.ns → ⊥
  not_least shown = by shown.shows.walks shown.shows.show where
    by : (walks : List Walk) → WalksShow (with_sets (following config rewrites shown.followed)) walks (faults.Cyclic cut) → InLeast config rewrites cut.ns → ⊥
    by [] show = absurd show
    by (walk ∷ []) show = show.depends.not_at_least
    by (one ∷ other ∷ []) show = absurd show
    by (one ∷ other ∷ third ∷ walks) show = absurd show
