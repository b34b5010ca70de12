-- Faults that walks of the set in force show.
use Rattle.std.proofs.Common.{◌≡◌, ℕ, Bool, true, false, List, [], ◌∷◌, refl, ap}
use Rattle.std.specs.Prelude.{Some}
use Rattle.std.specs.List.{AllByRecursion}
use Rattle.dns_data.specs.Name.{Labels}
use Rattle.dns_data.specs.declared.rr_type.RrType.{RrType}
use Rattle.net_model.specs.declared.class.Class.{Class}
use Rattle.net_model.specs.declared.config.Config.{Config}
use Rattle.net_model.specs.declared.fault.Fault.{Fault}
use Rattle.net_model.specs.declared.fault.Fault.TheVariants.{Lame, Differs, NoGlue, GlueDiffers, Cyclic, Limit, Blackhole, Answers, Overlong, NoAddress}
use Rattle.net_model.specs.declared.place.Place.{Place}
use Rattle.net_model.specs.declared.walk.Leaf.{Leaf}
use Rattle.net_model.specs.declared.walk.Leaf.TheVariants as leaves
use Rattle.net_model.specs.declared.walk.Walk.{Walk}
use Rattle.net_model.specs.Class.{IsClassOf}
use Rattle.net_model.specs.Learnt.{IsInForce}
use Rattle.net_model.specs.Nearest.{server_names}
use Rattle.net_model.specs.Reading.{ground_of}
use Rattle.net_model.specs.Shown.{FaultSetting, with_sets, MayShow, WalksShow, ShowsAnswers, ShowsIn}
use Rattle.net_model.specs.Step.{following}
use Rattle.net_model.specs.Walk.{walk_along, IsWalk}
use Rattle.net_model.proofs.InForce.{some_in_force}
use Rattle.net_model.proofs.Showing.{all_leaves_pass, walk_passes}
use Rattle.net_model.proofs.Words.{following_all}

-- a fault is shown by the walk with these numbers, while the servers of the set in force are followed
pub shown_while : (config : Config) (rewrites : ℕ) (followed : List Labels) → IsInForce config rewrites followed
    → (query : Labels) (rtype : RrType) (fault : Fault) (numbers : List ℕ) (walk : Walk)
    → walk_along (following config rewrites followed) query rtype numbers ≡ Some walk
    → MayShow config query rtype fault
    → WalksShow (with_sets (following config rewrites followed)) (walk ∷ []) fault
    → ShowsIn config rewrites query rtype fault
shown_while config rewrites followed in_force query rtype fault numbers walk along may show =
    record {
      followed = followed;
      in_force = in_force;
      shows = record { walks = walk ∷ []; by = record { may = may; are_walks = ((numbers, along), tt); show = show } };
    }

-- what a walk shows doesn't depend on the servers that are followed
same_show : (config : Config) (rewrites : ℕ) (one other : List Labels) (walk : Walk) (fault : Fault)
    → WalksShow (with_sets (following config rewrites one)) (walk ∷ []) fault
    → WalksShow (with_sets (following config rewrites other)) (walk ∷ []) fault
same_show config rewrites one other walk (Lame cut) show = show
same_show config rewrites one other walk (Differs cut) show = show
same_show config rewrites one other walk (NoGlue cut) show = show
same_show config rewrites one other walk (GlueDiffers cut) show = show
same_show config rewrites one other walk (Cyclic cut) show =
    record {
      refers = show.refers;
      depends = record {
        configured = show.depends.configured;
        no_top = show.depends.no_top;
        no_glue = show.depends.no_glue;
        learnt_at_most = show.depends.learnt_at_most;
        not_at_least = show.depends.not_at_least;
      };
    }
same_show config rewrites one other walk (Limit place) show = show
same_show config rewrites one other walk (Blackhole place) show = show
same_show config rewrites one other walk (Answers class rtype) show = show
same_show config rewrites one other walk (Overlong place) show = show
same_show config rewrites one other walk (NoAddress cut) show =
    record { behind = show.behind; ends = show.ends; not_at_most = show.not_at_most }

-- a fault is shown by a walk that has these numbers whatever servers are followed
pub shown_by : (config : Config) (rewrites : ℕ) (query : Labels) (rtype : RrType) (fault : Fault) (numbers : List ℕ) (walk : Walk)
    → ((followed : List Labels) → walk_along (following config rewrites followed) query rtype numbers ≡ Some walk)
    → MayShow config query rtype fault
    → WalksShow (with_sets (following_all config rewrites)) (walk ∷ []) fault
    → ShowsIn config rewrites query rtype fault
shown_by config rewrites query rtype fault numbers walk along may show =
    let set = some_in_force config rewrites in
    shown_while config rewrites set.0 set.1 query rtype fault numbers walk (along set.0) may
    (same_show config rewrites (server_names config) set.0 walk fault show)

-- answers differ between the walks that have these numbers whatever servers are followed
pub shown_by_two : (config : Config) (rewrites : ℕ) (query : Labels) (rtype : RrType) (class : Class) (numbers others : List ℕ) (one other : Walk)
    → ((followed : List Labels) → walk_along (following config rewrites followed) query rtype numbers ≡ Some one)
    → ((followed : List Labels) → walk_along (following config rewrites followed) query rtype others ≡ Some other)
    → IsClassOf (ground_of config) query class → ShowsAnswers one other
    → ShowsIn config rewrites query rtype (Answers class rtype)
shown_by_two config rewrites query rtype class numbers others one other along beside is differ =
    let set = some_in_force config rewrites in
    record {
      followed = set.0;
      in_force = set.1;
      shows = record {
        walks = one ∷ other ∷ [];
        by = record { may = (refl, is); are_walks = ((numbers, along set.0), ((others, beside set.0), tt)); show = differ };
      };
    }

-- the leaf isn't that no such name exists
abbrev pub isnt_nxdomain : Leaf → Bool
isnt_nxdomain leaves.NxDomain = false
isnt_nxdomain leaf = true

no_walk_shows : (setting : FaultSetting) (query : Labels) (rtype : RrType) (place : Place) (walks : List Walk)
    → ((walk : Walk) → IsWalk setting.walks query rtype walk → isnt_nxdomain walk.leaf ≡ true)
    → AllByRecursion (IsWalk setting.walks query rtype) walks → WalksShow setting walks (Blackhole place) → ⊥
no_walk_shows setting query rtype place [] none are show = show
no_walk_shows setting query rtype place (walk ∷ []) none are show =
    let exists : isnt_nxdomain walk.leaf ≡ true = none walk are.0 in
    let ends : isnt_nxdomain walk.leaf ≡ false = ap isnt_nxdomain show.ends in cc
no_walk_shows setting query rtype place (walk ∷ other ∷ []) none are show = show
no_walk_shows setting query rtype place (walk ∷ other ∷ third ∷ walks) none are show = show

-- a query of which no walk ends in a name that doesn't exist, whatever servers are followed, shows no blackhole
pub no_blackhole : (config : Config) (rewrites : ℕ) (query : Labels) (rtype : RrType) (place : Place) (depth : ℕ)
    → ((followed : List Labels) → all_leaves_pass isnt_nxdomain (following config rewrites followed) query rtype depth ≡ true)
    → ShowsIn config rewrites query rtype (Blackhole place) → ⊥
no_blackhole config rewrites query rtype place depth all shown =
    no_walk_shows _ query rtype place shown.shows.walks
    (λ walk is. walk_passes isnt_nxdomain (following config rewrites shown.followed) query rtype depth (all shown.followed) walk is)
    shown.shows.are_walks shown.shows.show
