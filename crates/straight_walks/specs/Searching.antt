-- What servers reply, and searches over the states of walks: for the contracts of inner calls alone.
use Rattle.std.specs.Prelude.{◌≡◌, ◌≢◌, ◌<◌, ◌≤◌, ◌+◌, ◌*◌, ℕ, Bool, true, false, ◌&&◌, List, [], ◌∷◌, ◌++◌, map, take, length, Contains, Option, Some, None, is_some, option_map, IfSome, ◌⊎◌, if◌then◌else◌, Vec}
use Rattle.std.specs.List.{AllByRecursion, slice_get}
use Rattle.std.specs.Global.{Global}
use Rattle.dns_data.specs.Name.{Labels}
use Rattle.dns_data.specs.declared.rr_type.RrType.{RrType}
use Rattle.net_model.specs.declared.deps.Deps.{Deps}
use Rattle.net_model.specs.Lookup.{ByNothing, ByRecords, deciding}
use Rattle.net_model.specs.Nearest.{held_zone, nearest_of}
use Rattle.net_model.specs.OpenTail.{open_deciding}
use Rattle.net_model.specs.Shown.{Shows, with_lists}
use Rattle.net_model.specs.Step.{Setting, Branch, Go, End, next, referred, start}
use Rattle.net_model.specs.Tails.{IsUnnamedTail}
use Rattle.net_model.specs.Walk.{IsWalk, walk_from}
use Rattle.net_model.specs.Zone.{ns_names}
use Rattle.net_model.specs.declared.config.Config.{Config}
use Rattle.net_model.specs.declared.config.Zone.{Zone}
use Rattle.net_model.specs.declared.place.Cut.{Cut}
use Rattle.net_model.specs.declared.place.Place.{Place}
use Rattle.net_model.specs.declared.walk.Hop.{Hop}
use Rattle.net_model.specs.declared.walk.Hop.TheVariants.{Refer, Rewrite}
use Rattle.net_model.specs.declared.walk.Leaf.{Leaf}
use Rattle.net_model.specs.declared.walk.Leaf.TheVariants as leaves
use Rattle.net_model.specs.declared.fault.Fault.{Fault}
use Rattle.net_model.specs.declared.fault.Fault.TheVariants as faults
use Rattle.net_model.specs.declared.walk.State.{State}
use Rattle.net_model.specs.declared.walk.Walk.{Walk}
use Rattle.walk_laws.specs.Outcome.{HasOutcome, outcome_of}
use Rattle.zone_tree.specs.Tree.{ZoneTree, name_of}
use Rattle.zone_lookup.specs.CutTable.{cut_to}
use Rattle.zone_lookup.specs.Reply.{IsReply}
use Rattle.zone_lookup.specs.ReferralFaults.{referral_faults}
use Rattle.straight_walks.specs.Answers.{AnswerOwners, ZoneOwner, outcome_with, owner_leaf}
use Rattle.straight_walks.specs.Ends.{IsOutcomeOf, told_by}
use Rattle.straight_walks.specs.Faulty.{AreAbove, BranchShows, HasReferralFaults, faults_at, flag_faults, shows_some}
use Rattle.straight_walks.specs.Nowhere.{EndShows, HasLimit, IsToldEnd, Told, told_with, untold}
use Rattle.straight_walks.specs.Straight.{FailsOrGoes, FollowsLeast, GoesStraight, NoOriginBetween, faults_by_ends}
use Rattle.straight_walks.specs.declared.faulty.Faulty.{Faulty}
use Rattle.straight_walks.specs.declared.faulty.ReferralFlags.{ReferralFlags}
use Rattle.straight_walks.specs.declared.ends.StraightEnds.{StraightEnds}
use Rattle.straight_walks.specs.declared.lent_place.AliasFault.{AliasFault}
use Rattle.straight_walks.specs.declared.queue.Queued.{Queued}
use Rattle.straight_walks.specs.declared.searching.Search.{Search}
use Rattle.straight_walks.specs.declared.referring.NextReferral.{NextReferral}
use Rattle.straight_walks.specs.declared.referring.NextReferral.TheVariants as referring
use Rattle.straight_walks.specs.declared.name_server.Referral.{Referral}
use Rattle.straight_walks.specs.declared.name_server.Referral.TheVariants as referral
use Rattle.zone_lookup.specs.declared.reply.Reply.TheVariants as reply

-- walks are read in the configuration, and the servers of the least set are followed
pub record IsSettingOf (config : Config) (deps : Deps) (setting : Setting) : Type 0 where
  pub config_is : setting.config ≡ config
  pub follows : FollowsLeast setting deps

-- ---- states

-- the state at the server, for the name, to which a zone cut of so many labels led, or none and no rewrite
abbrev pub state_at : Config → Labels → Labels → ℕ → State
state_at config query server cut =
    record {
      server = server;
      name = query;
      carried = true;
      cut = cut;
      used = 0;
      last = None;
      zone = option_map (λ zone. zone.origin) (nearest_of config server query);
    }

-- the state that is queued, for a query: at its server, with the length of the zone cut that led there
abbrev pub queued_state : Config → Labels → Queued → State
queued_state config query queue = state_at config query queue.server.now queue.cut

-- the states after are those before, with some at the end
abbrev pub Extends : List Queued → List Queued → Type 0
Extends before after = (more : List Queued) × (after ≡ before ++ more)

-- a branch of the state leads on to the other
abbrev pub LeadsOn : Setting → RrType → State → State → Type 0
LeadsOn setting rtype from to = (hop : Hop) × Contains (next setting rtype from) (Go hop to)

-- a walk from the state has the outcome
abbrev pub EndsWith : Setting → RrType → State → Option Leaf → Type 0
EndsWith setting rtype from outcome =
    (numbers : List ℕ) × (walk : Walk) × (walk_from setting rtype numbers from ≡ Some walk) × (outcome_of walk.leaf ≡ outcome)

-- the walk is the rest of one of the query: some states and hops come before its own, and both end alike
pub record IsRestOfWalk (setting : Setting) (query : Labels) (rtype : RrType) (walk : Walk) : Type 0 where
  pub whole : Walk
  pub is_walk : IsWalk setting query rtype whole
  pub front : List State
  pub states : whole.states ≡ front ++ walk.states
  pub before : List Hop
  pub hops : whole.hops ≡ before ++ walk.hops
  pub leaf : whole.leaf ≡ walk.leaf

-- walks of the query, which begin at some top servers, come to the state: each walk from it is the rest of one
pub record IsComeTo (setting : Setting) (query : Labels) (rtype : RrType) (state : State) : Type 0 where
  pub tops : setting.config.tops ≢ []
  pub rest : (numbers : List ℕ) (walk : Walk) → walk_from setting rtype numbers state ≡ Some walk → IsRestOfWalk setting query rtype walk

-- ---- ends

-- the zones of a server that answers have no such name
abbrev pub nothing_there : AnswerOwners → AnswerOwners
nothing_there answering =
    let nothing : ZoneOwner = record { zone = answering.own.zone; owner = None } in record { own = nothing; last = Some nothing }

-- the ends of a name below the query of which the zones that answer the query answer that there is none
abbrev pub nothing_below : StraightEnds → StraightEnds
nothing_below ends = record ends { answer = option_map nothing_there ends.answer }

-- the name is the query with an unnamed tail
abbrev pub IsUnnamedBelow : Config → Labels → Labels → Type 0
IsUnnamedBelow config query name = (tail : Labels) × IsUnnamedTail config query tail × (name ≡ query ++ tail)

-- The ends of the name, by those of the query: it is the query; or it is below it with no origin between, where the ends
-- tell of such names; or it is the query with an unnamed tail, where they tell of those.
abbrev pub AreEndsFor : Config → Labels → StraightEnds → Labels → StraightEnds → Type 0
AreEndsFor config query ends name found =
    ((name ≡ query) × (found ≡ ends))
    ⊎ (((ends.below ≡ true) × NoOriginBetween config query name × (found ≡ ends))
    ⊎ ((ends.unnamed_below ≡ true) × IsUnnamedBelow config query name × (found ≡ nothing_below ends)))

-- no zone answers the query nor a name below it, no walk is rewritten, and walks fail or don't
abbrev pub unanswered : Bool → Vec Faulty Global → StraightEnds
unanswered fails faulty = record { answer = None; fails = fails; faulty = faulty; blackholes = []; alias_faults = []; rewrites = 0; below = true; unnamed_below = true }

-- the ends, and some walk ends where no zone answers
abbrev pub failing : StraightEnds → StraightEnds
failing ends = record ends { fails = true }

-- the referrals that show faults are those before, with some at the end
abbrev pub KeepsFaulty : List Faulty → List Faulty → Type 0
KeepsFaulty before after = (more : List Faulty) × (after ≡ before ++ more)

-- the referrals that show faults are those before, with some at the end whose zone cuts are at or above the query
abbrev pub KeepsAbove : Labels → List Faulty → List Faulty → Type 0
KeepsAbove query before after = (more : List Faulty) × (after ≡ before ++ more) × AreAbove query more

-- the items are those before, with these at the end
abbrev pub ArePut : {T : Type 0} → List T → List T → List T → Type 0
ArePut before [] after = after ≡ before
ArePut before more after = after ≡ before ++ more

-- the items are those before, with some at the end
abbrev pub KeepsAll : {T : Type 0} → List T → List T → Type 0
KeepsAll {T} before after = (more : List T) × ArePut before more after

-- each outcome of the first is one of the second, behind no fewer rewrites, and so is each referral that shows faults, and
-- what is told of rewrites
pub record KeepsOutcomes (before after : StraightEnds) : Type 0 where
  pub rewrites : before.rewrites ≤ after.rewrites
  pub fails : before.fails ≡ true → after.fails ≡ true
  pub faulty : KeepsFaulty before.faulty.items after.faulty.items
  pub blackholes : KeepsAll before.blackholes after.blackholes
  pub alias_faults : KeepsAll before.alias_faults after.alias_faults
  pub outcomes : (rtype : RrType) (outcome : Option Leaf) → IsOutcomeOf before rtype outcome → IsOutcomeOf after rtype outcome

-- what a server answers behind so many rewrites is put to the ends, with what walks show there: it is their answer then, no
-- other outcome comes to those before, and of names below the query they tell at most of those with an unnamed tail, where
-- the server has none of these
pub record AnswerIsPut (before : StraightEnds) (answering : AnswerOwners) (rewrites : ℕ) (none_below : Bool) (told : Told) (after : StraightEnds) : Type 0 where
  pub still : KeepsOutcomes before after
  pub behind : rewrites ≤ after.rewrites
  pub failed : after.fails ≡ true → before.fails ≡ true
  pub there : (rtype : RrType) → told_by after rtype ≡ Some (outcome_with answering rtype)
  pub only : (rtype : RrType) (outcome : Option Leaf) → IsOutcomeOf after rtype outcome
      → IsOutcomeOf before rtype outcome ⊎ (outcome ≡ outcome_with answering rtype)
  pub same_faulty : after.faulty.items ≡ before.faulty.items
  pub blackholes : ArePut before.blackholes told.places after.blackholes
  pub alias_faults : ArePut before.alias_faults told.aliases after.alias_faults
  pub alone : after.below ≡ false
  pub unnamed : after.unnamed_below ≡ (before.unnamed_below && none_below)

-- ---- referrals

-- the referral's faults are those of the flags, and that it is lame where walks end so
pub record AreFlagsOf (config : Config) (deps : Deps) (cut : Cut) (lame : Bool) (flags : ReferralFlags) : Type 0 where
  pub lame_is : flags.lame ≡ lame
  pub each : HasReferralFaults config deps (flag_faults flags cut) cut
  pub only : (fault : Fault) → Contains (flag_faults flags cut) fault → Contains (referral_faults config deps cut) fault ⊎ ((fault ≡ faults.Lame cut) × (lame ≡ true))

-- the leaf in which walks end at a name server: that it is lame, or isn't configured
abbrev pub outer_leaf : Bool → Labels → Leaf
outer_leaf lame ns = if lame then leaves.Lame ns else leaves.Unhosted ns

-- a referral's branch to the name server, from the query's state at the cut's server, and the faults that it shows
abbrev pub IsReferral : Config → Deps → Labels → Cut → Referral → Type 0
IsReferral config deps query cut (referral.Ends flags) =
    AreFlagsOf config deps cut flags.lame flags
    × ((setting : Setting) (above : ℕ) → IsSettingOf config deps setting
    → referred setting (state_at config query cut.server above) cut ≡ End (Some (Refer cut)) (outer_leaf flags.lame cut.ns))
IsReferral config deps query cut (referral.GoesOn flags) =
    AreFlagsOf config deps cut false flags
    × ((setting : Setting) (above : ℕ) → IsSettingOf config deps setting
    → referred setting (state_at config query cut.server above) cut ≡ Go (Refer cut) (state_at config query cut.ns (length cut.cut)))
IsReferral config deps query cut referral.Unclear = Unit {0}

-- the branches of a zone cut with these name servers, from a state
abbrev pub to_servers : Zone → Labels → List Labels → Setting → State → List Branch
to_servers zone cut names setting state = map (λ ns. referred setting state (cut_to state.server zone cut ns)) names

-- What a search knows before a step and behind it: the queue, whether walks fail, and the referrals that show faults.
pub record Known : Type 0 where
  pub queue : List Queued
  pub fails : Bool
  pub faulty : List Faulty

-- the referrals of a zone cut to these name servers, from the query's state at a server, end where no zone answers or go
-- on to queued states, and their faults are known; no other states come to the queue, walks fail only where one of them
-- ends, and no other faults are known
pub record AreReferrals (config : Config) (deps : Deps) (query server : Labels) (zone : Zone) (cut : Labels) (names : List Labels) (before after : Known) : Type 0 where
  pub extends : Extends before.queue after.queue
  pub still : before.fails ≡ true → after.fails ≡ true
  pub keeps : KeepsAbove query before.faulty after.faulty
  pub each : (setting : Setting) (above : ℕ) → IsSettingOf config deps setting
      → AllByRecursion (FailsOrGoes setting.config deps (faults_at query after.faulty) after.fails (map (queued_state config query) after.queue))
      (to_servers zone cut names setting (state_at config query server above))
  pub leads : (one : Queued) → Contains after.queue one → Contains before.queue one
      ⊎ ((setting : Setting) (above : ℕ) → IsSettingOf config deps setting
      → (hop : Hop) × Contains (to_servers zone cut names setting (state_at config query server above)) (Go hop (queued_state config query one)))
  pub told : after.fails ≡ true → (before.fails ≡ true)
      ⊎ ((setting : Setting) (above : ℕ) → IsSettingOf config deps setting
      → (hop : Option Hop) × (leaf : Leaf) × Contains (to_servers zone cut names setting (state_at config query server above)) (End hop leaf) × (outcome_of leaf ≡ None))
  pub shown : (fault : Fault) → Contains (faults_at query after.faulty) fault → Contains (faults_at query before.faulty) fault
      ⊎ ((setting : Setting) (above : ℕ) → IsSettingOf config deps setting
      → (branch : Branch) × Contains (to_servers zone cut names setting (state_at config query server above)) branch × BranchShows setting.config deps branch fault)

-- the referral is put behind the others, if it shows faults
abbrev pub IsFaultyPut : Labels → Zone → Labels → Labels → ReferralFlags → List Faulty → List Faulty → Type 0
IsFaultyPut server zone cut ns flags before after =
    ((shows_some flags ≡ false) × (after ≡ before))
    ⊎ ((one : Faulty) × (one.flags ≡ flags) × (one.server.now ≡ server) × (one.zone.now ≡ zone.origin) × (one.cut ≡ length cut) × (one.ns.now ≡ ns)
    × (after ≡ before ++ one ∷ []))

-- no fault of a referral
abbrev pub no_flags : ReferralFlags
no_flags = record { lame = false; differs = false; no_glue = false; glue_differs = false }

-- walks end at the name server of the zone cut of a tree, which isn't configured, and the referral shows no fault, from any
-- server that holds the zone and for any query
abbrev pub EndsOutside : Config → ZoneTree → ℕ → Labels → Type 0
EndsOutside config tree cut ns =
    (deps : Deps) (query server : Labels) → held_zone config server tree.zone.origin ≡ Some tree.zone
    → IsReferral config deps query (cut_to server tree.zone (name_of tree cut) ns) (referral.Ends no_flags)

-- the zone cut has a name server, and walks end at each of its name servers by a referral that shows no fault
abbrev pub AllEndOutside : Config → ZoneTree → ℕ → Type 0
AllEndOutside config tree cut =
    AllByRecursion (EndsOutside config tree cut) (ns_names tree.zone (name_of tree cut)) × (ns_names tree.zone (name_of tree cut) ≢ [])

-- ---- servers

-- at a state with the name the server answers with each type what the zone's owner has
abbrev pub AnswersAt : Config → Labels → Labels → ZoneOwner → Type 0
AnswersAt config query server owner =
    (setting : Setting) (rtype : RrType) (state : State) → setting.config ≡ config → state.server ≡ server → state.name ≡ query
    → next setting rtype state ≡ End None (owner_leaf owner rtype) ∷ []

-- ---- rewrites

-- walks from the state go on by rewrites alone, through these states, and end so; what the end shows is among the shown
-- faults
abbrev pub AnswersAlong : Setting → List Fault → RrType → Leaf → State → List State → Type 0
AnswersAlong setting shown rtype leaf state [] = (next setting rtype state ≡ End None leaf ∷ []) × IsToldEnd shown state.last leaf
AnswersAlong setting shown rtype leaf state (to ∷ behind) =
    (place : Place) × (by_dname : Bool) × (target : Labels) × (next setting rtype state ≡ Go (Rewrite place by_dname target) to ∷ [])
    × AnswersAlong setting shown rtype leaf to behind

-- a walk from the state shows the fault by its end
pub record EndsInFault (setting : Setting) (rtype : RrType) (from : State) (fault : Fault) : Type 0 where
  pub numbers : List ℕ
  pub walk : Walk
  pub goes : walk_from setting rtype numbers from ≡ Some walk
  pub shows : EndShows walk fault

-- walks with the type from the state, behind so many rewrites, go by rewrites alone to an end with this outcome, by no more
-- rewrites in all than these; what the end shows is among the shown faults
abbrev pub AnswersFrom : Setting → List Fault → RrType → Option Leaf → State → ℕ → ℕ → Type 0
AnswersFrom setting shown rtype outcome state rewrites most =
    (leaf : Leaf) × (behind : List State) × (outcome_of leaf ≡ outcome) × (length behind + rewrites ≤ most) × AnswersAlong setting shown rtype leaf state behind

-- walks are read in the configuration, they may be rewritten so often, and as often as the limits say that are told
pub record MayRewrite (config : Config) (most : ℕ) (aliases : List AliasFault) (setting : Setting) : Type 0 where
  pub config_is : setting.config ≡ config
  pub enough : most ≤ setting.rewrites
  pub limits : AllByRecursion (HasLimit setting.rewrites) aliases

-- the state is one at the server with the name, to which so many rewrites led, the last of this place, or none
pub record IsBehind (server name : Labels) (rewrites : ℕ) (last : Option Place) (state : State) : Type 0 where
  pub at_server : state.server ≡ server
  pub with_name : state.name ≡ name
  pub used : state.used ≡ rewrites
  pub by_last : state.last ≡ last

-- with each type walks from such a state go by rewrites alone to the answer, and show what is told then
pub record AnswersBehind (config : Config) (server name : Labels) (rewrites : ℕ) (last : Option Place) (told : Told) (answering : AnswerOwners) (most : ℕ) : Type 0 where
  pub answers : (setting : Setting) (rtype : RrType) (state : State) → MayRewrite config most told.aliases setting → IsBehind server name rewrites last state
      → AnswersFrom setting (told_with told rtype) rtype (outcome_with answering rtype) state rewrites most
  pub shows : (setting : Setting) (rtype : RrType) (state : State) → MayRewrite config most told.aliases setting → IsBehind server name rewrites last state
      → (fault : Fault) → Contains (told_with told rtype) fault → EndsInFault setting rtype state fault

-- what the server answers to the name, to which so many rewrites led, the last of this place, is put to the ends
pub record IsAnsweredBehind (config : Config) (server name : Labels) (rewrites : ℕ) (last : Place) (before after : StraightEnds) : Type 0 where
  pub held : is_some (nearest_of config server name) ≡ true
  pub answering : AnswerOwners
  pub most : ℕ
  pub told : Told
  pub no_fewer : rewrites ≤ most
  pub behind : AnswersBehind config server name rewrites (Some last) told answering most
  pub put : AnswerIsPut before answering most false told after

-- with each type walks from the query's state at the server end in the answer, behind no more rewrites than these, and show
-- what is told
pub record AnswersSo (config : Config) (query server : Labels) (told : Told) (answering : AnswerOwners) (most : ℕ) : Type 0 where
  pub answers : (setting : Setting) (rtype : RrType) (above : ℕ) → MayRewrite config most told.aliases setting
      → AnswersFrom setting (told_with told rtype) rtype (outcome_with answering rtype) (state_at config query server above) 0 most
  pub shows : (setting : Setting) (rtype : RrType) (above : ℕ) → MayRewrite config most told.aliases setting
      → (fault : Fault) → Contains (told_with told rtype) fault → EndsInFault setting rtype (state_at config query server above) fault

-- where the records of the tree's owner decide at the query, nothing decides at it with an open tail
abbrev pub HasNothingBelow : ZoneTree → ℕ → Labels → Type 0
HasNothingBelow tree owner query = deciding tree.zone query ≡ ByRecords (name_of tree owner) → open_deciding tree.zone query ≡ ByNothing

-- to the query with an unnamed tail the server answers that there is no such name
abbrev pub AnswersNothingBelow : Config → Labels → Labels → Type 0
AnswersNothingBelow config query server =
    (tail : Labels) → IsUnnamedTail config query tail → (zone : Zone) → AnswersAt config (query ++ tail) server (record { zone = zone; owner = None })

-- what the server answers to the query is put to the ends with what walks show there, and whether it has none of the
-- query's names with an unnamed tail: then they show nothing
pub record IsAnswered (config : Config) (query server : Labels) (before after : StraightEnds) : Type 0 where
  pub answering : AnswerOwners
  pub rewrites : ℕ
  pub none_below : Bool
  pub told : Told
  pub so : AnswersSo config query server told answering rewrites
  pub put : AnswerIsPut before answering rewrites none_below told after
  pub below : none_below ≡ true → AnswersNothingBelow config query server
  pub tells_nothing : none_below ≡ true → told ≡ untold

-- ---- states that are passed

-- walks with the type from the state end in an answer of the ends, behind no more rewrites than the ends tell
abbrev pub EndsAnswered : Setting → List Fault → StraightEnds → RrType → State → Type 0
EndsAnswered setting shown ends rtype state =
    (behind : List State) × (leaf : Leaf) × (length behind ≤ ends.rewrites) × IsOutcomeOf ends rtype (outcome_of leaf)
    × AnswersAlong setting shown rtype leaf state behind

-- walks with the type go straight from the state: each branch ends where no zone answers, which is one of the ends, or
-- goes on to one of the states; or they end in an answer
abbrev pub PassesState : Setting → Deps → List Fault → StraightEnds → RrType → List State → State → Type 0
PassesState setting deps shown ends rtype states state =
    AllByRecursion (FailsOrGoes setting.config deps shown ends.fails states) (next setting rtype state) ⊎ EndsAnswered setting shown ends rtype state

-- the setting is one of the configuration in which a walk may be rewritten as often as the ends tell, and as the limits say
-- that they tell
pub record IsSettingFor (config : Config) (deps : Deps) (ends : StraightEnds) (setting : Setting) : Type 0 where
  pub is_of : IsSettingOf config deps setting
  pub rewrites : ends.rewrites ≤ setting.rewrites
  pub limits : AllByRecursion (HasLimit setting.rewrites) ends.alias_faults

-- a branch of the state shows the fault, or a walk from the state shows it by its end
abbrev pub StateShows : Setting → Deps → RrType → State → Fault → Type 0
StateShows setting deps rtype state fault =
    ((branch : Branch) × Contains (next setting rtype state) branch × BranchShows setting.config deps branch fault)
    ⊎ EndsInFault setting rtype state fault

-- from the query's state at a server walks go straight, to an end or on to states that are queued then; no other states
-- come to the queue, and no other outcomes to the ends
pub record PassesServer (config : Config) (deps : Deps) (query server : Labels) (before : List Queued) (ends_before : StraightEnds) (after : List Queued) (ends : StraightEnds) : Type 0 where
  pub extends : Extends before after
  pub still : KeepsOutcomes ends_before ends
  pub above : AreAbove query ends_before.faulty.items → AreAbove query ends.faulty.items
  pub steps : (setting : Setting) (rtype : RrType) (above : ℕ) → IsSettingFor config deps ends setting
      → PassesState setting deps (faults_by_ends query ends rtype) ends rtype (map (queued_state config query) after) (state_at config query server above)
  pub leads : (one : Queued) → Contains after one → Contains before one
      ⊎ ((setting : Setting) (rtype : RrType) (above : ℕ) → IsSettingOf config deps setting
      → LeadsOn setting rtype (state_at config query server above) (queued_state config query one))
  pub told : (rtype : RrType) (outcome : Option Leaf) → IsOutcomeOf ends rtype outcome → IsOutcomeOf ends_before rtype outcome
      ⊎ ((setting : Setting) (above : ℕ) → IsSettingFor config deps ends setting → EndsWith setting rtype (state_at config query server above) outcome)
  pub shown : (rtype : RrType) (fault : Fault) → Contains (faults_by_ends query ends rtype) fault → Contains (faults_by_ends query ends_before rtype) fault
      ⊎ ((setting : Setting) (above : ℕ) → IsSettingFor config deps ends setting
      → StateShows setting deps rtype (state_at config query server above) fault)

-- ---- searches

-- the state at the top server is queued for the query; or the server holds no zone for it, and walks fail
abbrev pub IsBegun : Config → Labels → List Queued → Bool → Labels → Type 0
IsBegun config query queue fails top =
    Contains (map (queued_state config query) queue) (state_at config query top 0) ⊎ ((fails ≡ true) × (nearest_of config top query ≡ None))

-- The state at each top server is queued for the query, unless the server holds no zone for it, and no other state is.
-- Walks fail only where a top server holds none.
pub record BeginsAtTops (config : Config) (query : Labels) (queue : List Queued) (fails : Bool) : Type 0 where
  pub each : (top : Labels) → Contains config.tops top → IsBegun config query queue fails top
  pub only : (one : Queued) → Contains queue one → Contains (start config query) (queued_state config query one)
  pub told : fails ≡ true → (top : Labels) × Contains config.tops top × (nearest_of config top query ≡ None)

-- The state at each top server is queued for the query, or the server holds no zone for it, and walks fail. Walks come to
-- each queued state; from those that are passed walks go straight, and the query has the outcomes of the ends and shows
-- their faults.
pub record HasWalked (config : Config) (deps : Deps) (query : Labels) (queue passed : List Queued) (ends : StraightEnds) : Type 0 where
  pub begins : (top : Labels) → Contains config.tops top → IsBegun config query queue ends.fails top
  pub comes : (setting : Setting) (rtype : RrType) → IsSettingOf config deps setting → (one : Queued) → Contains queue one
      → IsComeTo setting query rtype (queued_state config query one)
  pub steps : (setting : Setting) (rtype : RrType) → IsSettingFor config deps ends setting
      → AllByRecursion (PassesState setting deps (faults_by_ends query ends rtype) ends rtype (map (queued_state config query) queue)) (map (queued_state config query) passed)
  pub told : (setting : Setting) (rtype : RrType) (outcome : Option Leaf) → IsSettingFor config deps ends setting → IsOutcomeOf ends rtype outcome
      → HasOutcome setting query rtype outcome
  pub shown : (setting : Setting) (rtype : RrType) (fault : Fault) → IsSettingFor config deps ends setting → Contains (faults_by_ends query ends rtype) fault
      → Shows (with_lists setting deps.least deps.greatest) query rtype fault
  pub above : AreAbove query ends.faulty.items

-- the first queued states, as many as said, are passed
pub record HasPassed (config : Config) (deps : Deps) (query : Labels) (queue : List Queued) (passed : ℕ) (ends : StraightEnds) : Type 0 where
  pub within : passed ≤ length queue
  pub walked : HasWalked config deps query queue (take passed queue) ends

-- the search is one for the name, and no zone has answered yet
abbrev pub IsSearch : Config → Deps → Labels → Search → Type 0
IsSearch config deps query searched = HasPassed config deps query searched.queue.items searched.passed (unanswered searched.fails searched.faulty)

-- the statement holds of each name whose ends the ends of the query tell, and of that name's ends
abbrev pub HoldsOfEachName : Config → Labels → (Labels → StraightEnds → Type 0) → StraightEnds → Type 0
HoldsOfEachName config query P ends = (name : Labels) (found : StraightEnds) → AreEndsFor config query ends name found → P name found

-- for each name of which they tell the ends the first queued states, as many as said, are passed
abbrev pub HavePassed : Config → Deps → Labels → List Queued → ℕ → StraightEnds → Type 0
HavePassed config deps query queue passed ends = HoldsOfEachName config query (λ name found. HasPassed config deps name queue passed found) ends

-- in each setting of the configuration in which walks may use just so many rewrites those of the query go straight to the
-- ends, with each type, over at most so many states
abbrev pub GoesStraightIn : Config → Deps → ℕ → ℕ → Labels → StraightEnds → Type 0
GoesStraightIn config deps rewrites most query ends =
    (setting : Setting) → IsSettingOf config deps setting → setting.rewrites ≡ rewrites → (rtype : RrType) → GoesStraight setting deps most query ends rtype

-- What a search finds that has passed so many of the queued states, with what walks end in before it and after it. If it
-- finds no referral, the query goes straight to these ends where the limits are those that they tell, over no more states
-- than are queued, once for each rewrite, and one for each top server. If it finds one, the search has passed all states up
-- to the one whose server refers the query.
abbrev pub IsNextReferral : Config → Labels → List Queued → ℕ → StraightEnds → StraightEnds → NextReferral → Type 0
IsNextReferral config query queue before ends_before ends referring.Ends =
    (deps : Deps) → HavePassed config deps query queue before ends_before
    → (rewrites most : ℕ) → ends.rewrites ≤ rewrites → AllByRecursion (HasLimit rewrites) ends.alias_faults
    → length queue * (ends.rewrites + 1) ≤ most → HoldsOfEachName config query (GoesStraightIn config deps rewrites (most + length config.tops)) ends
IsNextReferral config query queue before ends_before ends (referring.Refers passed tree cut) =
    (before ≤ passed)
    × (passed < length queue)
    × IfSome (slice_get queue passed) (λ one. IsReply config one.server.now query (reply.Refers tree cut))
    × ((deps : Deps) → HavePassed config deps query queue before ends_before → HavePassed config deps query queue passed ends)
IsNextReferral config query queue before ends_before ends referring.NoMemory = Unit {0}
IsNextReferral config query queue before ends_before ends referring.Unclear = Unit {0}
