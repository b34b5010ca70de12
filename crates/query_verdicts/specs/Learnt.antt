-- What is learnt of a configuration before its queries are judged: for the contracts of inner calls alone.
use Rattle.std.specs.Prelude.{◌≡◌, ◌++◌, ℕ, Bool, true, Contains, IfSome, List, Result, Ok, Err}
use Rattle.dns_data.specs.Name.{Labels, wire_octets}
use Rattle.address_deps.specs.Addresses.{AreAddresses, IsAddressOf}
use Rattle.address_deps.specs.declared.addresses.AddressLearnt.{AddressLearnt}
use Rattle.address_deps.specs.declared.addresses.AddressLearnt.TheVariants.{Known}
use Rattle.label_graph.specs.Pairs.{AreSame}
use Rattle.net_model.specs.declared.config.Config.{Config}
use Rattle.net_model.specs.declared.place.Cut.{Cut}
use Rattle.net_model.specs.Nearest.{is_configured}
use Rattle.net_model.specs.Reading.{ground_of}
use Rattle.net_model.specs.Step.{may_follow}
use Rattle.net_model.specs.Tails.{IsUnnamedTail}
use Rattle.straight_walks.specs.Regions.{AreRegionsFor}
use Rattle.zone_lookup.specs.CutTable.{IsTableOf}
use Rattle.query_verdicts.specs.AlikeBelow.{AreAlikeBelow}
use Rattle.query_verdicts.specs.Passed.{IsFirstServerPassed}
use Rattle.query_verdicts.specs.Queries.{AreSets, LimitedQueries, limited_to}
use Rattle.query_verdicts.specs.Verdict.{PassesStates, SomeServerPasses}
use Rattle.query_verdicts.specs.declared.known_classes.KnownBelow.{KnownBelow}
use Rattle.query_verdicts.specs.declared.known_classes.KnownClasses.{KnownClasses}
use Rattle.query_verdicts.specs.declared.learnt.Learnt.{Learnt}
use Rattle.query_verdicts.specs.declared.queries.Queries.{Queries}

-- the queries, as contracts see them
abbrev pub limited : Queries → LimitedQueries
limited queries = limited_to queries.trees queries.rewrites queries.states

-- while these servers are followed every configured one may be
abbrev pub FollowsAll : Config → List Labels → Type 0
FollowsAll config followed = (cut : Cut) → is_configured config cut.ns ≡ true → may_follow config cut followed ≡ true

-- the sets are those of the configuration, and the table and the regions are of both; if it says that all servers are
-- followed, the least set follows them; and what is seen of all names below one holds
pub record IsRightLearnt (config : Config) (rewrites states : ℕ) (learnt : Learnt) : Type 0 where
  pub sets : AreSets config rewrites states learnt.sets
  pub table : IsTableOf config learnt.sets learnt.table
  pub regions : AreRegionsFor config learnt.sets learnt.regions
  pub all_followed : learnt.all_followed ≡ true → FollowsAll config learnt.sets.least
  pub alike : AreAlikeBelow config rewrites states learnt.alike

-- an address of the name can or can't be learnt, whichever configured servers are followed; and the name reaches no more
-- pairs than it may
abbrev pub IsKnownOf : Config → ℕ → ℕ → Labels → Bool → Type 0
IsKnownOf config rewrites states name learnt =
    IsAddressOf config rewrites name (Known learnt) × (PassesStates config rewrites states name → ⊥)

-- it is so of each name with as many octets that is the other one with an unnamed tail
abbrev pub IsKnownBelow : Config → ℕ → ℕ → KnownBelow → Type 0
IsKnownBelow config rewrites states one =
    (tail : Labels) → IsUnnamedTail config one.above tail → wire_octets (one.above ++ tail) ≡ one.octets
    → IsKnownOf config rewrites states (one.above ++ tail) one.learnt

-- what is known of names by their classes holds, and the graph is that of the configuration's base names
pub record AreKnown (config : Config) (rewrites states : ℕ) (classes : KnownClasses) : Type 0 where
  pub names : IfSome classes.names (λ names. AreSame names (ground_of config))
  pub each : (one : KnownBelow) → Contains classes.known one → IsKnownBelow config rewrites states one

-- the addresses are those of the servers' names, none of which reaches too many pairs; or else the first that does
abbrev pub AreAddressesOrPassed : Config → ℕ → ℕ → Result (List AddressLearnt) Labels → Type 0
AreAddressesOrPassed config rewrites states (Ok addresses) =
    AreAddresses config rewrites addresses × (SomeServerPasses config rewrites states → ⊥)
AreAddressesOrPassed config rewrites states (Err server) = IsFirstServerPassed config rewrites states server

-- what is learnt, or else the first server whose name reaches too many pairs
abbrev pub IsLearntOf : Config → ℕ → ℕ → Result Learnt Labels → Type 0
IsLearntOf config rewrites states (Ok learnt) = IsRightLearnt config rewrites states learnt
IsLearntOf config rewrites states (Err server) = IsFirstServerPassed config rewrites states server
