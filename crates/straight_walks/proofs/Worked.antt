-- A worked value: a query whose walks go straight, by a delegation to two name servers that answer alike.
use Rattle.std.proofs.Common.{◌≡◌, Vec, Global, Bool, true, false, cond, List, [], ◌∷◌, refl, sym, subst, inl, inr, arith}
use Rattle.std.specs.Prelude.{codes, ◌++◌, Option, Some, None, Contains, option_map}
use Rattle.dns_data.specs.Name.{Labels}
use Rattle.dns_data.specs.RrType.{type_eq}
use Rattle.dns_data.specs.declared.rdata.Rdata.{Rdata}
use Rattle.dns_data.specs.declared.rdata.Rdata.TheVariants.{A, Ns}
use Rattle.dns_data.specs.declared.rdata.Rr.{Rr}
use Rattle.dns_data.specs.declared.rr_type.RrType.{RrType}
use Rattle.dns_data.specs.declared.rr_type.RrType.TheVariants as types
use Rattle.dns_data.proofs.Membership.{each_along, has_first, has_later, none_in_nil}
use Rattle.net_model.specs.declared.deps.Deps.{Deps}
use Rattle.net_model.specs.Step.{Setting, following}
use Rattle.net_model.specs.declared.config.Config.{Config}
use Rattle.net_model.specs.declared.config.Server.{Server}
use Rattle.net_model.specs.declared.config.Zone.{Zone}
use Rattle.net_model.specs.declared.fault.Fault.{Fault}
use Rattle.net_model.specs.declared.place.Cut.{Cut}
use Rattle.net_model.specs.declared.walk.Hop.TheVariants.{Refer}
use Rattle.net_model.specs.declared.walk.Leaf.{Leaf}
use Rattle.net_model.specs.declared.walk.Leaf.TheVariants.{NxDomain}
use Rattle.net_model.specs.declared.walk.State.{State}
use Rattle.zone_lookup.specs.Sound.{IsSound}
use Rattle.walk_laws.specs.Outcome.{HasOutcome}
use Rattle.straight_walks.specs.Answers.{ZoneOwner, owner_leaf}
use Rattle.straight_walks.specs.Ends.{IsOutcomeOf, told_by}
use Rattle.straight_walks.specs.Faulty.{AreAbove, HasReferralFaults, faults_at}
use Rattle.straight_walks.specs.Nowhere.{IsToldEnd}
use Rattle.straight_walks.specs.Straight.{GoesStraight, StepsStraight, faults_by_ends}
use Rattle.straight_walks.specs.declared.ends.StraightEnds.{StraightEnds}
use Rattle.straight_walks.specs.declared.faulty.Faulty.{Faulty}
use Rattle.straight_walks.proofs.AliasEnds.{untold_with}
use Rattle.straight_walks.proofs.FlagsByTable.{sound_shows_none}

abbrev t : Labels
t = codes "t" ∷ []

abbrev ns : Labels
ns = codes "t" ∷ codes "ns" ∷ []

abbrev z : Labels
z = codes "t" ∷ codes "z" ∷ []

abbrev nsa : Labels
nsa = codes "t" ∷ codes "z" ∷ codes "nsa" ∷ []

abbrev nsb : Labels
nsb = codes "t" ∷ codes "z" ∷ codes "nsb" ∷ []

abbrev www : Labels
www = codes "t" ∷ codes "z" ∷ codes "www" ∷ []

abbrev rr : Labels → Rdata → Rr
rr owner rdata = record { owner = owner; ttl = 60; rdata = rdata; file = 0; line = 0 }

-- the name servers of the delegated zone, with their addresses
abbrev z_servers : List Rr
z_servers = rr z (Ns nsa) ∷ rr z (Ns nsb) ∷ rr nsa (A (1 ∷ 2 ∷ 3 ∷ 4 ∷ [])) ∷ rr nsb (A (1 ∷ 2 ∷ 3 ∷ 5 ∷ [])) ∷ []

-- a server of the delegated zone
abbrev z_server : Labels → Server
z_server name = record { name = name; zones = record { origin = z; rrs = z_servers } ∷ [] }

-- a delegation with glue, and the delegated zone at its two name servers
abbrev config : Config
config =
    record {
      tops = ns ∷ [];
      servers = record { name = ns; zones = record { origin = t; rrs = rr t (Ns ns) ∷ z_servers } ∷ [] } ∷ z_server nsa ∷ z_server nsb ∷ [];
    }

abbrev setting : Setting
setting = following config 8 []

-- no address is learnt, nor need be
abbrev deps : Deps
deps = record { least = []; greatest = [] }

abbrev cut : Labels → Cut
cut server = record { server = ns; zone = t; cut = z; ns = server }

-- where the query begins
abbrev first : State
first = record { server = ns; name = www; carried = true; cut = 0; used = 0; last = None; zone = Some t }

-- where its walks go on
abbrev behind : Labels → State
behind server = record { server = server; name = www; carried = true; cut = 2; used = 0; last = None; zone = Some z }

abbrev states : List State
states = first ∷ behind nsa ∷ behind nsb ∷ []

-- the zone that its name servers hold
abbrev delegated : Zone
delegated = record { origin = z; rrs = z_servers }

-- they answer that there is no such name, and no walk fails
abbrev nothing : ZoneOwner
nothing = record { zone = delegated; owner = None }

abbrev ends_with : Vec Faulty Global → StraightEnds
ends_with faulty =
    record { answer = Some (record { own = nothing; last = Some nothing }); fails = false; faulty = faulty; blackholes = []; alias_faults = []; rewrites = 0; below = false; unnamed_below = false }

second : Contains states (behind nsa)
second = has_later first (behind nsa ∷ behind nsb ∷ []) (behind nsa) (has_first (behind nsa) (behind nsb ∷ []))

third : Contains states (behind nsb)
third =
    has_later first (behind nsa ∷ behind nsb ∷ []) (behind nsb)
    (has_later (behind nsa) (behind nsb ∷ []) (behind nsb) (has_first (behind nsb) []))

-- walks go to either name server, by sound referrals
first_sound : IsSound setting.config deps (cut nsa)
first_sound = record { same_servers = refl; glued = refl; same_addresses = refl; independent = refl }

second_sound : IsSound setting.config deps (cut nsb)
second_sound = record { same_servers = refl; glued = refl; same_addresses = refl; independent = refl }

module _ (rtype : RrType) (faulty : Vec Faulty Global) (none : faulty.items ≡ []) where
  abbrev ends : StraightEnds
  ends = ends_with faulty

  -- the referrals show no fault
  is_told : (to : Cut) → IsSound setting.config deps to → HasReferralFaults setting.config deps (faults_by_ends www ends rtype) to
  is_told to sound fault has = absurd (sound_shows_none setting.config deps to sound fault has)

  none_told : (fault : Fault) → Contains (faults_by_ends www ends rtype) fault → ⊥
  none_told fault has =
      none_in_nil fault (subst (λ (all : List Faulty). Contains (faults_at www all) fault) none
      (subst (λ (told : List Fault). Contains (told ++ faults_at www faulty.items) fault) (untold_with rtype) has))

  -- with each type they answer so
  outcome_is : told_by ends rtype ≡ Some (Some NxDomain)
  outcome_is = by (type_eq rtype types.Cname) where
    by : (b : Bool) → Some (option_map (λ at. owner_leaf at rtype) (cond b (Some nothing) (Some nothing))) ≡ Some (Some NxDomain)
    by true = refl
    by false = refl

  told : IsOutcomeOf ends rtype (Some NxDomain)
  told = inr outcome_is

  first_goes : StepsStraight setting deps (faults_by_ends www ends rtype) ends rtype states first
  first_goes = (
    inl (inr (cut nsa, behind nsa, is_told (cut nsa) first_sound, refl, second)),
    (inl (inr (cut nsb, behind nsb, is_told (cut nsb) second_sound, refl, third)), tt),
  )

  -- no rewrite led there
  none_led : IsToldEnd (faults_by_ends www ends rtype) None NxDomain
  none_led place led = cc

  -- where the name doesn't exist
  second_answers : StepsStraight setting deps (faults_by_ends www ends rtype) ends rtype states (behind nsa)
  second_answers = (inr (inl (NxDomain, told, none_led, refl)), tt)

  third_answers : StepsStraight setting deps (faults_by_ends www ends rtype) ends rtype states (behind nsb)
  third_answers = (inr (inl (NxDomain, told, none_led, refl)), tt)

  -- so ends the walk by the first name server
  www_told : (outcome : Option Leaf) → IsOutcomeOf ends rtype outcome → HasOutcome setting www rtype outcome
  www_told outcome (inr is) =
      let same : Some NxDomain ≡ outcome = one (told_by ends rtype) (Some NxDomain) outcome outcome_is is in
      subst (HasOutcome setting www rtype) same
      (record { states = first ∷ behind nsa ∷ []; hops = Refer (cut nsa) ∷ []; leaf = NxDomain }, (0 ∷ 0 ∷ 0 ∷ [], refl), refl)
    where
      one : (told : Option (Option Leaf)) (a b : Option Leaf) → told ≡ Some a → told ≡ Some b → a ≡ b
      one told a b is also = cc
  www_told outcome (inl fails) = cc

  www_goes_straight : GoesStraight setting deps 3 www ends rtype
  www_goes_straight =
      record {
        states = states;
        few = omega arith;
        begins = λ state has. each_along (Contains states) (first ∷ []) (has_first first (behind nsa ∷ behind nsb ∷ []), tt) state has;
        steps = λ state has. each_along (StepsStraight setting deps (faults_by_ends www ends rtype) ends rtype states) states (first_goes, (second_answers, (third_answers, tt))) state has;
        told = www_told;
        shown = λ fault has. absurd (none_told fault has);
        above = subst (AreAbove www) (sym none) tt;
      }
