-- The faults that a query shows are a list: each once with its first type, in fault order.
use Rattle.std.proofs.Common.{◌≡◌, ◌↔◌, ℕ, ◌≤◌, true, List, [], map, length, flat_map, Contains, refl, subst, inl, inr}
use Rattle.dns_data.specs.Name.{Labels}
use Rattle.dns_data.specs.RrType.{number_of, types}
use Rattle.dns_data.specs.declared.rr_type.RrType.{RrType}
use Rattle.dns_data.proofs.Membership.{map_has, from_map, flat_map_has, from_flat_map, along}
use Rattle.graph_form.specs.Verdict.{AreFirstTypes, AreShownOf}
use Rattle.graph_form.specs.declared.report.Seen.{Seen}
use Rattle.graph_form.proofs.Reached.{every_type}
use Rattle.net_model.specs.declared.config.Config.{Config}
use Rattle.net_model.specs.declared.fault.Fault.{Fault}
use Rattle.net_model.specs.declared.walk.Walk.{Walk}
use Rattle.net_model.specs.Learnt.{InLeast, InGreatest}
use Rattle.net_model.specs.Nearest.{server_names}
use Rattle.net_model.specs.Reading.{ground_of}
use Rattle.net_model.specs.Shown.{FaultSetting, Shows, with_sets}
use Rattle.net_model.specs.Step.{Setting}
use Rattle.net_model.specs.Walk.{IsWalk}
use Rattle.net_model.proofs.AllWalks.{Numbered, all_along, all_along_are, none_missing_along}
use Rattle.net_model.proofs.LearntSets.{in_least, in_greatest}
use Rattle.net_model.proofs.RoundsExist.{query_settles, rounds_exist}
use Rattle.query_classes.specs.Members.{IsInOneClass}
use Rattle.query_classes.proofs.Decided.{Decided, turned, among, chosen, same_name}
use Rattle.query_verdicts.proofs.ShowsDecided.{shows_take, shows_decided}
use Rattle.query_verdicts.proofs.Candidates.{candidates, candidate_of_one, candidate_of_two}
use Rattle.query_verdicts.proofs.FirstFound.{first_types_exist}
use Rattle.graph_form.proofs.Verdicts.{one_entry}

-- ---- all walks of a query

-- the list has all walks of the query with the type, in any order
pub record HasWalks (setting : Setting) (query : Labels) (rtype : RrType) (walks : List Walk) : Type 0 where
  pub each : (walk : Walk) → Contains walks walk → IsWalk setting query rtype walk
  pub all : (walk : Walk) → IsWalk setting query rtype walk → Contains walks walk

-- the walks of a query for a type are a list
pub walks_exist : (setting : Setting) (rtype : RrType) (query : Labels) → (walks : List Walk) × HasWalks setting query rtype walks
walks_exist setting rtype query =
    let settled = query_settles setting rtype query in
    let numbered = all_along settled.0 setting rtype query in (
      map (λ (x : Numbered). x.1) numbered,
      record {
        each = λ walk has.
            let from = from_map (λ (x : Numbered). x.1) numbered walk has in
            subst (IsWalk setting query rtype) from.2 (from.0.0, all_along_are setting rtype settled.0 query from.0 from.1);
        all = λ walk (numbers, is).
            map_has (λ (x : Numbered). x.1) numbered (numbers, walk) (none_missing_along setting rtype settled.0 query numbers walk settled.1 is);
      },
    )

-- ---- the two sets of learnt addresses

module _ (config : Config) (rewrites : ℕ) where
  -- whether a name is in the least set is decided
  pub least_decided : (name : Labels) → Decided (InLeast config rewrites name)
  least_decided name =
      let (learnt, is) = rounds_exist config rewrites (length config.servers) [] in
      turned (in_least config rewrites learnt is name).1 (in_least config rewrites learnt is name).0 (among same_name learnt name)

  -- and so is whether it is in the greatest
  pub greatest_decided : (name : Labels) → Decided (InGreatest config rewrites name)
  greatest_decided name =
      let (learnt, is) = rounds_exist config rewrites (length config.servers) (server_names config) in
      turned (in_greatest config rewrites learnt is name).1 (in_greatest config rewrites learnt is name).0 (among same_name learnt name)

-- ---- what the query shows

module _ (setting : Setting) (query : Labels) (of : IsInOneClass (ground_of setting.config) query) where
  -- with one type
  shown_with : (rtype : RrType) → (shown : List Fault) × ((fault : Fault) → Contains shown fault ↔ Shows (with_sets setting) query rtype fault)
  shown_with rtype =
      let (walks, are) = walks_exist setting rtype query in
      let decide = shows_decided (with_sets setting) query rtype walks are.each are.all (least_decided setting.config setting.rewrites) (greatest_decided setting.config setting.rewrites) of in
      let (shown, is) = chosen (Shows (with_sets setting) query rtype) decide (candidates of.class rtype walks) in
      (shown, λ fault. ((λ has. ((is fault).0 has).1), (λ shows. (is fault).1 (candidate walks are fault shows, shows))))
    where
      candidate : (walks : List Walk) → HasWalks setting query rtype walks → (fault : Fault) → Shows (with_sets setting) query rtype fault
          → Contains (candidates of.class rtype walks) fault
      candidate walks are fault shows =
          elim (shows_take (with_sets setting) query rtype walks are.each are.all fault shows) [
            | inl (walk, has, take) ↦ candidate_of_one setting.config query of rtype walks fault walk has take
            | inr (one, has, rest) ↦ candidate_of_two setting.config query of rtype walks fault one rest.0 shows.may rest.2
          ]

  -- a fault with a type
  abbrev seen_with : RrType → Fault → Seen
  seen_with rtype fault = record { fault = fault; rtype = rtype }

  abbrev all_with : RrType → List Seen
  all_with rtype = map (seen_with rtype) (shown_with rtype).0

  -- with any type
  all_seen : (seen : Seen) → Contains (flat_map all_with types) seen ↔ Shows (with_sets setting) query seen.rtype seen.fault
  all_seen seen = (
    λ has.
        let one = from_flat_map all_with types seen has in
        let two = from_map (seen_with one.0) (shown_with one.0).0 seen one.2 in
        subst (λ (s : Seen). Shows (with_sets setting) query s.rtype s.fault) two.2 (((shown_with one.0).1 two.0).0 two.1),
    λ shows.
        flat_map_has all_with types seen.rtype seen (every_type seen.rtype)
        (map_has (seen_with seen.rtype) (shown_with seen.rtype).0 seen.fault (((shown_with seen.rtype).1 seen.fault).1 shows)),
  )

-- the first types of all that the query shows are what it shows
shown_of_first : (setting : FaultSetting) (query : Labels) (all first : List Seen) → ((seen : Seen) → Contains all seen ↔ Shows setting query seen.rtype seen.fault)
    → AreFirstTypes all first → AreShownOf setting query (λ fault. true) first
shown_of_first setting query all first are firsts =
    record {
      ordered = firsts.ordered;
      kinds = along (λ seen. true ≡ true) first (λ seen has. refl);
      each_shown = along (λ seen. Shows setting query seen.rtype seen.fault) first (λ seen has. (are seen).0 (firsts.from seen has));
      first_type =
          along (λ seen. (rtype : RrType) → Shows setting query rtype seen.fault → number_of seen.rtype ≤ number_of rtype) first
          (λ seen has rtype shows.
          let covered = firsts.covers (record { fault = seen.fault; rtype = rtype }) ((are (record { fault = seen.fault; rtype = rtype })).1 shows) in
          subst (λ (s : Seen). number_of s.rtype ≤ number_of rtype) (one_entry first firsts.ordered covered.by seen covered.has has covered.fault_is)
          covered.not_later);
      all_shown = λ fault rtype kind shows.
          let covered = firsts.covers (record { fault = fault; rtype = rtype }) ((are (record { fault = fault; rtype = rtype })).1 shows) in
          subst (Contains (map (λ seen. seen.fault) first)) covered.fault_is (map_has (λ seen. seen.fault) first covered.by covered.has);
    }

-- the faults that a query shows are a list
pub faults_exist : (setting : Setting) (query : Labels) → IsInOneClass (ground_of setting.config) query
    → (shown : List Seen) × AreShownOf (with_sets setting) query (λ fault. true) shown
faults_exist setting query of =
    let (first, firsts) = first_types_exist (flat_map (all_with setting query of) types) in
    (first, shown_of_first (with_sets setting) query (flat_map (all_with setting query of) types) first (all_seen setting query of) firsts)
