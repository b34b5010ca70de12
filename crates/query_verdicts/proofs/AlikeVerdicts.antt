-- Where a query's last label makes no difference in the graph of its walks, each name with other labels in its place, not
-- too many, has the query's verdict.
use Rattle.std.proofs.Common.{◌≡◌, ◌∙◌, ℕ, ◌+◌, ◌-◌, ◌≤◌, true, List, [], ◌∷◌, ◌++◌, map, length, refl, sym, ap, subst, subst₂, arith, true≢false}
use Rattle.std.specs.Prelude.{Contains}
use Rattle.std.specs.List.{AllByRecursion, list_all}
use Rattle.dns_data.specs.Name.{IsName, Labels, wire_octets}
use Rattle.dns_data.specs.RrType.{number_of}
use Rattle.dns_data.specs.declared.rr_type.RrType.{RrType}
use Rattle.dns_data.proofs.Membership.{along, each_along, from_map}
use Rattle.dns_data.proofs.NameFronts.{octets_below, tail_octets}
use Rattle.dns_data.proofs.Searches.{each_of_all}
use Rattle.net_model.specs.declared.class.Class.{Class}
use Rattle.net_model.specs.declared.config.Config.{Config}
use Rattle.net_model.specs.declared.fault.Fault.{Fault}
use Rattle.net_model.specs.declared.fault.Fault.TheVariants as faults
use Rattle.net_model.specs.declared.place.Place.{Place}
use Rattle.net_model.specs.declared.walk.Walk.{Walk}
use Rattle.net_model.specs.Learnt.{IsInForce}
use Rattle.net_model.specs.Shown.{FaultSetting, Shows, WalksShow, with_sets}
use Rattle.net_model.specs.Step.{following}
use Rattle.net_model.specs.Tails.{is_overlong}
use Rattle.net_model.specs.Walk.{IsWalk}
use Rattle.net_model.proofs.InForce.{one_in_force}
use Rattle.graph_form.specs.Graph.{PlainGraph}
use Rattle.graph_form.specs.Verdict.{AreShownOf}
use Rattle.graph_form.specs.declared.report.Seen.{Seen}
use Rattle.interp_graph.specs.Asked.{IsBuilt}
use Rattle.walk_laws.specs.OfWalks.{is_of_walks}
use Rattle.walk_laws.proofs.FaultsCarried.{shown, shown_alike}
use Rattle.query_verdicts.specs.AlikeBelow.{IsAlikeBelow, IsOpenGraph}
use Rattle.query_verdicts.specs.Queries.{WalksLike, limited_to}
use Rattle.query_verdicts.specs.Verdict.{AreFaultsOf, IsClassVerdict, PassesStates}
use Rattle.query_verdicts.specs.declared.verdict.ClassVerdict.TheVariants.{Faults}
use Rattle.query_verdicts.proofs.CoveringGrounds.{in_own_class}
use Rattle.query_verdicts.proofs.OpenGraphs.{other_short, own_bounded, passes_back, walks_back, walks_there}

-- two walks that show differing answers show them whatever class is named
any_class : (setting : FaultSetting) (walks : List Walk) (one other : Class) (rtype : RrType) → WalksShow setting walks (faults.Answers one rtype)
    → WalksShow setting walks (faults.Answers other rtype)
any_class setting [] one other rtype show = absurd show
any_class setting (walk ∷ []) one other rtype show = absurd show
any_class setting (walk ∷ second ∷ []) one other rtype show = show
any_class setting (walk ∷ second ∷ third ∷ walks) one other rtype show = absurd show

module _ (config : Config) (rewrites states : ℕ) (above : Labels) (label : List ℕ) (graph : PlainGraph) (most : ℕ)
    (built : IsBuilt config rewrites (above ++ label ∷ []) graph) (is_open : IsOpenGraph config label graph most) (is_name : IsName (above ++ label ∷ []))
    (few : PassesStates config rewrites states (above ++ label ∷ []) → ⊥) (told : List Seen) (are : AreFaultsOf config rewrites states (above ++ label ∷ []) told)
    (of_walks : list_all (λ (seen : Seen). is_of_walks seen.fault) told ≡ true) where
  -- each of the faults is one that isn't a class's or its representative's alone
  each_of_walks : (fault : Fault) → Contains (map (λ (seen : Seen). seen.fault) told) fault → is_of_walks fault ≡ true
  each_of_walks fault has =
      let there = from_map (λ (seen : Seen). seen.fault) told fault has in
      subst (λ (f : Fault). is_of_walks f ≡ true) there.2 (each_of_all (λ (seen : Seen). is_of_walks seen.fault) told of_walks there.0 there.1)

  module _ (first : List ℕ) (rest : Labels) (fits : most + tail_octets (first ∷ rest) ≤ 255) where
    abbrev other : Labels
    other = above ++ first ∷ rest

    module _ (followed : List Labels) (in_force : IsInForce config rewrites followed) (own : AreShownOf (with_sets (following config rewrites followed)) (above ++ label ∷ []) (λ fault. true) told) where
      abbrev setting : FaultSetting
      setting = with_sets (following config rewrites followed)

      to_other : (rtype : RrType) (fault : Fault) → is_of_walks fault ≡ true → Shows setting (above ++ label ∷ []) rtype fault → Shows setting other rtype fault
      to_other rtype fault is shows =
          let found =
          shown_alike config rewrites above (label ∷ []) (first ∷ rest) rtype
          (λ servers. walks_there config rewrites above label graph most built is_open first rest fits servers rtype) fault is
          (record { followed = followed; in_force = in_force; shows = shows }) in
          subst (λ (servers : List Labels). Shows (with_sets (following config rewrites servers)) other rtype fault)
          (one_in_force config rewrites found.followed followed found.in_force in_force) found.shows

      to_own : (rtype : RrType) (fault : Fault) → is_of_walks fault ≡ true → Shows setting other rtype fault → Shows setting (above ++ label ∷ []) rtype fault
      to_own rtype fault is shows =
          let found =
          shown_alike config rewrites above (first ∷ rest) (label ∷ []) rtype
          (λ servers. walks_back config rewrites above label graph most built is_open first rest fits servers rtype) fault is
          (record { followed = followed; in_force = in_force; shows = shows }) in
          subst (λ (servers : List Labels). Shows (with_sets (following config rewrites servers)) (above ++ label ∷ []) rtype fault)
          (one_in_force config rewrites found.followed followed found.in_force in_force) found.shows

      none_overlong : (rtype : RrType) (place : Place) (walks : List Walk) → AllByRecursion (IsWalk (following config rewrites followed) other rtype) walks
          → WalksShow setting walks (faults.Overlong place) → ⊥
      none_overlong rtype place [] walks show = absurd show
      none_overlong rtype place (walk ∷ []) are show =
          true≢false (sym (ap is_overlong show) ∙ other_short config rewrites above label graph most built is_open first rest fits followed rtype walk are.0)
      none_overlong rtype place (walk ∷ second ∷ []) are show = absurd show
      none_overlong rtype place (walk ∷ second ∷ third ∷ walks) are show = absurd show

      none_differ : (rtype : RrType) (class : Class) (with_type : RrType) → Shows setting other rtype (faults.Answers class with_type) → ⊥
      none_differ rtype class with_type shows =
          let of = in_own_class config (above ++ label ∷ []) is_name in
          let found =
          shown setting above (first ∷ rest) (label ∷ []) rtype (walks_back config rewrites above label graph most built is_open first rest fits followed rtype)
          shows.walks (faults.Answers class with_type) (λ place e. cc) shows.are_walks shows.show in
          let own_shows : Shows setting (above ++ label ∷ []) rtype (faults.Answers of.class with_type) =
          record {
            walks = found.0;
            by = record { may = (shows.may.0, of.is); are_walks = found.1; show = any_class setting found.0 class of.class with_type found.2 };
          } in
          true≢false (sym (each_of_walks (faults.Answers of.class with_type) (own.all_shown (faults.Answers of.class with_type) rtype refl own_shows)))

      -- that name shows no fault that is
      walks_alone : (rtype : RrType) (fault : Fault) → Shows setting other rtype fault → is_of_walks fault ≡ true
      walks_alone rtype (faults.Answers class with_type) shows = absurd (none_differ rtype class with_type shows)
      walks_alone rtype (faults.Overlong place) shows = absurd (none_overlong rtype place shows.walks shows.are_walks shows.show)
      walks_alone rtype _ shows = refl

      shown_too : AreShownOf setting other (λ fault. true) told
      shown_too = record {
        ordered = own.ordered;
        kinds = own.kinds;
        each_shown = along (λ (seen : Seen). Shows setting other seen.rtype seen.fault) told
            (λ seen has. to_other seen.rtype seen.fault (each_of_all (λ (s : Seen). is_of_walks s.fault) told of_walks seen has)
            (each_along (λ (s : Seen). Shows setting (above ++ label ∷ []) s.rtype s.fault) told own.each_shown seen has));
        first_type = along (λ (seen : Seen). (rtype : RrType) → Shows setting other rtype seen.fault → number_of seen.rtype ≤ number_of rtype) told
            (λ seen has rtype shows.
            each_along (λ (s : Seen). (t : RrType) → Shows setting (above ++ label ∷ []) t s.fault → number_of s.rtype ≤ number_of t) told own.first_type seen has rtype
            (to_own rtype seen.fault (walks_alone rtype seen.fault shows) shows));
        all_shown = λ fault rtype kind shows. own.all_shown fault rtype refl (to_own rtype fault (walks_alone rtype fault shows) shows);
      }

    -- the name with the other labels has the query's verdict
    alike_verdict : IsClassVerdict config rewrites states other (Faults told)
    alike_verdict = (
      λ passes. few (passes_back config rewrites above label graph most built is_open first rest fits states passes),
      record {
        none_sought = are.none_sought;
        sought = λ none followed in_force. shown_too followed in_force (are.sought none followed in_force);
      },
    )

    -- and walks as the query does
    alike_walks : WalksLike (limited_to config rewrites states) (above ++ label ∷ []) other
    alike_walks = record {
      few = alike_verdict.0;
      few_like = few;
      count = length (label ∷ []);
      tail = first ∷ rest;
      walks = λ followed rtype.
          (walks_there config rewrites above label graph most built is_open first rest fits followed rtype).bounded
          (own_bounded config rewrites above label graph most built is_open first rest fits followed rtype);
    }

  -- so does each name below with at most so many octets
  pub alike_below : most ≤ 255
      → IsAlikeBelow config rewrites states (record { above = above; like = above ++ label ∷ []; octets = 255 + wire_octets above - most; shown = told })
  alike_below within query fit =
      let fits : most + tail_octets (fit.first ∷ fit.rest) ≤ 255 = omega (arith, within, fit.fits, ap wire_octets fit.is, octets_below above (fit.first ∷ fit.rest)) in
      subst (λ (q : Labels). IsClassVerdict config rewrites states q (Faults told) × WalksLike (limited_to config rewrites states) (above ++ label ∷ []) q)
      (sym fit.is) (alike_verdict fit.first fit.rest fits, alike_walks fit.first fit.rest fits)

-- so it is with copies of the names
pub alike_copy : (config : Config) (rewrites states : ℕ) (above : Labels) (label : List ℕ) (query : Labels) (graph : PlainGraph) (most : ℕ) → query ≡ above ++ label ∷ []
    → IsBuilt config rewrites query graph → IsOpenGraph config label graph most → IsName query → (PassesStates config rewrites states query → ⊥) → (told : List Seen)
    → AreFaultsOf config rewrites states query told → list_all (λ (seen : Seen). is_of_walks seen.fault) told ≡ true → most ≤ 255 → (copy like : Labels) (octets : ℕ)
    → copy ≡ above → like ≡ query → octets ≡ wire_octets above → IsAlikeBelow config rewrites states (record { above = copy; like = like; octets = 255 + octets - most; shown = told })
alike_copy config rewrites states above label query graph most is built is_open is_name few told are of_walks within copy like octets same own counted =
    subst (λ (name : Labels). IsAlikeBelow config rewrites states (record { above = copy; like = name; octets = 255 + octets - most; shown = told })) (sym (own ∙ is))
    (subst₂ (λ (name : Labels) (count : ℕ). IsAlikeBelow config rewrites states (record { above = name; like = above ++ label ∷ []; octets = 255 + count - most; shown = told })) (sym same) (sym counted)
    (alike_below config rewrites states above label graph most (subst (λ (q : Labels). IsBuilt config rewrites q graph) is built) is_open (subst IsName is is_name)
    (subst (λ (q : Labels). PassesStates config rewrites states q → ⊥) is few) told (subst (λ (q : Labels). AreFaultsOf config rewrites states q told) is are) of_walks within))
