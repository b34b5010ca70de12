-- Where the aliases of a name lead at a server.
use Rattle.std.proofs.Common.{◌≡◌, ℕ, ◌+◌, ◌<◌, ◌≤◌, Bool, true, false, cond, List, [], ◌∷◌, ◌++◌, map, Option, Some, None, Bor, refl, sym, ap, ◌∙◌, subst, inl, inr, arith, le-ltb}
use Rattle.std.specs.Prelude.{is_some, if◌then◌else◌, Contains, IfSome, option_map}
use Rattle.std.specs.List.{AllByRecursion}
use Rattle.std.specs.Option.{option_to_list}
use Rattle.dns_data.specs.Name.{Labels}
use Rattle.dns_data.specs.RrType.{type_eq}
use Rattle.dns_data.specs.declared.rdata.Rdata.{Rdata}
use Rattle.dns_data.specs.declared.rr_type.RrType.{RrType}
use Rattle.dns_data.specs.declared.rr_type.RrType.TheVariants as types
use Rattle.dns_data.proofs.Membership.{first_or_later, has_first, none_in_nil}
use Rattle.net_model.specs.Nearest.{nearest_of}
use Rattle.net_model.specs.Step.{Setting, End, Go, next, rewritten}
use Rattle.net_model.specs.declared.config.Config.{Config}
use Rattle.net_model.specs.declared.config.Zone.{Zone}
use Rattle.net_model.specs.declared.fault.Fault.{Fault}
use Rattle.net_model.specs.declared.fault.Fault.TheVariants as faults
use Rattle.net_model.specs.declared.place.Place.{Place}
use Rattle.net_model.specs.declared.walk.Hop.TheVariants.{Rewrite}
use Rattle.net_model.specs.declared.walk.Leaf.{Leaf}
use Rattle.net_model.specs.declared.walk.Leaf.TheVariants.{Limit, NxDomain}
use Rattle.net_model.specs.declared.walk.State.{State}
use Rattle.zone_tree.specs.Tree.{ZoneTree, name_of}
use Rattle.zone_lookup.specs.Reply.{IsReply}
use Rattle.zone_lookup.specs.Resting.{data_leaf}
use Rattle.zone_lookup.specs.declared.reply.Reply.TheVariants as reply
use Rattle.straight_walks.specs.Aliases.{IsAtAlias, LeadsByAliases, MayFollow, told_by_fault}
use Rattle.straight_walks.specs.Answers.{ZoneOwner, alias_answering, answering_by, last_owner, outcome_with, owner_leaf, sorted_data, zone_owner}
use Rattle.straight_walks.specs.Nowhere.{HasLimit, IsToldEnd, alias_fault, owned_place, place_of, told_with, untold}
use Rattle.straight_walks.specs.Searching.{AnswersAt, AnswersBehind, AnswersFrom, AnswersSo, EndsInFault, IsBehind, MayRewrite, state_at}
use Rattle.straight_walks.specs.declared.aliases.AliasEnd.{AliasEnd}
use Rattle.straight_walks.specs.declared.answers.LastOwner.{LastOwner}
use Rattle.straight_walks.specs.declared.lent_place.AliasFault.{AliasFault}
use Rattle.straight_walks.specs.declared.lent_place.LentPlace.{LentPlace}
use Rattle.straight_walks.proofs.AliasWalks.{along_more, ends_on, falls_there, stops_there}
use Rattle.straight_walks.proofs.Replies.{alias_answers, alias_found, nothing_end, records_end, rewritten_goes, rewritten_to}
use Rattle.straight_walks.proofs.SameOutcomes.{owner_outcome}

-- an owner's data are an end at which nothing is to be told
pub data_end : (shown : List Fault) (last : Option Place) (tree : ZoneTree) (owner : ℕ) (rtype : RrType) → IsToldEnd shown last (owner_leaf (zone_owner tree (Some owner)) rtype)
data_end shown last tree owner rtype = by (sorted_data tree.zone (name_of tree owner) rtype) where
  by : (found : List Rdata) → IsToldEnd shown last (data_leaf found)
  by [] = refl
  by (first ∷ rest) = refl

-- the fault of an end is the only one among the faults of its end
only_fault : (one : Option Fault) (fault : Fault) → Contains (option_to_list one) fault → one ≡ Some fault
only_fault None fault has = absurd (none_in_nil fault has)
only_fault (Some one) fault has = elim (first_or_later one [] fault has) [
  | inl same ↦ ap (λ (f : Fault). Some f) same
  | inr later ↦ absurd (none_in_nil fault later)
]

-- the alias's place, at the state's server
abbrev led_by : LentPlace → State → Place
led_by alias state = record { server = state.server; zone = alias.zone.now; owner = alias.owner.now }

module _ (config : Config) (alias : LentPlace) (target : Labels) (used : ℕ) where
  -- the state at which the alias stands
  abbrev At : Setting → RrType → State → Type 0
  At setting rtype state = IsAtAlias config (place_of alias) target used setting rtype state

  -- the state to which walks go on, at the same server
  abbrev to_of : (setting : Setting) (rtype : RrType) (state : State) → At setting rtype state → State
  to_of setting rtype state at =
      rewritten_to config state.name alias.server.now setting rtype state at.config_is at.at_server refl alias.zone.now alias.owner.now false target

  -- they do while a rewrite is left, if the server has a zone for the target
  goes_on : (setting : Setting) (rtype : RrType) (state : State) (at : At setting rtype state) → used < setting.rewrites → is_some (nearest_of config alias.server.now target) ≡ true
      → next setting rtype state ≡ Go (Rewrite (led_by alias state) false target) (to_of setting rtype state at) ∷ []
  goes_on setting rtype state at fewer held =
      at.finds
      ∙ rewritten_goes config state.name alias.server.now setting rtype state at.config_is at.at_server refl alias.zone.now alias.owner.now false target
      (omega (arith, at.used_is, fewer)) held

  -- aliases end at a target that the server answers by an owner's records
  pub leads_to_records : (tree : Bor ZoneTree) (owner : ℕ) → IsReply config alias.server.now target (reply.Records tree owner)
      → LeadsByAliases config (place_of alias) target used (record { last = Some (record { tree = tree; owner = Some owner }); rewrites = used + 1; fault = None })
  leads_to_records tree owner so =
      record {
        last = so.1.0;
        no_fewer = omega arith;
        along = λ setting rtype state at may. (
          owner_leaf (zone_owner tree.now (Some owner)) rtype,
          to_of setting rtype state at ∷ [],
          owner_outcome (zone_owner tree.now (Some owner)) rtype,
          omega arith,
          (
            led_by alias state,
            false,
            target,
            goes_on setting rtype state at (omega (arith, may.enough)) (ap (λ (zone : Option Zone). is_some zone) so.0),
            (
              records_end config target alias.server.now setting rtype (to_of setting rtype state at) at.config_is at.at_server refl tree owner so,
              data_end [] (Some (led_by alias state)) tree.now owner rtype,
            ),
          ),
        );
        shows = λ setting rtype state at may fault has. absurd (none_in_nil fault has);
      }

  -- and at one that it hasn't
  pub leads_to_nothing : (tree : Bor ZoneTree) → IsReply config alias.server.now target (reply.Nothing tree)
      → LeadsByAliases config (place_of alias) target used
      (record { last = Some (record { tree = tree; owner = None }); rewrites = used + 1; fault = Some (record { place = alias; limit = None }) })
  leads_to_nothing tree so =
      record {
        last = tt;
        no_fewer = omega arith;
        along = λ setting rtype state at may. (
          NxDomain,
          to_of setting rtype state at ∷ [],
          refl,
          omega arith,
          (
            led_by alias state,
            false,
            target,
            goes_on setting rtype state at (omega (arith, may.enough)) held,
            (nothing_there setting rtype state at, told setting rtype state at),
          ),
        );
        shows = λ setting rtype state at may fault has.
            let is = only_fault (Some (faults.Blackhole (place_of alias))) fault has in
            let same : faults.Blackhole (place_of alias) ≡ fault = cc in
            subst (EndsInFault setting rtype state) same
            (ends_on setting rtype state (to_of setting rtype state at) (Rewrite (led_by alias state) false target)
            (goes_on setting rtype state at (omega (arith, may.enough)) held) (faults.Blackhole (place_of alias))
            (falls_there setting rtype (to_of setting rtype state at) (nothing_there setting rtype state at) (place_of alias) (last_is setting rtype state at)));
      }
    where
      held : is_some (nearest_of config alias.server.now target) ≡ true
      held = ap (λ (zone : Option Zone). is_some zone) so.0

      nothing_there : (setting : Setting) (rtype : RrType) (state : State) (at : At setting rtype state) → next setting rtype (to_of setting rtype state at) ≡ End None NxDomain ∷ []
      nothing_there setting rtype state at = nothing_end config target alias.server.now setting rtype (to_of setting rtype state at) at.config_is at.at_server refl tree so

      last_is : (setting : Setting) (rtype : RrType) (state : State) (at : At setting rtype state) → (to_of setting rtype state at).last ≡ Some (place_of alias)
      last_is setting rtype state at = ap (λ (server : Labels). Some (record { server = server; zone = alias.zone.now; owner = alias.owner.now })) at.at_server

      told : (setting : Setting) (rtype : RrType) (state : State) (at : At setting rtype state)
          → IsToldEnd (faults.Blackhole (place_of alias) ∷ []) (to_of setting rtype state at).last NxDomain
      told setting rtype state at = λ place led.
          let both = sym (last_is setting rtype state at) ∙ led in
          let same : place_of alias ≡ place = cc in
          subst (λ (p : Place). Contains (faults.Blackhole (place_of alias) ∷ []) (faults.Blackhole p)) same (has_first (faults.Blackhole (place_of alias)) [])

  -- aliases pass the limit where no rewrite is left
  pub leads_past : (limit : ℕ) → limit ≤ used → LeadsByAliases config (place_of alias) target used (record { last = None; rewrites = used; fault = Some (record { place = alias; limit = Some limit }) })
  leads_past limit none_left =
      record {
        last = tt;
        no_fewer = omega arith;
        along = λ setting rtype state at may. (
          Limit (place_of alias),
          [],
          refl,
          omega arith,
          (stops setting rtype state at may.limited, has_first (faults.Limit (place_of alias)) []),
        );
        shows = λ setting rtype state at may fault has.
            let is = only_fault (Some (faults.Limit (place_of alias))) fault has in
            let same : faults.Limit (place_of alias) ≡ fault = cc in
            subst (EndsInFault setting rtype state) same (stops_there setting rtype state (place_of alias) (stops setting rtype state at may.limited));
      }
    where
      stops : (setting : Setting) (rtype : RrType) (state : State) (at : At setting rtype state) → setting.rewrites ≡ limit
          → next setting rtype state ≡ End None (Limit (place_of alias)) ∷ []
      stops setting rtype state at is =
          at.finds
          ∙ ap (λ (may : Bool). if may then rewritten setting.config state (led_by alias state) false target else End None (Limit (led_by alias state)) ∷ [])
          (le-ltb state.used setting.rewrites (omega (arith, at.used_is, is, none_left)))
          ∙ ap (λ (server : Labels). End None (Limit (record { server = server; zone = alias.zone.now; owner = alias.owner.now })) ∷ []) at.at_server

  -- aliases lead from an alias to where they lead from the one at its target
  pub leads_on : (tree : Bor ZoneTree) (owner : ℕ) (further : Bor Labels) → IsReply config alias.server.now target (reply.Alias tree owner further)
      → (behind : LentPlace) → place_of behind ≡ owned_place alias.server.now tree.now owner → (end : AliasEnd)
      → LeadsByAliases config (place_of behind) further.now (used + 1) end → LeadsByAliases config (place_of alias) target used end
  leads_on tree owner further so behind is end on =
      record {
        last = on.last;
        no_fewer = omega (arith, on.no_fewer);
        along = λ setting rtype state at may.
            let (leaf, states, told, few, along) = on.along setting rtype (to_of setting rtype state at) (there setting rtype state at) may in
            (leaf, to_of setting rtype state at ∷ states, told, omega (arith, few), (led_by alias state, false, target, goes setting rtype state at may, along));
        shows = λ setting rtype state at may fault has.
            ends_on setting rtype state (to_of setting rtype state at) (Rewrite (led_by alias state) false target) (goes setting rtype state at may) fault
            (on.shows setting rtype (to_of setting rtype state at) (there setting rtype state at) may fault has);
      }
    where
      goes : (setting : Setting) (rtype : RrType) (state : State) (at : At setting rtype state) → MayFollow end setting
          → next setting rtype state ≡ Go (Rewrite (led_by alias state) false target) (to_of setting rtype state at) ∷ []
      goes setting rtype state at may = goes_on setting rtype state at (omega (arith, on.no_fewer, may.enough)) (ap (λ (zone : Option Zone). is_some zone) so.0)

      there : (setting : Setting) (rtype : RrType) (state : State) (at : At setting rtype state)
          → IsAtAlias config (place_of behind) further.now (used + 1) setting rtype (to_of setting rtype state at)
      there setting rtype state at =
          subst (λ (p : Place). IsAtAlias config p further.now (used + 1) setting rtype (to_of setting rtype state at)) (sym is)
          (record {
            config_is = at.config_is;
            at_server = at.at_server;
            used_is = ap (λ (n : ℕ). n + 1) at.used_is;
            other = at.other;
            finds = alias_found config target alias.server.now setting rtype (to_of setting rtype state at) at.config_is at.at_server refl tree owner further so at.other;
          })

-- ---- what a server answers

-- the owner that answers with each type is the one
one_owner : (b : Bool) (owner : ZoneOwner) → cond b (Some owner) (Some owner) ≡ Some owner
one_owner true owner = refl
one_owner false owner = refl

-- where a name is no alias its owner answers with each type
pub outcome_is : (tree : ZoneTree) (owner : Option ℕ) (rtype : RrType) → outcome_with (answering_by tree owner) rtype ≡ Some (owner_leaf (zone_owner tree owner) rtype)
outcome_is tree owner rtype = ap (option_map (λ (at : ZoneOwner). owner_leaf at rtype)) (one_owner (type_eq rtype types.Cname) (zone_owner tree owner))

-- nothing is told where nothing is to be told
pub untold_with : (rtype : RrType) → told_with untold rtype ≡ []
untold_with rtype = by (type_eq rtype types.Cname) where
  told : Bool → List Fault
  told b = cond b [] (map alias_fault []) ++ []

  by : (b : Bool) → told b ≡ []
  by true = refl
  by false = refl

-- to a name, behind rewrites
module _ (config : Config) (server name : Labels) (rewrites : ℕ) (last : Option Place) where
  -- a server that replies with an owner's records answers the name, behind so many rewrites, by this owner
  pub records_behind : (tree : Bor ZoneTree) (owner : ℕ) → IsReply config server name (reply.Records tree owner)
      → AnswersBehind config server name rewrites last untold (answering_by tree.now (Some owner)) rewrites
  records_behind tree owner so =
      record {
        answers = λ setting rtype state may is. (
          owner_leaf (zone_owner tree.now (Some owner)) rtype,
          [],
          owner_outcome (zone_owner tree.now (Some owner)) rtype ∙ sym (outcome_is tree.now (Some owner) rtype),
          omega arith,
          (
            records_end config name server setting rtype state may.config_is is.at_server is.with_name tree owner so,
            data_end (told_with untold rtype) state.last tree.now owner rtype,
          ),
        );
        shows = λ setting rtype state may is fault has. absurd (none_in_nil fault (subst (λ (all : List Fault). Contains all fault) (untold_with rtype) has));
      }

  -- a server that replies with an alias answers the name, behind so many rewrites, by the alias and the end to which it
  -- leads
  pub alias_behind : (tree : Bor ZoneTree) (owner : ℕ) (target : Bor Labels) (end : AliasEnd) → IsReply config server name (reply.Alias tree owner target)
      → LeadsByAliases config (owned_place server tree.now owner) target.now rewrites end
      → AnswersBehind config server name rewrites last (told_by_fault end.fault) (alias_answering tree.now owner (option_map last_owner end.last)) end.rewrites
  alias_behind tree owner target end so on =
      record {
        answers = λ setting rtype state may is. answers setting rtype state may is (type_eq rtype types.Cname) refl;
        shows = λ setting rtype state may is fault has. shows setting rtype state may is fault (type_eq rtype types.Cname) refl has;
      }
    where
      told : RrType → Bool → List Fault
      told rtype b = cond b [] (map alias_fault (option_to_list end.fault)) ++ []

      told_is : (rtype : RrType) (b : Bool) → type_eq rtype types.Cname ≡ b → told_with (told_by_fault end.fault) rtype ≡ told rtype b
      told_is rtype b e = ap (told rtype) e

      outcome : RrType → Bool → Option Leaf
      outcome rtype b = option_map (λ at. owner_leaf at rtype) (cond b (Some (zone_owner tree.now (Some owner))) (option_map last_owner end.last))

      outcome_of_type : (rtype : RrType) (b : Bool) → type_eq rtype types.Cname ≡ b
          → outcome_with (alias_answering tree.now owner (option_map last_owner end.last)) rtype ≡ outcome rtype b
      outcome_of_type rtype b e = ap (outcome rtype) e

      mapped : (fault : Option AliasFault) → map alias_fault (option_to_list fault) ++ [] ≡ option_to_list (option_map alias_fault fault)
      mapped None = refl
      mapped (Some one) = refl

      joined : (rtype : RrType) (found : Option LastOwner) → option_map (λ last. owner_leaf (last_owner last) rtype) found ≡ option_map (λ at. owner_leaf at rtype) (option_map last_owner found)
      joined rtype None = refl
      joined rtype (Some one) = refl

      limited : (setting : Setting) (fault : Option AliasFault) → AllByRecursion (HasLimit setting.rewrites) (option_to_list fault) → IfSome fault (HasLimit setting.rewrites)
      limited setting None all = tt
      limited setting (Some one) all = all.0

      follow : (setting : Setting) → MayRewrite config end.rewrites (option_to_list end.fault) setting → MayFollow end setting
      follow setting may = record { enough = may.enough; limited = limited setting end.fault may.limits }

      at : (setting : Setting) (rtype : RrType) (state : State) → MayRewrite config end.rewrites (option_to_list end.fault) setting → IsBehind server name rewrites last state
          → type_eq rtype types.Cname ≡ false → IsAtAlias config (owned_place server tree.now owner) target.now rewrites setting rtype state
      at setting rtype state may is other =
          record {
            config_is = may.config_is;
            at_server = is.at_server;
            used_is = is.used;
            other = other;
            finds = alias_found config name server setting rtype state may.config_is is.at_server is.with_name tree owner target so other;
          }

      answers : (setting : Setting) (rtype : RrType) (state : State) → MayRewrite config end.rewrites (option_to_list end.fault) setting → IsBehind server name rewrites last state
          → (b : Bool) → type_eq rtype types.Cname ≡ b
          → AnswersFrom setting (told_with (told_by_fault end.fault) rtype) rtype (outcome_with (alias_answering tree.now owner (option_map last_owner end.last)) rtype) state rewrites end.rewrites
      answers setting rtype state may is true e = (
        owner_leaf (zone_owner tree.now (Some owner)) rtype,
        [],
        owner_outcome (zone_owner tree.now (Some owner)) rtype ∙ sym (outcome_of_type rtype true e),
        omega (arith, on.no_fewer),
        (
          alias_answers config name server setting rtype state may.config_is is.at_server is.with_name tree owner target so e,
          data_end (told_with (told_by_fault end.fault) rtype) state.last tree.now owner rtype,
        ),
      )
      answers setting rtype state may is false e =
          let (leaf, behind, told_leaf, few, along) = on.along setting rtype state (at setting rtype state may is e) (follow setting may) in (
            leaf,
            behind,
            told_leaf ∙ joined rtype end.last ∙ sym (outcome_of_type rtype false e),
            few,
            along_more setting (option_to_list (option_map alias_fault end.fault)) (told_with (told_by_fault end.fault) rtype)
                (λ fault has. subst (λ (all : List Fault). Contains all fault) (sym (told_is rtype false e ∙ mapped end.fault)) has) rtype leaf state behind along,
          )

      shows : (setting : Setting) (rtype : RrType) (state : State) → MayRewrite config end.rewrites (option_to_list end.fault) setting → IsBehind server name rewrites last state
          → (fault : Fault) (b : Bool) → type_eq rtype types.Cname ≡ b → Contains (told_with (told_by_fault end.fault) rtype) fault → EndsInFault setting rtype state fault
      shows setting rtype state may is fault true e has = absurd (none_in_nil fault (subst (λ (all : List Fault). Contains all fault) (told_is rtype true e) has))
      shows setting rtype state may is fault false e has =
          on.shows setting rtype state (at setting rtype state may is e) (follow setting may) fault
          (subst (λ (all : List Fault). Contains all fault) (told_is rtype false e ∙ mapped end.fault) has)

-- no rewrite led to the first state
pub none_led : (place : Place) → None ≡ Some place → ⊥
none_led place e = cc

-- where no rewrite led, an owner of a zone or none is an end at which nothing is to be told
owner_end : (shown : List Fault) (tree : ZoneTree) (owner : Option ℕ) (rtype : RrType) → IsToldEnd shown None (owner_leaf (zone_owner tree owner) rtype)
owner_end shown tree None rtype = λ place led. absurd (none_led place led)
owner_end shown tree (Some owner) rtype = data_end shown None tree owner rtype

-- to the query
module _ (config : Config) (query server : Labels) where
  -- a server whose zone answers by an owner, or without one, answers so with no rewrite
  pub answers_by : (tree : Bor ZoneTree) (owner : Option ℕ) → AnswersAt config query server (zone_owner tree.now owner)
      → AnswersSo config query server untold (answering_by tree.now owner) 0
  answers_by tree owner so =
      record {
        answers = λ setting rtype above may. (
          owner_leaf (zone_owner tree.now owner) rtype,
          [],
          owner_outcome (zone_owner tree.now owner) rtype ∙ sym (outcome_is tree.now owner rtype),
          omega arith,
          (so setting rtype (state_at config query server above) may.config_is refl refl, owner_end (told_with untold rtype) tree.now owner rtype),
        );
        shows = λ setting rtype above may fault has. absurd (none_in_nil fault (subst (λ (all : List Fault). Contains all fault) (untold_with rtype) has));
      }

  -- a server that replies with an alias answers the query by the alias and the end to which it leads
  pub alias_answers_so : (tree : Bor ZoneTree) (owner : ℕ) (target : Bor Labels) (end : AliasEnd) → IsReply config server query (reply.Alias tree owner target)
      → LeadsByAliases config (owned_place server tree.now owner) target.now 0 end
      → AnswersSo config query server (told_by_fault end.fault) (alias_answering tree.now owner (option_map last_owner end.last)) end.rewrites
  alias_answers_so tree owner target end so on =
      let behind = alias_behind config server query 0 None tree owner target end so on in
      record {
        answers = λ setting rtype above may. behind.answers setting rtype (state_at config query server above) may (first above);
        shows = λ setting rtype above may fault has. behind.shows setting rtype (state_at config query server above) may (first above) fault has;
      }
    where
      first : (above : ℕ) → IsBehind server query 0 None (state_at config query server above)
      first above = record { at_server = refl; with_name = refl; used = refl; by_last = refl }
