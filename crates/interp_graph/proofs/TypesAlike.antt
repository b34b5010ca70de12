-- With which types walks go on from a state alike: where they go on with one, they do with each type but CNAME, and with
-- that too where the state's name is no alias. And with which types states are reached, by their numbers.
use Rattle.std.proofs.Common.{◌≡◌, ℕ, zero, suc, ◌<◌, ◌≤◌, Bool, true, false, List, [], ◌∷◌, Option, Some, None, refl, sym, ap, ◌∙◌, subst, inl, inr, true≢false, arith}
use Rattle.std.specs.Prelude.{Contains, if◌then◌else◌}
use Rattle.dns_data.specs.Name.{Labels}
use Rattle.dns_data.specs.RrType.{type_eq}
use Rattle.dns_data.specs.declared.rdata.Rdata.{Rdata}
use Rattle.dns_data.specs.declared.rr_type.RrType.{RrType}
use Rattle.dns_data.specs.declared.rr_type.RrType.TheVariants as rr
use Rattle.dns_data.proofs.Membership.{none_in_nil, first_or_later}
use Rattle.net_model.specs.Lookup.{Deciding, ByCut, ByRedirection, ByRecords, ByNothing, aliased, answer_of, answered, at_name, deciding, first_name}
use Rattle.net_model.specs.Nearest.{nearest_of}
use Rattle.net_model.specs.Order.{in_order}
use Rattle.net_model.specs.Step.{Setting, Branch, Go, End, after_lookup, in_zone, next}
use Rattle.net_model.specs.Zone.{data_at, data_cmp, targets_at}
use Rattle.net_model.specs.declared.config.Zone.{Zone}
use Rattle.net_model.specs.declared.walk.Hop.{Hop}
use Rattle.net_model.specs.declared.walk.Leaf.{Leaf}
use Rattle.net_model.specs.declared.walk.Leaf.TheVariants.{Answer, NoData}
use Rattle.net_model.specs.declared.walk.State.{State}
use Rattle.zone_tree.specs.Tree.{name_of}
use Rattle.zone_lookup.specs.Reply.{IsReply}
use Rattle.zone_lookup.specs.declared.reply.Reply.{Reply}
use Rattle.zone_lookup.specs.declared.reply.Reply.TheVariants as reply_as
use Rattle.zone_lookup.proofs.Replying.{alias_leads, nothing_ends, outside_ends, records_answer, redirects_on, refers_on}
use Rattle.interp_graph.specs.Listed.{but_cname, every}
use Rattle.interp_graph.specs.Making.{firsts_behind, typed}
use Rattle.interp_graph.specs.Steps.{AllAlike, CnameEnds, is_alias}

module _ (setting : Setting) (state : State) (hop : Hop) (to : State) where
  -- where the only branch ends, none goes on
  ends : (leaf : Leaf) → Contains (End None leaf ∷ []) (Go hop to) → ⊥
  ends leaf has = elim (first_or_later (End None leaf) [] (Go hop to) has) [
    | inl same ↦ cc
    | inr none ↦ none_in_nil (Go hop to) none
  ]

  -- with data alone no walk goes on
  data_ends : (origin : Labels) (rdata : List Rdata) → Contains (after_lookup setting state origin (answer_of rdata)) (Go hop to) → ⊥
  data_ends origin [] has = ends NoData has
  data_ends origin (first ∷ rest) has = ends (Answer (first ∷ rest)) has

  module _ (s t : RrType) (only : type_eq t rr.Cname ≡ true → type_eq s rr.Cname ≡ true) where
    by_records : (zone : Zone) (owner : Labels) → Contains (after_lookup setting state zone.origin (at_name zone owner s)) (Go hop to)
        → at_name zone owner t ≡ at_name zone owner s
    by_records zone owner goes = by (type_eq s rr.Cname) (type_eq t rr.Cname) (first_name (targets_at zone owner rr.Cname)) only goes where
      none : Contains (after_lookup setting state zone.origin (aliased zone owner s None)) (Go hop to) → ⊥
      none has = data_ends zone.origin (in_order data_cmp (data_at zone owner s)) has

      by : (of_s of_t : Bool) (target : Option Labels) → (of_t ≡ true → of_s ≡ true)
          → Contains (after_lookup setting state zone.origin (aliased zone owner s (if of_s then None else target))) (Go hop to)
          → aliased zone owner t (if of_t then None else target) ≡ aliased zone owner s (if of_s then None else target)
      by true of_t target only has = absurd (none has)
      by false true target only has = absurd (true≢false (sym (only refl)))
      by false false None only has = absurd (none has)
      by false false (Some target) only has = refl

    -- where walks go on with a type, they do alike with each other type, except with CNAME if they don't with that
    pub goes_alike : Contains (next setting s state) (Go hop to) → next setting t state ≡ next setting s state
    goes_alike goes = by (nearest_of setting.config state.server state.name) goes where
      of : (zone : Zone) (what : Deciding) → Contains (after_lookup setting state zone.origin (answered zone state.name s what)) (Go hop to)
          → after_lookup setting state zone.origin (answered zone state.name t what) ≡ after_lookup setting state zone.origin (answered zone state.name s what)
      of zone (ByCut cut) has = refl
      of zone (ByRedirection owner target) has = refl
      of zone (ByRecords owner) has = ap (after_lookup setting state zone.origin) (by_records zone owner has)
      of zone ByNothing has = refl

      by : (zone : Option Zone) → Contains (in_zone setting s state zone) (Go hop to) → in_zone setting t state zone ≡ in_zone setting s state zone
      by None has = refl
      by (Some zone) has = of zone (deciding zone state.name) has

-- ---- by what the state's server replies

module _ (setting : Setting) (state : State) where
  abbrev Replies : Reply → Type 0
  Replies reply = IsReply setting.config state.server state.name reply

  -- where it replies that the name is an alias, walks of type CNAME end: they ask for the alias itself
  pub cname_ends : (reply : Reply) → Replies reply → is_alias reply ≡ true → CnameEnds setting state
  cname_ends reply_as.Outside replies is hop to has = absurd (true≢false (sym is))
  cname_ends (reply_as.Refers tree cut) replies is hop to has = absurd (true≢false (sym is))
  cname_ends (reply_as.Redirects tree owner target) replies is hop to has = absurd (true≢false (sym is))
  cname_ends (reply_as.Alias tree owner target) replies is hop to has =
      data_ends setting state hop to tree.now.zone.origin (in_order data_cmp (data_at tree.now.zone (name_of tree.now owner) rr.Cname))
      (subst (λ (branches : List Branch). Contains branches (Go hop to)) (alias_leads setting state rr.Cname tree owner target replies) has)
  cname_ends (reply_as.Records tree owner) replies is hop to has = absurd (true≢false (sym is))
  cname_ends (reply_as.Nothing tree) replies is hop to has = absurd (true≢false (sym is))

  -- and where it replies anything else, walks of all types go on alike, or all end
  pub all_alike : (reply : Reply) → Replies reply → is_alias reply ≡ false → AllAlike setting state
  all_alike reply_as.Outside replies is s t hop to has =
      subst (λ (branches : List Branch). Contains branches (Go hop to))
      (outside_ends setting state s replies ∙ sym (outside_ends setting state t replies)) has
  all_alike (reply_as.Refers tree cut) replies is s t hop to has =
      subst (λ (branches : List Branch). Contains branches (Go hop to))
      (refers_on setting state s tree cut replies ∙ sym (refers_on setting state t tree cut replies)) has
  all_alike (reply_as.Redirects tree owner target) replies is s t hop to has =
      subst (λ (branches : List Branch). Contains branches (Go hop to))
      (redirects_on setting state s tree owner target replies ∙ sym (redirects_on setting state t tree owner target replies)) has
  all_alike (reply_as.Alias tree owner target) replies is s t hop to has = absurd (true≢false is)
  all_alike (reply_as.Records tree owner) replies is s t hop to has =
      absurd (data_ends setting state hop to tree.now.zone.origin (in_order data_cmp (data_at tree.now.zone (name_of tree.now owner) s))
      (subst (λ (branches : List Branch). Contains branches (Go hop to)) (records_answer setting state s tree owner replies) has))
  all_alike (reply_as.Nothing tree) replies is s t hop to has =
      subst (λ (branches : List Branch). Contains branches (Go hop to))
      (nothing_ends setting state s tree replies ∙ sym (nothing_ends setting state t tree replies)) has

-- ---- by numbers

-- the first states are reached with all types
pub typed_first : (first at : ℕ) → at < first → typed first at ≡ every
typed_first zero at below = absurd (omega (arith, below))
typed_first (suc first) zero below = refl
typed_first (suc first) (suc at) below = typed_first first at (omega (arith, below))

-- and the others with all but CNAME
pub typed_rest : (first at : ℕ) → first ≤ at → typed first at ≡ but_cname
typed_rest zero zero behind = refl
typed_rest zero (suc at) behind = typed_rest zero at (omega arith)
typed_rest (suc first) zero behind = absurd (omega (arith, behind))
typed_rest (suc first) (suc at) behind = typed_rest first at (omega (arith, behind))

-- so each type but CNAME reaches all
pub typed_other : (first at : ℕ) (rtype : RrType) → but_cname rtype ≡ true → typed first at rtype ≡ true
typed_other zero zero rtype other = other
typed_other (suc first) zero rtype other = refl
typed_other first (suc at) rtype other = typed_other (firsts_behind first) at rtype other
