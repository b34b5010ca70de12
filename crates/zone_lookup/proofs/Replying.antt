-- The branches of a state, by what its server replies to its name.
use Rattle.std.proofs.Common.{◌≡◌, ℕ, Bool, List, true, false, cond, ◌∷◌, [], map, Option, Some, None, Bor, refl, ap, ◌∙◌}
use Rattle.std.specs.Prelude.{if◌then◌else◌}
use Rattle.dns_data.specs.Name.{Labels, is_prefix}
use Rattle.dns_data.proofs.NameFronts.{is_prefix_tells}
use Rattle.dns_data.specs.RrType.{type_eq}
use Rattle.dns_data.specs.declared.rr_type.RrType.{RrType}
use Rattle.dns_data.specs.declared.rr_type.RrType.TheVariants as types
use Rattle.net_model.specs.declared.config.Zone.{Zone}
use Rattle.net_model.specs.declared.walk.Leaf.TheVariants as leaf
use Rattle.net_model.specs.declared.walk.State.{State}
use Rattle.net_model.specs.Lookup.{Deciding, ByCut, ByNothing, ByRecords, ByRedirection, aliased, answer_of, answered, at_name, redirected}
use Rattle.net_model.specs.Nearest.{nearest_of}
use Rattle.net_model.specs.Order.{in_order}
use Rattle.net_model.specs.Step.{Setting, Branch, End, after_lookup, in_zone, next, referred}
use Rattle.net_model.specs.Zone.{data_at, data_cmp, ns_names}
use Rattle.zone_tree.specs.Tree.{ZoneTree, name_of}
use Rattle.zone_lookup.proofs.CutsInside.{cut_inside}
use Rattle.zone_lookup.specs.Reply.{Decides, IsReply, alias_at}
use Rattle.zone_lookup.specs.declared.reply.Reply.{Reply}
use Rattle.zone_lookup.specs.declared.reply.Reply.TheVariants as reply

module _ (setting : Setting) (state : State) (rtype : RrType) where
  -- by what decides in the nearest zone
  pub decided_by : (zone : Zone) (what : Deciding) → nearest_of setting.config state.server state.name ≡ Some zone → Decides state.name zone what
      → next setting rtype state ≡ after_lookup setting state zone.origin (answered zone state.name rtype what)
  decided_by zone what held so =
      ap (in_zone setting rtype state) held
      ∙ ap (λ (d : Deciding). after_lookup setting state zone.origin (answered zone state.name rtype d)) so.decides

  abbrev Replies : Reply → Type 0
  Replies one = IsReply setting.config state.server state.name one

  -- what records answer leads on, those of an alias among them
  pub alias_found : (tree : Bor ZoneTree) (owner : ℕ) (target : Bor Labels) → Replies (reply.Alias tree owner target)
      → next setting rtype state ≡ after_lookup setting state tree.now.zone.origin (at_name tree.now.zone (name_of tree.now owner) rtype)
  alias_found tree owner target so = decided_by tree.now.zone (ByRecords (name_of tree.now owner)) so.0 so.1.1

  pub records_found : (tree : Bor ZoneTree) (owner : ℕ) → Replies (reply.Records tree owner)
      → next setting rtype state ≡ after_lookup setting state tree.now.zone.origin (at_name tree.now.zone (name_of tree.now owner) rtype)
  records_found tree owner so = decided_by tree.now.zone (ByRecords (name_of tree.now owner)) so.0 so.1.1

  pub outside_ends : Replies reply.Outside → next setting rtype state ≡ End None leaf.Outside ∷ []
  outside_ends so = ap (in_zone setting rtype state) so

  pub nothing_ends : (tree : Bor ZoneTree) → Replies (reply.Nothing tree) → next setting rtype state ≡ End None leaf.NxDomain ∷ []
  nothing_ends tree so = decided_by tree.now.zone ByNothing so.0 so.1

  pub refers_on : (tree : Bor ZoneTree) (cut : ℕ) → Replies (reply.Refers tree cut)
      → next setting rtype state
      ≡ map (λ ns. referred setting state (record { server = state.server; zone = tree.now.zone.origin; cut = name_of tree.now cut; ns = ns })) (ns_names tree.now.zone (name_of tree.now cut))
  refers_on tree cut so = decided_by tree.now.zone (ByCut (name_of tree.now cut)) so.0 so.1.1

  -- the zone cut by which a zone refers a name is at or below its origin
  pub refers_inside : (tree : Bor ZoneTree) (cut : ℕ) → Replies (reply.Refers tree cut) → is_prefix tree.now.zone.origin (name_of tree.now cut) ≡ true
  refers_inside tree cut so =
      cut_inside tree.now.zone state.name rtype (name_of tree.now cut) (ns_names tree.now.zone (name_of tree.now cut)) (is_prefix_tells tree.now.zone.origin state.name so.1.1.inside)
      (ap (answered tree.now.zone state.name rtype) so.1.1.decides)

  pub redirects_on : (tree : Bor ZoneTree) (owner : ℕ) (target : Bor Labels) → Replies (reply.Redirects tree owner target)
      → next setting rtype state ≡ after_lookup setting state tree.now.zone.origin (redirected state.name (name_of tree.now owner) (Some target.now))
  redirects_on tree owner target so = decided_by tree.now.zone (ByRedirection (name_of tree.now owner) (Some target.now)) so.0 so.1.1

  -- the data of the type that the node's name owns
  abbrev pub answers_data : ZoneTree → ℕ → List Branch
  answers_data tree owner = after_lookup setting state tree.zone.origin (answer_of (in_order data_cmp (data_at tree.zone (name_of tree owner) rtype)))

  abbrev pub by_alias : ZoneTree → ℕ → Option Labels → List Branch
  by_alias tree owner target = after_lookup setting state tree.zone.origin (aliased tree.zone (name_of tree owner) rtype target)

  pub alias_leads : (tree : Bor ZoneTree) (owner : ℕ) (target : Bor Labels) → Replies (reply.Alias tree owner target)
      → next setting rtype state ≡ by_alias tree.now owner (if type_eq rtype types.Cname then None else Some target.now)
  alias_leads tree owner target so =
      alias_found tree owner target so ∙ ap (λ (alias : Option Labels). by_alias tree.now owner (if type_eq rtype types.Cname then None else alias)) so.1.2

  pub records_answer : (tree : Bor ZoneTree) (owner : ℕ) → Replies (reply.Records tree owner) → next setting rtype state ≡ answers_data tree.now owner
  records_answer tree owner so =
      records_found tree owner so ∙ ap (by_alias tree.now owner) (none (type_eq rtype types.Cname))
    where
      none : (b : Bool) → cond b None (alias_at tree.now owner) ≡ None
      none true = refl
      none false = so.1.2
