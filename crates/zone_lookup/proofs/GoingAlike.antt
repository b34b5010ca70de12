-- Types with which walks go the same way, by what a server replies.
use Rattle.std.proofs.Common.{◌≡◌, ℕ, Bor, sym, ap, ◌∙◌}
use Rattle.dns_data.specs.Name.{Labels}
use Rattle.dns_data.specs.declared.rr_type.RrType.{RrType}
use Rattle.net_model.specs.Lookup.{at_name}
use Rattle.net_model.specs.Step.{Setting, after_lookup, next}
use Rattle.net_model.specs.declared.walk.State.{State}
use Rattle.zone_tree.specs.Tree.{ZoneTree, name_of}
use Rattle.zone_lookup.specs.Reply.{IsReply}
use Rattle.zone_lookup.specs.declared.reply.Reply.{Reply}
use Rattle.zone_lookup.specs.declared.reply.Reply.TheVariants as reply
use Rattle.zone_lookup.proofs.Replying as replying

module _ (setting : Setting) (state : State) where
  abbrev Replies : Reply → Type 0
  Replies one = IsReply setting.config state.server state.name one

  pub outside_alike : Replies reply.Outside → (s t : RrType) → next setting s state ≡ next setting t state
  outside_alike so s t = replying.outside_ends setting state s so ∙ sym (replying.outside_ends setting state t so)

  pub nothing_alike : (tree : Bor ZoneTree) → Replies (reply.Nothing tree) → (s t : RrType) → next setting s state ≡ next setting t state
  nothing_alike tree so s t = replying.nothing_ends setting state s tree so ∙ sym (replying.nothing_ends setting state t tree so)

  pub refers_alike : (tree : Bor ZoneTree) (cut : ℕ) → Replies (reply.Refers tree cut) → (s t : RrType) → next setting s state ≡ next setting t state
  refers_alike tree cut so s t = replying.refers_on setting state s tree cut so ∙ sym (replying.refers_on setting state t tree cut so)

  pub redirects_alike : (tree : Bor ZoneTree) (owner : ℕ) (target : Bor Labels) → Replies (reply.Redirects tree owner target)
      → (s t : RrType) → next setting s state ≡ next setting t state
  redirects_alike tree owner target so s t = replying.redirects_on setting state s tree owner target so ∙ sym (replying.redirects_on setting state t tree owner target so)

  -- types that the records of the reply's owner answer alike
  pub alias_alike : (tree : Bor ZoneTree) (owner : ℕ) (target : Bor Labels) → Replies (reply.Alias tree owner target)
      → (s t : RrType) → at_name tree.now.zone (name_of tree.now owner) s ≡ at_name tree.now.zone (name_of tree.now owner) t
      → next setting s state ≡ next setting t state
  alias_alike tree owner target so s t same =
      replying.alias_found setting state s tree owner target so
      ∙ ap (after_lookup setting state tree.now.zone.origin) same
      ∙ sym (replying.alias_found setting state t tree owner target so)

  pub records_alike : (tree : Bor ZoneTree) (owner : ℕ) → Replies (reply.Records tree owner)
      → (s t : RrType) → at_name tree.now.zone (name_of tree.now owner) s ≡ at_name tree.now.zone (name_of tree.now owner) t
      → next setting s state ≡ next setting t state
  records_alike tree owner so s t same =
      replying.records_found setting state s tree owner so
      ∙ ap (after_lookup setting state tree.now.zone.origin) same
      ∙ sym (replying.records_found setting state t tree owner so)
