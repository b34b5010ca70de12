-- What a server answers to a query that a DNAME record redirects.
use Rattle.std.proofs.Common.{◌≡◌, ℕ, ◌<◌, Bool, true, false, nat_le, [], ◌∷◌, Some, Ok, Err, Bor, refl, sym, true≢false, arith}
use Rattle.std.specs.Prelude.{Contains}
use Rattle.std.proofs.lemmas.Bool.{leb-false}
use Rattle.dns_data.specs.Name.{Labels, swap, wire_octets}
use Rattle.dns_data.specs.declared.rr_type.RrType.{RrType}
use Rattle.net_model.specs.Step.{Setting, Go, next}
use Rattle.net_model.specs.declared.config.Config.{Config}
use Rattle.net_model.specs.declared.fault.Fault.{Fault}
use Rattle.net_model.specs.declared.walk.Hop.TheVariants.{Rewrite}
use Rattle.net_model.specs.declared.walk.State.{State}
use Rattle.zone_lookup.specs.Reply.{IsReply}
use Rattle.zone_tree.specs.Tree.{ZoneTree, name_of}
use Rattle.straight_walks.specs.Answers.{outcome_with}
use Rattle.straight_walks.specs.Nowhere.{owned_place, told_with}
use Rattle.straight_walks.specs.Searching.{AnswersFrom, EndsInFault, IsAnswered, IsAnsweredBehind, IsBehind, MayRewrite, state_at}
use Rattle.straight_walks.specs.declared.ends.StraightEnds.{StraightEnds}
use Rattle.zone_lookup.specs.declared.reply.Reply.TheVariants as reply
use Rattle.straight_walks.proofs.AliasWalks.{ends_on}
use Rattle.straight_walks.proofs.Replies.{redirected_to, redirection_goes}

-- a number that isn't above a bound passes the test for at most the bound
pub is_within : (most n : ℕ) → (most < n → ⊥) → nat_le n most ≡ true
is_within most n no_more = by (nat_le n most) refl where
  by : (b : Bool) → nat_le n most ≡ b → nat_le n most ≡ true
  by true e = e
  by false e = absurd (no_more (leb-false n most e))

-- what succeeds is no fault
pub no_fault : {T E : Type 0} (made : T) (fault : E) → Ok made ≡ Err fault → ⊥
no_fault made fault e = cc

-- a server that redirects the query answers it as it answers, behind one rewrite, the name that the DNAME record makes
pub redirection_answers : (config : Config) (query server : Labels) (tree : Bor ZoneTree) (owner : ℕ) (target : Bor Labels) → IsReply config server query (reply.Redirects tree owner target)
    → (to : Labels) → to ≡ swap query (name_of tree.now owner) target.now → nat_le (wire_octets to) 255 ≡ true
    → (before after : StraightEnds) → IsAnsweredBehind config server to 1 (owned_place server tree.now owner) before after → IsAnswered config query server before after
redirection_answers config query server tree owner target so to is short before after on =
    record {
      answering = on.answering;
      rewrites = on.most;
      none_below = false;
      told = on.told;
      so = record { answers = answers; shows = shows };
      put = on.put;
      below = λ some. absurd (true≢false (sym some));
      tells_nothing = λ some. absurd (true≢false (sym some));
    }
  where
    -- the state to which the record redirects the query
    led_to : (setting : Setting) (rtype : RrType) (above : ℕ) → setting.config ≡ config → State
    led_to setting rtype above same = redirected_to config query server setting rtype (state_at config query server above) same refl refl tree owner target so to

    behind_one : (setting : Setting) (rtype : RrType) (above : ℕ) (same : setting.config ≡ config)
        → IsBehind server to 1 (Some (owned_place server tree.now owner)) (led_to setting rtype above same)
    behind_one setting rtype above same = record { at_server = refl; with_name = refl; used = refl; by_last = refl }

    redirects : (setting : Setting) (rtype : RrType) (above : ℕ) (may : MayRewrite config on.most on.told.aliases setting)
        → next setting rtype (state_at config query server above)
        ≡ Go (Rewrite (owned_place server tree.now owner) true to) (led_to setting rtype above may.config_is) ∷ []
    redirects setting rtype above may =
        redirection_goes config query server setting rtype (state_at config query server above) may.config_is refl refl tree owner target so to is short
        (omega (arith, on.no_fewer, may.enough)) on.held

    answers : (setting : Setting) (rtype : RrType) (above : ℕ) → MayRewrite config on.most on.told.aliases setting
        → AnswersFrom setting (told_with on.told rtype) rtype (outcome_with on.answering rtype) (state_at config query server above) 0 on.most
    answers setting rtype above may =
        let (leaf, behind, told, few, along) = on.behind.answers setting rtype (led_to setting rtype above may.config_is) may (behind_one setting rtype above may.config_is) in (
          leaf,
          led_to setting rtype above may.config_is ∷ behind,
          told,
          omega (arith, few),
          (owned_place server tree.now owner, true, to, redirects setting rtype above may, along),
        )

    shows : (setting : Setting) (rtype : RrType) (above : ℕ) → MayRewrite config on.most on.told.aliases setting
        → (fault : Fault) → Contains (told_with on.told rtype) fault → EndsInFault setting rtype (state_at config query server above) fault
    shows setting rtype above may fault has =
        ends_on setting rtype (state_at config query server above) (led_to setting rtype above may.config_is) (Rewrite (owned_place server tree.now owner) true to)
        (redirects setting rtype above may) fault
        (on.behind.shows setting rtype (led_to setting rtype above may.config_is) may (behind_one setting rtype above may.config_is) fault has)
