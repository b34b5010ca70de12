-- A report is refused for at most one name, and for none if no class and no server's name passes the limit.
use Rattle.std.proofs.Common.{◌≡◌, ◌∙◌, ℕ, inl, inr, sym}
use Rattle.dns_data.specs.Name.{Labels}
use Rattle.graph_form.specs.Report.{Subject}
use Rattle.net_model.specs.declared.config.Config.{Config}
use Rattle.query_verdicts.specs.Passed.{IsFirstServerPassed, IsRefusedFor, NonePasses}
use Rattle.query_verdicts.specs.Verdict.{PassesStates}
use Rattle.query_verdicts.proofs.ClassesJudged.{some_server}
use Rattle.query_verdicts.proofs.OnePassed.{first_of_kind, one_passed}

-- the first server that passes is one
one_server : (config : Config) (rewrites states : ℕ) (a b : Labels) → IsFirstServerPassed config rewrites states a → IsFirstServerPassed config rewrites states b → a ≡ b
one_server config rewrites states a b p q =
    first_of_kind (PassesStates config rewrites states) p.before p.after q.before q.after a b (sym p.among ∙ q.among) p.first q.first p.passes q.passes

module _ (subject : Subject) (states : ℕ) where
  -- two names for which a report is refused are equal
  pub one_refusal : (a b : Labels) → IsRefusedFor subject states a → IsRefusedFor subject states b → a ≡ b
  one_refusal a b (inl p) (inl q) = one_passed subject states a b p q
  one_refusal a b (inl p) (inr (none, q)) = absurd (none (p.class, a, p.passes))
  one_refusal a b (inr (none, p)) (inl q) = absurd (none (q.class, b, q.passes))
  one_refusal a b (inr (none, p)) (inr (clear, q)) = one_server subject.config subject.rewrites states a b p q

  -- a report is refused for no name if nothing reaches too many pairs
  pub none_refused : (name : Labels) → NonePasses subject states → IsRefusedFor subject states name → ⊥
  none_refused name none (inl p) = none.no_class (p.class, name, p.passes)
  none_refused name none (inr (clear, p)) = none.no_server (some_server subject.config subject.rewrites states name p)
