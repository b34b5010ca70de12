use Rattle.std.proofs.Common.{◌∙◌, ◌||◌, sym, ap}
use Rattle.net_model.specs.declared.walk.Leaf.{Leaf}
use Rattle.same_answers.specs.Ends.{outcome_eq}
use Rattle.same_answers.specs.Outcomes.{has_outcome}
use Rattle.same_answers.proofs.OutcomeSets.{answer_put}
use Rattle.same_answers.proofs.outcomes.OutcomeSet.put.Goals as goal

pub returns-in_ok-insert-in-Answer : goal.returns-in_ok-insert-in-Answer
returns-in_ok-insert-in-Answer c = λ query.
    answer_put c.args.self.now c.insert.new.self (record { ref_ptr = c.args.leaf.ref_ptr; now = c.in-Answer.data }) c.in_ok-insert-in-Answer.ensures.updates query
    ∙ ap (λ (leaf : Leaf). has_outcome c.args.self.now query || outcome_eq query leaf) (sym c.in-Answer.is)
