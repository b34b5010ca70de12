use Rattle.std.proofs.Common.{◌∙◌, sym, ap}
use Rattle.std.specs.Prelude.{option_map}
use Rattle.dns_data.specs.declared.rr_type.RrType.TheVariants as types
use Rattle.straight_walks.specs.Answers.{AnswerOwners, outcome_with, owner_leaf}
use Rattle.straight_walks.proofs.OwnedTypes.{same_by_owners}
use Rattle.straight_walks.proofs.SameOutcomes.{alike_same}
use Rattle.straight_walks.proofs.answers.ZoneAnswer.is_same.Goals as goal

pub returns-then-is_same_with : goal.returns-then-is_same_with
returns-then-is_same_with c = λ yes.
    let one = c.args.self.now in
    let other = c.args.other.now in
    same_by_owners one other
    (alike_same (outcome_with one types.Cname) (outcome_with other types.Cname) (sym c.is_same_with.ensures ∙ c.if-is_same_with.true))
    (λ rtype. sym (ap (λ (owners : AnswerOwners). option_map (λ at. owner_leaf at rtype) owners.last) c.self.view_is) ∙ c.same_last.ensures yes rtype
    ∙ ap (λ (owners : AnswerOwners). option_map (λ at. owner_leaf at rtype) owners.last) c.other.view_is)
