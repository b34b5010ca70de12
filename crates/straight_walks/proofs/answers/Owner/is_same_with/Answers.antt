use Rattle.std.proofs.Common.{List, Bor, sym, ap, ◌∙◌}
use Rattle.std.specs.Prelude.{option_map}
use Rattle.dns_data.specs.declared.rdata.Rdata.{Rdata}
use Rattle.straight_walks.proofs.SameOutcomes.{compared_by_data}
use Rattle.straight_walks.proofs.answers.Owner.is_same_with.Goals as goal

pub returns-in-Some-Some : goal.returns-in-Some-Some
returns-in-Some-Some c =
    c.eq.ensures
    ∙ compared_by_data c.args.self.now c.args.other.now c.args.rtype c.in-Some-Some.found.now c.in-Some-Some.others.now
    (sym (ap (option_map (λ (found : Bor (List Rdata)). found.now)) c.in-Some-Some.is-0) ∙ c.data.ensures)
    (sym (ap (option_map (λ (found : Bor (List Rdata)). found.now)) c.in-Some-Some.is-1) ∙ c.data-2.ensures)
