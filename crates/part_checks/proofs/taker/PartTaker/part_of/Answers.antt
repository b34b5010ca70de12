use Rattle.std.proofs.Common.{◌≡◌, ◌∙◌, List, map, sym, ap, subst}
use Rattle.dns_data.specs.Name.{Labels}
use Rattle.net_model.specs.declared.config.Config.{Config}
use Rattle.part_laws.proofs.MetByEach.{met_by_each}
use Rattle.part_names.specs.declared.names.PartNames.{PartNames}
use Rattle.part_checks.specs.Parts.{held_by}
use Rattle.part_checks.specs.Rules.{Keeps, Refutes}
use Rattle.part_checks.specs.Taking.{with_held_zones, IsLeftWhole, Taking}
use Rattle.part_checks.specs.declared.fault.PartRule.{PartRule}
use Rattle.part_checks.proofs.LeftWhole.{is_left_whole, rule_broken, within_whole}
use Rattle.part_checks.proofs.Refusals.{refused_by}
use Rattle.part_checks.proofs.Rules.{meets_each, own_held}
use Rattle.part_checks.proofs.taker.PartTaker.part_of.Goals as goal

-- the whole as the fields of the taker see it
inside_whole : (inside names : PartNames) (outside told : List Labels) (whole left : Config) → inside ≡ names → outside ≡ told → IsLeftWhole names told whole left
    → IsLeftWhole inside outside whole left
inside_whole inside names outside told whole left same are is =
    subst (λ (n : PartNames). IsLeftWhole n outside whole left) (sym same) (subst (λ (l : List Labels). IsLeftWhole names l whole left) (sym are) is)

pub returns-in-Some-clause-refused : goal.returns-in-Some-clause-refused
returns-in-Some-clause-refused c = λ whole is.
    rule_broken c.args.self.now whole c.args.taken is c.in-Some.rule c.in-Some.name (sym (ap (λ (t : Taking). t.broken) c.self.view_is) ∙ c.in-Some.is)

pub returns-in_err-check_part-clause-refused : goal.returns-in_err-check_part-clause-refused
returns-in_err-check_part-clause-refused c = λ whole is.
    let names = c.args.self.now.names in
    let left = c.in_ok-left.left in
    let same = ap (λ (t : Taking). t.names) c.self.view_is in
    let none = sym (ap (λ (t : Taking). t.broken) c.self.view_is) ∙ c.in_default.is in
    let left_whole = is_left_whole c.args.self.now whole c.args.taken left none is
    (c.in_ok-left.ensures ∙ ap (λ (n : PartNames). record { tops = c.args.taken.tops; servers = map (with_held_zones (held_by n)) c.args.taken.servers }) same) in
    refused_by (Keeps whole names) (Keeps whole names) c.from_residual-in_err-check_part.result c.in_err-check_part.field-0.0 c.from_residual-in_err-check_part.ensures.1
    (λ rule keeps. keeps)
    (subst (λ (n : PartNames). Refutes (Keeps whole n) c.in_err-check_part.field-0.0) same
    (c.in_err-check_part.ensures.refused whole (inside_whole c.self.inside.sets names c.items.result.now c.args.self.now.outside whole left same
    (c.items.ensures ∙ ap (λ (t : Taking). t.outside) c.self.view_is) left_whole)))

pub returns-clause-left : goal.returns-clause-left
returns-clause-left c = λ whole is.
    let same = ap (λ (t : Taking). t.names) c.self.view_is in
    let none = sym (ap (λ (t : Taking). t.broken) c.self.view_is) ∙ c.in_default.is in
    (is_left_whole c.args.self.now whole c.args.taken c.in_ok-left.left none is
    (c.in_ok-left.ensures ∙ ap (λ (n : PartNames). record { tops = c.args.taken.tops; servers = map (with_held_zones (held_by n)) c.args.taken.servers }) same)).is

pub returns-clause-kept : goal.returns-clause-kept
returns-clause-kept c = λ whole is.
    let names = c.args.self.now.names in
    let left = c.in_ok-left.left in
    let same = ap (λ (t : Taking). t.names) c.self.view_is in
    let none = sym (ap (λ (t : Taking). t.broken) c.self.view_is) ∙ c.in_default.is in
    let left_whole = is_left_whole c.args.self.now whole c.args.taken left none is
    (c.in_ok-left.ensures ∙ ap (λ (n : PartNames). record { tops = c.args.taken.tops; servers = map (with_held_zones (held_by n)) c.args.taken.servers }) same) in
    subst (λ (n : PartNames). (rule : PartRule) → Keeps whole n rule) same
    (c.in_ok-check_part.ensures.kept whole (inside_whole c.self.inside.sets names c.items.result.now c.args.self.now.outside whole left same
    (c.items.ensures ∙ ap (λ (t : Taking). t.outside) c.self.view_is) left_whole))

pub returns-clause-part : goal.returns-clause-part
returns-clause-part c = λ whole is.
    let names = c.args.self.now.names in
    met_by_each whole (held_by names) (meets_each whole names (returns-clause-kept c whole is) (within_whole c.args.self.now whole c.args.taken is))

pub returns-clause-own : goal.returns-clause-own
returns-clause-own c = λ whole is. own_held whole c.args.self.now.names (returns-clause-kept c whole is)
