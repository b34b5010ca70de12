use Rattle.std.proofs.Common.{◌≡◌, sym, subst}
use Rattle.std.specs.Prelude.{IfOk}
use Rattle.std.specs.Option.{option_map}
use Rattle.net_model.specs.Lookup.{redirected}
use Rattle.name_rules.specs.SymName.{whole}
use Rattle.name_rules.proofs.redirection.redirected_whole.Goals as goal

pub returns-in-Some : goal.returns-in-Some
returns-in-Some c =
    subst (λ target. IfOk c.answer_with.result (λ answer. answer ≡ redirected (whole c.args.name.now) c.args.owner.now (option_map (λ target. target.now) target))) (sym c.in-Some.is)
    (c.answer_with.ensures (whole c.args.name.now) c.in-Some.target.now c.substitute_whole.ensures.ok c.substitute_whole.ensures.too_long)
