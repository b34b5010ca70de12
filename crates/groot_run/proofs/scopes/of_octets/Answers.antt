use Rattle.std.proofs.Common.{◌≡◌, List, Result, sym, subst}
use Rattle.std.specs.Prelude.{◌⊎◌}
use Rattle.dns_data.specs.Name.{Labels}
use Rattle.run_endings.specs.Endings.{no_memory}
use Rattle.groot_run.specs.declared.name_list.ListFault.{ListFault}
use Rattle.groot_run.specs.Outcome.{ScopesEach, ScopesNames}
use Rattle.groot_run.proofs.ScopeTexts.{of_bad_name}
use Rattle.groot_run.proofs.scopes.of_octets.Goals as goal

pub returns-in-Ok : goal.returns-in-Ok
returns-in-Ok g c =
    let ending = c.of_names.result in
    let limit = c.args.limit in
    let config = c.args.config.now in
    subst (λ (said : Result (List Labels) ListFault). ScopesNames limit c.args.list.now config said ending ⊎ (ending ≡ no_memory)) (sym c.in-Ok.ensures)
    (subst (λ (names : List Labels). ScopesEach limit config names ending ⊎ (ending ≡ no_memory)) c.items.ensures c.of_names.ensures)

pub returns-in-Err-NotName : goal.returns-in-Err-NotName
returns-in-Err-NotName g c =
    of_bad_name c.args.limit c.args.list.now c.args.config.now _ _ c.in-Err-NotName.line c.bad_name.result c.in-Err-NotName.field-0-is c.in-Err-NotName.ensures
    c.bad_name.ensures
