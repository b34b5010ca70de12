use Rattle.std.proofs.Common.{List, [], ◌∷◌, ◌++◌, Result, Ok, ap, sym, ◌∙◌}
use Rattle.config_load.specs.RowRead.{if_given}
use Rattle.config_load.specs.declared.fault.LoadFault.{LoadFault}
use Rattle.config_load.specs.declared.loaded.RowFiles.{RowFiles}
use Rattle.config_load.specs.declared.rows.ReadRows.{ReadRows}
use Rattle.config_load.proofs.rows.with_read.Goals as goal

pub returns : goal.returns
returns c =
    let all : List RowFiles → Result ReadRows LoadFault = λ rows. Ok (record { left = c.args.read.left; servers = c.in_ok-servers.servers; rows = rows }) in
    ap (if_given c.args.server.now c.args.read c.args.rows) c.in_ok-servers.ensures
    ∙ ap all (sym (c.in_ok-push.ensures.ok
    ∙ (λ i. c.args.rows.rows ++ (record { server = c.in_ok-copy.ensures i; origin = c.in_ok-copy-2.ensures i; files = c.args.read.names }) ∷ [])))
