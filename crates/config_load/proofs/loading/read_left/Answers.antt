use Rattle.std.proofs.Common.{List, Result, Ok, Err, refl, ap, subst, ◌∙◌}
use Rattle.meta_read.specs.declared.meta.MetaRow.{MetaRow}
use Rattle.config_load.specs.Conf.{no_rows, row_skips, with_rows_unless}
use Rattle.config_load.specs.Sources.{HasAnswered}
use Rattle.config_load.specs.declared.fault.LoadFault.{LoadFault}
use Rattle.config_load.specs.declared.loaded.Loaded.{Loaded}
use Rattle.config_load.specs.declared.rows.ReadRows.{ReadRows}
use Rattle.config_load.proofs.LeftRows.{left_fault, of_fault, of_value}
use Rattle.config_load.proofs.ReadRows.{HasAnswered-no_metadata, HasAnswered-no_rows, HasAnswered-loaded}
use Rattle.config_load.proofs.loading.read_left.Goals as goal

pub returns-in_err-found : goal.returns-in_err-found
returns-in_err-found g c =
    left_fault c.from_residual.result c.in_err-found.field-0.0 c.from_residual.ensures.1
    (HasAnswered-no_metadata (row_skips (g.T.ZoneTaker.skips c.args.taker.now)) c.args.limits c.args.meta.now c.in_err-found.field-0.0 c.from_residual.result c.from_residual.ensures.1 c.in_err-found.ensures.reads)

pub returns-in_err-rows : goal.returns-in_err-rows
returns-in_err-rows g c =
    let meta = c.args.meta.now in
    let fault = c.in_err-rows.field-0.0 in
    let answer : Result ReadRows LoadFault = Err fault in
    left_fault c.from_residual-in_err-rows.result fault c.from_residual-in_err-rows.ensures.1
    (HasAnswered-no_rows (row_skips (g.T.ZoneTaker.skips c.args.taker.now)) c.args.limits meta c.in_ok-found.found fault c.from_residual-in_err-rows.result c.from_residual-in_err-rows.ensures.1 c.in_ok-found.ensures.reads
    (subst (λ (all : List MetaRow). HasAnswered (g.F.Files.told c.read_meta.new.files) (g.F.Files.told c.read_rows.new.files) (g.F.Files.faults c.read_meta.new.files) (g.F.Files.faults c.read_rows.new.files) (with_rows_unless (row_skips (g.T.ZoneTaker.skips c.args.taker.now)) meta 1 all (no_rows c.args.limits)) answer) c.items.ensures
    (of_fault fault c.in_err-rows.ensures)))

pub returns : goal.returns
returns g c =
    let meta = c.args.meta.now in
    let found = c.in_ok-found.found in
    let rows = c.in_ok-rows.rows in
    let (whole, answered, is, taken) = of_value rows c.in_ok-rows.ensures in
    let answer : Result ReadRows LoadFault = Ok whole in
    let all : Loaded = record { config = record { tops = found.tops; servers = whole.servers }; rows = whole.rows } in
    record {
      whole = Ok all;
      answered =
          HasAnswered-loaded (row_skips (g.T.ZoneTaker.skips c.args.taker.now)) c.args.limits meta found whole c.in_ok-found.ensures.reads
          (subst (λ (all : List MetaRow). HasAnswered (g.F.Files.told c.read_meta.new.files) (g.F.Files.told c.read_rows.new.files) (g.F.Files.faults c.read_meta.new.files) (g.F.Files.faults c.read_rows.new.files) (with_rows_unless (row_skips (g.T.ZoneTaker.skips c.args.taker.now)) meta 1 all (no_rows c.args.limits)) answer) c.items.ensures answered);
      is = (
        all,
        refl,
        (λ i. record { config = record { tops = found.tops; servers = (c.into_list-servers.ensures.value ∙ ap (λ (r : ReadRows). r.servers) is) i }; rows = (is i).rows }),
        taken,
      );
    }
