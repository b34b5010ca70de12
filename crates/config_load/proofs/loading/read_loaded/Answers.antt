use Rattle.std.proofs.Common.{◌≡◌, Bool, false, Option, Some, None, refl, subst}
use Rattle.std.specs.Option.{option_map_or}
use Rattle.dns_data.specs.Name.{Labels}
use Rattle.meta_read.specs.declared.meta.MetaRow.{MetaRow}
use Rattle.config_load.specs.Conf.{loaded_unless, no_row, row_skips}
use Rattle.config_load.specs.Sources.{HasAnswered}
use Rattle.config_load.proofs.LeftAnswers.{whole_answers}
use Rattle.config_load.proofs.loading.read_loaded.Goals as goal

-- no row is skipped where no origin is
none_skipped : row_skips (λ origin. false) ≡ no_row
none_skipped i row = by row.origin i where
  by : (given : Option Labels) → option_map_or (λ (origin : Labels). false) given false ≡ false
  by None = refl
  by (Some origin) = refl

pub returns : goal.returns
returns g c =
    subst (λ (skips : MetaRow → Bool). HasAnswered (g.F.Files.told c.args.files.now) (g.F.Files.told c.read_left.new.files) (g.F.Files.faults c.args.files.now) (g.F.Files.faults c.read_left.new.files)
    (loaded_unless skips c.args.limits c.args.meta.now) c.read_left.result) none_skipped
    (whole_answers c.read_left.result c.read_left.ensures)
