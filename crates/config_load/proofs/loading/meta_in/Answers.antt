use Rattle.meta_read.proofs.FewRows.{metadata-few}
use Rattle.config_load.proofs.loading.meta_in.Goals as goal

pub returns-clause-few : goal.returns-clause-few
returns-clause-few c =
    metadata-few c.args.most c.args.octets.now c.in_ok-read_metadata_within.field-0 c.in_ok-read_metadata_within.ensures
