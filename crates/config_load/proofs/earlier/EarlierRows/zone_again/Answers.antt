use Rattle.std.proofs.Common.{sym, ◌∙◌}
use Rattle.config_load.proofs.earlier.EarlierRows.zone_again.Goals as goal

pub returns-in-Some-clause-reads : goal.returns-in-Some-clause-reads
returns-in-Some-clause-reads c skips meta told left origin_is whole same are =
    c.zone_again.ensures.reads skips meta told left origin_is whole same (are c.row_number.result c.in-Some.earlier (sym (c.in-Some.ensures ∙ c.get.ensures.value)))
