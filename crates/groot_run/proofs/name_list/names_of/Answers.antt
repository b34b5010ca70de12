use Rattle.groot_run.proofs.NameLists.{no_more_lines}
use Rattle.groot_run.proofs.name_list.names_of.Goals as goal

pub names_from-requires : goal.names_from-requires
names_from-requires c = no_more_lines c.args.octets.now c.in_ok-lines.lines.items c.as_slice.result.now c.as_slice.ensures.value c.in_ok-lines.ensures c.requires
