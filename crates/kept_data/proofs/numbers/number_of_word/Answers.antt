use Rattle.kept_data.proofs.Tables.{number_in_entry}
use Rattle.kept_data.proofs.numbers.number_of_word.Goals as goal

pub returns-in-Some : goal.returns-in-Some
returns-in-Some g c = number_in_entry c.args.table.now c.args.octets.now _ c.in-Some.ensures

pub returns-in-None : goal.returns-in-None
returns-in-None g c = number_in_entry c.args.table.now c.args.octets.now _ c.in-None.ensures
