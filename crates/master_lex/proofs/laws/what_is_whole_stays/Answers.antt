-- What is whole stays.
use Rattle.master_lex.proofs.Values.{whole_begins}
use Rattle.master_lex.proofs.laws.what_is_whole_stays.Goals as goal

pub returns : goal.returns
returns c = whole_begins
