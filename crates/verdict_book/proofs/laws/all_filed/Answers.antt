use Rattle.verdict_book.proofs.Items.{files_all}
use Rattle.verdict_book.proofs.laws.all_filed.Goals as goal

pub returns : goal.returns
returns g c = files_all g.W.Work.first_item g.W.Work.children_of g.met.W.Work.parents_apart
