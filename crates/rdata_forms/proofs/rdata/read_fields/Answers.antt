use Rattle.rdata_forms.proofs.Exact.{AnswersOr-exact}
use Rattle.rdata_forms.proofs.rdata.read_fields.Goals as goal

pub returns-in-A : goal.returns-in-A
returns-in-A c = rw c.in-A.is (AnswersOr-exact _ c.read_a.result _ c.read_a.ensures)

pub returns-in-Aaaa : goal.returns-in-Aaaa
returns-in-Aaaa c = rw c.in-Aaaa.is (AnswersOr-exact _ c.read_aaaa.result _ c.read_aaaa.ensures)
