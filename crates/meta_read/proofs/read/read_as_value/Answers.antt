use Rattle.std.proofs.Common.{sym, ap, subst, ◌∙◌, inr}
use Rattle.std.specs.Option.{ok_or}
use Rattle.std.proofs.lemmas.Bool.{false≢true}
use Rattle.serde_json.specs.View.{view}
use Rattle.dns_data.specs.Answers.{AnswersOr, ◌>>=◌}
use Rattle.meta_read.specs.Metadata.{metadata_in}
use Rattle.meta_read.specs.declared.fault.MetaFault.TheVariants.{NotJson, NoMemory}
use Rattle.meta_read.proofs.Values.{value_of-read, value_of-unread}
use Rattle.meta_read.proofs.read.read_as_value.Goals as goal

pub returns-in-Ok : goal.returns-in-Ok
returns-in-Ok c =
    let same = value_of-read c.args.octets.now (view c.in-Ok.value) c.in-Ok.ensures.ok.0 c.in-Ok.ensures.ok.1 in
    subst (AnswersOr NoMemory c.metadata_in.result) (sym (ap (λ value. ok_or value NotJson >>= metadata_in c.args.most) same)) c.metadata_in.ensures

pub returns-else-is_memory : goal.returns-else-is_memory
returns-else-is_memory c =
    inr (ap (λ value. ok_or value NotJson >>= metadata_in c.args.most) (value_of-unread c.args.octets.now (c.in-Err.ensures.err (λ memory. absurd (false≢true (sym c.if-is_memory.false ∙ c.is_memory.ensures.1 memory))))))
