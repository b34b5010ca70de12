use Rattle.std.proofs.Common.{◌≡◌, Ok}
use Rattle.std.specs.String.{string_bytes}
use Rattle.std.proofs.lemmas.Result.{IfOk-weaker}
use Rattle.dns_data.specs.Name.{Labels}
use Rattle.dns_data.specs.Spelling.{name_of_text, name_text}
use Rattle.dns_data.proofs.RoundTrip.{text_reads_back}
use Rattle.dns_data.proofs.name.Name.to_text.Goals as goal

pub returns-clause-reads_back : goal.returns-clause-reads_back
returns-clause-reads_back c =
    let name = c.args.self.now in
    IfOk-weaker c.text_of.result (λ text. string_bytes text ≡ name_text c.labels.result) (λ text. (origin : Labels) → name_of_text (string_bytes text) origin ≡ Ok name) (λ text same origin. rw (same, c.labels.ensures.same) (text_reads_back name origin c.labels.ensures.name)) c.text_of.ensures
