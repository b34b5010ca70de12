-- Answers that are exact.
use Rattle.std.proofs.Common.{◌≡◌, Result, Ok, Err, inr, sym}
use Rattle.dns_data.specs.Answers.{AnswersOr}

-- what the definition says is one of the answers that a call may give
pub AnswersOr-exact : {T E : Type 0} (free : E) (result said : Result T E) → result ≡ said → AnswersOr free result said
AnswersOr-exact free (Ok value) said is = sym is
AnswersOr-exact free (Err fault) said is = inr (sym is)
