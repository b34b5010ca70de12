use Rattle.plain_words.proofs.Redirecting.{redirection_found}
use Rattle.plain_words.proofs.laws.redirections_have_targets.Goals as goal

pub returns : goal.returns
returns c = λ zone name owner target decides. redirection_found zone name owner target decides
