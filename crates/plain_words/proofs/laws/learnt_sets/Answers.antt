use Rattle.address_deps.proofs.SteadySets.{round_is, least_steady, greatest_steady}
use Rattle.plain_words.proofs.SteadySets.{in_each_steady, in_some_steady}
use Rattle.plain_words.proofs.laws.learnt_sets.Goals as goal

pub returns : goal.returns
returns c =
    record {
      round = λ config rewrites followed learnt round name. round_is config rewrites followed learnt round name;
      least = λ config rewrites name. in_each_steady config rewrites name;
      greatest = λ config rewrites name. in_some_steady config rewrites name;
      least_steady = λ config rewrites learnt least. least_steady config rewrites learnt least;
      greatest_steady = λ config rewrites learnt greatest. greatest_steady config rewrites learnt greatest;
    }
