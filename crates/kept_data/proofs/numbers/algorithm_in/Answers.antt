use Rattle.std.proofs.Common.{ℕ, Option, ap, ◌∙◌}
use Rattle.std.specs.Option.{option_or}
use Rattle.kept_data.specs.Numbers.{algorithm_in, algorithm_words, number_of_word}
use Rattle.kept_data.proofs.numbers.algorithm_in.Goals as goal

pub returns-in-None : goal.returns-in-None
unfolding algorithm_in
returns-in-None c =
    c.number_of_word.ensures ∙ ap (λ (number : Option ℕ). option_or number (number_of_word algorithm_words c.args.text.now)) c.in-None.ensures
