use Rattle.std.proofs.Common.{ℕ, Option, ap, ◌∙◌}
use Rattle.std.specs.Option.{option_or}
use Rattle.kept_data.specs.Numbers.{kept_number, number_behind_type}
use Rattle.kept_data.proofs.numbers.kept_number.Goals as goal

pub returns-in-Some : goal.returns-in-Some
unfolding kept_number
returns-in-Some c = ap (λ (number : Option ℕ). option_or number (number_behind_type c.args.word.now)) c.in-Some.ensures

pub returns-in-None : goal.returns-in-None
unfolding kept_number
returns-in-None c =
    c.number_behind_type.ensures ∙ ap (λ (number : Option ℕ). option_or number (number_behind_type c.args.word.now)) c.in-None.ensures
