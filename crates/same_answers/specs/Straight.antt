-- What straight walks tell of a query: for the contracts of inner calls alone.
use Rattle.std.specs.Prelude.{not}
use Rattle.std.specs.List.{find}
use Rattle.std.specs.Option.{option_map_or}
use Rattle.dns_data.specs.RrType.{types}
use Rattle.straight_walks.specs.Ends.{ends_alike}
use Rattle.straight_walks.specs.declared.ends.StraightEnds.{StraightEnds}
use Rattle.same_answers.specs.declared.verdict.PairEnd.{PairEnd}
use Rattle.same_answers.specs.declared.verdict.PairEnd.TheVariants.{Equal, Apart}

-- what the ends of a query's walks in both configurations tell of it
abbrev pub straight_end : StraightEnds → StraightEnds → PairEnd
straight_end first second = option_map_or Apart (find (λ rtype. not (ends_alike first second rtype)) types) Equal
