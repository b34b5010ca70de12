use Rattle.part_laws.proofs.WithPrefixes.{root_there, prefixes_there, met_there}
use Rattle.part_laws.proofs.MetByEach.{met_by_each}
use Rattle.part_laws.proofs.WholePart.{whole_part}
use Rattle.part_laws.proofs.laws.part_conditions.Goals as goal

pub returns : goal.returns
returns c =
    record {
      by_record = λ config names meets. met_by_each config names meets;
      whole = λ config within. whole_part config within;
      root = λ among_left. root_there among_left;
      prefixes = λ among_left above below has. prefixes_there among_left above below has;
      met = λ among_left config each name has. met_there among_left config each name has;
    }
