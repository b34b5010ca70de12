use Rattle.walk_laws.proofs.JoinedGround.{joined_covers, given_named, own_covers}
use Rattle.walk_laws.proofs.laws.covering_grounds.Goals as goal

pub returns : goal.returns
returns c =
    record {
      own = own_covers;
      joined = λ configs given config has. joined_covers configs given config has;
      given = λ configs given name has. given_named configs given name has;
    }
