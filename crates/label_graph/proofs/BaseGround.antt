-- Grounds that have the prefixes of their names, and the owners of their redirections.
use Rattle.std.proofs.Common.{[], ◌∷◌, ◌++◌, subst, List}
use Rattle.dns_data.specs.Name.{Labels}
use Rattle.net_model.specs.declared.config.Config.{Config}
use Rattle.net_model.specs.Reading.{Ground, ground_of, joined_ground}
use Rattle.net_model.proofs.JoinedNames.{root_is_base, above_is_base, owner_is_base, alone_is_own}
use Rattle.label_graph.specs.LiveSet.{IsClosed}
use Rattle.label_graph.specs.Pairs.{AreSame}

-- the joined ground has the root, the prefixes of its names, and the owners of its redirections
pub joined_closed : (configs : List Config) (given : List Labels) → IsClosed (joined_ground configs given)
joined_closed configs given =
    record {
      names = record { root = root_is_base configs given; prefixes = above_is_base configs given };
      redirected = owner_is_base configs given;
    }

-- the ground of a configuration has the root, the prefixes of its names, and the owners of its redirections
pub ground_closed : (config : Config) → IsClosed (ground_of config)
ground_closed config = subst IsClosed (alone_is_own config) (joined_closed (config ∷ []) [])

-- a ground with the same names and redirections as a closed one is closed
pub base_closed : (base ground : Ground) → AreSame base ground → IsClosed ground → IsClosed base
base_closed base ground same closed =
    record {
      names = record {
        root = (same.names []).1 closed.names.root;
        prefixes = λ above below has. (same.names above).1 (closed.names.prefixes above below ((same.names (above ++ below)).0 has));
      };
      redirected = λ redirection among. (same.names redirection.owner).1 (closed.redirected redirection ((same.redirections redirection).0 among));
    }
