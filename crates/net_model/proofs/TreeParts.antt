-- The part of a class tree at or below the root is the whole tree: the root begins each name.
use Rattle.std.proofs.Common.{List, [], refl}
use Rattle.dns_data.specs.Name.{Labels}
use Rattle.net_model.specs.Reading.{Ground}
use Rattle.net_model.specs.Tree.{IsClassTree, IsTreePart}

-- the names of the tree are those at or below the root
pub whole_part : (ground : Ground) (names : List Labels) → IsClassTree ground names → IsTreePart ground [] names
whole_part ground names tree =
    record {
      ordered = tree.ordered;
      all = λ name. (
        (λ has. (let is = (tree.all name).0 has in record { named = is.0; is_name = is.1; within = refl })),
        (λ is. (tree.all name).1 (is.named, is.is_name)),
      );
    }
