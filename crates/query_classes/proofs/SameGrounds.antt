-- Grounds with the same names and the same redirections have the same named names and classes, and of the class tree the
-- same names.
use Rattle.std.proofs.Common.{ℕ, List, [], ◌∷◌, Contains, Option, None, Some, refl}
use Rattle.std.specs.Prelude.{◌↔◌}
use Rattle.dns_data.specs.Name.{Labels}
use Rattle.net_model.specs.declared.class.Class.{Class}
use Rattle.net_model.specs.declared.class.Class.TheVariants.{Exact, Below}
use Rattle.net_model.specs.Class.{IsClassOf, IsFirstUnnamed, IsRepresentative, class_name}
use Rattle.net_model.specs.Reading.{Redirection, ReadsAlong, Ground, IsNamed}
use Rattle.net_model.specs.Tree.{HasMoreThan, IsInPart}
use Rattle.net_model.proofs.Counting.{more_images}
use Rattle.label_graph.specs.LiveSet.{IsClosed}
use Rattle.label_graph.specs.Pairs.{AreSame}
use Rattle.label_graph.proofs.BaseGround.{base_closed}
use Rattle.query_classes.specs.Children.{AreChildren, IsInTree, IsBelow}
use Rattle.query_classes.specs.ClassList.{ListedClass, AreListed}
use Rattle.query_classes.specs.Members.{IsEmptyClass, RepresentsClass}

-- if a ground has the names and redirections of another, the other has those of the one
pub same_back : (one other : Ground) → AreSame one other → AreSame other one
same_back one other same =
    record {
      names = λ name. ((same.names name).1, (same.names name).0);
      redirections = λ redirection. ((same.redirections redirection).1, (same.redirections redirection).0);
    }

-- what is read along some redirections is read along more
pub along_same : (one other : List Redirection) → ((redirection : Redirection) → Contains one redirection → Contains other redirection)
    → (name : Labels) (between : List Labels) (last : Labels) → ReadsAlong one name between last → ReadsAlong other name between last
along_same one other more name [] last is = is
along_same one other more name (next ∷ between) last (once, rest) = (
  record { redirection = once.redirection; among = more once.redirection once.among; below = once.below; before = once.before; after = once.after },
  along_same one other more next between last rest,
)

module _ (one other : Ground) (same : AreSame one other) where
  -- a name that a ground names is named by each ground with the same names and redirections
  pub named_same : (name : Labels) → IsNamed one name → IsNamed other name
  named_same name named =
      record {
        base = named.base;
        among = (same.names named.base).0 named.among;
        reads = (
          named.reads.0,
          along_same one.redirections other.redirections (λ redirection. (same.redirections redirection).0) name named.reads.0 named.base named.reads.1,
        );
      }

  -- a ground with the names and redirections of a closed one is closed
  pub closed_same : IsClosed one → IsClosed other
  closed_same closed = base_closed other one (same_back one other same) closed

  -- a name of the class tree of a ground is in that of each ground with the same names and redirections
  pub in_tree_same : (name : Labels) → IsInTree one name → IsInTree other name
  in_tree_same name (named, is) = (named_same name named, is)

  -- a name of a part of the class tree of a ground is in that part for each ground with the same names and redirections
  pub in_part_same : (above name : Labels) → IsInPart one above name → IsInPart other above name
  in_part_same above name is = record { named = named_same name is.named; is_name = is.is_name; within = is.within }

-- a name that a ground doesn't name isn't named by a ground with the same names and redirections
pub unnamed_same : (one other : Ground) → AreSame one other → (name : Labels) → (IsNamed one name → ⊥) → IsNamed other name → ⊥
unnamed_same one other same name unnamed named = unnamed (named_same other one (same_back one other same) name named)

-- a name has the same class under grounds with the same names and redirections
pub class_same : (one other : Ground) → AreSame one other → (name : Labels) (class : Class) → IsClassOf one name class → IsClassOf other name class
class_same one other same name (Exact alone) is = (is.0, named_same one other same name is.1)
class_same one other same name (Below above) (unnamed, longest) = (
  unnamed_same one other same name unnamed,
  record {
    below = longest.below;
    prefix = longest.prefix;
    named = named_same one other same above longest.named;
    longest = λ longer rest is named. longest.longest longer rest is (named_same other one (same_back one other same) longer named);
  },
)

-- the first label that makes an unnamed name is the same under grounds with the same names and redirections
pub first_same : (one other : Ground) → AreSame one other → (above : Labels) (label : List ℕ) → IsFirstUnnamed one above label → IsFirstUnnamed other above label
first_same one other same above label first =
    record {
      is_label = first.is_label;
      unnamed = unnamed_same one other same _ first.unnamed;
      first = λ before is less. named_same one other same _ (first.first before is less);
    }

-- a class has the same representative under grounds with the same names and redirections
pub represents_same : (one other : Ground) → AreSame one other → (class : Class) (name : Labels) → IsRepresentative one class name → IsRepresentative other class name
represents_same one other same (Exact alone) name is = is
represents_same one other same (Below above) name stands =
    record { label = stands.label; first = first_same one other same above stands.label stands.first; extends = stands.extends; is_name = stands.is_name }

-- a class that is empty under a ground is empty under each ground with the same names and redirections
pub empty_same : (one other : Ground) → AreSame one other → (class : Class) → IsEmptyClass one class → IsEmptyClass other class
empty_same one other same class empty member is of = empty member is (class_same other one (same_back one other same) member class of)

-- the same name stands for a class under grounds with the same names and redirections
pub stands_same : (one other : Ground) → AreSame one other → (class : Class) (name : Labels) → RepresentsClass one class name → RepresentsClass other class name
stands_same one other same class name stands =
    record {
      represents = represents_same one other same class name stands.represents;
      is_name = stands.is_name;
      is_member = class_same one other same name class stands.is_member;
      shortest = λ member is of. stands.shortest member is (class_same other one (same_back one other same) member class of);
    }

-- the same name, or none, stands for the class below a name under grounds with the same names and redirections
pub below_same : (one other : Ground) → AreSame one other → (name : Labels) (found : Option Labels) → IsBelow one name found → IsBelow other name found
below_same one other same name None empty = empty_same one other same (Below name) empty
below_same one other same name (Some below) stands = stands_same one other same (Below name) below stands

-- a name has the same children under grounds with the same names and redirections
pub children_same : (one other : Ground) → AreSame one other → (above : Labels) (names : List Labels) → AreChildren one above names → AreChildren other above names
children_same one other same above names are =
    record {
      ordered = are.ordered;
      all = λ name. (
        λ has. (let (is, below) = (are.all name).0 has in (in_tree_same one other same name is, below)),
        λ (is, below). (are.all name).1 (in_tree_same other one (same_back one other same) name is, below),
      );
    }

-- the same classes are listed under grounds with the same names and redirections
pub listed_same : (one other : Ground) → AreSame one other → (above : Labels) (classes : List ListedClass) → AreListed one above classes → AreListed other above classes
listed_same one other same above classes are =
    record {
      ordered = are.ordered;
      all = λ listed. (
        λ has. (
            let (is, represents) = (are.all listed).0 has in (
              in_part_same one other same above (class_name listed.class) is,
              represents_same one other same listed.class listed.representative represents,
            )),
        λ (is, represents). (are.all listed).1 (
          in_part_same other one (same_back one other same) above (class_name listed.class) is,
          represents_same other one (same_back one other same) listed.class listed.representative represents,
        ),
      );
    }

-- a part of the class tree has more names than so many under each ground with the same names and redirections
pub more_same : (one other : Ground) → AreSame one other → (above : Labels) (most : ℕ) → HasMoreThan (IsInPart one above) most → HasMoreThan (IsInPart other above) most
more_same one other same above most =
    more_images (IsInPart one above) (IsInPart other above) most (λ name. name) (in_part_same one other same above) (λ a b is also e. e)

-- the part at or below the root is the whole tree
pub more_in_whole : (ground : Ground) (most : ℕ) → HasMoreThan (IsInPart ground []) most ↔ HasMoreThan (IsInTree ground) most
more_in_whole ground most = (
  more_images (IsInPart ground []) (IsInTree ground) most (λ name. name) (λ name is. (is.named, is.is_name)) (λ a b is also e. e),
  more_images (IsInTree ground) (IsInPart ground []) most (λ name. name)
      (λ name is. record { named = is.0; is_name = is.1; within = refl }) (λ a b is also e. e),
)
