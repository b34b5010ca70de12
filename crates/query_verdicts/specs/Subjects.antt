-- The subjects of judges of names, and what such a judge is made of.
use Rattle.std.specs.Prelude.{◌≡◌, ℕ, Option, MatchOption}
use Rattle.dns_data.specs.Name.{Labels}
use Rattle.graph_form.specs.Report.{Subject}
use Rattle.label_graph.specs.Pairs.{AreSame}
use Rattle.net_model.specs.declared.class.Class.TheVariants.{Below}
use Rattle.net_model.specs.Class.{IsRepresentative}
use Rattle.net_model.specs.Reading.{Ground, Covers, ground_of}
use Rattle.query_classes.specs.Children.{IsInTree}
use Rattle.query_classes.specs.Members.{RepresentsClass}
use Rattle.query_classes.specs.TreeNames.{AreBaseNamesOf}
use Rattle.query_verdicts.specs.Queries.{LimitedQueries, queries_of}

-- the subject's ground covers its configuration, and its class tree has the name at or below which queries are looked at
pub record IsCovering (subject : Subject) : Type 0 where
  pub covers : Covers subject.ground subject.config
  pub in_tree : IsInTree subject.ground subject.below

-- the queries are those of the subject's configuration, the graph is that of its ground, and the first name is its own; the
-- other graph is that of the configuration's own base names, where the subject's ground may have other names
pub record AreOfSubject (subject : Subject) (states : ℕ) (queries : LimitedQueries) (names : Ground) (own : Option Ground) (first : Labels) : Type 0 where
  pub covering : IsCovering subject
  pub queries_are : queries ≡ queries_of subject states
  pub names_are : AreBaseNamesOf subject.ground names
  pub own_are : MatchOption own (AreSame subject.ground (ground_of subject.config)) (AreBaseNamesOf (ground_of subject.config))
  pub first_is : first ≡ subject.below

-- what represents the class below a name, or nothing where nothing does
abbrev pub RepresentsBelow : Ground → Labels → Option Labels → Type 0
RepresentsBelow base above found =
    MatchOption found ((query : Labels) → IsRepresentative base (Below above) query → ⊥) (RepresentsClass base (Below above))
