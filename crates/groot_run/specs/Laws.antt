-- What holds of all query names of a configuration: which class each is in, and how it walks.
use Rattle.std.specs.Prelude.{◌≡◌, ℕ, List, ◌++◌}
use Rattle.dns_data.specs.Name.{Labels, IsName}
use Rattle.dns_data.specs.declared.rr_type.RrType.{RrType}
use Rattle.net_model.specs.declared.class.Class.TheVariants.{Below}
use Rattle.net_model.specs.declared.config.Config.{Config}
use Rattle.net_model.specs.Class.{IsClassOf, IsRepresentative}
use Rattle.net_model.specs.Reading.{IsNamed, ground_of}
use Rattle.net_model.specs.Step.{following}
use Rattle.net_model.specs.Tails.{AreTails, WalksAs}
use Rattle.net_model.specs.Tree.{IsReached, HasMoreThan}
use Rattle.query_classes.specs.Members.{IsInOneClass}

-- With the other tail in its place a query walks as it does with its own, whatever servers are followed, up to the
-- labels of the tails; and it reaches no fewer pairs of state and type.
pub record WalkAlike (config : Config) (rewrites : ℕ) (above own other : Labels) : Type 0 where
  pub walks : (followed : List Labels) (rtype : RrType) → WalksAs (following config rewrites followed) rtype above own other
  pub reached : (most : ℕ) → HasMoreThan (IsReached config rewrites (above ++ own)) most → HasMoreThan (IsReached config rewrites (above ++ other)) most

-- below this name the query has its own unnamed labels and the other name other ones, and they walk alike
pub record WalksAsOther (config : Config) (rewrites : ℕ) (above query name : Labels) : Type 0 where
  pub own : Labels
  pub other : Labels
  pub query_is : query ≡ above ++ own
  pub name_is : name ≡ above ++ other
  pub tails : AreTails config above own other
  pub alike : WalkAlike config rewrites above own other

-- The laws of classes hold of the configuration.
pub record HasClasses (config : Config) (rewrites : ℕ) : Type 0 where
  -- each name is in one class, for which a name of it stands that is no longer than any other
  pub partition : (query : Labels) → IsName query → IsInOneClass (ground_of config) query
  -- of a named name all prefixes are named
  pub prefixes : (above below : Labels) → IsNamed (ground_of config) (above ++ below) → IsNamed (ground_of config) above
  -- names that differ in unnamed labels alone walk alike
  pub simulation : (above own other : Labels) → AreTails config above own other → WalkAlike config rewrites above own other
  -- each name walks as its class's representative, up to the labels below the class's name; the representative of a name
  -- that is alone in its class is that name
  pub members : (above query representative : Labels) → IsName query → IsClassOf (ground_of config) query (Below above)
      → IsRepresentative (ground_of config) (Below above) representative → WalksAsOther config rewrites above query representative
