-- The laws of classes hold of a configuration: that of the partition is given, names that differ in unnamed labels alone
-- walk alike, and so does a member of a class as its representative.
use Rattle.std.proofs.Common.{ℕ, ◌++◌}
use Rattle.dns_data.specs.Name.{Labels, IsName}
use Rattle.net_model.specs.declared.config.Config.{Config}
use Rattle.net_model.specs.Reading.{IsNamed, ground_of}
use Rattle.net_model.specs.Step.{following}
use Rattle.net_model.specs.Tails.{AreTails}
use Rattle.walk_laws.proofs.WalksAlike.ClassTails.{tails_in_class}
use Rattle.walk_laws.proofs.WalksAlike.QueryWalks.{walks_as, reaches_more}
use Rattle.query_classes.specs.Members.{IsInOneClass}
use Rattle.groot_run.specs.Laws.{WalkAlike, HasClasses}

walk_alike : (config : Config) (rewrites : ℕ) (above own other : Labels) → AreTails config above own other → WalkAlike config rewrites above own other
walk_alike config rewrites above own other tails =
    record {
      walks = λ followed rtype. walks_as (following config rewrites followed) above own other tails rtype;
      reached = reaches_more config rewrites above own other tails;
    }

-- where each query name is in exactly one class, and fronts of named names are named, what is said of a configuration's
-- classes holds
pub has_classes : (config : Config) (rewrites : ℕ)
    → ((query : Labels) → IsName query → IsInOneClass (ground_of config) query)
    → ((above below : Labels) → IsNamed (ground_of config) (above ++ below) → IsNamed (ground_of config) above)
    → HasClasses config rewrites
has_classes config rewrites one prefixes =
    record {
      partition = one;
      prefixes = prefixes;
      simulation = walk_alike config rewrites;
      members = λ above query representative is of_class stands.
          let (own, other, query_is, representative_is, tails) =
          tails_in_class config (ground_of config) (λ name named. named) above query representative is of_class stands in
          record {
            own = own;
            other = other;
            query_is = query_is;
            name_is = representative_is;
            tails = tails;
            alike = walk_alike config rewrites above own other tails;
          };
    }
