-- Where a name reaches more pairs of state and type than so many, so does the representative of its class, under every
-- ground that covers the configuration.
use Rattle.std.proofs.Common.{ℕ, [], refl, sym, subst}
use Rattle.dns_data.specs.Name.{Labels, IsName}
use Rattle.dns_data.proofs.NameFronts.{is_prefix_told}
use Rattle.graph_form.specs.Report.{IsClass}
use Rattle.net_model.specs.declared.class.Class.{Class}
use Rattle.net_model.specs.declared.class.Class.TheVariants.{Exact, Below}
use Rattle.net_model.specs.declared.config.Config.{Config}
use Rattle.net_model.specs.Class.{IsClassOf}
use Rattle.net_model.specs.Reading.{Ground, Covers}
use Rattle.walk_laws.proofs.WalksAlike.ClassTails.{class_tails}
use Rattle.walk_laws.proofs.WalksAlike.QueryWalks.{reaches_more}
use Rattle.query_classes.specs.Members.{IsInOneClass, RepresentsClass}
use Rattle.query_verdicts.specs.Carried.{at_all_names}
use Rattle.query_verdicts.specs.Passed.{SomeClassPasses, SomeNamePasses}
use Rattle.query_verdicts.specs.Subjects.{IsCovering}
use Rattle.query_verdicts.specs.Verdict.{PassesStates}
use Rattle.query_verdicts.proofs.Carrying.{class_of_name}
use Rattle.query_verdicts.proofs.CoveringGrounds.{in_class, root_in_tree}

module _ (config : Config) (rewrites states : ℕ) (ground : Ground) (covers : Covers ground config) where
  at_root : IsCovering (at_all_names config rewrites ground)
  at_root = record { covers = covers; in_tree = root_in_tree config ground covers }

  class_is : (class : Class) (name : Labels) → IsName name → IsClassOf ground name class → IsClass (at_all_names config rewrites ground) class
  class_is class name is of = class_of_name (at_all_names config rewrites ground) at_root class name is (is_prefix_told [] name (name, refl)) of

  -- where a name reaches more pairs of state and type than so many, the representative of some class does
  pub name_passes : (name : Labels) → IsName name → PassesStates config rewrites states name → SomeClassPasses (at_all_names config rewrites ground) states
  name_passes name is passes = let of : IsInOneClass ground name = in_class config ground covers name is in by of.class of.is of.stands where
    by : (class : Class) → IsClassOf ground name class → ((query : Labels) × RepresentsClass ground class query)
        → SomeClassPasses (at_all_names config rewrites ground) states
    by (Exact alone) of (query, stands) = (
      Exact alone,
      alone,
      record {
        is_class = class_is (Exact alone) name is of;
        represents = refl;
        passes = subst (PassesStates config rewrites states) (sym of.0) passes;
      },
    )
    by (Below above) of (query, stands) =
        let (own, other, name_is, query_is, tails) = class_tails config ground covers above name query is of stands.represents in (
          Below above,
          query,
          record {
            is_class = class_is (Below above) name is of;
            represents = stands.represents;
            passes =
                subst (PassesStates config rewrites states) (sym query_is)
                (reaches_more config rewrites above own other tails states (subst (PassesStates config rewrites states) name_is passes));
          },
        )

  -- if a server's name reaches too many pairs, the representative of some class does
  pub class_passes : SomeNamePasses config rewrites states → SomeClassPasses (at_all_names config rewrites ground) states
  class_passes (name, has, (is, passes)) = name_passes name is passes
