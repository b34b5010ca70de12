-- The whole has a class or a server of which too many pairs are reached exactly where one of the parts that cover it has.
use Rattle.std.proofs.Common.{◌⊎◌, ℕ, List, Contains, inl, inr}
use Rattle.std.specs.Prelude.{◌↔◌}
use Rattle.dns_data.specs.Name.{Labels}
use Rattle.net_model.specs.declared.config.Config.{Config}
use Rattle.net_model.specs.Class.{class_name}
use Rattle.part_laws.specs.Part.{restricted}
use Rattle.part_laws.proofs.ClassesAlike.{representative_alike, representative_local}
use Rattle.part_laws.proofs.ReachedAlike.{more_alike}
use Rattle.query_verdicts.specs.Carried.{whole_config}
use Rattle.net_model.specs.Reading.{ground_of}
use Rattle.query_verdicts.specs.Passed.{SomeClassPasses, SomeNamePasses}
use Rattle.query_verdicts.proofs.PassingNames.{class_passes}
use Rattle.walk_laws.proofs.JoinedGround.{own_covers}
use Rattle.part_reports.specs.Gathered.{AreParts}
use Rattle.part_reports.proofs.LocalClasses.{local_in_some, class_name_local, class_whole, class_left, stands_local}

-- the representative of a class of the whole reaches too many pairs exactly where that of a class of some part does
pub parts_pass : (config : Config) (parts : List (List Labels)) → AreParts config parts → (rewrites states : ℕ)
    → SomeClassPasses (whole_config config rewrites) states
    ↔ ((names : List Labels) × Contains parts names × SomeClassPasses (whole_config (restricted names config) rewrites) states)
parts_pass config parts are rewrites states = (there, back) where
  there : SomeClassPasses (whole_config config rewrites) states
      → (names : List Labels) × Contains parts names × SomeClassPasses (whole_config (restricted names config) rewrites) states
  there (class, query, passes) =
      let some = local_in_some config parts are (class_name class) in
      let local = stands_local config some.names some.part rewrites class query some.local passes.represents in (
        some.names,
        some.among,
        (
          class,
          query,
          record {
            is_class = class_left config some.names some.part rewrites class some.local passes.is_class;
            represents = (representative_alike config some.names some.part class query some.local).1 passes.represents;
            passes = (more_alike config some.names some.part rewrites query local states).1 passes.passes;
          },
        ),
      )

  back : (names : List Labels) × Contains parts names × SomeClassPasses (whole_config (restricted names config) rewrites) states
      → SomeClassPasses (whole_config config rewrites) states
  back (names, among, (class, query, passes)) =
      let part = are.each names among in
      let at_class = class_name_local config names part rewrites class passes.is_class in
      let local = representative_local config names part class query at_class passes.represents in (
        class,
        query,
        record {
          is_class = class_whole config names part rewrites class passes.is_class;
          represents = (representative_alike config names part class query at_class).0 passes.represents;
          passes = (more_alike config names part rewrites query local states).0 passes.passes;
        },
      )

-- so the whole has a class or a server of which too many pairs are reached exactly where some part has: where a server's
-- name reaches too many, so does the representative of a class (query_verdicts' passing_names)
pub parts_refuse : (config : Config) (parts : List (List Labels)) → AreParts config parts → (rewrites states : ℕ)
    → (SomeClassPasses (whole_config config rewrites) states ⊎ SomeNamePasses config rewrites states)
    ↔ ((names : List Labels) × Contains parts names
    × (SomeClassPasses (whole_config (restricted names config) rewrites) states ⊎ SomeNamePasses (restricted names config) rewrites states))
parts_refuse config parts are rewrites states = (
  λ refuses. (let (names, among, passes) = (parts_pass config parts are rewrites states).0 (of_class config refuses) in (names, among, inl passes)),
  λ (names, among, refuses). inl ((parts_pass config parts are rewrites states).1 (names, among, of_class (restricted names config) refuses)),
)
  where
    of_class : (c : Config) → SomeClassPasses (whole_config c rewrites) states ⊎ SomeNamePasses c rewrites states → SomeClassPasses (whole_config c rewrites) states
    of_class c (inl passes) = passes
    of_class c (inr passes) = class_passes c rewrites states (ground_of c) (own_covers c) passes
