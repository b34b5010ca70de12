-- An entry of a part's report is one of the whole's, if no class of the whole that shows the fault is before its class.
use Rattle.std.proofs.Common.{◌≡◌, ◌≢◌, ℕ, List, [], ◌∷◌, map, Some, sym, ap, ◌∙◌}
use Rattle.std.specs.List.{AllByRecursion}
use Rattle.std.specs.declared.cmp.Ordering.TheVariants.{Less}
use Rattle.dns_data.specs.Name.{Labels}
use Rattle.dns_data.specs.declared.rr_type.RrType.{RrType}
use Rattle.graph_form.specs.Report.{ClassShows, PathsShow}
use Rattle.net_model.specs.declared.class.Class.{Class}
use Rattle.net_model.specs.declared.config.Config.{Config}
use Rattle.net_model.specs.declared.fault.Fault.{Fault}
use Rattle.net_model.specs.declared.walk.Walk.{Walk}
use Rattle.net_model.specs.Class.{class_cmp}
use Rattle.net_model.specs.Step.{Setting, following}
use Rattle.net_model.specs.Walk.{walk_along, IsWalk}
use Rattle.net_model.proofs.InForce.{some_in_force}
use Rattle.part_laws.specs.Part.{IsLocal, IsPart, restricted, HaveSameLocalNames}
use Rattle.part_laws.proofs.ClassesAlike.{representative_local}
use Rattle.part_laws.proofs.LearntAlike.{least_alike}
use Rattle.part_laws.proofs.Lists.{map_same}
use Rattle.part_laws.proofs.QueriesAlike.{walk_along_alike}
use Rattle.part_laws.proofs.ShownAlike.{shown_alike, walks_show_alike}
use Rattle.query_verdicts.specs.Carried.{whole_config}
use Rattle.part_reports.specs.Gathered.{IsClassedEntry}
use Rattle.part_form.specs.PartText.{ClassedEntry}
use Rattle.part_reports.proofs.LocalClasses.{class_name_local, class_shows_whole}

-- walks along lists of numbers are walks
along_paths : (setting : Setting) (query : Labels) (rtype : RrType) (paths : List (List ℕ)) (walks : List Walk)
    → map (walk_along setting query rtype) paths ≡ map (λ (walk : Walk). Some walk) walks → AllByRecursion (IsWalk setting query rtype) walks
along_paths setting query rtype [] [] e = tt
along_paths setting query rtype [] (walk ∷ walks) e = cc
along_paths setting query rtype (path ∷ paths) [] e = cc
along_paths setting query rtype (path ∷ paths) (walk ∷ walks) e =
    let first : walk_along setting query rtype path ≡ Some walk = cc in
    let rest : map (walk_along setting query rtype) paths ≡ map (λ (w : Walk). Some w) walks = cc in
    ((path, first), along_paths setting query rtype paths walks rest)

module _ (config : Config) (names : List Labels) (part : IsPart config names) (rewrites : ℕ) where
  -- what is left of the configuration
  abbrev left : Config
  left = restricted names config

  module _ (of_whole of_part : List Labels) (alike : HaveSameLocalNames config names of_part of_whole) (query : Labels) (local : IsLocal config names query)
      (rtype : RrType) (fault : Fault) (paths : List (List ℕ)) (walks : List Walk) where
    same_walks : map (walk_along (following left rewrites of_part) query rtype) paths ≡ map (walk_along (following config rewrites of_whole) query rtype) paths
    same_walks =
        map_same (walk_along (following left rewrites of_part) query rtype) (walk_along (following config rewrites of_whole) query rtype) paths
        (λ path has. walk_along_alike config names part rewrites of_whole of_part alike query rtype path local)

    -- walks along lists of numbers show a fault in both or in neither
    paths_show_whole : PathsShow (following left rewrites of_part) query rtype fault paths walks → PathsShow (following config rewrites of_whole) query rtype fault paths walks
    paths_show_whole shows =
        let are = sym same_walks ∙ shows.are_walks in
        record {
          are_walks = are;
          show = (walks_show_alike config names part rewrites query rtype local of_whole of_part walks
              (along_paths (following config rewrites of_whole) query rtype paths walks are) fault).0 shows.show;
        }

    paths_show_left : PathsShow (following config rewrites of_whole) query rtype fault paths walks → PathsShow (following left rewrites of_part) query rtype fault paths walks
    paths_show_left shows =
        record {
          are_walks = same_walks ∙ shows.are_walks;
          show = (walks_show_alike config names part rewrites query rtype local of_whole of_part walks
              (along_paths (following config rewrites of_whole) query rtype paths walks shows.are_walks) fault).1 shows.show;
        }

  -- the entry is right for the whole, with the same class
  pub entry_whole : (classed : ClassedEntry) → IsClassedEntry (whole_config left rewrites) classed
      → ((other : Class) (query : Labels) (rtype : RrType) → ClassShows (whole_config config rewrites) other query rtype classed.entry.seen.fault
      → class_cmp other classed.class ≢ Less)
      → IsClassedEntry (whole_config config rewrites) classed
  entry_whole classed right least =
      let entry = classed.entry in
      let is = right.is in
      let local = representative_local config names part is.class entry.query (class_name_local config names part rewrites is.class is.shown.is_class) is.shown.represents in
      let (followed, in_force) = some_in_force config rewrites in
      let alike = least_alike config names part rewrites followed is.followed in_force is.in_force in
      record {
        is = record {
          class = is.class;
          followed = followed;
          paths = is.paths;
          in_force = in_force;
          shown = class_shows_whole config names part rewrites is.class entry.query entry.seen.rtype entry.seen.fault is.shown;
          first_class = λ other query rtype shows before. least other query rtype shows (ap (class_cmp other) (sym right.class_is) ∙ before);
          first_type = λ rtype shows. is.first_type rtype ((shown_alike config names part rewrites entry.query rtype local entry.seen.fault).1 shows);
          walks_show = paths_show_whole followed is.followed alike entry.query local entry.seen.rtype entry.seen.fault is.paths entry.walks is.walks_show;
          first_walks = λ others walks shows. is.first_walks others walks
              (paths_show_left followed is.followed alike entry.query local entry.seen.rtype entry.seen.fault others walks shows);
          repeated = is.repeated;
        };
        class_is = right.class_is;
      }
