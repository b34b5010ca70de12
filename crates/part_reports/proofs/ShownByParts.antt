-- A part shows the faults that local queries show in the whole; parts that cover the whole show all of its faults together.
use Rattle.std.proofs.Common.{ℕ, List, Contains, refl}
use Rattle.std.specs.Prelude.{◌↔◌}
use Rattle.dns_data.specs.Name.{Labels}
use Rattle.graph_form.specs.Report.{IsShown}
use Rattle.net_model.specs.declared.config.Config.{Config}
use Rattle.net_model.specs.declared.fault.Fault.{Fault}
use Rattle.part_laws.specs.Part.{IsPart, restricted}
use Rattle.part_laws.proofs.ClassesAlike.{representative_local}
use Rattle.part_laws.proofs.ShownAlike.{shown_alike}
use Rattle.query_verdicts.specs.Carried.{whole_config}
use Rattle.query_verdicts.proofs.Carrying.{shown_by_classes, is_name_of}
use Rattle.part_reports.specs.Gathered.{AreParts, LocalShows}
use Rattle.part_reports.proofs.LocalClasses.{whole_covers, local_in_some, class_name_local}

-- what is left shows what local queries show in the whole: each fault that a foreign query shows there, the representative
-- of its class shows too, and that is local
pub part_shows : (config : Config) (names : List Labels) → IsPart config names → (rewrites : ℕ) (fault : Fault)
    → IsShown (whole_config (restricted names config) rewrites) fault ↔ LocalShows config rewrites names fault
part_shows config names part rewrites fault = (there, back) where
  there : IsShown (whole_config (restricted names config) rewrites) fault → LocalShows config rewrites names fault
  there shown =
      let covering = whole_covers (restricted names config) rewrites in
      let (class, query, rtype, shows) = (shown_by_classes (whole_config (restricted names config) rewrites) covering fault).0 shown in
      let local = representative_local config names part class query (class_name_local config names part rewrites class shows.is_class) shows.represents in
      record {
        query = query;
        rtype = rtype;
        is_name = is_name_of (whole_config (restricted names config) rewrites) covering class query shows.is_class shows.represents;
        local = local;
        shows = (shown_alike config names part rewrites query rtype local fault).0 shows.shows;
      }

  back : LocalShows config rewrites names fault → IsShown (whole_config (restricted names config) rewrites) fault
  back shows =
      record {
        query = shows.query;
        rtype = shows.rtype;
        is_name = shows.is_name;
        within = refl;
        shows = (shown_alike config names part rewrites shows.query shows.rtype shows.local fault).1 shows.shows;
      }

-- where parts cover the whole, it shows a fault exactly where one of them does
pub parts_show : (config : Config) (parts : List (List Labels)) → AreParts config parts → (rewrites : ℕ) (fault : Fault)
    → IsShown (whole_config config rewrites) fault ↔ ((names : List Labels) × Contains parts names × IsShown (whole_config (restricted names config) rewrites) fault)
parts_show config parts are rewrites fault = (
  λ shown. (let some = local_in_some config parts are shown.query in (
    some.names,
    some.among,
    (part_shows config some.names some.part rewrites fault).1
        (record { query = shown.query; rtype = shown.rtype; is_name = shown.is_name; local = some.local; shows = shown.shows }),
  )),
  λ (names, among, shown). (let shows = (part_shows config names (are.each names among) rewrites fault).0 shown in
      record { query = shows.query; rtype = shows.rtype; is_name = shows.is_name; within = refl; shows = shows.shows }),
)
