-- Each class of a configuration goes by a name that is local in some part; and the subject that a part is.
use Rattle.std.proofs.Common.{ℕ, List, Contains}
use Rattle.dns_data.specs.Name.{Labels}
use Rattle.graph_form.specs.Report.{IsClass, ClassShows}
use Rattle.net_model.specs.declared.class.Class.{Class}
use Rattle.net_model.specs.declared.config.Config.{Config}
use Rattle.net_model.specs.declared.fault.Fault.{Fault}
use Rattle.dns_data.specs.declared.rr_type.RrType.{RrType}
use Rattle.net_model.specs.Class.{class_name, IsRepresentative}
use Rattle.net_model.specs.Reading.{ground_of}
use Rattle.net_model.proofs.Naming.{from_listed}
use Rattle.part_laws.specs.Part.{IsLocal, IsPart, restricted}
use Rattle.part_laws.proofs.Fronts.{based_front, front_local}
use Rattle.part_laws.proofs.NamesAlike.{named_whole, named_left, named_local}
use Rattle.part_laws.proofs.ClassesAlike.{representative_alike, representative_local}
use Rattle.part_laws.proofs.ShownAlike.{shown_alike}
use Rattle.query_verdicts.specs.Carried.{whole_config}
use Rattle.query_verdicts.specs.Subjects.{IsCovering}
use Rattle.query_verdicts.proofs.CoveringGrounds.{root_in_tree}
use Rattle.walk_laws.proofs.JoinedGround.{own_covers}
use Rattle.part_reports.specs.Gathered.{AreParts}

-- a whole configuration's ground covers it
pub whole_covers : (config : Config) (rewrites : ℕ) → IsCovering (whole_config config rewrites)
whole_covers config rewrites = record { covers = own_covers config; in_tree = root_in_tree config (ground_of config) (own_covers config) }

-- the name is local in one of the parts
pub record IsLocalInSome (config : Config) (parts : List (List Labels)) (name : Labels) : Type 0 where
  pub names : List Labels
  pub among : Contains parts names
  pub part : IsPart config names
  pub local : IsLocal config names name

-- where parts cover the configuration, each name is local in one of them: the one that holds its longest prefix that is a
-- base name
pub local_in_some : (config : Config) (parts : List (List Labels)) → AreParts config parts → (name : Labels) → IsLocalInSome config parts name
local_in_some config parts are name =
    let front = based_front config name in
    let held = are.cover front.above (from_listed (ground_of config).names front.above front.passes) in
    let part = are.each held.names held.among in
    record { names = held.names; among = held.among; part = part; local = front_local config held.names part.prefixes name front held.held }

module _ (config : Config) (names : List Labels) (part : IsPart config names) (rewrites : ℕ) where
  -- what is left of the configuration
  abbrev left : Config
  left = restricted names config

  -- a class of what is left goes by a local name
  pub class_name_local : (class : Class) → IsClass (whole_config left rewrites) class → IsLocal config names (class_name class)
  class_name_local class is = named_local config names part (class_name class) is.named

  -- it is a class of the whole
  pub class_whole : (class : Class) → IsClass (whole_config left rewrites) class → IsClass (whole_config config rewrites) class
  class_whole class is = record { named = named_whole config names part (class_name class) is.named; is_name = is.is_name; within = is.within }

  -- a class of the whole that goes by a local name is one of what is left
  pub class_left : (class : Class) → IsLocal config names (class_name class) → IsClass (whole_config config rewrites) class → IsClass (whole_config left rewrites) class
  class_left class local is = record { named = named_left config names part (class_name class) local is.named; is_name = is.is_name; within = is.within }

  -- the representative of a class of the whole that goes by a local name is local
  pub stands_local : (class : Class) (query : Labels) → IsLocal config names (class_name class) → IsRepresentative (ground_of config) class query → IsLocal config names query
  stands_local class query local stands =
      representative_local config names part class query local ((representative_alike config names part class query local).1 stands)

  -- what a class of what is left shows it shows in the whole
  pub class_shows_whole : (class : Class) (query : Labels) (rtype : RrType) (fault : Fault) → ClassShows (whole_config left rewrites) class query rtype fault
      → ClassShows (whole_config config rewrites) class query rtype fault
  class_shows_whole class query rtype fault shows =
      let local = class_name_local class shows.is_class in
      record {
        is_class = class_whole class shows.is_class;
        represents = (representative_alike config names part class query local).0 shows.represents;
        shows = (shown_alike config names part rewrites query rtype (representative_local config names part class query local shows.represents) fault).0 shows.shows;
      }

  -- what a class of the whole that goes by a local name shows it shows in what is left
  pub class_shows_left : (class : Class) (query : Labels) (rtype : RrType) (fault : Fault) → IsLocal config names (class_name class)
      → ClassShows (whole_config config rewrites) class query rtype fault → ClassShows (whole_config left rewrites) class query rtype fault
  class_shows_left class query rtype fault local shows =
      record {
        is_class = class_left class local shows.is_class;
        represents = (representative_alike config names part class query local).1 shows.represents;
        shows = (shown_alike config names part rewrites query rtype (stands_local class query local shows.represents) fault).1 shows.shows;
      }
