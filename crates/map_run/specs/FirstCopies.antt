-- For the code alone, no public clause cites it: what is kept of rows to tell copies.
use Rattle.std.specs.Prelude.{◌≡◌, ℕ, Bool, false, ◌&&◌, ◌||◌, List, [], Option, Some, None, option_map}
use Rattle.std.specs.BTreeMap as map
use Rattle.std.specs.BTreeSet as tree
use Rattle.std.specs.Cmp.Lexicographic.{slice_cmp}
use Rattle.std.specs.Ordering.{ordering_then}
use Rattle.std.specs.declared.cmp.Ordering.{Ordering}
use Rattle.std.specs.List.{find, list_any}
use Rattle.std.specs.Option.{option_map_or}
use Rattle.dns_data.specs.Name.{Labels, name_cmp, name_eq}
use Rattle.net_model.specs.declared.config.Config.{Config}
use Rattle.net_model.specs.declared.config.Zone.{Zone}
use Rattle.net_model.specs.Nearest.{held_zone}
use Rattle.config_load.specs.declared.loaded.RowFiles.{RowFiles}
use Rattle.zone_copies.specs.declared.version.Version.{Version}
use Rattle.zone_copies.specs.Versions.{octets_cmp, version_of}
use Rattle.map_run.specs.Copies.{equal_versions, is_equal_copy, line_beside, row_version, version_at}
use Rattle.map_run.specs.declared.lines.Line.{Line}
use Rattle.map_run.specs.declared.versions.CopyKey.{CopyKey}
use Rattle.map_run.specs.declared.versions.KnownCopies.{KnownCopies}

-- the row's zone has this origin
abbrev pub has_origin : Labels → RowFiles → Bool
has_origin origin row = name_eq origin row.origin

-- of each origin it is known what is compared of the first of the rows with it
abbrev pub KnowsFirsts : Config → List RowFiles → map.BTreeMap Labels (Option Version) → Type 0
KnowsFirsts config rows firsts = (origin : Labels) → map.get name_cmp firsts origin ≡ option_map (row_version config) (find (has_origin origin) rows)

-- the line of a copy beside what is known of the first with its origin
abbrev pub known_lines : ℕ → RowFiles → Option Version → Option (Option Version) → List Line
known_lines number row own first = option_map_or (λ one. line_beside number row one own) first []

-- what a zone with this origin has in common with its equal copies
abbrev pub key_of : Labels → Version → CopyKey
key_of origin version = record { origin = origin; others = version.others }

-- the order of such keys
abbrev pub key_cmp : CopyKey → CopyKey → Ordering
key_cmp a b = ordering_then (name_cmp a.origin b.origin) (slice_cmp octets_cmp a.others b.others)

-- the set has the key of a zone with this origin
abbrev pub has_key : tree.BTreeSet CopyKey → Labels → Option Version → Bool
has_key keys origin None = false
has_key keys origin (Some version) = tree.contains key_cmp keys (key_of origin version)

-- the set has the key of a zone with this origin more
abbrev pub HasMoreKeys : tree.BTreeSet CopyKey → tree.BTreeSet CopyKey → Labels → Option Version → Type 0
HasMoreKeys old new origin version =
    (other : Labels) (own : Option Version) → has_key new other own ≡ (has_key old other own || (name_eq other origin && equal_versions own version))

-- what is known of an origin that has a row of this server more
abbrev pub alone_after : Labels → Option (Option Labels) → Option Labels
alone_after server None = Some server
alone_after server (Some before) = None

-- what is compared of the zone with this origin at the server of the only row with it, if there is only one
abbrev pub version_alone : Config → Option Labels → Labels → Option Version
version_alone config None origin = None
version_alone config (Some server) origin = version_at config server origin

-- the row's zone is an equal copy of that of the only row with its origin, by what is known of that
abbrev pub is_copy_alone : Config → RowFiles → Option (Option Labels) → Bool
is_copy_alone config row None = false
is_copy_alone config row (Some alone) = equal_versions (row_version config row) (version_alone config alone row.origin)

-- there are two zones, and they have one version
abbrev pub AreLike : Option Zone → Option Zone → Type 0
AreLike (Some one) (Some other) = version_of one ≡ version_of other
AreLike one other = ⊥

-- the row's zone has the version of that of the only row with its origin
abbrev pub LikeAlone : Config → Option (Option Labels) → RowFiles → Type 0
LikeAlone config before row =
    (server : Labels) × (before ≡ Some (Some server)) × AreLike (held_zone config server row.origin) (held_zone config row.server row.origin)

-- of each row it is known whether one of these rows is an equal copy, and of each origin that none of them has that it is
-- so
pub record KnowsCopies (config : Config) (rows : List RowFiles) (known : KnownCopies) : Type 0 where
  pub each : (row : RowFiles) → list_any (is_equal_copy config row) rows
      ≡ (has_key known.keys row.origin (row_version config row) || is_copy_alone config row (map.get name_cmp known.alone row.origin))
  pub none : (origin : Labels) → map.get name_cmp known.alone origin ≡ None → list_any (has_origin origin) rows ≡ false
