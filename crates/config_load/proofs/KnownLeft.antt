-- The zones of known rows, where rows are taken: what is left of them.
use Rattle.std.proofs.Common.{◌≡◌, ℕ, ◌-◌, ◌≤◌, Bool, List, Contains, Option, Some, None, slice_get, refl, sym, ap, ◌∙◌, subst}
use Rattle.std.specs.Prelude.{option_and_then}
use Rattle.std.specs.List.{find}
use Rattle.std.specs.Option.{option_map}
use Rattle.dns_data.specs.Name.{Labels, name_eq}
use Rattle.dns_data.proofs.Membership.{flat_map_has}
use Rattle.dns_data.proofs.Searches.{found_there}
use Rattle.io_edges.specs.Files.{FilesTold}
use Rattle.meta_read.specs.declared.meta.MetaRow.{MetaRow}
use Rattle.net_model.specs.Nearest.{zone_with_origin}
use Rattle.net_model.specs.declared.config.Server.{Server}
use Rattle.net_model.specs.declared.config.Zone.{Zone}
use Rattle.config_load.specs.Conf.{row_files, row_skips}
use Rattle.config_load.specs.Earlier.{IsAlike, IsZoneNamed, WasRead}
use Rattle.config_load.specs.Hosted.{held_in}
use Rattle.config_load.specs.Left.{IsReadLeft, rows_left, zones_in}
use Rattle.config_load.specs.declared.earlier.EarlierRow.{EarlierRow}
use Rattle.config_load.specs.declared.loaded.RowFiles.{RowFiles}
use Rattle.config_load.specs.declared.rows.ReadRows.{ReadRows}
use Rattle.config_load.specs.declared.zone.ReadZone.{ReadZone}
use Rattle.config_load.proofs.KnownRows.{known_again}
use Rattle.config_load.proofs.LeftRows.{held_left}

-- a zone that is found to be held is a zone of the servers
held_there : (servers : List Server) (name origin : Labels) (zone : Zone) → held_in servers name origin ≡ Some zone → Contains (zones_in servers) zone
held_there servers name origin zone is = by (find (λ (server : Server). name_eq server.name name) servers) refl is where
  by : (found : Option Server) → find (λ (server : Server). name_eq server.name name) servers ≡ found
      → option_and_then (λ (holder : Server). zone_with_origin holder origin) found ≡ Some zone → Contains (zones_in servers) zone
  by None e got = absurd cc
  by (Some server) e got =
      flat_map_has (λ (s : Server). s.zones) servers server zone (found_there (λ (s : Server). name_eq s.name name) servers server e).0
      (found_there (λ (z : Zone). name_eq z.origin origin) server.zones zone got).0

module _ (skips : Labels → Bool) (meta : List ℕ) (told : FilesTold) (all : List MetaRow) (row : MetaRow) (left : Zone → Zone) (origin_is : (zone : Zone) → (left zone).origin ≡ zone.origin)
    (whole rows : ReadRows) (are : rows ≡ rows_left left whole) (known : EarlierRow) (named : RowFiles) (again : ReadZone)
    (each : (earlier : MetaRow) → slice_get all known.row ≡ Some earlier → WasRead (row_skips skips) meta told earlier whole known) (alike : IsAlike all known.row row)
    (there : slice_get rows.rows known.row ≡ Some named) (records : known.records ≤ rows.left.records) (includes : known.includes ≤ rows.left.includes)
    (is : IsZoneNamed known named rows again) where
  abbrev was : WasRead (row_skips skips) meta told alike.earlier whole known
  was = each alike.earlier alike.there

  named_there : slice_get whole.rows known.row ≡ Some named
  named_there = ap (λ (r : ReadRows). slice_get r.rows known.row) (sym are) ∙ there

  same : row_files alike.earlier.server was.read ≡ named
  same = let e : Some (row_files alike.earlier.server was.read) ≡ Some named = sym was.named ∙ named_there in cc

  held : held_in whole.servers named.server named.origin ≡ Some was.read.zone
  held = (λ i. held_in whole.servers (sym same i).server (sym same i).origin) ∙ was.held

  zone_is : left was.read.zone ≡ again.zone
  zone_is =
      let e : Some (left was.read.zone) ≡ Some again.zone =
      ap (option_map left) (sym held) ∙ sym (held_left left origin_is whole.servers named.server named.origin)
      ∙ ap (λ (r : ReadRows). held_in r.servers named.server named.origin) (sym are) ∙ is.held in
      cc

  -- the zone that was read, with what was read of it
  abbrev read : ReadZone
  read = record { zone = was.read.zone; names = again.names; left = again.left }

  its : IsZoneNamed known named whole read
  its = record {
    held = held;
    names = is.names;
    left = is.left ∙ ap (λ (r : ReadRows). record r.left { records = r.left.records - known.records; includes = r.left.includes - known.includes }) are;
  }

  -- what is left of the zone of a known row is what is left of what reading gives for a row of its file and origin, if as
  -- much may be read still as was read
  pub known_left : IsReadLeft (row_skips skips) meta told row left whole again
  known_left = record {
    read = read;
    reads = known_again skips meta told all row whole known named read each alike named_there
        (subst (λ (r : ReadRows). known.records ≤ r.left.records) are records) (subst (λ (r : ReadRows). known.includes ≤ r.left.includes) are includes) its;
    is = λ i. record { zone = sym zone_is i; names = again.names; left = again.left };
    there = held_there whole.servers named.server named.origin was.read.zone held;
  }
