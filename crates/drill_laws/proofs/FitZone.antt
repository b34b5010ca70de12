-- The records of a drill's zones fit.
use Rattle.std.proofs.Common.{◌≡◌, ℕ, ◌%◌, Bool, true, false, ◌&&◌, ◌||◌, not, List, [], ◌∷◌, codes, decimal, Some, None, Ok, if◌then◌else◌, ◌==◌, refl, ap}
use Rattle.std.proofs.Math.Bool.{and-false}
use Rattle.dns_data.specs.Label.{label_eq}
use Rattle.dns_data.specs.Name.{Labels}
use Rattle.dns_data.specs.declared.rdata.Rr.{Rr}
use Rattle.dns_data.proofs.Names.{label_eq_decides}
use Rattle.zone_rules.specs.ZoneOf.{zone_of}
use Rattle.zone_rules.specs.declared.fault.RuleCause.TheVariants.{SoaElsewhere, CnameAndOther}
use Rattle.zone_maker.specs.Drill.{next_zone, own_network}
use Rattle.drill_laws.proofs.Rows.{row_rr, rows_rrs}
use Rattle.drill_laws.proofs.Names.{zone_label, zone_name}
use Rattle.drill_laws.proofs.DrillRows.{delegation_row, address_row, soa_row, alias_row, gone_rows, zone_rows}
use Rattle.drill_laws.proofs.Fitting.{Fits, AllFit, NoSoas, new_owner_fits, zone_fits}

module _ (n i : ℕ) where
  abbrev number : List ℕ
  number = decimal i

  abbrev origin : Labels
  origin = zone_name number

  -- whether the zone's label is itself
  abbrev own : Bool
  own = label_eq (zone_label number) (zone_label number)

  own_is : own ≡ true
  own_is = (label_eq_decides (zone_label number) (zone_label number)).1 refl

  below : (own && true) ≡ true
  below = ap (λ (b : Bool). b && true) own_is

  -- an owner is none of a name with fewer or with other labels in the zone
  other : (own && false) ≡ false
  other = and-false own

  abbrev soa : Rr
  soa = row_rr 2 (soa_row number)

  abbrev delegation : Rr
  delegation = row_rr 3 (delegation_row number)

  abbrev server : Rr
  server = row_rr 4 (address_row (codes "ns") (own_network i) i)

  abbrev web : Rr
  web = row_rr 5 (address_row (codes "www") 1 i)

  abbrev alias : Rr
  alias = row_rr 6 (alias_row (codes "alias") number (codes "www") (decimal (next_zone n i)))

  abbrev gone : Rr
  gone = row_rr 7 (alias_row (codes "gone") number (codes "none") number)

  soa_fits : Fits origin [] soa
  soa_fits = record {
    new = refl;
    below = below;
    rules = ap (λ (b : Bool). if not b then Some SoaElsewhere else None) below;
  }

  delegation_fits : Fits origin (soa ∷ []) delegation
  delegation_fits = record {
    new = ap (λ (b : Bool). b || false) (and-false (own && true));
    below = below;
    rules = ap (λ (b : Bool). if b || false then Some CnameAndOther else None) (and-false (own && true));
  }

  server_fits : Fits origin (soa ∷ delegation ∷ []) server
  server_fits = new_owner_fits origin (soa ∷ delegation ∷ []) server (other, (other, tt)) below refl refl refl

  web_fits : Fits origin (soa ∷ delegation ∷ server ∷ []) web
  web_fits = new_owner_fits origin (soa ∷ delegation ∷ server ∷ []) web (other, (other, (other, tt))) below refl refl refl

  alias_fits : Fits origin (soa ∷ delegation ∷ server ∷ web ∷ []) alias
  alias_fits = new_owner_fits origin (soa ∷ delegation ∷ server ∷ web ∷ []) alias (other, (other, (other, (other, tt)))) below refl refl refl

  gone_fits : Fits origin (soa ∷ delegation ∷ server ∷ web ∷ alias ∷ []) gone
  gone_fits = new_owner_fits origin (soa ∷ delegation ∷ server ∷ web ∷ alias ∷ []) gone (other, (other, (other, (other, (other, tt))))) below refl refl refl

  last_fit : AllFit origin (soa ∷ delegation ∷ server ∷ web ∷ alias ∷ []) (rows_rrs 7 (gone_rows i))
  last_fit = by (i % 10 == 3) where
    by : (b : Bool) → AllFit origin (soa ∷ delegation ∷ server ∷ web ∷ alias ∷ []) (rows_rrs 7 (if b then alias_row (codes "gone") number (codes "none") number ∷ [] else []))
    by true = (gone_fits, tt)
    by false = tt

  last_no_soas : NoSoas (rows_rrs 7 (gone_rows i))
  last_no_soas = by (i % 10 == 3) where
    by : (b : Bool) → NoSoas (rows_rrs 7 (if b then alias_row (codes "gone") number (codes "none") number ∷ [] else []))
    by true = (refl, tt)
    by false = tt

  -- the records of the zone are a zone
  pub made_zone : zone_of None (rows_rrs 2 (zone_rows n i)) ≡ Ok (record { origin = origin; rrs = rows_rrs 2 (zone_rows n i) })
  made_zone =
      zone_fits soa (delegation ∷ server ∷ web ∷ alias ∷ rows_rrs 7 (gone_rows i)) refl
      (refl, (refl, (refl, (refl, last_no_soas)))) refl
      (soa_fits, (delegation_fits, (server_fits, (web_fits, (alias_fits, last_fit)))))
