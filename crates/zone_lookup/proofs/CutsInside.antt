-- The zone cut by which a zone refers a name is below the zone's origin.
use Rattle.std.proofs.Common.{◌≡◌, ◌<◌, true, ◌++◌, length, List, sym, ap, ◌∙◌, Some, inl, inr, arith, length-append}
use Rattle.std.specs.Prelude.{◌⊎◌, ◌&&◌, nat_lt}
use Rattle.std.proofs.lemmas.Bool.{and_parts, ltb-true}
use Rattle.dns_data.specs.Name.{Labels, is_prefix}
use Rattle.dns_data.specs.declared.rr_type.RrType.{RrType}
use Rattle.dns_data.specs.declared.rr_type.RrType.TheVariants as types
use Rattle.dns_data.proofs.NameFronts.{Begins, is_prefix_told, two_fronts}
use Rattle.dns_data.proofs.Searches.{found_there}
use Rattle.net_model.specs.Lookup.{deciding, dname_owner, found, zone_cut}
use Rattle.net_model.specs.Prefix.{prefixes}
use Rattle.net_model.specs.Zone.{owns}
use Rattle.net_model.specs.declared.config.Zone.{Zone}
use Rattle.net_model.specs.declared.found.Found.TheVariants as found_as
use Rattle.net_model.proofs.Prefixes.{from_prefixes}
use Rattle.net_model.proofs.StepBounds.{cut_refers, is_the_cut}

-- of two fronts of a name the shorter begins the longer
shorter_begins : (a b name : Labels) → Begins a name → Begins b name → length a < length b → is_prefix a b ≡ true
shorter_begins a b name (x, e) (y, f) less = by (two_fronts a x b y (e ∙ sym f)) where
  by : ((rest : Labels) × (a ++ rest ≡ b)) ⊎ ((rest : Labels) × (b ++ rest ≡ a)) → is_prefix a b ≡ true
  by (inl begins) = is_prefix_told a b begins
  by (inr (rest, is)) = absurd (omega (arith, less, ap (λ (n : Labels). length n) is, length-append b rest))

-- the zone cut of a referral is below the zone's origin
pub cut_inside : (zone : Zone) (name : Labels) (rtype : RrType) (cut : Labels) (names : List Labels) → Begins zone.origin name
    → found zone name rtype ≡ found_as.Referral cut names → is_prefix zone.origin cut ≡ true
cut_inside zone name rtype cut names begins e =
    let is : zone_cut zone name ≡ Some cut =
    is_the_cut zone name rtype cut names (zone_cut zone name) (dname_owner zone name) (cut_refers zone name rtype cut names (deciding zone name) e) in
    let both = found_there (λ (above : Labels). nat_lt (length zone.origin) (length above) && owns zone above types.Ns) (prefixes name) cut is in
    shorter_begins zone.origin cut name begins (from_prefixes name cut both.0)
    (ltb-true (length zone.origin) (length cut) (and_parts (nat_lt (length zone.origin) (length cut)) (owns zone cut types.Ns) both.1).0)
