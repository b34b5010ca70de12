-- What decides on the way from the origin down to a name, and the first name that does. The contracts of inner calls alone
-- cite it.
use Rattle.std.specs.Prelude.{◌≡◌, ℕ, ◌<◌, Bool, true, ◌&&◌, ◌||◌, nat_lt, nat_le, List, [], length, slice_index_or, None}
use Rattle.std.specs.Option.{unwrap_or}
use Rattle.dns_data.specs.Name.{Labels, is_prefix}
use Rattle.dns_data.specs.declared.rr_type.RrType.TheVariants as types
use Rattle.net_model.specs.declared.config.Zone.{Zone}
use Rattle.net_model.specs.Prefix.{shortest}
use Rattle.net_model.specs.Zone.{owns, exists_in}

-- the name is a zone cut (RFC 1034 section 4.3.2, step 3b)
abbrev pub is_cut : Zone → Labels → Bool
is_cut zone above = nat_lt (length zone.origin) (length above) && owns zone above types.Ns

-- the name decides at those below it: as a zone cut, or as the owner of a DNAME record (RFC 6672 section 3.2, step 3c)
abbrev pub decides_below : Zone → Labels → Bool
decides_below zone above = is_cut zone above || (nat_le (length zone.origin) (length above) && owns zone above types.Dname)

-- the shortest prefix of the name from the origin down that is a zone cut or a DNAME owner, or the origin if there is
-- none
abbrev pub first_decider : Zone → Labels → Labels
first_decider zone name = unwrap_or (shortest (decides_below zone) name) zone.origin

-- the place among the names is that of a name's first decider
pub record IsFirstDecider (zone : Zone) (names : List Labels) (name : Labels) (place : ℕ) : Type 0 where
  pub within : place < length names
  pub is : slice_index_or names place [] ≡ first_decider zone name

-- the places are those of the first deciders of the names, in turn
pub record AreFirstDeciders (zone : Zone) (names : List Labels) (places : List ℕ) : Type 0 where
  pub many : length places ≡ length names
  pub each : (k d : ℕ) → k < length names → IsFirstDecider zone names (slice_index_or names k []) (slice_index_or places k d)

-- the name, at or below the origin, redirects another, as a DNAME owner above it
abbrev pub redirects : Zone → Labels → Labels → Bool
redirects zone name above = nat_le (length zone.origin) (length above) && nat_lt (length above) (length name) && owns zone above types.Dname

-- no prefix of a front of the name decides, and the front exists
pub record Undecided (zone : Zone) (name above : Labels) : Type 0 where
  pub inside : is_prefix zone.origin above ≡ true
  pub exists : exists_in zone above ≡ true
  pub no_cut : shortest (is_cut zone) above ≡ None
  pub no_redirection : shortest (redirects zone name) above ≡ None
