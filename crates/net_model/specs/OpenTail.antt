-- Labels below a known name where nothing exists, as a class of names has them below its name: what decides at the name
-- with such a tail is known from the known name alone (RFC 1034 section 4.3.2, RFC 4592 section 3.3, RFC 6672
-- section 3.2).
use Rattle.std.specs.Prelude.{◌≡◌, Bool, true, false, not, ◌&&◌, nat_le, ℕ, List, [], ◌∷◌, ◌++◌, length, Option, Some, None}
use Rattle.dns_data.specs.Name.{Labels, is_prefix}
use Rattle.dns_data.specs.declared.rr_type.RrType.TheVariants as types
use Rattle.net_model.specs.declared.config.Zone.{Zone}
use Rattle.net_model.specs.Lookup.{Deciding, zone_cut, closest_encloser, synthesized, shorter_decides}
use Rattle.net_model.specs.Prefix.{shortest}
use Rattle.net_model.specs.Zone.{owns, exists_in}

-- the labels are an open tail of the known name: there are some, and the first of them makes no name of the zone
pub record IsOpenTail (zone : Zone) (known tail : Labels) : Type 0 where
  pub first : List ℕ
  pub rest : Labels
  pub is : tail ≡ first ∷ rest
  pub inside : is_prefix zone.origin known ≡ true
  pub free : exists_in zone (known ++ first ∷ []) ≡ false

-- the test whether the labels are an open tail of the known name
abbrev pub is_open_tail : Zone → Labels → Labels → Bool
is_open_tail zone known [] = false
is_open_tail zone known (first ∷ rest) = is_prefix zone.origin known && not (exists_in zone (known ++ first ∷ []))

-- the owner whose DNAME record redirects all names below the known one: its shortest prefix, itself and the origin
-- allowed, that owns one (RFC 6672 section 3.2, step 3c)
abbrev pub redirecting : Zone → Labels → Option Labels
redirecting zone known = shortest (λ above. nat_le (length zone.origin) (length above) && owns zone above types.Dname) known

-- with neither a zone cut nor a DNAME owner, the known name's source of synthesis decides, never its own records
abbrev pub open_decided : Zone → Labels → Option Deciding → Deciding
open_decided zone known (Some above) = above
open_decided zone known None = synthesized zone (closest_encloser zone known)

-- what decides at the known name with an open tail
abbrev pub open_deciding : Zone → Labels → Deciding
open_deciding zone known = open_decided zone known (shorter_decides zone (zone_cut zone known) (redirecting zone known))
