-- Prefixes of a name: which of them exist, and prefixes of prefixes.
use Rattle.std.proofs.Common.{◌≡◌, Bool, true, false, ◌&&◌, [], ◌∷◌, ◌++◌, length, Contains, sym, refl, ap, ◌∙◌, inl, inr, arith, append-nil, append_assoc, length-append}
use Rattle.std.proofs.lemmas.Bool.{and_parts, and_from, or_cases, or_left, or_right}
use Rattle.dns_data.specs.Name.{Labels, name_eq, is_prefix}
use Rattle.dns_data.specs.declared.rdata.Rr.{Rr}
use Rattle.dns_data.proofs.NameFronts.{Begins, is_prefix_tells, is_prefix_told}
use Rattle.dns_data.proofs.Names.{name_eq_decides}
use Rattle.dns_data.proofs.Searches.{from_any, any_has}
use Rattle.net_model.specs.declared.config.Zone.{Zone}
use Rattle.net_model.specs.Zone.{exists_in}

-- a name that begins a prefix of a name begins the name
pub prefix_of_prefix : (above name whole : Labels) → Begins above name → Begins name whole → Begins above whole
prefix_of_prefix above name whole (below, e) (rest, f) =
    (below ++ rest, sym (append_assoc above below rest) ∙ ap (λ (x : Labels). x ++ rest) e ∙ f)

-- a name at or below the origin exists where an owner is at or below it
pub owner_below_exists : (zone : Zone) (name : Labels) (rr : Rr) → is_prefix zone.origin name ≡ true → Contains zone.rrs rr
    → is_prefix name rr.owner ≡ true → exists_in zone name ≡ true
owner_below_exists zone name rr inside among begins =
    or_right (name_eq name zone.origin) _ (and_from _ _ inside (any_has (λ (r : Rr). is_prefix name r.owner) zone.rrs rr among begins))

-- a list in front of a list that is in front of it is that list
same_fronts : (above below rest : Labels) → (above ++ below) ++ rest ≡ above → below ≡ []
same_fronts above [] rest e = refl
same_fronts above (label ∷ below) rest e =
    absurd (omega (arith, ap length e, length-append (above ++ (label ∷ below)) rest, length-append above (label ∷ below)))

-- the prefix of an existing name at or below the origin exists
pub prefix_exists : (zone : Zone) (above below : Labels) → is_prefix zone.origin above ≡ true → exists_in zone (above ++ below) ≡ true
    → exists_in zone above ≡ true
prefix_exists zone above below inside exists =
    elim (or_cases (name_eq (above ++ below) zone.origin) _ exists) [
      | inl is ↦ (
          let whole : above ++ below ≡ zone.origin = (name_eq_decides (above ++ below) zone.origin).0 is in
          let begins = is_prefix_tells zone.origin above inside in
          let none : below ≡ [] = same_fronts above below begins.0 (ap (λ (x : Labels). x ++ begins.0) whole ∙ begins.1) in
          or_left (name_eq above zone.origin) _
          ((name_eq_decides above zone.origin).1 (sym (append-nil above) ∙ ap (λ (x : Labels). above ++ x) (sym none) ∙ whole)))
      | inr owned ↦ (
          let parts = and_parts (is_prefix zone.origin (above ++ below)) _ owned in
          let found = from_any (λ (rr : Rr). is_prefix (above ++ below) rr.owner) zone.rrs parts.1 in
          owner_below_exists zone above found.0 inside found.1
          (is_prefix_told above found.0.owner
          (prefix_of_prefix above (above ++ below) found.0.owner (below, refl) (is_prefix_tells (above ++ below) found.0.owner found.2))))
    ]

-- a test of three parts, of which the second holds, is the test of the other two
pub shorter_passes : (a b c : Bool) → b ≡ true → (a && b && c) ≡ (a && c)
shorter_passes true b c e = ap (λ x. x && c) e
shorter_passes false b c e = refl
