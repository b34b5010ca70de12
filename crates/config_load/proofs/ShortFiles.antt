-- A file that is read within limits is short.
use Rattle.std.proofs.Common.{◌≡◌, ◌+◌, ◌<◌, ◌≤◌, ℕ, Bool, true, false, cond, List, length, refl, sym, subst, arith}
use Rattle.std.specs.Prelude.{◌^◌, nat_le}
use Rattle.std.proofs.Math.Nat.{min-le_right}
use Rattle.std.proofs.lemmas.Bool.{leb-true}
use Rattle.io_edges.specs.Files.{FilesTold, Told, Untold, NotHeld, Holds}
use Rattle.config_load.specs.Limits.{largest_octets, most_octets}
use Rattle.config_load.specs.Reading.{Reads, Refuses, file_octets, told_octets}
use Rattle.config_load.specs.declared.fault.LoadFault.TheVariants.{TooLong}
use Rattle.config_load.specs.declared.limits.Limits.{Limits}

-- a file has fewer octets than there are numbers of 32 bits, and one less
pub file_is_short : (limits : Limits) (file : List ℕ) (told : FilesTold) (octets here : List ℕ) → here ≡ octets → file_octets limits file told ≡ Reads octets → length here + 1 < 2 ^ 32
file_is_short limits file told octets here same reads = subst (λ (all : List ℕ). length all + 1 < 2 ^ 32) (sym same) (by (told file) reads) where
  by : (one : Told) → told_octets limits file one ≡ Reads octets → length octets + 1 < 2 ^ 32
  by Untold is = cc
  by NotHeld is = cc
  by (Holds held) is = within (nat_le (length held) (most_octets limits)) refl is where
    within : (b : Bool) → nat_le (length held) (most_octets limits) ≡ b → cond b (Reads held) (Refuses (TooLong file)) ≡ Reads octets → length octets + 1 < 2 ^ 32
    within true fits e =
        let few : length held ≤ most_octets limits = leb-true (length held) (most_octets limits) fits in
        let least : most_octets limits ≤ largest_octets = min-le_right limits.octets largest_octets in
        let all : held ≡ octets = cc in
        subst (λ (xs : List ℕ). length xs + 1 < 2 ^ 32) all (omega (arith, few, least))
    within false over e = cc
