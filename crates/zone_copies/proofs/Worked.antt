-- Serials that were compared by hand (RFC 1982 section 3.2).
use Rattle.std.proofs.Common.{◌≡◌, true, false, refl}
use Rattle.zone_copies.specs.Serials.{is_less}
use Rattle.zone_copies.specs.Versions.{word_by_serials}
use Rattle.zone_copies.specs.declared.version.CopyWord.TheVariants.{Ahead, Apart, Behind, Forgotten}

next : is_less 1 2 ≡ true
next = refl

before : is_less 2 1 ≡ false
before = refl

past_the_last : is_less 4294967295 0 ≡ true
past_the_last = refl

farthest : is_less 0 2147483647 ≡ true
farthest = refl

half_apart : is_less 0 2147483648 ≡ false
half_apart = refl

half_apart_too : is_less 2147483648 0 ≡ false
half_apart_too = refl

beyond_half : is_less 2147483649 0 ≡ true
beyond_half = refl

-- How a copy with the second serial stands to the first, where they differ in more.

behind : word_by_serials 2 1 ≡ Behind
behind = refl

ahead : word_by_serials 4294967295 0 ≡ Ahead
ahead = refl

forgotten : word_by_serials 7 7 ≡ Forgotten
forgotten = refl

apart : word_by_serials 0 2147483648 ≡ Apart
apart = refl
