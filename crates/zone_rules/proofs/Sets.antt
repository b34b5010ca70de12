-- What a test says together with what holds.
use Rattle.std.proofs.Common.{◌≡◌, Bool, true, false, ◌&&◌, refl}

-- a test together with one that is passed is the test alone
pub and-yes : (a b : Bool) → b ≡ true → (a && b) ≡ a
and-yes true b e = e
and-yes false b e = refl
