-- What is told stays told, and what is read piece by piece is a front of it.
use Rattle.std.proofs.Common.{◌≡◌, ℕ, ◌<◌, ◌⊎◌, List, [], length, sym, ◌∙◌, inl, inr, arith}
use Rattle.std.proofs.Math.ListN.{length-take}
use Rattle.io_edges.specs.Files.{FilesTold, Told, Untold, NotHeld, Holds, IsToldAnd, StaysTold, TellsAll, first_told}

-- what is told over two steps stays told
pub StaysTold-then : (first between last : FilesTold) → StaysTold first between → StaysTold between last → StaysTold first last
StaysTold-then first between last a b name = at_name (a name) (b name) where
  at_name : (first name ≡ Untold) ⊎ (between name ≡ first name) → (between name ≡ Untold) ⊎ (last name ≡ between name) → (first name ≡ Untold) ⊎ (last name ≡ first name)
  at_name (inl untold) next = inl untold
  at_name (inr same) (inl untold) = inl (sym same ∙ untold)
  at_name (inr same) (inr kept) = inr (kept ∙ same)

-- what told all tells the same from then on
pub TellsAll-same : (before after : FilesTold) → TellsAll before → StaysTold before after → after ≡ before
TellsAll-same before after all stays = λ i name. at_name name (stays name) i where
  at_name : (name : List ℕ) → (before name ≡ Untold) ⊎ (after name ≡ before name) → after name ≡ before name
  at_name name (inl untold) = absurd (all name untold)
  at_name name (inr same) = same

-- a number below that of the octets read of a file is below the number of its octets
pub first_told-long : (told : Told) (at n : ℕ) → length (first_told told at) ≡ at → n < at → IsToldAnd told (λ octets. n < length octets)
first_told-long Untold at n long less = absurd (omega arith)
first_told-long NotHeld at n long less = absurd (omega arith)
first_told-long (Holds octets) at n long less = omega (arith, length-take at octets)
