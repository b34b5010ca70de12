-- What a sink passes on.
use Rattle.std.specs.Prelude.{◌≡◌, ℕ, List, ◌++◌, Option}
use Rattle.std.specs.Io.KnownBytes.{Appends}

-- a front of these octets was passed on, be it none of them or all
pub record PassedFront (before after : Option (List ℕ)) (octets : List ℕ) : Type 0 where
  pub front : List ℕ
  pub rest : List ℕ
  pub splits : octets ≡ front ++ rest
  pub passed : Appends before after front
