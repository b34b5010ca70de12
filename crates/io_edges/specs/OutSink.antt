-- A sink over a writer.
use Rattle.std.specs.Prelude.{ℕ, List, Option}

-- a sink over a writer: what the writer holds, where that is known, and how many calls failed
pub record SinkOverWriter : Type 0 where
  pub contents : Option (List ℕ)
  pub failures : ℕ
