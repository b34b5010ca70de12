-- Plain octets that the code's loops pass over at once.
use Rattle.std.specs.Prelude.{◌≡◌, ℕ, ◌-◌, ◌≤◌, List, [], length, take, Bool}
use Rattle.std.specs.List.{prefix_len}
use Rattle.master_lex.specs.Octets.{kind, stands}
use Rattle.master_lex.specs.States.{LexState, pushed, run}
use Rattle.master_lex.specs.declared.scanner.TheConstants.{MOST}

-- the state with these octets more in the token under way, which they may begin
abbrev pub with_plain : LexState → List ℕ → Bool → LexState
with_plain s [] quoted = s
with_plain s octets quoted = pushed s octets quoted

-- this many octets in front stand for themselves, and are more of the token, within its limit
pub record KeptPlain (old new : LexState) (octets : List ℕ) (quoted : Bool) (count : ℕ) : Type 0 where
  pub plain : count ≤ prefix_len (λ octet. stands quoted (kind octet)) octets
  pub short : count ≤ MOST - length old.raw
  pub kept : new ≡ with_plain old (take count octets) quoted

-- so many octets in front were passed over
pub record PassedFirst (old new : LexState) (octets : List ℕ) (count : ℕ) : Type 0 where
  pub within : count ≤ length octets
  pub passed : new ≡ run old (take count octets)
