-- For the code alone, no public clause cites it: lists that stand at names.
use Rattle.std.specs.Prelude.{◌≡◌, ℕ, Bool, IsTrue, List, [], ◌∷◌, map, unwrap_or}
use Rattle.std.proofs.Common.{ap}
use Rattle.std.specs.HashMap as tables
use Rattle.std.specs.List.{filter}
use Rattle.dns_data.specs.Encoding.{encoded}
use Rattle.dns_data.specs.Name.{Labels, name_eq}
use Rattle.dns_data.proofs.Names.{name_eq_decides}
use denote.Bor.{Bor}

-- what is hashed of a name
abbrev pub name_writes : Labels → List (List ℕ)
name_writes name = encoded name ∷ []

-- of equal names the same is hashed
pub equal_writes : (a b : Labels) → IsTrue (name_eq a b) → name_writes a ≡ name_writes b
equal_writes a b e = ap name_writes ((name_eq_decides a b).0 e)

-- what is listed at a name
abbrev pub listed_at : {A S : Type 0} → tables.HashMap Labels (List A) S → Labels → List A
listed_at lists name = unwrap_or (tables.get name_eq lists name) []

-- at each name those of the items are listed that stand there, in order
abbrev pub Lists : {A S : Type 0} → (Labels → A → Bool) → List A → tables.HashMap Labels (List (Bor A)) S → Type 0
Lists stands items lists = (name : Labels) → map (λ one. one.now) (listed_at lists name) ≡ filter (stands name) items
