-- Places that are listed for names.
use Rattle.std.specs.Prelude.{◌≡◌, ◌↔◌, ◌⊎◌, ℕ, List, Contains}
use Rattle.std.specs.BTreeMap as map
use Rattle.dns_data.specs.Listed.{places_of}
use Rattle.dns_data.specs.Name.{Labels}

-- the lists are as before, but that the place is listed for these names too
abbrev pub IsListedFor : ℕ → List Labels → map.BTreeMap Labels (List ℕ) → map.BTreeMap Labels (List ℕ) → Type 0
IsListedFor place names old new =
    (name : Labels) (other : ℕ) → Contains (places_of new name) other ↔ (Contains (places_of old name) other ⊎ ((other ≡ place) × Contains names name))
