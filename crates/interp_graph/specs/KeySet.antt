-- Keys with their numbers. The contracts of inner calls alone cite it.
use Rattle.std.specs.Prelude.{◌≡◌, ℕ, Bool, true, false, List, [], ◌∷◌, ◌++◌, length, Some, slice_get}
use Rattle.net_model.specs.declared.walk.State.{State}
use Rattle.interp_graph.specs.declared.key_set.KeyStorage.{KeyStorage}
use Rattle.interp_graph.specs.declared.key_set.KeyStorage.TheVariants.{Few, Many}

-- the states of the keys, in the order of their numbers
abbrev pub keys_in : KeyStorage → List State
keys_in (Few keys) = keys.items
keys_in (Many keys) = keys.keys

-- the state of a key gets the number: it is new and goes behind the others, or it stands there
abbrev pub TakesKey : List State → List State → State → ℕ → Bool → Type 0
TakesKey before after key number true = (after ≡ before ++ key ∷ []) × (number ≡ length before)
TakesKey before after key number false = (after ≡ before) × (slice_get before number ≡ Some key)
