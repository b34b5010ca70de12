-- What files tell, by computing.
use Rattle.std.proofs.Common.{◌≡◌, [], ◌∷◌, codes, Some, None, Ok, Err, refl}
use Rattle.part_names.specs.PartNames.{names_in}
use Rattle.part_names.specs.declared.fault.NamesFault.TheVariants.{Line}

-- the bounds, a held name and one that the whole doesn't have, in any order, with an empty line between
a_part_is_read :
    names_in (codes "from a.\nkeep x.a.\n\naway c.\nto b.\n")
    ≡ Ok (record { from = Some (codes "a" ∷ []); to = Some (codes "b" ∷ []); held = (codes "a" ∷ codes "x" ∷ []) ∷ []; away = (codes "c" ∷ []) ∷ [] })
a_part_is_read = refl

-- an empty file tells no name
nothing_is_read : names_in [] ≡ Ok (record { from = None; to = None; held = []; away = [] })
nothing_is_read = refl

-- a bound is told once
two_bounds_are_a_fault : names_in (codes "from a.\nfrom b.\n") ≡ Err (Line 2)
two_bounds_are_a_fault = refl

-- a word needs a name behind a space, and no other word is known
no_name_is_a_fault : names_in (codes "keep a.\nkeep\n") ≡ Err (Line 2)
no_name_is_a_fault = refl

other_words_are_a_fault : names_in (codes "hold a.\n") ≡ Err (Line 1)
other_words_are_a_fault = refl
