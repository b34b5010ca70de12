-- Lists in an order, each item once.
use Rattle.std.specs.Prelude.{List, [], ◌∷◌}
use Rattle.std.specs.declared.cmp.Ordering.{Ordering}
use Rattle.std.specs.declared.cmp.Ordering.TheVariants.{Less, Equal, Greater}

-- where an item goes beside the first of a list: before it, nowhere where it is there, or somewhere behind it
abbrev pub beside : {A : Type 0} → A → A → List A → List A → Ordering → List A
beside item first rest behind Less = item ∷ first ∷ rest
beside item first rest behind Equal = first ∷ rest
beside item first rest behind Greater = first ∷ behind

-- the list in order with the item in its place, unless it is there
abbrev pub put_in_order : {A : Type 0} → (A → A → Ordering) → A → List A → List A
put_in_order cmp item [] = item ∷ []
put_in_order cmp item (first ∷ rest) = beside item first rest (put_in_order cmp item rest) (cmp item first)

-- the items in order, each once
abbrev pub in_order : {A : Type 0} → (A → A → Ordering) → List A → List A
in_order cmp [] = []
in_order cmp (item ∷ rest) = put_in_order cmp item (in_order cmp rest)
