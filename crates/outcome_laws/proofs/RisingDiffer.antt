-- Items of which each stands before the later ones differ from each other.
use Rattle.std.proofs.Common.{◌≡◌, ◌≢◌, List, get_or, AllPairs, Ordering, Less, subst}
use Rattle.std.specs.Cmp.{IsTotalOrder}
use Rattle.dns_data.proofs.OrderedLists.{never_before_itself}

-- items that rise by a total order differ
pub rising_differ : {X : Type 0} (R : X → X → Ordering) → IsTotalOrder R → (xs : List X) → AllPairs (λ a b. R a b ≡ Less) xs → AllPairs (λ a b. a ≢ b) xs
rising_differ {X = X} R total xs rises i j d before within same =
    never_before_itself R total (get_or xs j d) (subst (λ (x : X). R x (get_or xs j d) ≡ Less) same (rises i j d before within))
