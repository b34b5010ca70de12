-- A fault that a call answered is passed on.
use Rattle.std.proofs.Common.{◌≡◌, Ok, Err, sym, ap, ◌∙◌}
use Rattle.std.specs.Prelude.{Result}
use Rattle.std.specs.Result.{IsErrAnd}

-- the fault that is passed on is the one that was answered
pub passed_on : {T U E : Type 0} (r : Result T E) (fault free : E) → IsErrAnd r (λ y. y ≡ fault) → r ≡ Err free
    → (answered : Result U E) → answered ≡ Err fault → answered ≡ Err free
passed_on (Ok x) fault free and is answered was = absurd and
passed_on {E = E} (Err y) fault free and is answered was =
    let same : y ≡ free = cc in
    was ∙ ap (λ (e : E). Err e) (sym and ∙ same)
