-- Refusals handed on, from an item to all and from a claim to one from which it follows.
use Rattle.std.proofs.Common.{◌≡◌, ℕ, ◌<◌, List, length, get_or, All, Result, Ok, Err, sym, subst}
use Rattle.std.specs.Prelude.{IfErr, IsErrAnd}
use Rattle.std.proofs.lemmas.List.Elements.{All-get_or}
use Rattle.part_checks.specs.Rules.{Refutes}
use Rattle.part_checks.specs.declared.fault.PartFault.{PartFault}
use Rattle.part_checks.specs.declared.fault.PartFault.TheVariants.{Breaks, NoMemory}
use Rattle.part_checks.specs.declared.fault.PartRule.{PartRule}

-- with a claim each one is refuted from which it follows
pub refuted_by : (claim other : PartRule → Type 0) (fault : PartFault) → ((rule : PartRule) → other rule → claim rule) → Refutes claim fault → Refutes other fault
refuted_by claim other (Breaks rule name) more refuted = λ holds. refuted (more rule holds)
refuted_by claim other NoMemory more refuted = tt

-- and so by a fault that is handed on
pub refused_by : {T : Type 0} (claim other : PartRule → Type 0) (result : Result T PartFault) (fault : PartFault) → IsErrAnd result (λ passed. passed ≡ fault)
    → ((rule : PartRule) → other rule → claim rule) → Refutes claim fault → IfErr result (Refutes other)
refused_by claim other (Ok value) fault told more refuted = tt
refused_by claim other (Err passed) fault told more refuted = subst (Refutes other) (sym told) (refuted_by claim other fault more refuted)

-- what is claimed of all is refuted by an item
pub refused_item : {T X : Type 0} (P : PartRule → X → Type 0) (xs : List X) (k : ℕ) (x : X) → k < length xs → x ≡ get_or xs k x
    → (result : Result T PartFault) (fault : PartFault) → IsErrAnd result (λ passed. passed ≡ fault) → Refutes (λ rule. P rule x) fault
    → IfErr result (Refutes (λ rule. All (P rule) xs))
refused_item P xs k x low is result fault told refuted =
    refused_by (λ rule. P rule x) (λ rule. All (P rule) xs) result fault told (λ rule all. subst (P rule) (sym is) (All-get_or (P rule) xs k x low all)) refuted
