-- No text's name is refused because memory ran out.
use Rattle.std.proofs.Common.{◌≡◌, ℕ, List, [], ◌∷◌, ◌++◌, length, reverse, cond, eqb, leb, nat_eq, codes, Result, Ok, Err}
use Rattle.std.specs.Result.{IfErr}
use lib.Pointwise.{pointwise}
use Rattle.dns_data.proofs.Answers.{if_err_either}
use Rattle.dns_data.specs.Name.{Labels, wire_octets}
use Rattle.dns_data.specs.Octet.{folded}
use Rattle.dns_data.specs.Spelling.{Sign, Dot, Octet, Broken, Spelled, signs, spelled, after_label, placed, name_of_text}
use Rattle.dns_data.specs.declared.fault.NameFault.{NameFault}
use Rattle.dns_data.specs.declared.fault.NameFault.TheVariants.{NoMemory}

-- the fault says something of the name
abbrev pub IsTold : NameFault → Type 0
IsTold fault = fault ≡ NoMemory → ⊥

-- what signs spell
spelled_told : (label : List ℕ) (text : List Sign) → IfErr (spelled label text) IsTold
spelled_told label [] = if_err_either IsTold (eqb (length label) 0) _ _ tt tt
spelled_told label (Dot ∷ rest) = if_err_either IsTold (eqb (length label) 0) _ _ (λ h. cc) (after (spelled [] rest) (spelled_told [] rest)) where
  after : (said : Result Spelled NameFault) → IfErr said IsTold → IfErr (after_label label said) IsTold
  after (Ok value) told = tt
  after (Err fault) told = told
spelled_told label (Octet value ∷ rest) = if_err_either IsTold (leb 63 (length label)) _ _ (λ h. cc) (spelled_told (label ++ folded value ∷ []) rest)
spelled_told label (Broken ∷ rest) = λ h. cc

placed_told : (origin : Labels) (said : Result Spelled NameFault) → IfErr said IsTold → IfErr (placed origin said) IsTold
placed_told origin (Ok value) told = if_err_either IsTold (leb (wire_octets (cond value.absolute (reverse value.labels) (origin ++ reverse value.labels))) 255) _ _ tt (λ h. cc)
placed_told origin (Err fault) told = told

-- the fault of a name's text says something of the text
pub name_told : (text : List ℕ) (origin : Labels) → IfErr (name_of_text text origin) IsTold
name_told text origin =
    if_err_either IsTold (eqb (length text) 0) _ _ (λ h. cc)
    (if_err_either IsTold (pointwise nat_eq text (codes ".")) _ _ tt
    (if_err_either IsTold (pointwise nat_eq text (codes "@")) _ _ tt
    (placed_told origin (spelled [] (signs text)) (spelled_told [] (signs text)))))
