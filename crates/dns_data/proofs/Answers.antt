-- Definitions that go on step by step, and the calls that answer what they say.
use Rattle.std.proofs.Common.{◌≡◌, ◌⊎◌, Bool, true, false, Option, Some, None, Result, Ok, Err, cond, inl, inr, ap, sym, subst}
use Rattle.std.specs.Option.{ok_or}
use Rattle.std.specs.Result.{IfErr, IsErrAnd}
use Rattle.dns_data.specs.Answers.{AnswersOr, ◌>>=◌, with_fault}

-- a fault that ends the first step ends the whole
pub fault_first : {T U E : Type 0} (free fault : E) (said : Result T E) (next : T → Result U E) → (fault ≡ free) ⊎ (said ≡ Err fault) → (fault ≡ free) ⊎ ((said >>= next) ≡ Err fault)
fault_first free fault said next (inl e) = inl e
fault_first {T} {E = E} free fault said next (inr e) = inr (ap (λ (first : Result T E). first >>= next) e)

-- what holds of the fault of each step holds of that of the whole
pub if_err_then : {T U E : Type 0} (P : E → Type 0) (said : Result T E) (next : T → Result U E) → IfErr said P → ((value : T) → IfErr (next value) P) → IfErr (said >>= next) P
if_err_then P (Ok value) next first others = others value
if_err_then P (Err fault) next first others = first

-- what holds of faults as they are told holds of the step whose fault is told so
pub if_err_told : {T E F : Type 0} (P : F → Type 0) (told : E → F) (said : Result T E) → IfErr said (λ fault. P (told fault)) → IfErr (with_fault told said) P
if_err_told P told (Ok value) h = tt
if_err_told P told (Err fault) h = h

-- what holds of the fault that stands for no value
pub if_err_or : {T E : Type 0} (P : E → Type 0) (o : Option T) (fault : E) → P fault → IfErr (ok_or o fault) P
if_err_or P None fault h = h
if_err_or P (Some value) fault h = tt

-- what holds of the faults of both sides
pub if_err_either : {T E : Type 0} (P : E → Type 0) (test : Bool) (first second : Result T E) → IfErr first P → IfErr second P → IfErr (cond test first second) P
if_err_either P true first second h k = h
if_err_either P false first second h k = k

-- what holds of the free fault and of the definition's holds of the call's
pub if_err_answered : {T E : Type 0} (P : E → Type 0) (free : E) (result said : Result T E) → AnswersOr free result said → P free → IfErr said P → IfErr result P
if_err_answered P free (Ok value) said answered h k = tt
if_err_answered P free (Err fault) said (inl e) h k = subst P (sym e) h
if_err_answered {T} {E} P free (Err fault) said (inr e) h k = subst (λ (r : Result T E). IfErr r P) e k

-- what holds of a fault holds of the answer that hands it on
pub if_err_handed_on : {T E : Type 0} (P : E → Type 0) (fault : E) (result : Result T E) → IsErrAnd result (λ other. other ≡ fault) → P fault → IfErr result P
if_err_handed_on P fault (Ok value) is holds = tt
if_err_handed_on P fault (Err other) is holds = subst P (sym is) holds
