use Rattle.std.proofs.Common.{◌≡◌, ℕ, List, [], Option, Some, None, Ok, Err, MatchOption, ◌⊎◌, inl, inr, sym, ap, ◌∙◌, subst}
use Rattle.std.proofs.lemmas.Result.{IfOk-weaker}
use Rattle.dns_data.specs.Name.{IsName, Labels}
use Rattle.dns_data.specs.Spelling.{name_of_text, name_text}
use Rattle.dns_data.specs.declared.fault.NameFault.{NameFault}
use Rattle.dns_data.specs.declared.fault.NameFault.TheVariants.{NoMemory}
use Rattle.report_check.proofs.NamedQueries.{named_by, not_named}
use Rattle.report_check.proofs.asked.name_of.Goals as goal

-- the name that is read has the text, or none has
of_found : (text : List ℕ) (name : Labels) → name_of_text text [] ≡ Ok name → (found : Option Labels)
    → MatchOption found (text ≡ name_text name → ⊥) (λ own. (own ≡ name) × IsName name × (text ≡ name_text name))
    → MatchOption found ((other : Labels) → IsName other → text ≡ name_text other → ⊥) (λ own. IsName own × (text ≡ name_text own))
of_found text name reads None none = λ other is e. none (e ∙ ap name_text (named_by text name reads other is e))
of_found text name reads (Some own) (same, is, e) = (subst IsName (sym same) is, e ∙ ap name_text (sym same))

pub returns-in-Ok : goal.returns-in-Ok
returns-in-Ok c =
    let reads : name_of_text c.args.text.now [] ≡ Ok c.in-Ok.name =
    ap (λ (text : List ℕ). name_of_text text []) (sym c.as_bytes.ensures.value)
    ∙ ap (λ (origin : Labels). name_of_text c.as_bytes.result.now origin) (sym c.root.ensures) ∙ c.in-Ok.ensures in
    IfOk-weaker c.if_its_own.result _ _ (λ found h. of_found c.args.text.now c.in-Ok.name reads found h) c.if_its_own.ensures

-- a text that isn't read for another cause than `NoMemory` is that of no name
of_none : (text octets : List ℕ) (origin : Labels) (fault : NameFault) → octets ≡ text → origin ≡ [] → (fault ≡ NoMemory → ⊥)
    → (fault ≡ NoMemory) ⊎ (name_of_text octets origin ≡ Err fault) → (other : Labels) → IsName other → text ≡ name_text other → ⊥
of_none text octets origin fault same root some (inl memory) other is e = some memory
of_none text octets origin fault same root some (inr reads) other is e =
    not_named text fault (ap (λ (t : List ℕ). name_of_text t []) (sym same) ∙ ap (λ (n : Labels). name_of_text octets n) (sym root) ∙ reads) other is e

pub returns : goal.returns
returns c =
    of_none c.args.text.now c.as_bytes.result.now c.root.result c.in-Err.fault c.as_bytes.ensures.value c.root.ensures c.in_default.not-NoMemory c.in-Err.ensures
