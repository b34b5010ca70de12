-- Where the verdict of a name says nothing, no fault is found.
use Rattle.std.proofs.Common.{◌≡◌, ◌++◌, [], Option, Some, None, refl, ap, ◌∙◌}
use Rattle.std.specs.Prelude.{IfSome}
use Rattle.query_verdicts.specs.FiledVerdict.{TellsNothing}
use Rattle.query_verdicts.specs.Rows.{found_at, found_below, found_in}
use Rattle.query_verdicts.specs.declared.verdict.ClassVerdict.{ClassVerdict}
use Rattle.query_verdicts.specs.declared.verdict.ClassVerdict.TheVariants.{Faults}
use Rattle.query_verdicts.specs.declared.verdict.NameVerdict.{NameVerdict}
use Rattle.dns_data.specs.Name.{Labels}
use Rattle.net_model.specs.declared.class.Class.TheVariants.{Exact, Below}

none_below : (name : Labels) (below : Option ClassVerdict) → IfSome below (λ class. class ≡ Faults []) → found_below name below ≡ []
none_below name None nothing = refl
none_below name (Some class) nothing = ap (found_in (Below name)) nothing

-- where a verdict tells nothing of a name, no fault is found at the name
pub none_found : (name : Labels) (verdict : NameVerdict ClassVerdict) → TellsNothing verdict → found_at name verdict ≡ []
none_found name verdict nothing =
    ap (λ class. found_in (Exact name) class ++ found_below name verdict.below) nothing.exact
    ∙ none_below name verdict.below nothing.below
