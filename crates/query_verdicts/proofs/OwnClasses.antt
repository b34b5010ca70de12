-- Whether a query represents its class is told by the name that does.
use Rattle.std.proofs.Common.{◌≡◌, ◌∙◌, Bool, true, sym, subst}
use Rattle.std.specs.Prelude.{◌↔◌}
use Rattle.dns_data.specs.Name.{Labels, name_eq}
use Rattle.dns_data.proofs.Names.{name_eq_decides}
use Rattle.net_model.specs.declared.class.Class.{Class}
use Rattle.net_model.specs.Class.{IsRepresentative}
use Rattle.net_model.specs.Reading.{Ground}
use Rattle.net_model.proofs.TrialOrder.{one_representative}
use Rattle.query_classes.specs.Members.{RepresentsClass}

-- a class has one representative, so the query is it where it is the same name
pub same_represents : (ground : Ground) (class : Class) (name query : Labels) (answer : Bool) → RepresentsClass ground class name
    → answer ≡ name_eq name query → (answer ≡ true) ↔ IsRepresentative ground class query
same_represents ground class name query answer stands is = (
  λ e. subst (IsRepresentative ground class) ((name_eq_decides name query).0 (sym is ∙ e)) stands.represents,
  λ other. is ∙ (name_eq_decides name query).1 (one_representative ground class name query stands.represents other),
)
