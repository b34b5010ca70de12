-- Classes whose representatives reach more pairs of state and type than are looked at.
use Rattle.std.specs.Prelude.{◌≢◌}
use Rattle.std.specs.declared.cmp.Ordering.TheVariants.{Less}
use Rattle.dns_data.specs.Name.{Labels}
use Rattle.net_model.specs.declared.class.Class.{Class}
use Rattle.net_model.specs.Class.{class_cmp, class_name, IsRepresentative}
use Rattle.query_classes.specs.Children.{IsInTree}
use Rattle.same_answers.specs.Compared.{Compared, joint}
use Rattle.same_answers.specs.Verdict.{PassesInOne}

-- the representative of a class of the joint tree reaches more pairs than are looked at, in one of the configurations
pub record ClassPassesInOne (two : Compared) (class : Class) (query : Labels) : Type 0 where
  pub is_class : IsInTree (joint two) (class_name class)
  pub represents : IsRepresentative (joint two) class query
  pub passes : PassesInOne two query

-- the representative of some class of the joint tree reaches more pairs than are looked at, in one of the
-- configurations
abbrev pub SomeClassPassesInOne : Compared → Type 0
SomeClassPassesInOne two = (class : Class) × (query : Labels) × ClassPassesInOne two class query

-- the query is the first representative in class order that reaches more pairs than are looked at, in one of the
-- configurations
pub record IsFirstPassedInOne (two : Compared) (query : Labels) : Type 0 where
  pub class : Class
  pub passes : ClassPassesInOne two class query
  pub first : (other : Class) (name : Labels) → ClassPassesInOne two other name → class_cmp other class ≢ Less
