-- What that which decides answers to several types. The contracts of inner calls alone cite it.
use Rattle.std.specs.Prelude.{◌≡◌, Bool, true, List}
use Rattle.std.specs.List.{AllByRecursion}
use Rattle.dns_data.specs.Name.{Labels, is_prefix}
use Rattle.dns_data.specs.TypeSet.{has_bit}
use Rattle.dns_data.specs.declared.rr_type.RrType.{RrType}
use Rattle.name_rules.specs.SymName.{whole}
use Rattle.name_rules.specs.declared.sym_name.SymName.{SymName}
use Rattle.net_model.specs.declared.config.Zone.{Zone}
use Rattle.net_model.specs.Lookup.{Deciding, answered}
use Rattle.zone_tree.specs.declared.decider.Decider.{Decider}
use Rattle.zone_tree.specs.declared.decider.Decider.TheVariants.{Redirection}
use Rattle.zone_tree.specs.Tree.{ZoneTree, name_of}
use Rattle.sym_query.specs.declared.typed_found.TypedFound.{TypedFound}
use Rattle.sym_query.specs.TypedFound.{answers_type, AreApart, AnswersSome, IsOpenExactly}

-- a DNAME owner that decides is at or above the known name
abbrev pub RedirectsKnown : ZoneTree → Decider → SymName → Type 0
RedirectsKnown tree (Redirection node) name = is_prefix (name_of tree node) name.known ≡ true
RedirectsKnown tree other name = Unit {0}

-- what decides answers the types of the set alike
abbrev pub AnswersAlike : Zone → Deciding → List Bool → Type 0
AnswersAlike zone decides set =
    (name : Labels) (s t : RrType) → has_bit set s ≡ true → has_bit set t ≡ true → answered zone name s decides ≡ answered zone name t decides

-- the answer is that of what decides to each of its types
abbrev pub AnswersAsDecided : Zone → Labels → Deciding → TypedFound → Type 0
AnswersAsDecided zone name decides answer =
    (rtype : RrType) → has_bit answer.types rtype ≡ true → answer.found ≡ answered zone name rtype decides

-- the answers are those of what decides to the types of the set, each once
pub record AreAnswers (zone : Zone) (name : SymName) (decides : Deciding) (types : List Bool) (answers : List TypedFound) : Type 0 where
  pub together : (rtype : RrType) → answers_type answers rtype ≡ has_bit types rtype
  pub apart : AreApart answers
  pub some : AllByRecursion AnswersSome answers
  pub found : AllByRecursion (AnswersAsDecided zone (whole name) decides) answers
  pub open_tail : AllByRecursion (IsOpenExactly name) answers
