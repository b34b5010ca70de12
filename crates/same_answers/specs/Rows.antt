-- The names of the joint class tree with their verdicts, and what is looked for in them: for the contracts of inner calls
-- alone.
use Rattle.std.specs.Prelude.{◌≡◌, ◌≢◌, Bool, true, false, List, [], Option, MatchOption}
use Rattle.std.specs.declared.cmp.Ordering.TheVariants.{Less}
use Rattle.dns_data.specs.Name.{Labels}
use Rattle.dns_data.specs.declared.rr_type.RrType.{RrType}
use Rattle.net_model.specs.declared.class.Class.{Class}
use Rattle.net_model.specs.declared.class.Class.TheVariants.{Below}
use Rattle.net_model.specs.Class.{class_cmp, class_name, IsRepresentative}
use Rattle.query_classes.specs.Children.{IsInTree}
use Rattle.query_verdicts.specs.TreeVerdicts.{AreTreeRows, TreeRow}
use Rattle.same_answers.specs.Compared.{Compared, joint}
use Rattle.same_answers.specs.Verdict.{IsPairEnd}
use Rattle.same_answers.specs.declared.sameness.Sameness.{Sameness}
use Rattle.same_answers.specs.declared.sameness.Sameness.TheVariants as sameness_as
use Rattle.same_answers.specs.declared.search.SoughtClass.{SoughtClass}
use Rattle.same_answers.specs.declared.search.Sought.{Sought}
use Rattle.same_answers.specs.declared.search.Sought.TheVariants as sought_as
use Rattle.same_answers.specs.declared.verdict.PairEnd.{PairEnd}
use Rattle.same_answers.specs.declared.verdict.PairEnd.TheVariants.{Apart, StatesPassed}

-- the rows are the names of the joint class tree in order, each with its verdict
abbrev pub ArePairRows : {W : Type 0} → Compared → List (TreeRow W PairEnd) → Type 0
ArePairRows two rows = AreTreeRows (joint two) [] (IsPairEnd two) rows

-- the verdict of a class is one that is sought
abbrev pub is_sought : Sought → PairEnd → Bool
is_sought sought_as.Passed StatesPassed = true
is_sought sought_as.Apart (Apart rtype) = true
is_sought sought end = false

-- the query is the representative of the class, and the end is the class's verdict
pub record ClassEnds (two : Compared) (class : Class) (query : Labels) (end : PairEnd) : Type 0 where
  pub is_class : IsInTree (joint two) (class_name class)
  pub represents : IsRepresentative (joint two) class query
  pub is_end : IsPairEnd two query end

-- no class of the name has a verdict that is sought
abbrev pub NoneSoughtAt : Compared → Sought → Labels → Type 0
NoneSoughtAt two sought name =
    (class : Class) (query : Labels) (end : PairEnd) → class_name class ≡ name → ClassEnds two class query end → is_sought sought end ≡ true → ⊥

-- the found class is the first of the name whose verdict is sought
pub record IsFirstSoughtAt (two : Compared) (sought : Sought) (name : Labels) (found : SoughtClass) : Type 0 where
  pub class : Class
  pub of_name : class_name class ≡ name
  pub ends : ClassEnds two class found.query found.end
  pub is : is_sought sought found.end ≡ true
  pub first : (other : Class) (query : Labels) (end : PairEnd) → class_name other ≡ name → ClassEnds two other query end
      → is_sought sought end ≡ true → class_cmp other class ≢ Less

-- the found class is the first of the name whose verdict is sought, or there is none
abbrev pub IsSoughtAt : Compared → Sought → Labels → Option SoughtClass → Type 0
IsSoughtAt two sought name found = MatchOption found (NoneSoughtAt two sought name) (IsFirstSoughtAt two sought name)

-- what stands for the class below a name, of which this is the verdict, or nothing where nothing does
abbrev pub IsFoundBelow : Compared → Labels → PairEnd → Option SoughtClass → Type 0
IsFoundBelow two above end found =
    MatchOption found ((query : Labels) → IsRepresentative (joint two) (Below above) query → ⊥)
    (λ found. IsRepresentative (joint two) (Below above) found.query × (found.end ≡ end))

-- no class has a verdict that is sought
abbrev pub NoneSought : Compared → Sought → Type 0
NoneSought two sought = (class : Class) (query : Labels) (end : PairEnd) → ClassEnds two class query end → is_sought sought end ≡ true → ⊥

-- the found class is the first of all whose verdict is sought
pub record IsFirstSought (two : Compared) (sought : Sought) (found : SoughtClass) : Type 0 where
  pub class : Class
  pub ends : ClassEnds two class found.query found.end
  pub is : is_sought sought found.end ≡ true
  pub first : (other : Class) (query : Labels) (end : PairEnd) → ClassEnds two other query end → is_sought sought end ≡ true
      → class_cmp other class ≢ Less

-- the answer for two configurations is that of a class whose outcomes differ
abbrev pub IsApartBy : SoughtClass → Sameness → Type 0
IsApartBy found sameness = (rtype : RrType) × (found.end ≡ Apart rtype) × (sameness ≡ sameness_as.Apart found.query rtype)
