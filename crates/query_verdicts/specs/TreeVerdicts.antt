-- The verdicts of the names of a class tree, whatever a verdict of a class is; and the rows in which they are filed.
use Rattle.std.specs.Prelude.{◌≡◌, ℕ, Bool, List, map, length, All, AllPairs, Option, Some, None, is_some}
use Rattle.std.specs.List.{filter}
use Rattle.std.specs.declared.cmp.Ordering.TheVariants.{Less}
use Rattle.dns_data.specs.Name.{Labels, IsName, name_cmp}
use Rattle.net_model.specs.declared.class.Class.TheVariants.{Below}
use Rattle.net_model.specs.Class.{IsRepresentative}
use Rattle.net_model.specs.Reading.{Ground}
use Rattle.net_model.specs.Tree.{IsTreePart}
use Rattle.query_classes.specs.Children.{AreChildren}
use Rattle.query_verdicts.specs.declared.verdict.NameVerdict.{NameVerdict}
use Rattle.verdict_book.specs.declared.filed.Filed.{Filed}

-- the verdict of the class below a name, if it has a representative: that of this one
abbrev pub IsVerdictBelow : {C : Type 0} → Ground → (Labels → C → Type 0) → Labels → Option C → Type 0
IsVerdictBelow ground IsVerdictOf above None = (query : Labels) → IsRepresentative ground (Below above) query → ⊥
IsVerdictBelow ground IsVerdictOf above (Some verdict) = (query : Labels) × IsRepresentative ground (Below above) query × IsVerdictOf query verdict

-- the verdict of a name of the class tree of a ground: that of the name, which represents the class of itself alone, and
-- that of the representative of the class below it
pub record IsVerdictAt {C : Type 0} (ground : Ground) (IsVerdictOf : Labels → C → Type 0) (name : Labels) (verdict : NameVerdict C) : Type 0 where
  pub exact : IsVerdictOf name verdict.exact
  pub below : IsVerdictBelow ground IsVerdictOf name verdict.below

-- the values are those of the class tree: of each name the names one label below it, and its verdict
pub record AreTreeValues {C : Type 0} (ground : Ground) (IsVerdictOf : Labels → C → Type 0) (children_of : Labels → List Labels) (verdict_of : Labels → NameVerdict C) : Type 0 where
  pub children : (name : Labels) → AreChildren ground name (children_of name)
  pub verdicts : (name : Labels) → IsName name → IsVerdictAt ground IsVerdictOf name (verdict_of name)

-- a name of a class tree with its verdict, as work of the kind W files it
abbrev pub TreeRow : Type 0 → Type 0 → Type 0
TreeRow W C = Filed W Labels (NameVerdict C)

module _ {W C : Type 0} where
  -- the names of rows
  abbrev pub row_names : List (TreeRow W C) → List Labels
  row_names rows = map (λ row. row.item) rows

  -- each name stands before the later ones
  abbrev pub AreInTreeOrder : List (TreeRow W C) → Type 0
  AreInTreeOrder rows = AllPairs (λ a b. name_cmp a.item b.item ≡ Less) rows

  -- the rows are the names of the class tree at or below a name in order, each with its verdict
  pub record AreTreeRows (ground : Ground) (above : Labels) (IsVerdictOf : Labels → C → Type 0) (rows : List (TreeRow W C)) : Type 0 where
    pub ordered : AreInTreeOrder rows
    pub tree : IsTreePart ground above (row_names rows)
    pub verdicts : All (λ row. IsVerdictAt ground IsVerdictOf row.item row.verdict) rows

  -- the class below the name isn't empty
  abbrev pub has_below : TreeRow W C → Bool
  has_below row = is_some row.verdict.below

  -- how many classes below the names aren't empty
  abbrev pub below_count : List (TreeRow W C) → ℕ
  below_count rows = length (filter has_below rows)
