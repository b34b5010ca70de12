-- What holds of the names below a name, as far as no origin of a zone stands between or with each unnamed tail, holds of
-- the class below it and of the names at or below its children.
use Rattle.std.proofs.Common.{◌≡◌, ◌<◌, ◌⊎◌, Bool, true, false, cond, [], ◌∷◌, ◌++◌, length, Option, Some, None, is_some, refl, sym, ap, ◌∙◌, subst, inl, inr, arith, length-append}
use Rattle.dns_data.specs.Name.{Labels, is_prefix}
use Rattle.dns_data.proofs.NameFronts.{Begins, begins_itself, is_prefix_tells, is_prefix_told, two_fronts}
use Rattle.net_model.specs.declared.class.Class.TheVariants.{Below}
use Rattle.net_model.specs.declared.config.Config.{Config}
use Rattle.net_model.specs.Class.{IsRepresentative}
use Rattle.net_model.specs.Reading.{Covers, Ground}
use Rattle.net_model.specs.Tails.{IsUnnamedTail}
use Rattle.walk_laws.proofs.WalksAlike.ClassTails.{named_everywhere, tail_of}
use Rattle.query_classes.specs.Children.{HasBelow, IsInTree}
use Rattle.query_classes.specs.TreeNames.{AreBaseNamesOf, HoldsBelow}
use Rattle.straight_walks.specs.Straight.{NoOriginBelow, NoOriginBetween}
use Rattle.query_verdicts.specs.Subjects.{RepresentsBelow}
use Rattle.query_verdicts.specs.TreeVerdicts.{IsVerdictBelow}
use Rattle.query_verdicts.proofs.ClassesJudged.{represents_below}
use Rattle.query_verdicts.proofs.CoveringGrounds.{is_closed}

-- ---- the class below a name

module _ (ground : Ground) (config : Config) (covers : Covers ground config) where
  -- its representative is the name with an unnamed tail
  unnamed_tail : (above query : Labels) → IsRepresentative ground (Below above) query → (tail : Labels) × IsUnnamedTail config above tail × (query ≡ above ++ tail)
  unnamed_tail above query stands = (
    stands.label ∷ [],
    tail_of config ground (named_everywhere config ground covers) above query
        (record { first = stands.label; rest = []; is = stands.extends; unnamed = stands.first.unnamed }),
    stands.extends,
  )

  -- the verdict of the name with each unnamed tail is that of the class below, if that has a representative
  module _ {C : Type 0} (IsVerdictOf : Labels → C → Type 0) (verdict : C) (above : Labels) (in_tree : IsInTree ground above)
      (below : (tail : Labels) → IsUnnamedTail config above tail → IsVerdictOf (above ++ tail) verdict) where
    by_representative : (found : Option Labels) → RepresentsBelow ground above found → (some : Bool) → is_some found ≡ some
        → IsVerdictBelow ground IsVerdictOf above (cond some (Some verdict) None)
    by_representative None empty true e = cc
    by_representative None empty false e = empty
    by_representative (Some query) stands true e =
        let (tail, is, whole) = unnamed_tail above query stands.represents in
        (query, stands.represents, subst (λ (name : Labels). IsVerdictOf name verdict) (sym whole) (below tail is))
    by_representative (Some query) stands false e = cc

    -- if the name has one verdict with each unnamed tail, it is that of the class below the name, if that class has a
    -- representative
    pub verdict_below : (names : Ground) → AreBaseNamesOf ground names → (some : Bool) → HasBelow names above some
        → IsVerdictBelow ground IsVerdictOf above (cond some (Some verdict) None)
    verdict_below names are some has =
        by_representative has.0 (represents_below ground names are (is_closed config ground covers) above in_tree has.0 has.1) some has.2

-- ---- all names at or below a name

module _ (Holds : Labels → Type 0) (above : Labels) (all : HoldsBelow Holds above) where
  -- what holds of all names at or below a name holds of the name itself
  pub holds_itself : Holds above
  holds_itself = all above (begins_itself above)

  -- what holds of all names at or below a name holds of it with each tail
  pub holds_with_tail : (tail : Labels) → Holds (above ++ tail)
  holds_with_tail tail = all (above ++ tail) (is_prefix_told above (above ++ tail) (tail, refl))

-- where no origin stands below the name, it holds of each if it holds of each with none between
pub holds_of_all : (config : Config) (Holds : Labels → Type 0) (above : Labels) → NoOriginBelow config above
    → ((name : Labels) → NoOriginBetween config above name → Holds name) → HoldsBelow Holds above
holds_of_all config Holds above none_below between name inside =
    between name (record { above = inside; none_longer = λ server longer begins more. none_below server longer (further longer begins more) more })
  where
    further : (longer : Labels) → is_prefix longer name ≡ true → length above < length longer → is_prefix above longer ≡ true
    further longer begins more =
        let one = is_prefix_tells above name inside in
        let other = is_prefix_tells longer name begins in
        is_prefix_told above longer (by (two_fronts above one.0 longer other.0 (one.1 ∙ sym other.1)))
      where
        by : Begins above longer ⊎ Begins longer above → Begins above longer
        by (inl front) = front
        by (inr (rest, e)) = absurd (omega (arith, more, ap (λ (n : Labels). length n) e, length-append longer rest))
