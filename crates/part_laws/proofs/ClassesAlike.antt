-- Home names have the same classes in the whole and in what is left, with the same representatives.
use Rattle.std.proofs.Common.{ℕ, zero, suc, ◌<◌, ◌≤◌, List, [], ◌∷◌, ◌++◌, length, sym, subst, arith}
use Rattle.std.specs.Prelude.{◌↔◌}
use Rattle.dns_data.specs.Name.{Labels}
use Rattle.net_model.specs.declared.class.Class.{Class}
use Rattle.net_model.specs.declared.class.Class.TheVariants.{Exact, Below}
use Rattle.net_model.specs.declared.config.Config.{Config}
use Rattle.net_model.specs.Class.{class_name, IsClassOf, IsFirstUnnamed, IsRepresentative}
use Rattle.net_model.specs.Reading.{ground_of}
use Rattle.net_model.specs.Shown.{Represents}
use Rattle.net_model.proofs.FirstLabel.{shorter_first, first_not_longer}
use Rattle.part_laws.specs.Part.{restricted, IsLocal, IsPart}
use Rattle.part_laws.proofs.LocalNames.{above_local}
use Rattle.part_laws.proofs.LookupsAlike.{label_local}
use Rattle.part_laws.proofs.NamesAlike.{named_whole, named_left}

module _ (config : Config) (names : List Labels) (part : IsPart config names) where
  -- a local name is of the same class
  pub class_alike : (name : Labels) (class : Class) → IsLocal config names name
      → IsClassOf (ground_of (restricted names config)) name class ↔ IsClassOf (ground_of config) name class
  class_alike name (Exact alone) local = (
    λ (same, named). (same, named_whole config names part name named),
    λ (same, named). (same, named_left config names part name local named),
  )
  class_alike name (Below above) local = (
    λ (unnamed, longest). (
      λ named. unnamed (named_left config names part name local named),
      record {
        below = longest.below;
        prefix = longest.prefix;
        named = named_whole config names part above longest.named;
        longest = λ longer rest e named. longest.longest longer rest e
            (named_left config names part longer (above_local config names longer name (rest, sym e) local) named);
      },
    ),
    λ (unnamed, longest). (
      λ named. unnamed (named_whole config names part name named),
      record {
        below = longest.below;
        prefix = longest.prefix;
        named = named_left config names part above (above_local config names above name (longest.below, sym longest.prefix) local) longest.named;
        longest = λ longer rest e named. longest.longest longer rest e (named_whole config names part longer named);
      },
    ),
  )

  module _ (above : Labels) (local : IsLocal config names above) where
    -- below a local name, a label no longer than the first unnamed one of what is left makes a local name
    below_first_left : (first label : List ℕ) → IsFirstUnnamed (ground_of (restricted names config)) above first → length label ≤ length first
        → IsLocal config names (above ++ label ∷ [])
    below_first_left first label is fits =
        label_local config names part above label local
        (λ shorter. shorter.unnamed (is.first shorter.label shorter.is_label
        (shorter_first shorter.label first (let less = shorter.shorter in omega arith))))

    -- and so does one no longer than the first unnamed one of the whole
    below_first_whole : (most : ℕ) (first label : List ℕ) → IsFirstUnnamed (ground_of config) above first → length label < most
        → length label ≤ length first → IsLocal config names (above ++ label ∷ [])
    below_first_whole zero first label is bound fits = absurd (omega arith)
    below_first_whole (suc most) first label is bound fits =
        label_local config names part above label local
        (λ shorter. let less = shorter.shorter in
        shorter.unnamed (named_left config names part (above ++ shorter.label ∷ [])
        (below_first_whole most first shorter.label is (omega arith) (omega arith))
        (is.first shorter.label shorter.is_label (shorter_first shorter.label first (omega arith)))))

    -- the first unnamed label below a local name is the same
    first_alike : (first : List ℕ) → IsFirstUnnamed (ground_of (restricted names config)) above first ↔ IsFirstUnnamed (ground_of config) above first
    first_alike first = (
      λ is. record {
        is_label = is.is_label;
        unnamed = λ named. is.unnamed (named_left config names part (above ++ first ∷ []) (below_first_left first first is (omega arith)) named);
        first = λ other label less. named_whole config names part (above ++ other ∷ []) (is.first other label less);
      },
      λ is. record {
        is_label = is.is_label;
        unnamed = λ named. is.unnamed (named_whole config names part (above ++ first ∷ []) named);
        first = λ other label less. named_left config names part (above ++ other ∷ [])
            (below_first_whole (suc (length other)) first other is (omega arith) (first_not_longer other first less)) (is.first other label less);
      },
    )

  -- a class that goes by a local name has the same representative
  pub representative_alike : (class : Class) (name : Labels) → IsLocal config names (class_name class)
      → IsRepresentative (ground_of (restricted names config)) class name ↔ IsRepresentative (ground_of config) class name
  representative_alike (Exact alone) name local = (λ is. is, λ is. is)
  representative_alike (Below above) name local = (
    λ stands. record { label = stands.label; first = (first_alike above local stands.label).0 stands.first; extends = stands.extends; is_name = stands.is_name },
    λ stands. record { label = stands.label; first = (first_alike above local stands.label).1 stands.first; extends = stands.extends; is_name = stands.is_name },
  )

  -- the representative of a class that goes by a local name is local
  pub representative_local : (class : Class) (name : Labels) → IsLocal config names (class_name class) → IsRepresentative (ground_of (restricted names config)) class name
      → IsLocal config names name
  representative_local (Exact alone) name local is = subst (IsLocal config names) (sym is) local
  representative_local (Below above) name local stands =
      subst (IsLocal config names) (sym stands.extends) (below_first_left above local stands.label stands.label stands.first (omega arith))

  -- the class of a local name goes by a local name
  class_local : (name : Labels) (class : Class) → IsLocal config names name → IsClassOf (ground_of config) name class → IsLocal config names (class_name class)
  class_local name (Exact alone) local (same, named) = subst (IsLocal config names) (sym same) local
  class_local name (Below above) local (unnamed, longest) = above_local config names above name (longest.below, sym longest.prefix) local

  -- a local name represents its class in both or in neither
  pub represents_alike : (name : Labels) → IsLocal config names name → Represents (restricted names config) name ↔ Represents config name
  represents_alike name local = (
    λ (class, of_class, stands). (let whole = (class_alike name class local).0 of_class in
        (class, whole, (representative_alike class name (class_local name class local whole)).0 stands)),
    λ (class, of_class, stands). (class, (class_alike name class local).1 of_class, (representative_alike class name (class_local name class local of_class)).1 stands),
  )
