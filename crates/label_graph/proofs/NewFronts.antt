-- Fronts of a name that are put to names which have the root and the prefixes of each.
use Rattle.std.proofs.Common.{ℕ, ◌+◌, ◌<◌, ◌⊎◌, List, [], ◌++◌, take, drop, Contains, inl, inr, sym, subst, arith}
use Rattle.std.specs.Prelude.{◌↔◌}
use Rattle.std.specs.List.{common_prefix_len}
use Rattle.std.proofs.lemmas.Bool.{cases_lt}
use Rattle.std.proofs.lemmas.List.{take-append-drop}
use Rattle.dns_data.specs.Label.{label_eq}
use Rattle.dns_data.specs.Name.{Labels}
use Rattle.dns_data.proofs.CommonFronts.{common_front}
use Rattle.label_graph.specs.LiveSet.{HavePrefixes}
use Rattle.label_graph.specs.Targets.{IsPrefixFrom}
use Rattle.label_graph.proofs.TargetLinks.{front_above}

-- so many labels of a name, or fewer, make one of the names, if it begins with so many of one of them
pub shared_known : (names : List Labels) (last name : Labels) → HavePrefixes names → Contains names last → (count : ℕ)
    → count < common_prefix_len label_eq last name + 1 → Contains names (take count name)
shared_known names last name have among count few =
    subst (Contains names) (common_front count last name (omega (arith, few)))
    (have.prefixes (take count last) (drop count last) (subst (Contains names) (sym (take-append-drop count last)) among))

module _ (old new : List Labels) (name : Labels) (from : ℕ) (have : HavePrefixes old)
    (known : (count : ℕ) → count < from → Contains old (take count name))
    (put : (front : Labels) → Contains new front ↔ (Contains old front ⊎ IsPrefixFrom from name front))
  where
    -- the list with the new fronts has the fronts that it had and all of the name
    pub all_fronts : (front : Labels) → Contains new front ↔ (Contains old front ⊎ IsPrefixFrom 0 name front)
    all_fronts front = (
      λ has. elim ((put front).0 has) [
        | inl was ↦ inl was
        | inr (count, low, high, is) ↦ inr (count, omega arith, high, is)
      ],
      λ either. elim either [
        | inl was ↦ (put front).1 (inl was)
        | inr (count, low, high, is) ↦ elim (cases_lt count from) [
          | inl fewer ↦ (put front).1 (inl (subst (Contains old) (sym is) (known count fewer)))
          | inr more ↦ (put front).1 (inr (count, omega (arith, more), high, is))
        ]
      ],
    )

    -- the list with the new fronts has the prefixes of each of its names
    pub prefixes_again : HavePrefixes new
    prefixes_again =
        record {
          root = (all_fronts []).1 (inl have.root);
          prefixes = λ above below has. elim ((all_fronts (above ++ below)).0 has) [
            | inl was ↦ (all_fronts above).1 (inl (have.prefixes above below was))
            | inr front ↦ (all_fronts above).1 (inr (front_above name above below front))
          ];
        }
