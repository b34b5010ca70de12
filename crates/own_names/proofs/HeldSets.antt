-- Sets of held names.
use Rattle.std.proofs.Common.{◌≡◌, ◌⊎◌, List, [], ◌∷◌, Contains, take, inl, inr, sym, subst}
use Rattle.std.specs.Prelude.{◌↔◌}
use Rattle.dns_data.specs.Name.{Labels, is_among}
use Rattle.dns_data.proofs.Membership.{none_in_nil}
use Rattle.dns_data.proofs.Searches.{same_truth}
use Rattle.net_model.proofs.Naming.{is_listed, from_listed}
use Rattle.label_graph.specs.Graphs.{SomeItem}
use Rattle.label_graph.specs.Targets.{IsPrefixFrom}
use Rattle.base_names.proofs.JoinedBase.{joined_names}
use Rattle.part_laws.specs.Part.{with_prefixes}

-- before the first name there is the root alone
pub root_only : (fronts names : List Labels) (name : Labels) → fronts ≡ [] ∷ []
    → Contains fronts name ↔ (Contains ([] ∷ []) name ⊎ SomeItem (λ (one : Labels). IsPrefixFrom 0 one name) (take 0 names))
root_only fronts names name is = (
  λ has. inl (subst (λ (l : List Labels). Contains l name) is has),
  λ either. elim either [
    | inl root ↦ subst (λ (l : List Labels). Contains l name) (sym is) root
    | inr (one, none, front) ↦ absurd (none_in_nil one none)
  ],
)

-- the root and the fronts of names are these names with their prefixes
pub fronts_held : (names : List Labels) (name : Labels) (there : Type 0)
    → (there ↔ (Contains ([] ∷ []) name ⊎ SomeItem (λ (one : Labels). IsPrefixFrom 0 one name) names)) → there ↔ Contains (with_prefixes names) name
fronts_held names name there both =
    let joined = joined_names [] names name in (
      λ has. joined.0 (elim (both.0 has) [ inl root ↦ inl (inl root) | inr front ↦ inr front ]),
      λ has. both.1 (elim (joined.1 has) [
        | inl (inl root) ↦ inl root
        | inl (inr (config, none, inside)) ↦ absurd (none_in_nil config none)
        | inr front ↦ inr front
      ]),
    )

-- lists with the same names tell alike whether a name is among them
pub same_among : (one other : List Labels) → ((name : Labels) → Contains one name ↔ Contains other name) → (name : Labels) → is_among one name ≡ is_among other name
same_among one other same name =
    same_truth (is_among one name) (is_among other name)
    (λ e. is_listed other name ((same name).0 (from_listed one name e)))
    (λ e. is_listed one name ((same name).1 (from_listed other name e)))
