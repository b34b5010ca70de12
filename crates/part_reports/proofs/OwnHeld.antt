-- When a part holds its own base names.
use Rattle.std.proofs.Common.{◌≡◌, ◌∙◌, Bool, true, false, List, [], ◌++◌, Contains, sym, subst, inl, inr, true≢false}
use Rattle.dns_data.specs.Name.{Labels}
use Rattle.net_model.specs.declared.config.Config.{Config}
use Rattle.net_model.specs.Reading.{origins_and_owners, ground_of}
use Rattle.part_laws.proofs.LocalNames.{held_or_not}
use Rattle.part_laws.proofs.NamesAlike.{from_based}

-- it does if no origin or owner has an own prefix that isn't held
pub own_held : (config : Config) (names : List Labels) (own : Labels → Bool) → Contains names []
    → ((name : Labels) → Contains (origins_and_owners config) name → (above below : Labels) → name ≡ above ++ below → (Contains names above → ⊥) → own above ≡ false)
    → (name : Labels) → Contains (ground_of config).names name → own name ≡ true → Contains names name
own_held config names own root told name based is =
    elim (held_or_not names name) [
      | inl held ↦ held
      | inr out ↦ elim (from_based config name based) [
        | inl top ↦ subst (Contains names) top root
        | inr (start, among, (below, e)) ↦ absurd (true≢false (sym is ∙ told start among name below (sym e) out))
      ]
    ]
