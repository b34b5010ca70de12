-- What is known of names and of targets at servers, with one more.
use Rattle.std.proofs.Common.{◌≡◌, Bool, true, false, ◌&&◌, cond, List, Some, None, Ordering, Less, Equal, Greater, is_eq, refl, sym, ap, ◌∙◌}
use Rattle.std.proofs.lemmas.Bool.{and_parts}
use Rattle.std.specs.BTreeMap as maps
use Rattle.std.specs.Cmp.Lexicographic.{lists_ties, texts_ties}
use Rattle.std.specs.Map.{lookup}
use Rattle.std.specs.Ordering.{ordering_then}
use Rattle.dns_data.specs.Label.{label_cmp}
use Rattle.dns_data.specs.Name.{Labels, name_cmp}
use Rattle.dns_data.proofs.Names.{name_eq_decides}
use Rattle.plain_resolver.specs.declared.walk_end.ZoneEnd.{ZoneEnd}
use Rattle.alias_ends.specs.Known.{Knows, end_cmp}

module _ {K V : Type 0} (cmp : K → K → Ordering) (tell : K → V) where
  -- what is known stays so in a map that is unchanged
  pub known_same : (old new : maps.BTreeMap K V) → Knows cmp tell old → maps.IsUnchanged old new → Knows cmp tell new
  known_same old new known same key value is =
      known key value (ap (λ (entries : List (K × V)). lookup (λ (other : K). is_eq (cmp key other)) entries) (sym same) ∙ is)

  -- a map without entries knows of nothing
  pub none_known : (known : maps.BTreeMap K V) → maps.IsEmpty known → Knows cmp tell known
  none_known known empty key value is =
      let none : None ≡ Some value = ap (λ (entries : List (K × V)). lookup (λ (other : K). is_eq (cmp key other)) entries) (sym empty) ∙ is in
      absurd cc

  -- what is known stays so with one more
  pub known_more : ((a b : K) → is_eq (cmp a b) ≡ true → a ≡ b) → (old new : maps.BTreeMap K V) (key : K) (value : V) → Knows cmp tell old
      → maps.Updates cmp old new key (Some value) → value ≡ tell key → Knows cmp tell new
  known_more one old new key value known updates are other found is = by (is_eq (cmp key other)) refl (sym (updates.0 other) ∙ is) where
    by : (b : Bool) → is_eq (cmp key other) ≡ b → cond b (Some value) (maps.get cmp old other) ≡ Some found → found ≡ tell other
    by true e same =
        let here : value ≡ found = cc in
        sym here ∙ are ∙ ap tell (one key other e)
    by false e same = known other found same

-- names in one place of the order are one
pub one_name : (a b : Labels) → is_eq (name_cmp a b) ≡ true → a ≡ b
one_name a b e = (name_eq_decides a b).0 (lists_ties label_cmp texts_ties a b ∙ e)

-- two comparisons in a row find no difference exactly if neither does
pub both_equal : (o p : Ordering) → is_eq (ordering_then o p) ≡ (is_eq o && is_eq p)
both_equal Less p = refl
both_equal Equal p = refl
both_equal Greater p = refl

-- targets in one place of their order are one
pub one_end : (a b : ZoneEnd) → is_eq (end_cmp a b) ≡ true → a ≡ b
one_end a b e =
    let parts = and_parts (is_eq (name_cmp a.server b.server)) (is_eq (name_cmp a.name b.name))
    (sym (both_equal (name_cmp a.server b.server) (name_cmp a.name b.name)) ∙ e) in
    let server = one_name a.server b.server parts.0 in
    let name = one_name a.name b.name parts.1 in
    λ i. record { server = server i; name = name i }
