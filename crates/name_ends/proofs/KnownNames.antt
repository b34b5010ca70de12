-- What is known of names.
use Rattle.std.proofs.Common.{◌≡◌, Bool, true, false, cond, List, Some, None, is_eq, sym, ap, ◌∙◌}
use Rattle.std.specs.BTreeMap as map
use Rattle.std.specs.Map.{lookup}
use Rattle.std.specs.Cmp.Lexicographic.{lists_ties, texts_ties}
use Rattle.dns_data.specs.Label.{label_cmp}
use Rattle.dns_data.specs.Name.{Labels, name_cmp, name_eq}
use Rattle.dns_data.proofs.Names.{name_eq_decides}
use Rattle.net_model.specs.Step.{Setting}
use Rattle.name_ends.specs.Asked.{AreKnown, ends_in}
use Rattle.name_ends.specs.declared.ends.NameEnds.{NameEnds}

-- what is known of names stays so in a map that is unchanged
pub known_same : (setting : Setting) (old new : map.BTreeMap Labels NameEnds) → AreKnown setting old → map.IsUnchanged old new → AreKnown setting new
known_same setting old new known same name ends is =
    known name ends (ap (λ (entries : List (Labels × NameEnds)). lookup (λ (key : Labels). is_eq (name_cmp name key)) entries) (sym same) ∙ is)

-- a map without entries knows of no name
pub none_known : (setting : Setting) (known : map.BTreeMap Labels NameEnds) → map.IsEmpty known → AreKnown setting known
none_known setting known empty name ends is =
    let none : None ≡ Some ends = ap (λ (entries : List (Labels × NameEnds)). lookup (λ (key : Labels). is_eq (name_cmp name key)) entries) (sym empty) ∙ is in
    absurd cc

-- what is known of names stays so with how the walks of one name more end
pub known_more : (setting : Setting) (old new : map.BTreeMap Labels NameEnds) (name key : Labels) (ends : NameEnds) → AreKnown setting old
    → map.Updates name_cmp old new key (Some ends) → key ≡ name → ends ≡ ends_in setting name → AreKnown setting new
known_more setting old new name key ends known updates one are other found is =
    by (is_eq (name_cmp key other)) (lists_ties label_cmp texts_ties key other) (sym (updates.0 other) ∙ is)
  where
    by : (b : Bool) → name_eq key other ≡ b → cond b (Some ends) (map.get name_cmp old other) ≡ Some found → found ≡ ends_in setting other
    by true e same =
        let here : ends ≡ found = cc in
        sym here ∙ are ∙ ap (ends_in setting) (sym one ∙ (name_eq_decides key other).0 e)
    by false e same = known other found same
