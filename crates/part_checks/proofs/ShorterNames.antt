-- Names right below another that are shorter than one, where the class there has a representative that isn't, or none.
use Rattle.std.proofs.Common.{◌≡◌, ◌∙◌, ◌<◌, ◌≤◌, ◌-◌, true, [], ◌∷◌, ◌++◌, length, Option, Some, None, inl, inr, sym, refl, ap, subst, append-nil, arith, true≢false}
use Rattle.std.specs.Prelude.{MatchOption}
use Rattle.std.proofs.lemmas.Bool.{cases_lt, lt-ltb, ltb-true}
use Rattle.std.proofs.lemmas.List.{length-append}
use Rattle.dns_data.specs.Label.{IsLabel}
use Rattle.dns_data.specs.Name.{Labels, IsName, wire_octets}
use Rattle.dns_data.proofs.NameFronts.{octets_with_label}
use Rattle.dns_data.proofs.Names.{all_push, all_front}
use Rattle.net_model.specs.declared.class.Class.TheVariants.{Below}
use Rattle.net_model.specs.Class.{IsClassOf}
use Rattle.net_model.specs.Reading.{Ground, IsNamed}
use Rattle.query_classes.specs.Members.{IsEmptyClass, RepresentsClass}
use Rattle.part_laws.specs.Part.{HasShorterUnnamed}
use Rattle.part_checks.specs.Claims.{last_octets}
use Rattle.part_checks.specs.Outside.{parent}
use Rattle.part_checks.specs.Short.{HasShorter, is_shorter}

-- the representative of the class right below the name above, if there is one
abbrev pub RepresentsBeside : Ground → Labels → Option Labels → Type 0
RepresentsBeside ground name found = MatchOption found (IsEmptyClass ground (Below (parent name))) (RepresentsClass ground (Below (parent name)))

-- what is told of the class below a name is told of that beside another, if this stands right below it
pub beside_below : (ground : Ground) (name above : Labels) (found : Option Labels) → above ≡ parent name
    → MatchOption found (IsEmptyClass ground (Below above)) (RepresentsClass ground (Below above)) → RepresentsBeside ground name found
beside_below ground name above found is told =
    subst (λ (n : Labels). MatchOption found (IsEmptyClass ground (Below n)) (RepresentsClass ground (Below n))) is told

-- a name is longer than a representative that is shorter
pub is_longer : (ground : Ground) (name : Labels) (found : Option Labels) → RepresentsBeside ground name found → is_shorter found name ≡ true
    → HasShorter ground name
is_longer ground name None none told = absurd (true≢false (sym told))
is_longer ground name (Some first) stands told =
    record { representative = first; represents = stands.represents; shorter = ltb-true (wire_octets first) (wire_octets name) told }

module _ (ground : Ground) (name : Labels) (is_name : IsName name) (named : IsNamed ground (parent name))
    (shorter : HasShorterUnnamed ground (parent name) (last_octets name)) where
  size : wire_octets (parent name ++ shorter.label ∷ []) < wire_octets name
  size = omega (arith, shorter.shorter, octets_with_label (parent name) shorter.label)

  member_is_name : IsName (parent name ++ shorter.label ∷ [])
  member_is_name =
      record {
        labels = all_push IsLabel (parent name) shorter.label (all_front IsLabel (length name - 1) name is_name.labels) shorter.is_label;
        short = omega (arith, size, is_name.short);
      }

  in_class : IsClassOf ground (parent name ++ shorter.label ∷ []) (Below (parent name))
  in_class = (
    shorter.unnamed,
    record {
      below = shorter.label ∷ [];
      prefix = refl;
      named = named;
      longest = λ longer more e is. elim (cases_lt (length (parent name)) (length longer)) [
        | inr short ↦ short
        | inl long ↦ absurd (shorter.unnamed (subst (IsNamed ground) (whole longer more long e) is))
      ];
    },
  )
    where
      whole : (longer more : Labels) → length (parent name) < length longer → parent name ++ shorter.label ∷ [] ≡ longer ++ more → longer ≡ parent name ++ shorter.label ∷ []
      whole longer [] long e = sym (append-nil longer) ∙ sym e
      whole longer (x ∷ more) long e =
          absurd (omega (arith, long, ap (λ (n : Labels). length n) e, length-append longer (x ∷ more), length-append (parent name) (shorter.label ∷ [])))

  -- so the class there isn't empty, and its representative is shorter
  pub represented_shorter : (found : Option Labels) → RepresentsBeside ground name found → is_shorter found name ≡ true
  represented_shorter None none = absurd (none (parent name ++ shorter.label ∷ []) member_is_name in_class)
  represented_shorter (Some first) stands =
      let least : wire_octets first ≤ wire_octets (parent name ++ shorter.label ∷ []) =
      stands.shortest (parent name ++ shorter.label ∷ []) member_is_name in_class in
      lt-ltb (wire_octets first) (wire_octets name) (omega (arith, size, least))
