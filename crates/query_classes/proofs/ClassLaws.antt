-- The partition of names into classes, and the names that stand for them.
use Rattle.std.proofs.Common.{◌≡◌, ◌∙◌, ℕ, ◌<◌, ◌≤◌, nat_le, Bool, true, false, List, [], ◌∷◌, ◌++◌, Option, Some, None, Result, Ok, Err, length, Contains, inl, inr, sym, refl, ap, subst, append_assoc, append-nil, arith}
use Rattle.std.specs.Prelude.{IfOk, IfSome, MatchOption}
use Rattle.std.specs.List.{AllByRecursion}
use Rattle.std.proofs.lemmas.Bool.{cases_lt, leb-false, leb-true}
use Rattle.std.proofs.lemmas.List.{length-append}
use Rattle.dns_data.specs.Label.{IsLabel}
use Rattle.dns_data.specs.Name.{Labels, IsName, wire_octets}
use Rattle.dns_data.proofs.Membership.{none_in_nil, has_first}
use Rattle.dns_data.proofs.NameFronts.{two_fronts, octets_of_prefix, octets_with_label}
use Rattle.dns_data.proofs.Names.{name_append}
use Rattle.net_model.specs.declared.class.Class.TheVariants.{Exact, Below}
use Rattle.net_model.specs.Class.{IsClassOf, IsFirstUnnamed}
use Rattle.net_model.specs.Reading.{Ground, IsNamed, ReadsOnTo}
use Rattle.net_model.proofs.FirstLabel.{label_of_name, shorter_first}
use Rattle.label_graph.specs.LiveSet.{IsClosed, IsLiveSet, name_at}
use Rattle.label_graph.proofs.LiveNames.{prefix_is_named}
use Rattle.name_table.proofs.Tables.{place_among, among_place}
use Rattle.query_classes.specs.Children.{HasBelow, IsBelow}
use Rattle.query_classes.specs.Members.{IsEmptyClass, RepresentsClass}

-- the labels above
labels_above : (above rest : Labels) → AllByRecursion IsLabel (above ++ rest) → AllByRecursion IsLabel above
labels_above [] rest each = tt
labels_above (x ∷ above) rest each = (each.0, labels_above above rest each.1)

module _ (ground : Ground) (closed : IsClosed ground) where
  -- a name is in the class below a named one where a label more makes an unnamed one
  pub in_below : (above : Labels) (label : List ℕ) (rest : Labels) → IsNamed ground above → (IsNamed ground (above ++ label ∷ []) → ⊥)
      → IsClassOf ground (above ++ label ∷ rest) (Below above)
  in_below above label rest named unnamed = (
    λ is. unnamed (prefix_is_named ground closed (above ++ label ∷ []) rest (subst (IsNamed ground) (sym whole) is)),
    record { below = label ∷ rest; prefix = refl; named = named; longest = λ longer more e is. at_most longer more e is },
  )
    where
      whole : (above ++ label ∷ []) ++ rest ≡ above ++ label ∷ rest
      whole = append_assoc above (label ∷ []) rest

      at_most : (longer more : Labels) → above ++ label ∷ rest ≡ longer ++ more → IsNamed ground longer → length longer ≤ length above
      at_most longer more e is =
          elim (cases_lt (length above) (length longer)) [
            | inr short ↦ short
            | inl long ↦ elim (two_fronts (above ++ label ∷ []) rest longer more (whole ∙ e)) [
              | inl (between, begins) ↦ absurd (unnamed (prefix_is_named ground closed (above ++ label ∷ []) between (subst (IsNamed ground) (sym begins) is)))
              | inr (between, begins) ↦ absurd (unnamed (subst (IsNamed ground) (whole_front longer between long begins) is))
            ]
          ]
        where
          whole_front : (longer between : Labels) → length above < length longer → longer ++ between ≡ above ++ label ∷ [] → longer ≡ above ++ label ∷ []
          whole_front longer [] long begins = sym (append-nil longer) ∙ begins
          whole_front longer (x ∷ between) long begins =
              absurd (omega (arith, ap length begins, length-append longer (x ∷ between), length-append above (label ∷ [])))

  -- a member of the class below a name isn't shorter than the name with its first free label
  pub not_shorter : (above : Labels) (label : List ℕ) → IsFirstUnnamed ground above label → (member : Labels) → IsName member → IsClassOf ground member (Below above)
      → wire_octets (above ++ label ∷ []) ≤ wire_octets member
  not_shorter above label first member is (unnamed, longest) = by longest.below longest.prefix where
    by : (below : Labels) → member ≡ above ++ below → wire_octets (above ++ label ∷ []) ≤ wire_octets member
    by [] e = absurd (unnamed (subst (IsNamed ground) (sym (e ∙ append-nil above)) longest.named))
    by (own ∷ rest) e =
        let own_is : IsLabel own = label_of_name above own rest (subst (AllByRecursion IsLabel) e is.labels) in
        let whole : (above ++ own ∷ []) ++ rest ≡ member = append_assoc above (own ∷ []) rest ∙ sym e in
        let own_unnamed : IsNamed ground (above ++ own ∷ []) → ⊥ =
        λ named. (let long : length (above ++ own ∷ []) ≤ length above = longest.longest (above ++ own ∷ []) rest (sym whole) named in
        omega (arith, length-append above (own ∷ []))) in
        let not_longer : length label ≤ length own =
        elim (cases_lt (length own) (length label)) [
          | inl shorter ↦ absurd (own_unnamed (first.first own own_is (shorter_first own label shorter)))
          | inr fits ↦ fits
        ] in
        let front : wire_octets (above ++ own ∷ []) ≤ wire_octets member = octets_of_prefix (above ++ own ∷ []) member (rest, whole) in
        omega (arith, octets_with_label above label, octets_with_label above own)

  -- the name with the first free label stands for the class below, where it isn't too long
  pub stands_below : (above : Labels) (label : List ℕ) → IsNamed ground above → AllByRecursion IsLabel above → IsFirstUnnamed ground above label
      → wire_octets (above ++ label ∷ []) ≤ 255 → RepresentsClass ground (Below above) (above ++ label ∷ [])
  stands_below above label named labels first short =
      record {
        represents = record { label = label; first = first; extends = refl; is_name = name_append above (label ∷ []) labels (first.is_label, tt) short };
        is_name = name_append above (label ∷ []) labels (first.is_label, tt) short;
        is_member = in_below above label [] named first.unnamed;
        shortest = not_shorter above label first;
      }

  -- the class below a name is empty if the name with its first free label is too long
  pub empty_long : (above : Labels) (label : List ℕ) → IsFirstUnnamed ground above label → 255 < wire_octets (above ++ label ∷ []) → IsEmptyClass ground (Below above)
  empty_long above label first long member is of =
      let size : wire_octets (above ++ label ∷ []) ≤ wire_octets member = not_shorter above label first member is of in
      let short : wire_octets member ≤ 255 = is.short in
      omega arith

  -- the class below a name is empty if each label makes a named name
  pub empty_full : (above : Labels) → ((label : List ℕ) → IsLabel label → IsNamed ground (above ++ label ∷ [])) → IsEmptyClass ground (Below above)
  empty_full above full member is (unnamed, longest) = by longest.below longest.prefix where
    by : (below : Labels) → member ≡ above ++ below → ⊥
    by [] e = unnamed (subst (IsNamed ground) (sym (e ∙ append-nil above)) longest.named)
    by (own ∷ rest) e =
        let whole : (above ++ own ∷ []) ++ rest ≡ member = append_assoc above (own ∷ []) rest ∙ sym e in
        let long : length (above ++ own ∷ []) ≤ length above =
        longest.longest (above ++ own ∷ []) rest (sym whole) (full own (label_of_name above own rest (subst (AllByRecursion IsLabel) e is.labels))) in
        omega (arith, length-append above (own ∷ []))

  -- what is made of a name and its first free label stands for the class below the name
  pub below_made : {E : Type 0} (above : Labels) (label : List ℕ) → IsNamed ground above → IsFirstUnnamed ground above label → (made : Result (Option Labels) E)
      → IfOk made (λ found. MatchOption found (255 < wire_octets (above ++ label ∷ [])) (λ name. name ≡ above ++ label ∷ []))
      → IfOk made (λ found. IfSome found IsName) → IfOk made (IsBelow ground above)
  below_made above label named first (Err fault) is names = tt
  below_made above label named first (Ok None) long names = empty_long above label first long
  below_made above label named first (Ok (Some name)) same is =
      let whole : IsName (above ++ label ∷ []) = subst IsName same is in
      subst (RepresentsClass ground (Below above)) (sym same) (stands_below above label named (labels_above above (label ∷ []) whole.labels) first whole.short)

  -- whether it has few enough octets tells whether something stands for that class
  pub below_told : (above : Labels) (label : List ℕ) → IsNamed ground above → AllByRecursion IsLabel above → IsFirstUnnamed ground above label
      → (octets : ℕ) → octets ≡ wire_octets (above ++ label ∷ []) → HasBelow ground above (nat_le octets 255)
  below_told above label named labels first octets is = by (nat_le octets 255) refl where
    by : (fits : Bool) → nat_le octets 255 ≡ fits → HasBelow ground above fits
    by true fits = (Some (above ++ label ∷ []), stands_below above label named labels first (omega (arith, is, leb-true octets 255 fits)), refl)
    by false fits = (None, empty_long above label first (omega (arith, is, leb-false octets 255 fits)), refl)

  -- a named name stands for its own class
  pub stands_exact : (name : Labels) → IsNamed ground name → IsName name → RepresentsClass ground (Exact name) name
  stands_exact name named is =
      record {
        represents = refl;
        is_name = is;
        is_member = (refl, named);
        shortest = λ member member_is of. (let same : name ≡ member = of.0 in subst (λ (n : Labels). wire_octets name ≤ wire_octets n) same (omega arith));
      }

  -- a member of the class below a name shows that it has one that stands for it
  pub below_stood : (above : Labels) (label own : List ℕ) (rest : Labels) → IsNamed ground above → (IsNamed ground (above ++ own ∷ []) → ⊥)
      → IsName (above ++ own ∷ rest) → IsFirstUnnamed ground above label → RepresentsClass ground (Below above) (above ++ label ∷ [])
  below_stood above label own rest named unnamed is first =
      let size : wire_octets (above ++ label ∷ []) ≤ wire_octets (above ++ own ∷ rest) =
      not_shorter above label first (above ++ own ∷ rest) is (in_below above own rest named unnamed) in
      let short : wire_octets (above ++ own ∷ rest) ≤ 255 = is.short in
      stands_below above label named (labels_above above (own ∷ rest) is.labels) first (omega arith)

-- a label of a name is a label
pub first_label_of : (above : Labels) (label : List ℕ) (rest : Labels) → IsName (above ++ label ∷ rest) → IsLabel label
first_label_of above label rest is = label_of_name above label rest is.labels

-- if one label more of a name is passed, the name is what was passed with it and what is left
pub label_more : (name above rest after : Labels) (own octets : List ℕ) → name ≡ above ++ rest → rest ≡ octets ∷ after → own ≡ octets
    → name ≡ (above ++ own ∷ []) ++ after
label_more name above rest after own octets passed first same =
    passed ∙ ap (λ (l : Labels). above ++ l) first ∙ ap (λ (l : List ℕ). above ++ l ∷ after) (sym same) ∙ sym (append_assoc above (own ∷ []) after)

-- a name without a live base name isn't named
pub not_named : (ground : Ground) (name : Labels) (live : List ℕ) → IsLiveSet ground name live → live ≡ [] → IsNamed ground name → ⊥
not_named ground name live of none named =
    let (place, below, is) = place_among ground.names named.base named.among in
    none_in_nil place (subst (λ (l : List ℕ). Contains l place) none
    ((of.live place below).1 (subst (λ (n : Labels). ReadsOnTo ground.redirections name n) (sym is) named.reads)))

-- a name with a live base name is named
pub live_named : (ground : Ground) (name : Labels) (live : List ℕ) → IsLiveSet ground name live → (live ≡ [] → ⊥) → IsNamed ground name
live_named ground name [] of some = absurd (some refl)
live_named ground name (place ∷ live) of some =
    let below : place < length ground.names = of.within 0 0 (omega arith) in
    record { base = name_at ground.names place; among = among_place ground.names place below; reads = (of.live place below).0 (has_first place live) }
