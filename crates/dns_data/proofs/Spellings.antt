-- Labels that a text spells, put into octets from their end.
use Rattle.std.proofs.Common.{◌≡◌, ℕ, ◌+◌, ◌-◌, ◌≤◌, ◌<◌, ◌++◌, Bool, true, false, List, [], ◌∷◌, length, take, drop, Option, Some, None, Result, Ok, Err, reverse, sym, refl, ap, ◌∙◌, subst, arith}
use Rattle.std.specs.Prelude.{sum_by, if◌then◌else◌}
use Rattle.std.specs.List.{AllByRecursion, flat_map}
use Rattle.std.proofs.lemmas.List.Concat.{flat_map-append}
use Rattle.std.proofs.lemmas.List.{append-nil, drop_all, drop_at, take_all, reverse-append, length-append, length-drop, length-take-le, drop-drop}
use Rattle.std.proofs.lemmas.List.Sums.{sum_by-cons, sum_by-append}
use Rattle.std.proofs.lemmas.Bool.Decides.{nat_tests}
use borrow.Rule.Slice.PartMut.{put_mid, post_of}
use Rattle.dns_data.specs.declared.fault.NameFault.{NameFault}
use Rattle.dns_data.specs.declared.fault.NameFault.TheVariants.{NameTooLong}
use Rattle.dns_data.specs.Label.{IsLabel}
use Rattle.dns_data.specs.Name.{Labels, IsName, wire_octets}
use Rattle.dns_data.specs.Spelling.{signs, spelled, Spelled, after_label, if_short, placed, label_text}
use Rattle.dns_data.proofs.RoundTrip.{all_reverse}
use Rattle.dns_data.proofs.Names.{all_push}
use Rattle.dns_data.proofs.Reading.{after_labels, after_labels_fault, label_carried, last_carried, none_left}
use Rattle.dns_data.specs.Encoding.{encoded, labels_of, EncodesName}
use Rattle.dns_data.specs.Put.{IsPut, IsPutAt, IsSpelled}
use Rattle.dns_data.proofs.Encodings.{encoded_length, flat_of, decodes}

-- labels turned round take as many octets
sum_reverse : (labels : Labels) → sum_by (λ label. length label + 1) (reverse labels) ≡ sum_by (λ label. length label + 1) labels
sum_reverse [] = refl
sum_reverse (x ∷ labels) =
    let size = λ (xs : List ℕ). length xs + 1 in
    omega (arith, ap (sum_by size) (reverse-append (x ∷ []) labels), sum_by-append size (reverse labels) (x ∷ []), sum_by-cons size x labels, sum_by-cons size x [], sum_reverse labels)

-- how many octets labels take that stand at the end
put_size : (out : List ℕ) (start : ℕ) (labels : Labels) → IsPutAt out start labels → wire_octets labels + start ≡ length out + 1
put_size out start labels h =
    let size : length (drop start out) ≡ sum_by (λ label. length label + 1) (reverse labels) = ap length h.same ∙ encoded_length (reverse labels) in
    omega (arith, size, sum_reverse labels, length-drop start out, h.within)

more_size : (labels : Labels) (x : List ℕ) → wire_octets (labels ++ x ∷ []) ≡ wire_octets labels + length x + 1
more_size labels x =
    let size = λ (xs : List ℕ). length xs + 1 in
    omega (arith, sum_by-append size labels (x ∷ []), sum_by-cons size x [])

-- no labels stand at the very end
pub put_none : (out : List ℕ) → IsPutAt out (length out) []
unfolding encoded
put_none out = record { within = omega arith; same = drop_all (length out) out (omega arith) }

-- a label that is at least as long as the room left makes a name with more octets than there is room for
pub put_full : (out : List ℕ) (end : ℕ) (labels : Labels) (x : List ℕ) → IsPutAt out end labels → end ≤ length x → length out + 1 < wire_octets (labels ++ x ∷ [])
put_full out end labels x h full = omega (arith, put_size out end labels h, more_size labels x)

one_above : (labels : Labels) (x : List ℕ) → encoded (reverse (labels ++ x ∷ [])) ≡ length x ∷ (x ++ encoded (reverse labels))
unfolding encoded
one_above labels x = ap encoded (reverse-append labels (x ∷ []))

-- a label that is put above the labels at the end of the octets stands there with them
pub put_more : (out ys : List ℕ) (end start k : ℕ) (labels : Labels) (x : List ℕ) → IsPutAt out end labels → start + length x + 1 ≡ end → k ≡ length x + 1 → ys ≡ length x ∷ x → IsPutAt (put_mid start k out ys) start (labels ++ x ∷ [])
put_more out ys end start k labels x h at much e =
    let front : length (take start out) ≡ start = length-take-le start out (omega (arith, h.within)) in
    let after : post_of start k out ≡ drop end out = drop-drop k start out ∙ ap (λ (n : ℕ). drop n out) (omega arith) in
    let behind : drop start (put_mid start k out ys) ≡ ys ++ post_of start k out = drop_at (take start out) (ys ++ post_of start k out) start front in
    record {
      within = omega (arith, length-append (take start out) (ys ++ post_of start k out), front);
      same = behind ∙ ap (λ (r : List ℕ). ys ++ r) (after ∙ h.same) ∙ ap (λ (r : List ℕ). r ++ encoded (reverse labels)) e ∙ sym (one_above labels x);
    }

-- labels with more than 255 octets are refused as a name that is too long
pub if_long : (name : Labels) → 255 < wire_octets name → if_short name ≡ Err NameTooLong
if_long name long = grind (arith, nat_tests)

-- labels that are too many for a name are too many with others above them
pub too_long : (labels : Labels) (absolute : Bool) (said : Result Spelled NameFault) → said ≡ Ok (record { labels = labels; absolute = absolute }) → 255 < wire_octets labels → (origin : Labels) → placed origin said ≡ Err NameTooLong
too_long labels absolute said e long origin = ap (placed origin) e ∙ by absolute
  where
    by : (b : Bool) → if_short (if b then reverse labels else origin ++ reverse labels) ≡ Err NameTooLong
    by true = if_long (reverse labels) (omega (arith, sum_reverse labels))
    by false = if_long (origin ++ reverse labels) (omega (arith, sum_reverse labels, sum_by-append (λ (xs : List ℕ). length xs + 1) origin (reverse labels)))

-- labels that stand at the end of the octets are a name's
pub put_flat : (size : ℕ) (out : List ℕ) (start : ℕ) (labels : Labels) → IsPutAt out start labels → length out ≡ size → size ≤ 254 → AllByRecursion IsLabel labels → EncodesName (take (size - start) (drop start out)) × (labels_of (take (size - start) (drop start out)) ≡ reverse labels)
put_flat size out start labels h room short good =
    let name : IsName (reverse labels) = record { labels = all_reverse IsLabel labels good; short = omega (arith, sum_reverse labels, put_size out start labels h) } in
    let same : take (size - start) (drop start out) ≡ encoded (reverse labels) = take_all (size - start) (drop start out) (omega (arith, length-drop start out)) ∙ h.same in
    (subst EncodesName (sym same) (flat_of (reverse labels) name), ap labels_of same ∙ decodes (reverse labels))

-- labels that were put stand at the end of the octets from the start on
pub put_at : (out : List ℕ) (start : Option ℕ) (end : ℕ) (labels : Labels) → start ≡ Some end → IsPut out start labels → IsPutAt out end labels
put_at out start end labels e h = subst (λ (o : Option ℕ). IsPut out o labels) e h

-- a name's octets are a name's, and none are the root's
pub above_flat : (name : Labels) → IsName name → EncodesName (encoded name) × (labels_of (encoded name) ≡ name)
above_flat name h = (flat_of name h, decodes name)

-- what a text stands for, from the labels that it spells
pub placed_is : (text origin above : Labels) (absolute : Bool) (said : Result Spelled NameFault) → said ≡ Ok (record { labels = text; absolute = absolute }) → above ≡ (if absolute then [] else origin) → placed origin said ≡ if_short (above ++ reverse text)
placed_is text origin above absolute said e f = ap (placed origin) e ∙ by absolute ∙ ap (λ (a : Labels). if_short (a ++ reverse text)) (sym f)
  where
    by : (b : Bool) → if_short (if b then reverse text else origin ++ reverse text) ≡ if_short ((if b then [] else origin) ++ reverse text)
    by true = refl
    by false = refl

-- what is spelled so far: these labels stand at the end of so many octets, and those of the rest follow
pub record IsSpelling (size : ℕ) (whole rest out : List ℕ) (start : Option ℕ) : Type 0 where
  pub labels : Labels
  pub said : after_labels labels (spelled [] (signs rest)) ≡ spelled [] (signs whole)
  pub good : AllByRecursion IsLabel labels
  pub put : IsPut out start labels
  pub room : length out ≡ size

-- all of the text is spelled: these labels stand at the end of so many octets
pub record IsDone (size : ℕ) (whole out : List ℕ) (start : Option ℕ) (absolute : Bool) : Type 0 where
  pub labels : Labels
  pub said : spelled [] (signs whole) ≡ Ok (record { labels = labels; absolute = absolute })
  pub good : AllByRecursion IsLabel labels
  pub put : IsPut out start labels
  pub room : length out ≡ size

-- one more label was put above those at the end of the octets, or had no room there
abbrev pub PutsMore : List ℕ → Option ℕ → List ℕ → Option ℕ → List ℕ → Type 0
PutsMore out start out_after start_after label = (labels : Labels) → IsPut out start labels → IsPut out_after start_after (labels ++ label ∷ [])

-- before the first label nothing is put, and the whole text is left
pub spelling_start : (size : ℕ) (text out : List ℕ) → length out ≡ size → IsSpelling size text text out (Some (length out))
spelling_start size text out room = record { labels = []; said = refl; good = tt; put = put_none out; room = room }

-- where the rest begins with a label and a dot and the label is put, what is behind the dot is left
pub spelling_more : (size : ℕ) (whole rest after out out_after label : List ℕ) (start start_after : Option ℕ) → IsSpelling size whole rest out start → spelled [] (signs rest) ≡ after_label label (spelled [] (signs after)) → IsLabel label → PutsMore out start out_after start_after label → length out_after ≡ size → IsSpelling size whole after out_after start_after
spelling_more size whole rest after out out_after label start start_after h first good puts room =
    record { labels = h.labels ++ label ∷ []; said = label_carried h.labels label _ _ _ h.said first; good = all_push IsLabel h.labels label h.good good; put = puts h.labels h.put; room = room }

-- where the rest is a label alone and the label is put, all is spelled, and the name isn't absolute
pub spelling_last : (size : ℕ) (whole rest out out_after label : List ℕ) (start start_after : Option ℕ) → IsSpelling size whole rest out start → spelled [] (signs rest) ≡ Ok (record { labels = label ∷ []; absolute = false }) → IsLabel label → PutsMore out start out_after start_after label → length out_after ≡ size → IsDone size whole out_after start_after false
spelling_last size whole rest out out_after label start start_after h first good puts room =
    record { labels = h.labels ++ label ∷ []; said = last_carried h.labels label _ _ h.said first; good = all_push IsLabel h.labels label h.good good; put = puts h.labels h.put; room = room }

-- where nothing is left, all is spelled, and the name is absolute
pub spelling_end : (size : ℕ) (whole rest out : List ℕ) (start : Option ℕ) → IsSpelling size whole rest out start → length rest ≡ 0 → IsDone size whole out start true
spelling_end size whole rest out start h none =
    record { labels = h.labels; said = none_left h.labels rest _ h.said none; good = h.good; put = h.put; room = h.room }

-- where all is spelled and had room, the text's labels stand at the end of the octets
pub done_ok : (size : ℕ) (whole out : List ℕ) (start : Option ℕ) (absolute : Bool) → IsDone size whole out start absolute → (s : ℕ) (b : Bool) → (start ≡ Some s) × (b ≡ absolute) → IsSpelled whole out s b
done_ok size whole out start absolute h s b e =
    record { labels = h.labels; said = h.said ∙ ap (λ (v : Bool). Ok (record { labels = h.labels; absolute = v })) (sym e.1); good = h.good; put = put_at out start s h.labels e.0 h.put }

-- where all is spelled and had no room in as many octets as a name has, the name is too long under any origin
pub done_fault : (size : ℕ) (whole out : List ℕ) (start : Option ℕ) (absolute : Bool) → IsDone size whole out start absolute → (fault : NameFault) → (start ≡ None) × (fault ≡ NameTooLong) → size ≡ 254 → (origin : Labels) → placed origin (spelled [] (signs whole)) ≡ Err fault
done_fault size whole out start absolute h fault e most origin =
    let full : length out + 1 < wire_octets h.labels = subst (λ (o : Option ℕ). IsPut out o h.labels) e.0 h.put in
    too_long h.labels absolute _ h.said (omega (arith, full, h.room, most)) origin ∙ ap (λ (f : NameFault). Err f) (sym e.1)

-- a fault of what is left is the fault of the whole text under any origin
pub spelling_fault : (size : ℕ) (whole rest out : List ℕ) (start : Option ℕ) → IsSpelling size whole rest out start → (fault : NameFault) → spelled [] (signs rest) ≡ Err fault → (origin : Labels) → placed origin (spelled [] (signs whole)) ≡ Err fault
spelling_fault size whole rest out start h fault e origin =
    ap (placed origin) (sym h.said ∙ ap (after_labels h.labels) e ∙ after_labels_fault h.labels fault)

-- the leaf's text comes first, and the top label's last
pub texts_leaf_first : (label : List ℕ) (below : Labels) → flat_map label_text (reverse (label ∷ below)) ≡ flat_map label_text (reverse below) ++ label_text label
texts_leaf_first label below =
    ap (flat_map label_text) (reverse-append (label ∷ []) below) ∙ flat_map-append label_text (reverse below) (label ∷ []) ∙ ap (λ (r : List ℕ). flat_map label_text (reverse below) ++ r) (append-nil (label_text label))
