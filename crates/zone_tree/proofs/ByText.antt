-- A map of data by their texts, and a set of names: what an item that is put changes.
use Rattle.std.proofs.Common.{◌≡◌, ℕ, Bool, List, [], ◌∷◌, map, Some, None, Bor, Ordering, Less, Equal, Greater, sym, refl, ap, ◌∙◌}
use Rattle.std.specs.BTreeMap.{insert_entry, is_at}
use Rattle.std.specs.Cmp.Lexicographic.{slice_cmp, nat_list_cmp_total}
use Rattle.std.specs.List.{AllByRecursion}
use Rattle.std.specs.List.Sorted.{IsStrictlySortedBy}
use Rattle.std.specs.Map.{keys_of, lookup}
use Rattle.std.specs.Ordering.{nat_cmp, match_ordering, is_eq}
use Rattle.std.proofs.lemmas.Map.{lookup-none}
use Rattle.std.proofs.lemmas.Map.Entries.{lookup_head, lookup_tail, none_below_head}
use Rattle.dns_data.specs.DataText.{data_text}
use Rattle.dns_data.specs.Name.{Labels, name_cmp}
use Rattle.dns_data.specs.declared.rdata.Rdata.{Rdata}
use Rattle.std.specs.BTreeSet.{insert_key}
use Rattle.net_model.specs.Order.{put_in_order, beside}
use Rattle.dns_data.proofs.NameOrder.{same_labels}
use Rattle.net_model.specs.Zone.{data_cmp}

-- data with the text by which they are put in order
abbrev pub Entry : Type 0
Entry = List ℕ × Rdata

-- an entry's key is the text of its data
abbrev pub IsKeyed : Entry → Type 0
IsKeyed entry = entry.0 ≡ data_text entry.1

-- the name behind a reference
abbrev pub now_of : Bor Labels → Labels
now_of name = name.now

-- the data of an entry
abbrev pub data_at_entry : Entry → Rdata
data_at_entry entry = entry.1

module _ (rdata : Rdata) (text : List ℕ) (is : text ≡ data_text rdata) where
  -- how the text stands to a key
  stands : (entry : Entry) → IsKeyed entry → slice_cmp nat_cmp text entry.0 ≡ data_cmp rdata entry.1
  stands entry keyed =
      ap (λ (x : List ℕ). slice_cmp nat_cmp x entry.0) is ∙ ap (slice_cmp nat_cmp (data_text rdata)) keyed

  -- whether a key is the text
  abbrev is_text : List ℕ → Bool
  is_text = is_at (slice_cmp nat_cmp text)

  -- if no key is the text of the data, the entry put into the table gives the data their place in order
  pub put_absent : (es : List Entry) → AllByRecursion IsKeyed es → lookup is_text es ≡ None
      → map data_at_entry (insert_entry (slice_cmp nat_cmp) es text rdata) ≡ put_in_order data_cmp rdata (map data_at_entry es)
  put_absent [] keyed none = refl
  put_absent (e ∷ es) keyed none =
      by (slice_cmp nat_cmp text e.0) refl (put_absent es keyed.1)
      ∙ ap (beside rdata e.1 (map data_at_entry es) (put_in_order data_cmp rdata (map data_at_entry es))) (stands e keyed.0)
    where
      by : (o : Ordering) → slice_cmp nat_cmp text e.0 ≡ o
          → (lookup is_text es ≡ None → map data_at_entry (insert_entry (slice_cmp nat_cmp) es text rdata) ≡ put_in_order data_cmp rdata (map data_at_entry es))
          → map data_at_entry (match_ordering o ((text, rdata) ∷ e ∷ es) ((e.0, rdata) ∷ es) (e ∷ insert_entry (slice_cmp nat_cmp) es text rdata))
          ≡ beside rdata e.1 (map data_at_entry es) (put_in_order data_cmp rdata (map data_at_entry es)) o
      by Less is rest = refl
      by Equal is rest = absurd (some_is_none (sym (lookup_head is_text e es (ap is_eq is)) ∙ none)) where
        some_is_none : Some e.1 ≡ None → ⊥
        some_is_none h = cc
      by Greater is rest = ap (λ (xs : List Rdata). e.1 ∷ xs) (rest (sym (lookup_tail is_text e es (ap is_eq is)) ∙ none))

  -- if a key is the text of the data, putting them in order changes nothing
  pub put_present : (es : List Entry) → AllByRecursion IsKeyed es → IsStrictlySortedBy (slice_cmp nat_cmp) (keys_of es)
      → (found : Rdata) → lookup is_text es ≡ Some found
      → map data_at_entry es ≡ put_in_order data_cmp rdata (map data_at_entry es)
  unfolding IsStrictlySortedBy
  put_present [] keyed sorted found some = cc
  put_present (e ∷ es) keyed sorted found some =
      by (slice_cmp nat_cmp text e.0) refl (put_present es keyed.1 sorted.1 found)
      ∙ ap (beside rdata e.1 (map data_at_entry es) (put_in_order data_cmp rdata (map data_at_entry es))) (stands e keyed.0)
    where
      by : (o : Ordering) → slice_cmp nat_cmp text e.0 ≡ o
          → (lookup is_text es ≡ Some found → map data_at_entry es ≡ put_in_order data_cmp rdata (map data_at_entry es))
          → map data_at_entry (e ∷ es)
          ≡ beside rdata e.1 (map data_at_entry es) (put_in_order data_cmp rdata (map data_at_entry es)) o
      by Less is rest = absurd (some_is_none (sym some ∙ lookup-none is_text (e ∷ es) (none_below_head nat_list_cmp_total text e es sorted is))) where
        some_is_none : Some found ≡ None → ⊥
        some_is_none h = cc
      by Equal is rest = refl
      by Greater is rest = ap (λ (xs : List Rdata). e.1 ∷ xs) (rest (sym (lookup_tail is_text e es (ap is_eq is)) ∙ some))

  -- each key stays the text of its data when an entry is put into the table
  pub keyed_put : (es : List Entry) → AllByRecursion IsKeyed es → AllByRecursion IsKeyed (insert_entry (slice_cmp nat_cmp) es text rdata)
  keyed_put [] keyed = (is, tt)
  keyed_put (e ∷ es) keyed = by (slice_cmp nat_cmp text e.0) refl (keyed_put es keyed.1) where
    by : (o : Ordering) → slice_cmp nat_cmp text e.0 ≡ o → AllByRecursion IsKeyed (insert_entry (slice_cmp nat_cmp) es text rdata)
        → AllByRecursion IsKeyed (match_ordering o ((text, rdata) ∷ e ∷ es) ((e.0, rdata) ∷ es) (e ∷ insert_entry (slice_cmp nat_cmp) es text rdata))
    by Less same rest = (is, keyed)
    by Equal same rest = (sym (same_labels text e.0 same) ∙ is, keyed.1)
    by Greater same rest = (keyed.0, rest)

-- a name that is put into a set of names gets its place
pub put_name : (name : Bor Labels) (names : List (Bor Labels))
    → map now_of (insert_key (λ (a b : Bor Labels). name_cmp a.now b.now) names name) ≡ put_in_order name_cmp name.now (map now_of names)
put_name name [] = refl
put_name name (first ∷ names) = by (name_cmp name.now first.now) (put_name name names) where
  by : (o : Ordering) → map now_of (insert_key (λ (a b : Bor Labels). name_cmp a.now b.now) names name) ≡ put_in_order name_cmp name.now (map now_of names)
      → map now_of (match_ordering o (name ∷ first ∷ names) (first ∷ names) (first ∷ insert_key (λ (a b : Bor Labels). name_cmp a.now b.now) names name))
      ≡ beside name.now first.now (map now_of names) (put_in_order name_cmp name.now (map now_of names)) o
  by Less rest = refl
  by Equal rest = refl
  by Greater rest = ap (λ (xs : List Labels). first.now ∷ xs) rest
