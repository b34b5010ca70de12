-- Items that are put in order into items in order: in which order, and by way of which list, doesn't matter.
use Rattle.std.proofs.Common.{◌≡◌, List, [], ◌∷◌, ◌++◌, Ordering, Less, Equal, Greater, sym, refl, ap, ◌∙◌}
use Rattle.std.specs.Cmp.{IsTotalOrder}
use Rattle.std.specs.Ordering.{ordering_reverse}
use Rattle.std.proofs.lemmas.Cmp.{nat_list_cmp_total}
use Rattle.dns_data.specs.DataText.{data_text}
use Rattle.net_model.specs.Zone.{data_cmp}
use Rattle.net_model.specs.Order.{put_in_order, in_order, beside}
use Rattle.zone_tree.specs.Merged.{put_each}

module _ {A : Type 0} (cmp : A → A → Ordering) (total : IsTotalOrder cmp) where
  ties : (x y z : A) → cmp x y ≡ Equal → cmp x z ≡ cmp y z
  ties x y z tie = total.congr x y z tie

  turns : (x y : A) → cmp x y ≡ Greater → cmp y x ≡ Less
  turns x y after = total.antisymm y x ∙ ap ordering_reverse after

  turns_back : (x y : A) → cmp y x ≡ Less → cmp x y ≡ Greater
  turns_back x y before = total.antisymm x y ∙ ap ordering_reverse before

  behind : (x y z : A) → cmp x y ≡ Greater → cmp y z ≡ Greater → cmp x z ≡ Greater
  behind x y z after later = turns_back x z (total.trans z y x (turns y z later) (turns x y after))

  ties_behind : (x y z : A) → cmp x y ≡ Greater → cmp y z ≡ Equal → cmp x z ≡ Greater
  ties_behind x y z after tie = turns_back x z (sym (total.congr y z x tie) ∙ turns x y after)

  -- an item that ties with another is put nowhere behind it
  put_tied : (x y : A) (items : List A) → cmp x y ≡ Equal → put_in_order cmp x (put_in_order cmp y items) ≡ put_in_order cmp y items
  put_tied x y [] tie = ap (beside x y [] (x ∷ [])) tie
  put_tied x y (z ∷ items) tie = by (cmp y z) refl (put_tied x y items tie) where
    by : (o : Ordering) → cmp y z ≡ o → put_in_order cmp x (put_in_order cmp y items) ≡ put_in_order cmp y items
        → put_in_order cmp x (beside y z items (put_in_order cmp y items) o) ≡ beside y z items (put_in_order cmp y items) o
    by Less is rest = ap (beside x y (z ∷ items) (put_in_order cmp x (z ∷ items))) tie
    by Equal is rest = ap (beside x z items (put_in_order cmp x items)) (ties x y z tie ∙ is)
    by Greater is rest =
        ap (beside x z (put_in_order cmp y items) (put_in_order cmp x (put_in_order cmp y items))) (ties x y z tie ∙ is)
        ∙ ap (λ (xs : List A). z ∷ xs) rest

  -- two that don't tie may be put in either order
  put_both : (x y : A) (items : List A) → cmp x y ≡ Greater
      → put_in_order cmp x (put_in_order cmp y items) ≡ put_in_order cmp y (put_in_order cmp x items)
  put_both x y [] after = ap (beside x y [] (x ∷ [])) after ∙ sym (ap (beside y x [] (y ∷ [])) (turns x y after))
  put_both x y (z ∷ items) after = by (cmp y z) (cmp x z) refl refl (put_both x y items after) where
    by : (o p : Ordering) → cmp y z ≡ o → cmp x z ≡ p → put_in_order cmp x (put_in_order cmp y items) ≡ put_in_order cmp y (put_in_order cmp x items)
        → put_in_order cmp x (beside y z items (put_in_order cmp y items) o) ≡ put_in_order cmp y (beside x z items (put_in_order cmp x items) p)
    by Less Less is also rest =
        ap (beside x y (z ∷ items) (put_in_order cmp x (z ∷ items))) after
        ∙ ap (λ (xs : List A). y ∷ xs) (ap (beside x z items (put_in_order cmp x items)) also)
        ∙ sym (ap (beside y x (z ∷ items) (put_in_order cmp y (z ∷ items))) (turns x y after))
    by Less Equal is also rest =
        ap (beside x y (z ∷ items) (put_in_order cmp x (z ∷ items))) after
        ∙ ap (λ (xs : List A). y ∷ xs) (ap (beside x z items (put_in_order cmp x items)) also)
        ∙ sym (ap (beside y z items (put_in_order cmp y items)) is)
    by Less Greater is also rest =
        ap (beside x y (z ∷ items) (put_in_order cmp x (z ∷ items))) after
        ∙ ap (λ (xs : List A). y ∷ xs) (ap (beside x z items (put_in_order cmp x items)) also)
        ∙ sym (ap (beside y z (put_in_order cmp x items) (put_in_order cmp y (put_in_order cmp x items))) is)
    by Equal Greater is also rest =
        ap (beside x z items (put_in_order cmp x items)) also
        ∙ sym (ap (beside y z (put_in_order cmp x items) (put_in_order cmp y (put_in_order cmp x items))) is)
    by Equal Less is also rest = let never : Less ≡ Greater = sym also ∙ ties_behind x y z after is in cc
    by Equal Equal is also rest = let never : Equal ≡ Greater = sym also ∙ ties_behind x y z after is in cc
    by Greater Greater is also rest =
        ap (beside x z (put_in_order cmp y items) (put_in_order cmp x (put_in_order cmp y items))) also
        ∙ ap (λ (xs : List A). z ∷ xs) rest
        ∙ sym (ap (beside y z (put_in_order cmp x items) (put_in_order cmp y (put_in_order cmp x items))) is)
    by Greater Less is also rest = let never : Less ≡ Greater = sym also ∙ behind x y z after is in cc
    by Greater Equal is also rest = let never : Equal ≡ Greater = sym also ∙ behind x y z after is in cc

  -- an item put behind others may be put among them first
  put_among : (x : A) (xs items : List A) → put_in_order cmp x (put_each cmp xs items) ≡ put_each cmp (put_in_order cmp x xs) items
  put_among x [] items = refl
  put_among x (y ∷ xs) items = by (cmp x y) refl (put_among x xs items) where
    by : (o : Ordering) → cmp x y ≡ o → put_in_order cmp x (put_each cmp xs items) ≡ put_each cmp (put_in_order cmp x xs) items
        → put_in_order cmp x (put_in_order cmp y (put_each cmp xs items)) ≡ put_each cmp (beside x y xs (put_in_order cmp x xs) o) items
    by Less is rest = refl
    by Equal is rest = put_tied x y (put_each cmp xs items) is
    by Greater is rest = put_both x y (put_each cmp xs items) is ∙ ap (put_in_order cmp y) rest

  -- putting items into a list one after another is putting them in order first, and then into the list
  pub put_ordered : (xs items : List A) → put_each cmp xs items ≡ put_each cmp (in_order cmp xs) items
  put_ordered [] items = refl
  put_ordered (x ∷ xs) items = ap (put_in_order cmp x) (put_ordered xs items) ∙ put_among x (in_order cmp xs) items

  -- two lists in a row are put in order by putting each in order and the one into the other
  pub in_order_both : (xs ys : List A) → in_order cmp (xs ++ ys) ≡ put_each cmp (in_order cmp xs) (put_each cmp (in_order cmp ys) [])
  in_order_both xs ys = joined xs ∙ put_ordered xs (in_order cmp ys) ∙ ap (put_each cmp (in_order cmp xs)) (alone ys ∙ put_ordered ys []) where
    joined : (xs : List A) → in_order cmp (xs ++ ys) ≡ put_each cmp xs (in_order cmp ys)
    joined [] = refl
    joined (x ∷ xs) = ap (put_in_order cmp x) (joined xs)

    alone : (zs : List A) → in_order cmp zs ≡ put_each cmp zs []
    alone [] = refl
    alone (z ∷ zs) = ap (put_in_order cmp z) (alone zs)

-- data are in a total order by their texts
pub data_total : IsTotalOrder data_cmp
data_total = record {
  antisymm = λ a b. nat_list_cmp_total.antisymm (data_text a) (data_text b);
  trans = λ a b c. nat_list_cmp_total.trans (data_text a) (data_text b) (data_text c);
  congr = λ a b c. nat_list_cmp_total.congr (data_text a) (data_text b) (data_text c);
}
