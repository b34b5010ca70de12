-- The reading of a text, label by label.
use Rattle.std.proofs.Common.{◌≡◌, ℕ, ◌++◌, Bool, true, false, List, [], ◌∷◌, length, Result, Ok, Err, sym, refl, ap, ◌∙◌}
use Rattle.std.proofs.lemmas.List.{append-nil, nil_from_length}
use Rattle.dns_data.specs.declared.fault.NameFault.{NameFault}
use Rattle.dns_data.specs.Name.{Labels}
use Rattle.dns_data.specs.Spelling.{Spelled, signs, spelled, after_label}

-- what is spelled, with these labels before it
abbrev pub after_labels : Labels → Result Spelled NameFault → Result Spelled NameFault
after_labels [] said = said
after_labels (label ∷ labels) said = after_label label (after_labels labels said)

-- labels with one more at their end, before what is spelled, are the labels before the one and what is spelled
pub after_labels_more : (labels : Labels) (label : List ℕ) (said : Result Spelled NameFault) → after_labels (labels ++ label ∷ []) said ≡ after_labels labels (after_label label said)
after_labels_more [] label said = refl
after_labels_more (first ∷ labels) label said = ap (after_label first) (after_labels_more labels label said)

-- a fault stays the fault
pub after_labels_fault : (labels : Labels) (fault : NameFault) → after_labels labels (Err fault) ≡ Err fault
after_labels_fault [] fault = refl
after_labels_fault (label ∷ labels) fault = ap (after_label label) (after_labels_fault labels fault)

-- labels stand before those that follow
pub after_labels_ok : (labels below : Labels) (absolute : Bool) → after_labels labels (Ok (record { labels = below; absolute = absolute })) ≡ Ok (record { labels = labels ++ below; absolute = absolute })
after_labels_ok [] below absolute = refl
after_labels_ok (label ∷ labels) below absolute = ap (after_label label) (after_labels_ok labels below absolute)

-- a label that a dot ends goes to the labels before the rest
pub label_carried : (labels : Labels) (label : List ℕ) (rest first whole : Result Spelled NameFault) → after_labels labels first ≡ whole → first ≡ after_label label rest → after_labels (labels ++ label ∷ []) rest ≡ whole
label_carried labels label rest first whole e h = after_labels_more labels label rest ∙ ap (after_labels labels) (sym h) ∙ e

-- a label that no dot ends is the last
pub last_carried : (labels : Labels) (label : List ℕ) (first whole : Result Spelled NameFault) → after_labels labels first ≡ whole → first ≡ Ok (record { labels = label ∷ []; absolute = false }) → whole ≡ Ok (record { labels = labels ++ label ∷ []; absolute = false })
last_carried labels label first whole e h = sym e ∙ ap (after_labels labels) h ∙ after_labels_ok labels (label ∷ []) false

-- if nothing is left of a text, the labels so far are all, and a dot ended the last one
pub none_left : (labels : Labels) (rest : List ℕ) (whole : Result Spelled NameFault) → after_labels labels (spelled [] (signs rest)) ≡ whole → length rest ≡ 0 → whole ≡ Ok (record { labels = labels; absolute = true })
none_left labels rest whole e none =
    sym e ∙ ap (λ (text : List ℕ). after_labels labels (spelled [] (signs text))) (nil_from_length rest none) ∙ after_labels_ok labels [] true ∙ ap (λ (all : Labels). Ok (record { labels = all; absolute = true })) (append-nil labels)
