-- A name with labels below it: none, or an open tail.
use Rattle.std.proofs.Common.{◌≡◌, ℕ, ◌<◌, ◌≤◌, Bool, true, false, ◌||◌, ◌∷◌, ◌++◌, length, take, sym, refl, ap, ◌∙◌, subst, arith, append-nil, length-append, lt-ltb}
use Rattle.std.specs.Prelude.{nat_lt}
use Rattle.std.proofs.lemmas.Bool.{ltb-true, ltb-false}
use Rattle.std.proofs.lemmas.List.{take-append-le}
use Rattle.dns_data.specs.Name.{Labels, is_prefix}
use Rattle.dns_data.proofs.NameFronts.{is_prefix_tells, is_prefix_told}
use Rattle.net_model.specs.declared.config.Zone.{Zone}
use Rattle.net_model.specs.Lookup.{deciding}
use Rattle.net_model.proofs.Descent.{prefix_of_prefix}
use Rattle.zone_tree.specs.Decider.{IsTailIf, undecided}
use Rattle.zone_tree.specs.FirstDecider.{Undecided}
use Rattle.zone_tree.proofs.Descents.{records_decide, source_decides}

-- so many labels of the name are fewer than those of the name with the others
same_test : (zone : Zone) (name : Labels) (open_below : Bool) (below : Labels) (count : ℕ) → IsTailIf zone name open_below below
    → count ≤ length name → (open_below || nat_lt count (length name)) ≡ nat_lt count (length (name ++ below))
same_test zone name false below count none short =
    ap (λ (x : Labels). nat_lt count (length x)) (sym (ap (λ (b : Labels). name ++ b) none ∙ append-nil name))
same_test zone name true below count opens short =
    sym (lt-ltb count (length (name ++ below))
    (omega (arith, short, ap (λ (b : Labels). length b) opens.is, length-append name below)))

module _ (zone : Zone) (name : Labels) (open_below : Bool) (below : Labels) (stands : IsTailIf zone name open_below below)
    (count labels : ℕ) (short : count ≤ length name) (many : labels ≡ length name) (test : Bool) (is : test ≡ (open_below || nat_lt count labels)) where
  tested : test ≡ nat_lt count (length (name ++ below))
  tested = is ∙ ap (λ (n : ℕ). open_below || nat_lt count n) many ∙ same_test zone name open_below below count stands short

  -- if the test for a proper front passes, so many labels are fewer than those of the name with the others
  pub proper : test ≡ true → count < length (name ++ below)
  proper e = ltb-true count (length (name ++ below)) (sym tested ∙ e)

  -- if the test for a proper front fails, so many labels are no fewer than those of the name with the others
  pub improper : test ≡ false → length (name ++ below) ≤ count
  improper e = ltb-false count (length (name ++ below)) (sym tested ∙ e)

-- the fronts of the name are fronts of the name with the others
pub front_below : (name below : Labels) (k : ℕ) → k ≤ length name → take k name ≡ take k (name ++ below)
front_below name below k short = sym (take-append-le k name below short)

-- a name with labels below it is at or below an origin if the name is
pub inside_below : (origin name below : Labels) → is_prefix origin name ≡ true → is_prefix origin (name ++ below) ≡ true
inside_below origin name below inside =
    is_prefix_told origin (name ++ below) (prefix_of_prefix origin name (name ++ below) (is_prefix_tells origin name inside) (below, refl))

-- where nothing decides along the name, its own records do, or its source of synthesis
pub at_end_decides : (zone : Zone) (name : Labels) (open_below : Bool) (below : Labels) → IsTailIf zone name open_below below
    → Undecided zone (name ++ below) name → deciding zone (name ++ below) ≡ undecided zone name open_below
at_end_decides zone name false below none so_far =
    let itself : name ++ below ≡ name = ap (λ (b : Labels). name ++ b) none ∙ append-nil name in
    ap (deciding zone) itself ∙ records_decide zone name (subst (λ (x : Labels). Undecided zone x name) itself so_far)
at_end_decides zone name true below opens so_far =
    let whole : name ++ below ≡ name ++ opens.first ∷ opens.rest = ap (λ (b : Labels). name ++ b) opens.is in
    ap (deciding zone) whole
    ∙ source_decides zone name opens.first opens.rest (subst (λ (x : Labels). Undecided zone x name) whole so_far) opens.free
