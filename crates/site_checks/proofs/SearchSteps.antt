-- What the search for ends keeps at each of its steps.
use Rattle.std.proofs.Common.{◌≡◌, ℕ, zero, suc, ◌+◌, ◌<◌, ◌≤◌, Bool, true, false, List, [], ◌∷◌, ◌++◌, append-nil, length, take, get_or, slice_set, replicate, Contains, Some, refl, sym, ap, ◌∙◌, subst, inl, inr}
use Rattle.std.specs.Prelude.{slice_get}
use Rattle.std.specs.List.{flat_map, fold}
use Rattle.std.proofs.lemmas.Bool.{cases_eq}
use Rattle.std.proofs.lemmas.List.{take_all, take_more}
use Rattle.std.proofs.lemmas.List.Concat.{flat_map-append}
use Rattle.std.proofs.lemmas.List.Sums.{fold-append}
use Rattle.std.proofs.lemmas.Option.{slice_get-get_or}
use Rattle.dns_data.specs.declared.rr_type.RrType.{RrType}
use Rattle.graph_form.specs.Graph.{PlainGraph}
use Rattle.graph_form.proofs.SearchStates.{none_met}
use Rattle.site_checks.specs.Ends.{end_eq}
use Rattle.site_checks.specs.Once.{with_new}
use Rattle.site_checks.specs.PathEnds.{AreDone, ends_from}
use Rattle.site_checks.specs.declared.views.TypedEnd.{TypedEnd}
use Rattle.site_checks.proofs.EqualEnds.{end_decides}
use Rattle.site_checks.proofs.InOrder.{added, all_there, kept}

-- the ends with others put behind them in turn, each unless it is there
abbrev pub put : List TypedEnd → List TypedEnd → List TypedEnd
put ends more = fold (with_new end_eq) ends more

-- ---- what several items give in turn

module _ {X : Type 0} (give : X → List TypedEnd) (xs : List X) (i : ℕ) (ends was : List TypedEnd) (so : was ≡ put ends (flat_map give (take i xs))) where
  -- the ends with those that one item more gives
  pub one_more : (now : List TypedEnd) (x d : X) → i < length xs → x ≡ get_or xs i d → now ≡ put was (give x) → now ≡ put ends (flat_map give (take (i + 1) xs))
  one_more now x d there is next =
      next ∙ ap (λ (w : List TypedEnd). put w (give x)) so
      ∙ sym (fold-append (with_new end_eq) ends (flat_map give (take i xs)) (give x))
      ∙ ap (put ends) (ap (λ (l : List TypedEnd). flat_map give (take i xs) ++ l) (sym (append-nil (give x)))
      ∙ sym (flat_map-append give (take i xs) (x ∷ []))
      ∙ ap (flat_map give) (ap (λ (y : X). take i xs ++ y ∷ []) is ∙ sym (take_more xs i d there)))

  -- if all items are passed, the ends are with those that all give
  pub all_given : length xs ≤ i → was ≡ put ends (flat_map give xs)
  all_given past = so ∙ ap (λ (l : List X). put ends (flat_map give l)) (take_all i xs past)

-- ---- marks

module _ (graph : PlainGraph) (rtype : RrType) where
  -- at first no node is marked
  pub none_done : (size : ℕ) (done : List Bool) (ends : List TypedEnd) → done ≡ replicate size false → AreDone graph rtype done ends
  none_done size done ends clear at end marked has = absurd (none_met size at (ap (λ (marks : List Bool). slice_get marks at) (sym clear) ∙ marked))

  -- ends put behind those that are there change nothing of what is done
  pub still_done : (done : List Bool) (ends more : List TypedEnd) → AreDone graph rtype done ends → AreDone graph rtype done (put ends more)
  still_done done ends more all at end marked has = kept end_eq end_decides ends more end (all at end marked has)

  -- a marked node leads to no new end
  pub done_leads : (done : List Bool) (ends : List TypedEnd) (at : ℕ) → at < length done → get_or done at false ≡ true → AreDone graph rtype done ends
      → ends ≡ put ends (ends_from graph rtype at)
  done_leads done ends at within marked all =
      sym (all_there end_eq end_decides ends (ends_from graph rtype at) (λ x has. all at x (slice_get-get_or done at false within ∙ ap Some marked) has))

  set_other : (done : List Bool) (at other : ℕ) (b : Bool) → (other ≡ at → ⊥) → slice_get (slice_set done at b) other ≡ slice_get done other
  set_other [] at other b apart = refl
  set_other (d ∷ done) zero zero b apart = absurd (apart refl)
  set_other (d ∷ done) zero (suc other) b apart = refl
  set_other (d ∷ done) (suc at) zero b apart = refl
  set_other (d ∷ done) (suc at) (suc other) b apart = set_other done at other b (λ e. apart (ap suc e))

  -- once the ends to which a node leads are there, it may be marked
  pub done_more : (done : List Bool) (now ends : List TypedEnd) (at : ℕ) → AreDone graph rtype done now → now ≡ put ends (ends_from graph rtype at)
      → AreDone graph rtype (slice_set done at true) now
  done_more done now ends at all is other end marked has =
      elim (cases_eq other at) [
        | inl same ↦ subst (λ (l : List TypedEnd). Contains l end) (sym is)
            (added end_eq end_decides ends (ends_from graph rtype at) end (subst (λ (n : ℕ). Contains (ends_from graph rtype n) end) same has))
        | inr apart ↦ all other end (sym (set_other done at other true apart) ∙ marked) has
      ]
