-- Checks that have seen some views, and then some more; and what they tell.
use Rattle.std.proofs.Common.{◌≡◌, ℕ, ◌+◌, ◌<◌, List, [], ◌∷◌, ◌++◌, map, length, take, get_or, refl, sym, ap, subst, ◌∙◌}
use Rattle.std.proofs.lemmas.List.{take_more}
use Rattle.std.proofs.lemmas.List.Sums.{fold-append}
use Rattle.std.specs.List.{AllZip, fold}
use Rattle.site_checks.specs.Shown.{HasSeen, AreSiteFindings}
use Rattle.site_checks.specs.Views.{site_findings}
use Rattle.site_checks.specs.declared.shown.SiteFindings.{SiteFindings}
use Rattle.site_checks.specs.declared.views.View.{View}

module _ {B : Type 0} (name : B → List ℕ) (held : B → List (List ℕ)) (step : B → List (List ℕ) → View → List (List ℕ)) where
  -- before any view is shown no check has seen one
  pub nothing_seen : (all : List B) → AllZip (HasSeen name held step []) all all
  nothing_seen [] = tt
  nothing_seen (b ∷ all) = (record { name_is = refl; step_is = λ found view. refl; held_is = refl }, nothing_seen all)

  -- checks with one step hold the same, whichever of them it is
  one_step : (a b : B) → ((found : List (List ℕ)) (view : View) → step b found view ≡ step a found view) → (found : List (List ℕ)) (views : List View)
      → fold (step b) found views ≡ fold (step a) found views
  one_step a b same found [] = refl
  one_step a b same found (view ∷ views) = ap (λ h. fold (step b) h views) (same found view) ∙ one_step a b same (step a found view) views

  -- one check has seen some views more
  one_seen : (views more : List View) (a b c : B) → HasSeen name held step views a b → HasSeen name held step more b c → HasSeen name held step (views ++ more) a c
  one_seen views more a b c first next = record {
    name_is = next.name_is ∙ first.name_is;
    step_is = λ found seen. next.step_is found seen ∙ first.step_is found seen;
    held_is =
        next.held_is ∙ one_step a b first.step_is (held b) more ∙ ap (λ h. fold (step a) h more) first.held_is
        ∙ sym (fold-append (step a) (held a) views more);
  }

  -- checks that were shown some views and then some more were shown both
  pub more_seen : (views more : List View) (olds bs cs : List B) → AllZip (HasSeen name held step views) olds bs → AllZip (HasSeen name held step more) bs cs
      → AllZip (HasSeen name held step (views ++ more)) olds cs
  more_seen views more [] [] [] first next = tt
  more_seen views more [] [] (c ∷ cs) first next = absurd next
  more_seen views more [] (b ∷ bs) cs first next = absurd first
  more_seen views more (a ∷ olds) [] cs first next = absurd first
  more_seen views more (a ∷ olds) (b ∷ bs) [] first next = absurd next
  more_seen views more (a ∷ olds) (b ∷ bs) (c ∷ cs) first next = (one_seen views more a b c first.0 next.0, more_seen views more olds bs cs first.1 next.1)

  -- what checks tell is told once
  pub all_findings_are : (all : List B) (told : List SiteFindings) → AllZip (AreSiteFindings name held) all told → told ≡ map (λ b. record { title = name b; findings = held b }) all
  all_findings_are [] [] tells = refl
  all_findings_are [] (t ∷ told) tells = absurd tells
  all_findings_are (b ∷ all) [] tells = absurd tells
  all_findings_are (b ∷ all) (t ∷ told) tells =
      by (as_found t (name b) (held b) tells.0.title_is tells.0.findings_are) (all_findings_are all told tells.1)
    where
      as_found : (t : SiteFindings) (title : List ℕ) (findings : List (List ℕ)) → t.title ≡ title → t.findings ≡ findings → t ≡ record { title = title; findings = findings }
      as_found t title findings one other = λ i. record { title = one i; findings = other i }

      by : {x y : SiteFindings} {xs ys : List SiteFindings} → x ≡ y → xs ≡ ys → x ∷ xs ≡ y ∷ ys
      by one rest = λ i. one i ∷ rest i

  -- checks that were shown views tell what they mean that were handed in
  pub findings_after : (views : List View) (olds bs : List B) → AllZip (HasSeen name held step views) olds bs
      → map (λ b. record { title = name b; findings = held b }) bs ≡ map (site_findings views) (map (λ b. record { name = name b; held = held b; step = step b }) olds)
  findings_after views [] [] seen = refl
  findings_after views [] (b ∷ bs) seen = absurd seen
  findings_after views (a ∷ olds) [] seen = absurd seen
  findings_after views (a ∷ olds) (b ∷ bs) seen =
      let rest = findings_after views olds bs seen.1 in
      λ i. record { title = seen.0.name_is i; findings = seen.0.held_is i } ∷ rest i

-- one more is told
zip_one : {A B : Type 0} (R : A → B → Type 0) (xs : List A) (ys : List B) (x : A) (y : B) → AllZip R xs ys → R x y → AllZip R (xs ++ x ∷ []) (ys ++ y ∷ [])
zip_one R [] [] x y all one = (one, tt)
zip_one R [] (b ∷ ys) x y all one = absurd all
zip_one R (a ∷ xs) [] x y all one = absurd all
zip_one R (a ∷ xs) (b ∷ ys) x y all one = (all.0, zip_one R xs ys x y all.1 one)

-- the first items of a list stay beside what is told of them with one more of each
pub zip_more : {A B : Type 0} (R : A → B → Type 0) (xs : List A) (ys now : List B) (i : ℕ) (x : A) (y : B) → i < length xs → x ≡ get_or xs i x → now ≡ ys ++ y ∷ [] → R x y
    → AllZip R (take i xs) ys → AllZip R (take (i + 1) xs) now
zip_more R xs ys now i x y there is pushed one all =
    subst (λ zs. AllZip R zs now) (ap (λ z. take i xs ++ z ∷ []) is ∙ sym (take_more xs i x there))
    (subst (λ zs. AllZip R (take i xs ++ x ∷ []) zs) (sym pushed) (zip_one R (take i xs) ys x y all one))
