-- The words of rows by the views that a check was shown, and their lines.
use Rattle.std.proofs.Common.{◌≡◌, ℕ, suc, ◌+◌, ◌<◌, ◌≤◌, Bool, true, false, ◌||◌, cond, List, [], ◌∷◌, ◌++◌, append_assoc, append-nil, map, length, drop, get_or, codes, refl, sym, ap, ◌∙◌, subst, arith}
use Rattle.std.proofs.Math.Bool.{or-false}
use Rattle.std.specs.Prelude.{◌↔◌, Contains}
use Rattle.std.specs.List.{AllZip, fold, list_any}
use Rattle.std.proofs.Math.ListN.{drop_of_length-le}
use Rattle.std.proofs.Math.Seq.{drop-cons}
use Rattle.std.proofs.lemmas.List.{length-map}
use Rattle.dns_data.proofs.Membership.{has_first, has_later}
use Rattle.config_load.specs.declared.loaded.RowFiles.{RowFiles}
use Rattle.site_checks.specs.declared.views.View.{View}
use Rattle.map_run.specs.Columns.{columns_line}
use Rattle.map_run.specs.Reached.{after_view, reached_text, reached_word, row_columns, shows_reached}

-- ---- all views

one_word : (shown was : Bool) → reached_word (shown || was) ≡ cond shown (codes "reached") (reached_word was)
one_word true was = refl
one_word false was = refl

-- the words of rows, once a view was shown, say of each row that the view shows it or that it said so before
pub one_view : (view : View) (told : RowFiles → Bool) (rows : List RowFiles)
    → after_view view rows (map (λ row. reached_word (told row)) rows) ≡ map (λ row. reached_word (shows_reached view row || told row)) rows
one_view view told [] = refl
one_view view told (row ∷ rows) =
    let first = sym (one_word (shows_reached view row) (told row)) in
    let rest = one_view view told rows in
    λ i. first i ∷ rest i

turned : (shown was later : Bool) → ((shown || was) || later) ≡ (was || (shown || later))
turned true true later = refl
turned true false later = refl
turned false true later = refl
turned false false later = refl

-- some view shows that the row is reached
abbrev pub is_seen : List View → RowFiles → Bool
is_seen views row = list_any (λ view. shows_reached view row) views

all_views : (rows : List RowFiles) (views : List View) (told : RowFiles → Bool)
    → fold (λ words view. after_view view rows words) (map (λ row. reached_word (told row)) rows) views ≡ map (λ row. reached_word (told row || is_seen views row)) rows
all_views rows [] told = λ i. map (λ row. reached_word (sym (or-false (told row)) i)) rows
all_views rows (view ∷ views) told =
    ap (λ found. fold (λ words view. after_view view rows words) found views) (one_view view told rows)
    ∙ all_views rows views (λ row. shows_reached view row || told row)
    ∙ (λ i. map (λ row. reached_word (turned (shows_reached view row) (told row) (is_seen views row) i)) rows)

-- steps that do the same lead to the same words
one_step : (a b : List (List ℕ) → View → List (List ℕ)) → ((words : List (List ℕ)) (view : View) → a words view ≡ b words view)
    → (words : List (List ℕ)) (views : List View) → fold a words views ≡ fold b words views
one_step a b same words [] = refl
one_step a b same words (view ∷ views) = one_step a b same (a words view) views ∙ ap (λ found. fold b found views) (same words view)

-- after views were shown, a row is reached exactly where some view shows it
pub words_seen : (step : List (List ℕ) → View → List (List ℕ)) (rows : List RowFiles) (views : List View) (before after : List (List ℕ))
    → ((words : List (List ℕ)) (view : View) → step words view ≡ after_view view rows words) → before ≡ map (λ row. codes "unreached") rows → after ≡ fold step before views
    → after ≡ map (λ row. reached_word (is_seen views row)) rows
words_seen step rows views before after does begins holds =
    holds ∙ one_step step (λ words view. after_view view rows words) does before views
    ∙ ap (λ found. fold (λ words view. after_view view rows words) found views) begins
    ∙ all_views rows views (λ row. false)

-- ---- what the words tell

one_word_each : (a b : Bool) → reached_word a ≡ reached_word b → a ≡ b
one_word_each true true e = refl
one_word_each false false e = refl
one_word_each true false e = let long : 7 ≡ 9 = ap length e in absurd (omega (arith, long))
one_word_each false true e = let long : 9 ≡ 7 = ap length e in absurd (omega (arith, long))

module _ (test : RowFiles → Bool) where
  -- there are as many words as rows
  pub as_many : (told : List Bool) (rows : List RowFiles) → map reached_word told ≡ map (λ row. reached_word (test row)) rows → length told ≡ length rows
  as_many told rows e = sym (length-map told reached_word) ∙ ap length e ∙ length-map rows (λ row. reached_word (test row))

  -- the word of each row is what the test says of it, and what that means
  pub tell_rows : (P : RowFiles → Type 0) (told : List Bool) (rows : List RowFiles) → map reached_word told ≡ map (λ row. reached_word (test row)) rows
      → ((row : RowFiles) → Contains rows row → (test row ≡ true) ↔ P row) → AllZip (λ (row : RowFiles) (one : Bool). (one ≡ true) ↔ P row) rows told
  tell_rows P [] [] e means = tt
  tell_rows P [] (row ∷ rows) e means = absurd cc
  tell_rows P (one ∷ told) [] e means = absurd cc
  tell_rows P (one ∷ told) (row ∷ rows) e means =
      let first : reached_word one ≡ reached_word (test row) = cc in
      let rest : map reached_word told ≡ map (λ row. reached_word (test row)) rows = cc in (
        subst (λ (b : Bool). (b ≡ true) ↔ P row) (sym (one_word_each one (test row) first)) (means row (has_first row rows)),
        tell_rows P told rows rest (λ other has. means other (has_later row rows other has)),
      )

-- ---- lines

-- one line more, and those that are left
pub line_more : (text all : List ℕ) (told : List Bool) (rows : List RowFiles) (i : ℕ) (d : Bool) (row : RowFiles) → i < length rows → row ≡ get_or rows i row → i < length told
    → text ++ reached_text (i + 1) (drop i told) (drop i rows) ≡ all
    → (text ++ columns_line (row_columns (i + 1) (get_or told i d) row)) ++ reached_text (i + 1 + 1) (drop (i + 1) told) (drop (i + 1) rows) ≡ all
line_more text all told rows i d row there is also before =
    let next : suc i ≡ i + 1 = omega arith in
    let of_rows = drop-cons rows i row there ∙ (λ j. sym is j ∷ drop (next j) rows) in
    let of_told = drop-cons told i d also ∙ ap (λ n. get_or told i d ∷ drop n told) next in
    append_assoc text (columns_line (row_columns (i + 1) (get_or told i d) row)) (reached_text (i + 1 + 1) (drop (i + 1) told) (drop (i + 1) rows))
    ∙ sym (λ j. text ++ reached_text (i + 1) (of_told j) (of_rows j)) ∙ before

-- if no row is left, the lines so far are all lines
pub lines_end : (text all : List ℕ) (told : List Bool) (rows : List RowFiles) (i : ℕ) → length told ≤ i
    → text ++ reached_text (i + 1) (drop i told) (drop i rows) ≡ all → text ≡ all
lines_end text all told rows i past before =
    sym (append-nil text) ∙ sym (ap (λ left. text ++ reached_text (i + 1) left (drop i rows)) (drop_of_length-le told past)) ∙ before
