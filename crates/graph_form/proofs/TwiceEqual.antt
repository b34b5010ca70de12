-- Whether two items of a list are equal, item by item.
use Rattle.std.proofs.Common.{◌≡◌, ℕ, ◌+◌, ◌<◌, Bool, true, false, ◌||◌, ◌&&◌, List, [], ◌∷◌, ◌++◌, map, length, take, drop, get_or, refl, sym, ap, ◌∙◌}
use Rattle.std.specs.List.{list_any}
use Rattle.std.proofs.lemmas.Bool.{or_left, or_right}
use Rattle.std.proofs.lemmas.List.{take_more, take-append-drop}
use Rattle.std.proofs.lemmas.List.Folds.{list_any-append}
use Rattle.std.proofs.Math.Bool.{and_comm, or-false}
use Rattle.dns_data.specs.Name.{name_eq}
use Rattle.net_model.specs.declared.walk.State.{State}
use Rattle.graph_form.specs.Repeated.{equal_twice, names_asked, place_at}
use Rattle.graph_form.specs.Report.{is_same_place, repeats}
use Rattle.graph_form.specs.contracts.repeated.QuestionPartialEq.TheImpl as question_impl
use Rattle.graph_form.specs.declared.repeated.Question.{Question}

-- four tests, any of which may hold
any_of_four : (a b c d : Bool) → ((a || b) || (c || d)) ≡ ((a || c) || (b || d))
any_of_four true b c d = refl
any_of_four false true true d = refl
any_of_four false true false d = refl
any_of_four false false c d = refl

module _ {A : Type 0} (eq : A → A → Bool) (turned : (x y : A) → eq x y ≡ eq y x) where
  -- with one item more two items are equal, if two were before or an earlier one equals it
  pub twice_more : (xs : List A) (x : A) → equal_twice eq (xs ++ x ∷ []) ≡ (equal_twice eq xs || list_any (eq x) xs)
  twice_more [] x = refl
  twice_more (y ∷ ys) x =
      ap (λ b. b || equal_twice eq (ys ++ x ∷ [])) (list_any-append (eq y) ys (x ∷ []) ∙ ap (λ b. list_any (eq y) ys || b) (or-false (eq y x) ∙ turned y x))
      ∙ (ap (λ b. (list_any (eq y) ys || eq x y) || b) (twice_more ys x)
      ∙ any_of_four (list_any (eq y) ys) (eq x y) (equal_twice eq ys) (list_any (eq x) ys))

  -- two of the items up to the next are equal, if two before it are or one of them equals it
  pub twice_next : (xs : List A) (i : ℕ) (x : A) → i < length xs → x ≡ get_or xs i x
      → equal_twice eq (take (i + 1) xs) ≡ (equal_twice eq (take i xs) || list_any (eq x) (take i xs))
  twice_next xs i x below is =
      ap (equal_twice eq) (take_more xs i x below ∙ ap (λ y. take i xs ++ y ∷ []) (sym is)) ∙ twice_more (take i xs) x

  -- if two items of a front are equal, two of the front with more behind it are
  pub twice_within : (xs ys : List A) → equal_twice eq xs ≡ true → equal_twice eq (xs ++ ys) ≡ true
  twice_within [] ys e = cc
  twice_within (x ∷ xs) ys e = by (list_any (eq x) xs) refl e (λ twice. twice_within xs ys twice) where
    by : (b : Bool) → list_any (eq x) xs ≡ b → (b || equal_twice eq xs) ≡ true → (equal_twice eq xs ≡ true → equal_twice eq (xs ++ ys) ≡ true)
        → (list_any (eq x) (xs ++ ys) || equal_twice eq (xs ++ ys)) ≡ true
    by true has e rest =
        or_left (list_any (eq x) (xs ++ ys)) (equal_twice eq (xs ++ ys))
        (list_any-append (eq x) xs ys ∙ or_left (list_any (eq x) xs) (list_any (eq x) ys) has)
    by false has e rest = or_right (list_any (eq x) (xs ++ ys)) (equal_twice eq (xs ++ ys)) (rest e)

  -- if two of the first items of a list are equal, two of the list are
  pub twice_in_front : (xs : List A) (i : ℕ) → equal_twice eq (take i xs) ≡ true → equal_twice eq xs ≡ true
  twice_in_front xs i e = ap (equal_twice eq) (sym (take-append-drop i xs)) ∙ twice_within (take i xs) (drop i xs) e

-- ---- the questions of states

-- questions are compared as the places of states
asks_there : (question : Question) (state : State) → names_asked question ≡ place_at state → (questions : List Question) (states : List State)
    → map names_asked questions ≡ map place_at states
    → list_any ((question_impl.ghosts).eq question) questions ≡ list_any (is_same_place state) states
asks_there question state is [] [] e = refl
asks_there question state is [] (s ∷ states) e = cc
asks_there question state is (q ∷ questions) [] e = cc
asks_there question state is (q ∷ questions) (s ∷ states) e =
    let first : names_asked q ≡ place_at s = cc in
    let rest : map names_asked questions ≡ map place_at states = cc in
    (λ j. (name_eq (is j).0 (first j).0 && name_eq (is j).1 (first j).1) || asks_there question state is questions states rest j)

-- two questions of a walk's states are equal exactly where the walk comes to a server twice with one name
pub twice_asked : (questions : List Question) (states : List State) → map names_asked questions ≡ map place_at states
    → equal_twice (question_impl.ghosts).eq questions ≡ repeats states
twice_asked [] [] e = refl
twice_asked [] (s ∷ states) e = cc
twice_asked (q ∷ questions) [] e = cc
twice_asked (q ∷ questions) (s ∷ states) e =
    let first : names_asked q ≡ place_at s = cc in
    let rest : map names_asked questions ≡ map place_at states = cc in
    (λ j. asks_there q s first questions states rest j || twice_asked questions states rest j)

-- ---- tests

-- if neither of two tests passes, the test for either fails
pub both_fail : (a b : Bool) → a ≡ false → b ≡ false → (a || b) ≡ false
both_fail true b e f = cc
both_fail false b e f = f

-- names and servers may be compared in either order
pub either_first : (one other : State) → (name_eq one.name other.name && name_eq one.server other.server) ≡ is_same_place one other
either_first one other = and_comm (name_eq one.name other.name) (name_eq one.server other.server)
