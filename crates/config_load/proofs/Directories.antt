-- The directory of a file's name, folder by folder.
use Rattle.std.proofs.Common.{◌≡◌, ◌≢◌, ℕ, suc, ◌+◌, ◌<◌, Bool, true, false, ◌||◌, nat_eq, List, [], ◌∷◌, ◌++◌, length, get_or, cond, subst, ap, refl, sym, ◌∙◌, arith, lit<, length-append}
use Rattle.std.proofs.Math.Seq.{drop-append-add}
use Rattle.std.proofs.lemmas.Bool.Decides.{nat_tests}
use Rattle.std.proofs.lemmas.Str.{IsUtf8-drop, IsCharBoundary-after_ascii}
use Rattle.std.specs.Str.{IsUtf8}
use Rattle.std.specs.List.{list_any}
use Rattle.config_load.specs.Joined.{directory_of}

any_slash : (front after : List ℕ) → list_any (nat_eq 47) (front ++ 47 ∷ after) ≡ true
any_slash [] after = refl
any_slash (octet ∷ front) after = or_true (nat_eq 47 octet) _ (any_slash front after) where
  or_true : (a b : Bool) → b ≡ true → (a || b) ≡ true
  or_true true b h = refl
  or_true false b h = h

-- a folder with its slash stands before the directory of what follows
pub directory_of-folder : (front after : List ℕ) → directory_of (front ++ 47 ∷ after) ≡ front ++ 47 ∷ directory_of after
directory_of-folder [] after = refl
directory_of-folder (octet ∷ front) after =
    ap (λ b. cond b (octet ∷ directory_of (front ++ 47 ∷ after)) []) (any_slash (octet ∷ front) after)
    ∙ ap (λ rest. octet ∷ rest) (directory_of-folder front after)

-- without a slash there is no directory
pub directory_of-none : (name : List ℕ) → list_any (nat_eq 47) name ≡ false → directory_of name ≡ []
directory_of-none [] h = refl
directory_of-none (octet ∷ rest) h = ap (λ b. cond b (octet ∷ directory_of rest) []) h

at_seam : (xs ys : List ℕ) (c : ℕ) → get_or (xs ++ c ∷ ys) (length xs) 0 ≡ c
at_seam [] ys c = refl
at_seam (x ∷ xs) ys c = at_seam xs ys c

-- what follows a slash in a text is a text
pub IsUtf8-after_slash : (bs xs ys : List ℕ) → IsUtf8 bs → bs ≡ xs ++ 47 ∷ ys → IsUtf8 ys
IsUtf8-after_slash bs xs ys text parts =
    let whole : IsUtf8 (xs ++ 47 ∷ ys) = subst IsUtf8 parts text in
    let within : length xs < length (xs ++ 47 ∷ ys) = simp length-append (omega arith) in
    let ascii : get_or (xs ++ 47 ∷ ys) (length xs) 0 < 128 = subst (λ (n : ℕ). n < 128) (sym (at_seam xs ys 47)) (lit< tt) in
    subst IsUtf8 (drop-append-add xs (47 ∷ ys) 1)
    (IsUtf8-drop (xs ++ 47 ∷ ys) (length xs + 1) whole (IsCharBoundary-after_ascii (xs ++ 47 ∷ ys) (length xs) whole within ascii))

-- octets of which none is the slash have no slash
pub no_slash : (bs : List ℕ) → ((i : ℕ) → i < length bs → get_or bs i 0 ≢ 47) → list_any (nat_eq 47) bs ≡ false
no_slash [] h = refl
no_slash (b ∷ bs) h = neither (h 0 (omega arith)) (no_slash bs (λ i lt. h (suc i) (omega arith))) where
  neither : b ≢ 47 → list_any (nat_eq 47) bs ≡ false → list_any (nat_eq 47) (b ∷ bs) ≡ false
  neither ne rest = grind (arith, nat_tests)
