-- A word in front of the type is taken once as a TTL and once as a class.
use Rattle.std.proofs.Common.{◌≡◌, ◌⊎◌, ℕ, Bool, true, false, List, [], ◌∷◌, refl, sym, ap, ◌∙◌, inl, inr, ◌&&◌, is_none, Option, Some, None, if◌then◌else◌}
use Rattle.std.specs.Prelude.{Result, Ok, Err}
use Rattle.dns_data.specs.Answers.{◌>>=◌}
use Rattle.rdata_forms.specs.Times.{time_of}
use Rattle.master_lex.specs.declared.entry.Token.{Token}
use Rattle.master_read.specs.Entries.{Front, front_of, begins_with_digit, with_ttl, with_class_word, with_next, one_more, front_in}
use Rattle.master_read.specs.Words.{class_word}
use Rattle.master_read.specs.declared.fault.TextCause.{TextCause}
use Rattle.master_read.specs.declared.words.ClassWord.{ClassWord}
use Rattle.master_read.specs.declared.words.ClassWord.TheVariants.{In, NotIn}
use Rattle.master_read.proofs.laws.front_is_whole.Goals as goal

-- nothing was taken, or a TTL, or a class
data Took (f g : Front) : Type 0 where
  nothing : g ≡ f → Took f g
  a_ttl : (seconds : ℕ) → f.ttl ≡ None → g.ttl ≡ Some seconds → g.class ≡ f.class → Took f g
  a_class : f.class ≡ false → g.class ≡ true → g.ttl ≡ f.ttl → Took f g

if_cases : {A : Type 0} (b : Bool) (x y z : A) → (if b then x else y) ≡ z → ((b ≡ true) × (x ≡ z)) ⊎ ((b ≡ false) × (y ≡ z))
if_cases true x y z e = inl (refl, e)
if_cases false x y z e = inr (refl, e)

none_is : (o : Option ℕ) (b : Bool) → (is_none o && b) ≡ true → o ≡ None
none_is None b e = refl
none_is (Some n) b e = absurd cc

took_ttl : (f g : Front) (tokens : List Token) (time : Option ℕ) → f.ttl ≡ None → with_ttl f tokens time ≡ Ok g → Took f g
took_ttl f g tokens (Some seconds) none e =
    let is : record f { ttl = Some seconds; tokens = tokens } ≡ g = cc in
    a_ttl seconds none (sym (ap (λ front. front.ttl) is)) (sym (ap (λ front. front.class) is))
took_ttl f g tokens None none e = absurd cc

took_class : (f g : Front) (tokens : List Token) (word : Option ClassWord) → f.class ≡ false → with_class_word f tokens word ≡ Ok g → Took f g
took_class f g tokens (Some In) unset e =
    let is : record f { class = true; tokens = tokens } ≡ g = cc in
    a_class unset (sym (ap (λ front. front.class) is)) (sym (ap (λ front. front.ttl) is))
took_class f g tokens (Some NotIn) unset e = absurd cc
took_class f g tokens None unset e = nothing cc

took_next : (f g : Front) (tokens : List Token) → with_next f tokens ≡ Ok g → Took f g
took_next f g [] e = nothing cc
took_next f g (token ∷ tokens) e =
    let by_class : Result Front TextCause = if f.class then Ok f else with_class_word f tokens (class_word token.raw) in
    let is_ttl = is_none f.ttl && begins_with_digit token.raw in
    let unquoted : Result Front TextCause = if is_ttl then with_ttl f tokens (time_of token.raw) else by_class in
    elim (if_cases token.quoted (Ok f) unquoted (Ok g) e) [
      | inl quoted ↦ nothing cc
      | inr plain ↦ elim (if_cases is_ttl (with_ttl f tokens (time_of token.raw)) by_class (Ok g) plain.1) [
        | inl ttl ↦ took_ttl f g tokens (time_of token.raw) (none_is f.ttl (begins_with_digit token.raw) ttl.0) ttl.1
        | inr other ↦ elim (if_cases f.class (Ok f) (with_class_word f tokens (class_word token.raw)) (Ok g) other.1) [
          | inl set ↦ nothing cc
          | inr unset ↦ took_class f g tokens (class_word token.raw) unset.0 unset.1
        ]
      ]
    ]

took : (f g : Front) → one_more f ≡ Ok g → Took f g
unfolding one_more
took f g e = took_next f g f.tokens e

same_both : {A : Type 0} (b : Bool) (x y : A) → y ≡ x → (if b then x else y) ≡ x
same_both true x y e = refl
same_both false x y e = e

-- where both were taken, no more is
whole_next : (f : Front) (seconds : ℕ) (tokens : List Token) → f.ttl ≡ Some seconds → f.class ≡ true → with_next f tokens ≡ Ok f
whole_next f seconds [] ttl class = refl
whole_next f seconds (token ∷ tokens) ttl class = same_both token.quoted _ _ (rw (ttl, class) refl)

whole : (f : Front) (seconds : ℕ) → f.ttl ≡ Some seconds → f.class ≡ true → one_more f ≡ Ok f
unfolding one_more
whole f seconds ttl class = whole_next f seconds f.tokens ttl class

-- a front at which nothing was taken stays as it is
same_again : (f g : Front) → g ≡ f → one_more f ≡ Ok g → one_more g ≡ Ok g
same_again f g same e = ap one_more same ∙ e

-- after a second word nothing is taken
after_two : (tokens : List Token) (f g : Front) → Took (front_of tokens) f → one_more (front_of tokens) ≡ Ok f → Took f g → one_more f ≡ Ok g → one_more g ≡ Ok g
after_two tokens f g first e (nothing same) d = same_again f g same d
after_two tokens f g (nothing same) e second d =
    let again : g ≡ f = cc (ap one_more same, e, d) in
    same_again f g again d
after_two tokens f g (a_ttl seconds none ttl class) e (a_ttl seconds' none' ttl' class') d = absurd cc
after_two tokens f g (a_ttl seconds none ttl class) e (a_class unset set same) d = whole g seconds (same ∙ ttl) set
after_two tokens f g (a_class unset set same) e (a_ttl seconds none ttl class) d = whole g seconds ttl (class ∙ set)
after_two tokens f g (a_class unset set same) e (a_class unset' set' same') d = absurd cc

by_first : (tokens : List Token) (g : Front) (first : Result Front TextCause) → one_more (front_of tokens) ≡ first → (first >>= one_more) ≡ Ok g → one_more g ≡ Ok g
by_first tokens g (Ok f) e d = after_two tokens f g (took (front_of tokens) f e) e (took f g d) d
by_first tokens g (Err cause) e d = absurd cc

pub returns : goal.returns
unfolding front_in
returns c tokens front e = by_first tokens front (one_more (front_of tokens)) refl e
