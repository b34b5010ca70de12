-- Sets of servers by the tests of their names.
use Rattle.std.proofs.Common.{◌≡◌, Bool, true, false, cond, not, ◌||◌, ◌&&◌, List, [], ◌∷◌, is_eq, refl, sym, ap, ◌∙◌}
use Rattle.std.specs.List.{list_any}
use Rattle.std.specs.Cmp.Lexicographic.{lists_ties, texts_ties}
use Rattle.dns_data.specs.Label.{label_cmp}
use Rattle.dns_data.specs.Name.{Labels, name_eq, name_cmp}

-- a set has a name where a test of its names passes
pub in_set : (name : Labels) (keys : List Labels) → list_any (λ key. is_eq (name_cmp name key)) keys ≡ list_any (name_eq name) keys
in_set name [] = refl
in_set name (key ∷ keys) =
    ap (λ (b : Bool). b || list_any (λ key. is_eq (name_cmp name key)) keys) (sym (lists_ties label_cmp texts_ties name key))
    ∙ ap (λ (b : Bool). name_eq name key || b) (in_set name keys)

module _ (name other : Labels) (old : List Labels) where
  -- whether a set with a name put in has a name is whether it is that one or was in it before
  pub put_in : (new : List Labels) → list_any (λ key. is_eq (name_cmp other key)) new ≡ cond (is_eq (name_cmp name other)) true (list_any (λ key. is_eq (name_cmp other key)) old)
      → list_any (name_eq other) new ≡ (name_eq name other || list_any (name_eq other) old)
  put_in new is =
      sym (in_set other new) ∙ is
      ∙ ap (λ (b : Bool). cond (is_eq (name_cmp name other)) true b) (in_set other old)
      ∙ by (is_eq (name_cmp name other)) (lists_ties label_cmp texts_ties name other)
    where
      by : (b : Bool) → name_eq name other ≡ b → cond b true (list_any (name_eq other) old) ≡ (name_eq name other || list_any (name_eq other) old)
      by true e = sym (ap (λ (b : Bool). b || list_any (name_eq other) old) e)
      by false e = sym (ap (λ (b : Bool). b || list_any (name_eq other) old) e)

  -- whether a set with a name taken out has a name is whether it isn't that one and was in it before
  pub taken_out : (new : List Labels) → list_any (λ key. is_eq (name_cmp other key)) new ≡ cond (is_eq (name_cmp name other)) false (list_any (λ key. is_eq (name_cmp other key)) old)
      → list_any (name_eq other) new ≡ (not (name_eq name other) && list_any (name_eq other) old)
  taken_out new is =
      sym (in_set other new) ∙ is
      ∙ ap (λ (b : Bool). cond (is_eq (name_cmp name other)) false b) (in_set other old)
      ∙ by (is_eq (name_cmp name other)) (lists_ties label_cmp texts_ties name other)
    where
      by : (b : Bool) → name_eq name other ≡ b → cond b false (list_any (name_eq other) old) ≡ (not (name_eq name other) && list_any (name_eq other) old)
      by true e = sym (ap (λ (b : Bool). not b && list_any (name_eq other) old) e)
      by false e = sym (ap (λ (b : Bool). not b && list_any (name_eq other) old) e)
