-- Authoritative leaves, as they are compared.
use Rattle.std.proofs.Common.{◌≡◌, true, ◌&&◌, List, [], ◌∷◌, refl, ap, ◌∙◌}
use Rattle.std.specs.Cmp.Lexicographic.{pointwise_decides}
use lib.Pointwise.{pointwise}
use Rattle.dns_data.specs.Rdata.{data_eq}
use Rattle.dns_data.specs.contracts.rdata.RdataPartialEq.TheImpl as data_impl
use Rattle.dns_data.specs.declared.rdata.Rdata.{Rdata}
use Rattle.dns_data.proofs.EqualData.{equal_is_same}
use Rattle.dns_data.proofs.Tellers.{same_data}
use Rattle.net_model.specs.Shown.{is_authoritative}
use Rattle.net_model.specs.declared.walk.Leaf.{Leaf}
use Rattle.net_model.specs.declared.walk.Leaf.TheVariants.{Answer, NoData, NxDomain}
use Rattle.graph_form.specs.FirstPath.{answer_eq}

-- lists of data are compared as they are equal
pub same_lists : (a b : List Rdata) → pointwise (data_impl.ghosts).eq a b ≡ pointwise data_eq a b
same_lists [] [] = refl
same_lists [] (y ∷ ys) = refl
same_lists (x ∷ xs) [] = refl
same_lists (x ∷ xs) (y ∷ ys) = ap (λ b. b && pointwise (data_impl.ghosts).eq xs ys) (same_data x y) ∙ ap (λ b. data_eq x y && b) (same_lists xs ys)

-- authoritative leaves that the test finds equal are the same
pub same_answers : (a b : Leaf) → answer_eq a b ≡ true → a ≡ b
same_answers (Answer a) (Answer b) e = ap Answer ((pointwise_decides (λ x y. equal_is_same x y) a b).0 e)
same_answers NoData NoData e = refl
same_answers NxDomain NxDomain e = refl
same_answers a b e = cc

-- the test finds an authoritative leaf equal to itself
pub answer_itself : (a : Leaf) → is_authoritative a ≡ true → answer_eq a a ≡ true
answer_itself (Answer a) e = (pointwise_decides (λ x y. equal_is_same x y) a a).1 refl
answer_itself NoData e = refl
answer_itself NxDomain e = refl
answer_itself leaf e = cc
