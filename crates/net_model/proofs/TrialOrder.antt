-- The order in which labels are tried below a name is total and tells all labels apart, so a class has at most one
-- representative.
use Rattle.std.proofs.Common.{◌≡◌, ℕ, ◌+◌, ◌-◌, List, [], ◌∷◌, ◌++◌, length, nat_lt, ◌==◌, if◌then◌else◌, sym, ap, ◌∙◌, arith}
use Rattle.std.specs.Cmp.{IsTotalOrder}
use Rattle.std.specs.Cmp.Lexicographic.{slice_cmp}
use Rattle.std.specs.Ordering.{nat_cmp}
use Rattle.std.proofs.lemmas.Bool.Decides.{nat_tests}
use Rattle.std.proofs.lemmas.Cmp.{nat_cmp_total, lists_total, on_total, then_total}
use Rattle.std.proofs.lemmas.Map.Lookups.{CmpEqualImpliesEq, exact_unsigned}
use Rattle.dns_data.specs.Name.{Labels}
use Rattle.net_model.specs.declared.class.Class.{Class}
use Rattle.net_model.specs.declared.class.Class.TheVariants.{Exact, Below}
use Rattle.net_model.specs.Class.{octet_rank, trial_cmp, IsFirstUnnamed, IsRepresentative}
use Rattle.net_model.specs.Reading.{Ground}
use Rattle.dns_data.proofs.OrderedLists.{both_tie, exact_lists, neither_before}

-- the octet with a rank
abbrev octet_with : ℕ → ℕ
octet_with rank =
    if nat_lt rank 26 then rank + 97
    else (if nat_lt rank 36 then rank - 26 + 48
    else (if rank == 36 then 45 else (if rank == 37 then 95 else rank - 38)))

-- a rank tells its octet
rank_tells : (octet : ℕ) → octet_with (octet_rank octet) ≡ octet
rank_tells octet = grind (arith, nat_tests)

-- labels of which neither is tried before the other are equal
pub exact_trials : CmpEqualImpliesEq trial_cmp
exact_trials a b e =
    exact_lists (λ x y. nat_cmp (octet_rank x) (octet_rank y))
    (λ x y tie. sym (rank_tells x) ∙ ap octet_with (exact_unsigned (octet_rank x) (octet_rank y) tie) ∙ rank_tells y) a b
    (both_tie (nat_cmp (length a) (length b)) (slice_cmp (λ x y. nat_cmp (octet_rank x) (octet_rank y)) a b) e).1

-- the order in which labels are tried is total
pub trials_total : IsTotalOrder trial_cmp
trials_total = then_total (on_total length nat_cmp_total) (lists_total (on_total octet_rank nat_cmp_total))

-- one label is the first that makes an unnamed name
one_label : (ground : Ground) (above : Labels) (a b : List ℕ) → IsFirstUnnamed ground above a → IsFirstUnnamed ground above b → a ≡ b
one_label ground above a b p q =
    neither_before trial_cmp trials_total exact_trials a b
    (λ before. p.unnamed (q.first a p.is_label before)) (λ before. q.unnamed (p.first b q.is_label before))

-- a class has one representative
pub one_representative : (ground : Ground) (class : Class) (a b : Labels) → IsRepresentative ground class a → IsRepresentative ground class b → a ≡ b
one_representative ground (Exact alone) a b p q = p ∙ sym q
one_representative ground (Below above) a b p q =
    p.extends ∙ ap (λ (label : List ℕ). above ++ label ∷ []) (one_label ground above p.label q.label p.first q.first) ∙ sym q.extends
