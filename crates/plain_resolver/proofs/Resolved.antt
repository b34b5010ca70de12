-- The walks of a query as a list: whether there are more than so many.
use Rattle.std.proofs.Common.{ℕ, ◌<◌, ◌≤◌, List, length, get_or, is_some, Less, ap, subst, arith, ◌≡◌}
use Rattle.std.specs.Prelude.{IsSome}
use Rattle.std.specs.Cmp.Lexicographic.{nat_list_cmp_total}
use Rattle.std.specs.List.{AllByRecursion}
use Rattle.dns_data.specs.Name.{Labels}
use Rattle.dns_data.specs.declared.rr_type.RrType.{RrType}
use Rattle.net_model.specs.Step.{Setting, start}
use Rattle.net_model.specs.Walk.{walk_along, path_cmp}
use Rattle.dns_data.proofs.Membership.{all_images}
use Rattle.dns_data.proofs.OrderedLists.{never_before_itself}
use Rattle.net_model.proofs.Counting.{no_more_than}
use Rattle.plain_resolver.specs.Passed.{HasMoreWalks}
use Rattle.net_model.proofs.AllWalks.{Settled, all_along_are}
use Rattle.net_model.proofs.WalkLists.{numbered, paths, total, numbers_of, as_many, ordered, has_walk}

module _ (setting : Setting) (rtype : RrType) (depth : ℕ) (query : Labels) where
  -- if more walks than so many are listed, the query has more walks
  pub has_more : (most : ℕ) → most < length (total setting rtype depth query) → HasMoreWalks setting query rtype most
  has_more most more = record {
    items = paths setting rtype depth query;
    more = omega (arith, more, as_many setting rtype depth query);
    differ = λ i j d before within same.
        never_before_itself path_cmp nat_list_cmp_total (get_or (paths setting rtype depth query) j d)
        (subst (λ (ns : List ℕ). path_cmp ns (get_or (paths setting rtype depth query) j d) ≡ Less) same (ordered setting rtype depth query i j d before within));
    each = all_images (numbers_of setting rtype depth query) (λ (ns : List ℕ). IsSome (walk_along setting query rtype ns)) (numbered setting rtype depth query)
        (λ x has. ap is_some (all_along_are setting rtype depth query x has));
  }

  -- if no more walks than so many are listed, the query has no more walks
  pub has_no_more : (most : ℕ) → length (total setting rtype depth query) ≤ most → AllByRecursion (Settled depth setting rtype) (start setting.config query) → HasMoreWalks setting query rtype most → ⊥
  has_no_more most few settled =
      no_more_than (λ (ns : List ℕ). IsSome (walk_along setting query rtype ns)) most (paths setting rtype depth query) (omega (arith, few, as_many setting rtype depth query)) (has_walk setting rtype depth query settled)
