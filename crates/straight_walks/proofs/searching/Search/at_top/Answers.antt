use Rattle.std.proofs.Common.{◌≡◌, ℕ, length, sym, ap, ◌∙◌, subst, arith}
use Rattle.std.specs.Prelude.{nat_lt}
use Rattle.net_model.specs.declared.config.Config.{Config}
use Rattle.straight_walks.specs.Searching.{BeginsAtTops}
use Rattle.straight_walks.proofs.StraightSearch.{begins_at_top}
use Rattle.straight_walks.proofs.searching.Search.at_top.Goals as goal

pub returns-clause-is : goal.returns-clause-is
returns-clause-is c = λ deps query between.
    let config = c.args.hosts.now in
    let queue = c.in_ok-queue.queue.items in
    let many : c.len.result ≡ length queue = omega (arith, c.len.ensures) in
    record {
      within = omega arith;
      walked = begins_at_top config deps query queue _ c.new.result c.new.ensures.items
          (subst (λ (n : ℕ). BeginsAtTops config query queue (nat_lt n c.count.result)) (sym many)
          (subst (λ (n : ℕ). BeginsAtTops config query queue (nat_lt (length queue) n)) (sym (c.count.ensures ∙ ap (λ (k : Config). length k.tops) c.requires))
          (c.in_ok-queue.ensures query between)));
    }
