use Rattle.std.proofs.Common.{List, sym, subst}
use Rattle.std.specs.List.Sorted.{IsPermutation}
use Rattle.query_verdicts.specs.declared.first_classes.ClassFault.{ClassFault}
use Rattle.query_verdicts.proofs.report.in_class_order.Goals as goal

pub returns : goal.returns
returns c =
    subst (IsPermutation c.args.found) (sym c.from_vec.ensures)
    (subst (λ (all : List ClassFault). IsPermutation all c.sort_by.new.self.items) c.into_vec-sorted.ensures c.sort_by.ensures.permutation)
