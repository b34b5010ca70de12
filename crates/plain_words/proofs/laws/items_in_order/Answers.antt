use Rattle.dns_data.specs.Name.{name_cmp}
use Rattle.dns_data.proofs.NameOrder.{names_total}
use Rattle.dns_data.proofs.Names.{same_names}
use Rattle.net_model.specs.Zone.{data_cmp}
use Rattle.plain_words.proofs.DataTold.{IsOfType, data_total, exact_of_type}
use Rattle.plain_words.proofs.OrderedItems.{order_is}
use Rattle.plain_words.proofs.laws.items_in_order.Goals as goal

pub returns : goal.returns
returns c =
    record {
      names = λ names list. order_is name_cmp names_total (λ name. Unit {0}) (λ a b p q tie. same_names a b tie) names list (λ name has. tt);
      data_of_one_type = λ rtype all list each. order_is data_cmp data_total (IsOfType rtype) (exact_of_type rtype) all list each;
    }
