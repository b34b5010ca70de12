use Rattle.std.proofs.Common.{◌++◌}
use Rattle.dns_data.specs.Name.{name_cmp}
use Rattle.dns_data.specs.declared.rr_type.RrType.TheVariants as types
use Rattle.dns_data.proofs.NameOrder.{names_total}
use Rattle.dns_data.proofs.Names.{same_names}
use Rattle.net_model.specs.Zone.{data_at, targets_at, data_cmp}
use Rattle.plain_words.proofs.DataTold.{IsOfType, IsAddress, data_total, exact_of_type, exact_addresses, each_of_type, each_address}
use Rattle.plain_words.proofs.OrderedItems.{orders_same}
use Rattle.plain_words.proofs.laws.equal_sets.Goals as goal

pub returns : goal.returns
returns c =
    record {
      name_servers = λ zone other name.
          orders_same name_cmp names_total (λ name. Unit {0}) (λ a b p q tie. same_names a b tie)
          (targets_at zone name types.Ns) (targets_at other name types.Ns) (λ name has. tt) (λ name has. tt);
      addresses = λ zone other name holds also.
          orders_same data_cmp data_total IsAddress exact_addresses
          (data_at zone name types.A ++ data_at zone name types.Aaaa) (data_at other name types.A ++ data_at other name types.Aaaa)
          (each_address zone name holds) (each_address other name also);
      data_of_one_type = λ zone other name beside rtype holds also.
          orders_same data_cmp data_total (IsOfType rtype) (exact_of_type rtype)
          (data_at zone name rtype) (data_at other beside rtype) (each_of_type zone name rtype holds) (each_of_type other beside rtype also);
    }
