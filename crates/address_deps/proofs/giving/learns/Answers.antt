use Rattle.std.proofs.Common.{◌≡◌, ◌↔◌, true, sym, subst}
use Rattle.std.specs.Prelude.{IfOk}
use Rattle.address_deps.specs.Addresses.{IsLearnt}
use Rattle.address_deps.specs.declared.addresses.AddressLearnt.{AddressLearnt}
use Rattle.address_deps.proofs.giving.learns.Goals as goal

pub returns-in-ByPaths : goal.returns-in-ByPaths
returns-in-ByPaths c =
    subst (λ (address : AddressLearnt). IfOk c.learns_by_paths.result (λ learns. (learns ≡ true) ↔ IsLearnt c.args.followed.now address)) (sym c.in-ByPaths.is)
    c.learns_by_paths.ensures
