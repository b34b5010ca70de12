-- Records are identical exactly where their owners and their data are one.
use Rattle.std.proofs.Common.{◌≡◌, ◌↔◌, true}
use Rattle.std.proofs.lemmas.Bool.{and_parts, and_from}
use Rattle.dns_data.specs.Identical.{is_identical}
use Rattle.dns_data.specs.Name.{name_eq}
use Rattle.dns_data.specs.Rdata.{data_eq}
use Rattle.dns_data.specs.declared.rdata.Rr.{Rr}
use Rattle.dns_data.proofs.EqualData.{equal_is_same}
use Rattle.dns_data.proofs.Names.{name_eq_decides}

-- the test of identical records passes exactly if their owners are the same and their data are
pub identical_by_parts : (a b : Rr) → (is_identical a b ≡ true) ↔ ((a.owner ≡ b.owner) × (a.rdata ≡ b.rdata))
identical_by_parts a b = (
  λ e.
      let parts = and_parts (name_eq a.owner b.owner) (data_eq a.rdata b.rdata) e in
      ((name_eq_decides a.owner b.owner).0 parts.0, (equal_is_same a.rdata b.rdata).0 parts.1),
  λ same.
      and_from _ _
      ((name_eq_decides a.owner b.owner).1 same.0)
      ((equal_is_same a.rdata b.rdata).1 same.1),
)
