use Rattle.std.proofs.Common.{◌≡◌, ◌∙◌, Bor, Option, sym, subst}
use Rattle.std.specs.Prelude.{IsSomeAnd}
use Rattle.dns_data.proofs.Names.{name_eq_decides}
use Rattle.dns_data.specs.declared.rdata.Rr.{Rr}
use Rattle.part_checks.proofs.owners.is_owner_of.Goals as goal

pub returns-in-Some : goal.returns-in-Some
returns-in-Some c = λ told.
    subst (λ (o : Option (Bor Rr)). IsSomeAnd o (λ other. other.now.owner ≡ c.args.rr.now.owner)) (sym c.in-Some.is)
    ((name_eq_decides c.in-Some.other.now.owner c.args.rr.now.owner).0 (sym c.eq.ensures ∙ told))
