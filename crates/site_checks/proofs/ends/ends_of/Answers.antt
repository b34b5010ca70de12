use Rattle.std.proofs.Common.{List, refl, sym, ap, ◌∙◌, subst}
use Rattle.std.specs.List.{AllByRecursion, flat_map}
use Rattle.std.proofs.lemmas.List.{take_all}
use Rattle.dns_data.specs.RrType.{types}
use Rattle.site_checks.specs.AlikeEnds.{AreAlikeEnds}
use Rattle.site_checks.specs.PathEnds.{once_with}
use Rattle.site_checks.specs.declared.alike.AlikeEnds.{AlikeEnds}
use Rattle.site_checks.proofs.AlikeTypes.{given_next}
use Rattle.site_checks.proofs.ends.ends_of.Goals as goal

pub loop-rtype-init : goal.loop-rtype-init
loop-rtype-init c = record {
  known = subst (λ (known : List AlikeEnds). AllByRecursion (AreAlikeEnds c.args.graph.now) known) (sym c.new-known.ensures) tt;
  ends = c.new-ends.ensures;
}

pub loop-rtype-preserved : goal.loop-rtype-preserved
loop-rtype-preserved c =
    let told = c.in_ok-put_type.ensures in
    record {
      known = told.known;
      ends = given_next (once_with c.args.graph.now) types c.loop-rtype.rtype-index c.loop-rtype.ends c.put_type.new.ends c.loop-rtype.invariant.ends _ _
          c.loop-rtype-test.true refl told.ends;
    }

pub returns : goal.returns
returns c = c.loop-rtype.invariant.ends ∙ ap (flat_map (once_with c.args.graph.now)) (take_all c.loop-rtype.rtype-index types c.loop-rtype-test.false)
