use Rattle.std.proofs.Common.{◌∙◌, sym, subst}
use Rattle.site_checks.specs.Ends.{AreEnds}
use Rattle.site_checks.proofs.AlikeTypes.{by_type}
use Rattle.site_checks.proofs.WalksEnd.{all_ends}
use Rattle.site_checks.proofs.ends.view.Goals as goal

pub ends_of-requires : goal.ends_of-requires
ends_of-requires c = record { of_query = (c.requires.of_query.0, c.args.query.now, c.requires.of_query.1) }

pub returns-clause-ends : goal.returns-clause-ends
returns-clause-ends c = λ setting is.
    subst (AreEnds setting c.args.query.now) (by_type c.args.graph.now ∙ sym c.in_ok-ends_of.ensures) (all_ends setting c.args.query.now c.args.graph.now is)
