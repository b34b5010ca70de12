use Rattle.net_model.specs.Shown.{with_sets, with_lists}
use Rattle.graph_form.proofs.Taking.{taken, zones, shown}
use Rattle.graph_form.proofs.laws.walks_and_zones_show.Goals as goal

pub returns-clause-sets : goal.returns-clause-sets
returns-clause-sets c = λ setting walks fault. (
  λ shows. (taken (with_sets setting) walks fault shows, zones (with_sets setting) walks fault shows),
  λ both. shown (with_sets setting) walks fault both.0 both.1,
)

pub returns-clause-lists : goal.returns-clause-lists
returns-clause-lists c = λ setting least greatest walks fault. (
  λ shows. (taken (with_lists setting least greatest) walks fault shows, zones (with_lists setting least greatest) walks fault shows),
  λ both. shown (with_lists setting least greatest) walks fault both.0 both.1,
)
