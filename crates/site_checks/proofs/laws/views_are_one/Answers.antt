use Rattle.site_checks.proofs.OneViews.{one_view, one_list_of_views}
use Rattle.site_checks.proofs.laws.views_are_one.Goals as goal

pub returns-clause-view : goal.returns-clause-view
returns-clause-view c = one_view

pub returns-clause-views : goal.returns-clause-views
returns-clause-views c = one_list_of_views
