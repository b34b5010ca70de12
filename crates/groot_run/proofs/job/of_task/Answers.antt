use Rattle.groot_run.proofs.job.of_task.Goals as goal

pub returns-in-Check : goal.returns-in-Check
returns-in-Check g c = rw (c.in-Check.is) c.check.ensures

pub returns-in-Site : goal.returns-in-Site
returns-in-Site g c = rw (c.in-Site.is, ← c.usual_names.ensures.is) c.site.ensures

pub returns-in-Scope : goal.returns-in-Scope
returns-in-Scope g c = rw (c.in-Scope.is, ← c.usual_names-in-Scope.ensures.is) c.scope.ensures
