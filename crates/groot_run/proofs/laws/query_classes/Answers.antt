-- That the laws of classes hold.
use Rattle.groot_run.proofs.ClassLaws.{has_classes}
use Rattle.groot_run.proofs.laws.query_classes.Goals as goal

pub returns : goal.returns
returns c config rewrites = has_classes config rewrites (c.names_have_classes.ensures.one config) (c.names_have_classes.ensures.prefixes config)
