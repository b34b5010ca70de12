use Rattle.std.proofs.Common.{◌∙◌, sym, ap}
use Rattle.std.specs.Ordering.{is_eq}
use Rattle.std.proofs.lemmas.Map.Views.{tells_apart}
use Rattle.graph_form.proofs.FirstTypes.{one_fault}
use Rattle.query_verdicts.proofs.first_classes.ClassFault.is_of.Goals as goal

pub returns : goal.returns
returns c = λ is. tells_apart one_fault c.args.self.now.seen.fault c.args.fault.now (sym (c.is_eq.ensures ∙ ap is_eq c.compare.ensures) ∙ is)
