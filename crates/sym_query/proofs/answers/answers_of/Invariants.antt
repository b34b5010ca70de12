use Rattle.std.proofs.Common.{◌≡◌, map, take}
use Rattle.std.specs.List.{AllByRecursion}
use Rattle.name_rules.specs.SymName.{whole}
use Rattle.zone_tree.specs.Decider.{deciding_by}
use Rattle.sym_query.specs.Answers.{AnswersAsDecided}
use Rattle.sym_query.specs.TypedFound.{IsOpenExactly}
use Rattle.sym_query.proofs.AnswersOfTypes.{types_of}
use Rattle.sym_query.proofs.answers.answers_of.Given as goal

-- the sets so far have their answers
abbrev pub invariant-loop-at : goal.invariant-loop-at
invariant-loop-at l = record {
  sets : map types_of l.answers ≡ take l.at l.sets;
  found : AllByRecursion (AnswersAsDecided l.tree.zone (whole l.name) (deciding_by l.tree l.fn.decider)) l.answers;
  open_tail : AllByRecursion (IsOpenExactly l.name) l.answers;
}
