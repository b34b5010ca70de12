use Rattle.std.proofs.Common.{◌≡◌, drop}
use Rattle.groot_run.specs.ScopeTexts.{with_text}
use Rattle.groot_run.proofs.ScopeTexts.{GoesOnWith}
use Rattle.groot_run.proofs.scopes.each_scope.Given as goal

-- the graphs are as they were, and the names that are left end behind the text so far as all of them do
abbrev pub invariant-loop-name : goal.invariant-loop-name
invariant-loop-name g l = record {
  back : l.graphs ≡ l.fn.graphs;
  goes : GoesOnWith l.limit l.fn.graphs.config l.names (with_text l.text) (drop l.name-index l.names);
}
