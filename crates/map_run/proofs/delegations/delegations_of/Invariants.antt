-- So far there are the lines of the first rows, and it is known of which zones there are equal copies.
use Rattle.std.proofs.Common.{◌≡◌, [], take}
use Rattle.name_ends.specs.Asked.{ends_in}
use Rattle.map_run.specs.Delegations.{delegation_lines}
use Rattle.map_run.specs.FirstCopies.{KnowsCopies}
use Rattle.map_run.specs.Lines.{by_earlier}
use Rattle.map_run.proofs.delegations.delegations_of.Given as goal

abbrev pub invariant-loop-row : goal.invariant-loop-row
invariant-loop-row l = record {
  lines : l.lines ≡ by_earlier (delegation_lines (ends_in l.fn.asker) l.fn.asker.config) [] (take l.row-index l.rows);
  known : KnowsCopies l.fn.asker.config (take l.row-index l.rows) l.known;
  kept : l.asker ≡ l.fn.asker;
}
