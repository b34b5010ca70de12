use Rattle.std.proofs.Common.{◌≡◌, length, take}
use Rattle.std.specs.List.{fold}
use Rattle.site_checks.specs.Answering.{with_answer}
use Rattle.site_checks.proofs.answering.put_answers.Given as goal

-- the lines of the ends so far are put, behind those of before
abbrev pub invariant-loop-end : goal.invariant-loop-end
invariant-loop-end l = record {
  put : l.found.items ≡ fold with_answer l.fn.found.items (take l.end-index l.ends);
  before : take (length l.fn.found.items) l.found.items ≡ l.fn.found.items;
}
