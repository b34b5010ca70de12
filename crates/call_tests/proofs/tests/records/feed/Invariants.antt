-- the text was fed up to here
use Rattle.std.proofs.Common.{◌≡◌, false, ◌≤◌, ◌-◌, length}
use Rattle.call_tests.proofs.tests.records.feed.Given as goal

abbrev pub invariant-loop-fed : goal.invariant-loop-fed
invariant-loop-fed l = record {
  fed : l.reader.fed ≡ l.fed;
  unended : l.reader.ended ≡ false;
  within : l.fed ≤ length l.text;
}

abbrev pub decreases-loop-fed : goal.decreases-loop-fed
decreases-loop-fed l = length l.text - l.fed
