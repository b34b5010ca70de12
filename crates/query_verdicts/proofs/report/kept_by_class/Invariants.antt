use Rattle.std.specs.Prelude.{IfSome}
use Rattle.query_verdicts.specs.Entries.{IsWalked}
use Rattle.query_verdicts.proofs.KeptEntries.{IsListing}
use Rattle.query_verdicts.proofs.report.kept_by_class.Given as goal

-- what is kept so far is of the entries of what was passed over, and the last walks are those of their class
abbrev pub invariant-loop-one : goal.invariant-loop-one
invariant-loop-one g l = record {
  listed : IsListing g.S.OnSubject.subject g.K.Kept.kept_of l.fn.found l.one-iterator l.kept;
  last : IfSome l.last (IsWalked g.S.OnSubject.subject);
}
