use Rattle.dns_data.proofs.Encodings.{IsPassed}
use Rattle.dns_data.proofs.labels.Labels.front.Given as goal

abbrev pub invariant-loop : goal.invariant-loop
invariant-loop l = IsPassed l.self l.rest l.counter l.passed
