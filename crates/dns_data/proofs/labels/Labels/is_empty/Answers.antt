use Rattle.std.proofs.Common.{arith}
use Rattle.dns_data.proofs.Encodings.{flat_empty}
use Rattle.dns_data.proofs.labels.Labels.is_empty.Goals as goal

pub returns : goal.returns
returns c =
    let both = flat_empty _ _ c.self.invariant c.self.view_is in
    (λ empty. both.0 (grind (arith, empty)), λ none. let zero = both.1 none in grind (arith, zero))
