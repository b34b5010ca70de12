-- That a time is worked out exactly where a text stands for it, so for at most one.
use Rattle.std.proofs.Common.{◌≡◌, Some, sym, ◌∙◌}
use Rattle.rdata_forms.proofs.TimeTexts.{time-sound, time-complete}
use Rattle.rdata_forms.proofs.laws.one_time.Goals as goal

pub returns-clause-time : goal.returns-clause-time
returns-clause-time c text seconds = (time-sound text seconds, time-complete text seconds)

pub returns-clause-one_time : goal.returns-clause-one_time
returns-clause-one_time c text a b first second =
    let same : Some a ≡ Some b = sym (time-complete text a first) ∙ time-complete text b second in
    cc
