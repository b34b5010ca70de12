-- Each fault of texts says something of them.
use Rattle.std.proofs.Common.{refl}
use Rattle.std.proofs.lemmas.Result.{IfErr-at_err, MatchResult-weaker}
use Rattle.master_read.proofs.EntryFaults.{IsTextFault, IsUnread, texts_told, unread_tells}
use Rattle.master_read.specs.ZoneText.{zone_text}
use Rattle.master_read.specs.declared.fault.TextFault.TheVariants.{NoMemory}
use Rattle.master_read.proofs.laws.no_text_wants_memory.Goals as goal

pub returns-clause-own : goal.returns-clause-own
returns-clause-own c origin room includes texts e =
    let fault : IsTextFault NoMemory = IfErr-at_err IsUnread e (texts_told origin room includes texts) in
    fault.own refl

pub returns-clause-inside : goal.returns-clause-inside
returns-clause-inside c origin room includes texts =
    MatchResult-weaker (zone_text origin room includes texts) (texts_told origin room includes texts) (λ given h. h) unread_tells
