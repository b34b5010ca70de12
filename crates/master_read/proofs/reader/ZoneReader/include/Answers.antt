-- The file that is asked for is open, or the entry has a fault.
use Rattle.std.proofs.Common.{◌≡◌, [], ap}
use Rattle.master_read.specs.Reader.{Held}
use Rattle.master_read.specs.Steps.{IsFaultOf, entry_makes}
use Rattle.master_read.proofs.EntryFaults.{makes_told}
use Rattle.master_read.proofs.Reading.{asks, goes_on_in, pause_makes}
use Rattle.master_read.proofs.reader.ZoneReader.include.Goals as goal

pub returns-in_ok-open-in-Ok-clause-asked : goal.returns-in_ok-open-in-Ok-clause-asked
returns-in_ok-open-in-Ok-clause-asked c origin texts before =
    let old = c.args.self.now in
    let new = c.open.new.self in
    let entry = c.args.entry.now in
    let include = c.in-Ok.include in
    let may = c.in-Ok.ensures.ok in
    let opened = c.in_ok-open-in-Ok.ensures.opens in
    let limits : new.limits ≡ old.limits = ap (λ (h : Held). h.limits) c.open.ensures.same in
    let lexer : new.lexer ≡ old.lexer = ap (λ (h : Held). h.lexer) c.open.ensures.same in (
      rw c.in_ok-open-in-Ok.ensures.name (asks old new entry include.file include.origin may opened origin texts before),
      ([], (rw lexer c.requires.lexer, rw (limits, opened.around) (goes_on_in old new entry include.file include.origin may opened origin texts before))),
    )

pub returns-in-Err-clause-fault : goal.returns-in-Err-clause-fault
returns-in-Err-clause-fault c origin texts before named =
    let old = c.args.self.now in
    let number : c.self.inside.file.number ≡ old.file.number = ap (λ (h : Held). h.file.number) c.self.view_is in
    let fault : IsFaultOf c.at.result (entry_makes old c.args.entry.now []) = rw (c.at.ensures, number) (c.in-Err.ensures.fault []) in
    pause_makes old c.args.entry.now c.at.result origin texts fault before named

pub returns-in-Err-clause-tells : goal.returns-in-Err-clause-tells
returns-in-Err-clause-tells c =
    let old = c.args.self.now in
    let number : c.self.inside.file.number ≡ old.file.number = ap (λ (h : Held). h.file.number) c.self.view_is in
    let fault : IsFaultOf c.at.result (entry_makes old c.args.entry.now []) = rw (c.at.ensures, number) (c.in-Err.ensures.fault []) in
    makes_told old c.args.entry.now [] c.at.result fault
