-- The entry asks for a file, or has a fault.
use Rattle.std.proofs.Common.{ℕ, List, rules}
use Rattle.master_read.specs.Reader.{Held}
use Rattle.master_read.specs.Steps.{IsFaultOf, fault_at, entry_makes}
use Rattle.master_read.specs.ZoneText.{included}
use Rattle.master_read.proofs.Reading.{entry_fault, made_too_deep, made_too_many}
use Rattle.master_read.proofs.Steps.{include_is, directive_opens, directive_fault}
use Rattle.master_read.proofs.reader.ZoneReader.read_ask.Goals as goal

pub read_include-requires : goal.read_include-requires
read_include-requires c = rw c.items.ensures (include_is c.args.entry.now c.requires).1

pub returns-in_err-include-clause-fault : goal.returns-in_err-include-clause-fault
returns-in_err-include-clause-fault c =
    let inside = c.self.inside in
    let entry = c.args.entry.now in
    let fault = c.in_err-include.field-0.0 in
    let here : (texts : List (List ℕ)) → IsFaultOf (fault_at c.args.self.now.file.number entry.line fault) (entry_makes c.args.self.now entry texts)
    = λ texts. rw (← c.self.view_is) (entry_fault (included inside.limits inside.file.levels) inside.limits.room inside.file.number entry inside.records texts fault
    (directive_fault inside.limits.room inside.file.number inside.records entry fault (include_is entry c.requires).0
    (rw c.items.ensures at c.in_err-include.ensures.fault))) in
    search (rules, here)

pub returns-then-self-eq0-clause-fault : goal.returns-then-self-eq0-clause-fault
returns-then-self-eq0-clause-fault c texts =
    let inside = c.self.inside in
    let entry = c.args.entry.now in
    let include = c.in_ok-include.include in
    let held : Held
    = record { lexer = inside.lexer; file = inside.file; around = inside.around.items; records = inside.records; limits = inside.limits; fed = inside.fed; fault = inside.fault; ended = inside.ended } in
    rw (← c.self.view_is) (made_too_deep held entry texts include.file include.origin
    (directive_opens inside.limits.room inside.file.number inside.records entry include.file include.origin (include_is entry c.requires).0 (rw c.items.ensures at c.in_ok-include.ensures.ok))
    (search rules))

pub returns-then-self-clause-fault : goal.returns-then-self-clause-fault
returns-then-self-clause-fault c texts =
    let inside = c.self.inside in
    let entry = c.args.entry.now in
    let include = c.in_ok-include.include in
    let held : Held
    = record { lexer = inside.lexer; file = inside.file; around = inside.around.items; records = inside.records; limits = inside.limits; fed = inside.fed; fault = inside.fault; ended = inside.ended } in
    rw (← c.self.view_is) (made_too_many held entry texts include.file include.origin
    (directive_opens inside.limits.room inside.file.number inside.records entry include.file include.origin (include_is entry c.requires).0 (rw c.items.ensures at c.in_ok-include.ensures.ok))
    (search rules) (search rules))

pub returns-clause-ok : goal.returns-clause-ok
returns-clause-ok c =
    let inside = c.self.inside in
    let entry = c.args.entry.now in
    let include = c.in_ok-include.include in
    rw (← c.self.view_is) (record {
      effect = directive_opens inside.limits.room inside.file.number inside.records entry include.file include.origin (include_is entry c.requires).0
          (rw c.items.ensures at c.in_ok-include.ensures.ok);
      levels = search rules;
      includes = search rules;
    })
