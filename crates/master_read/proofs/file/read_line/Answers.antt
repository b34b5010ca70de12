-- The entry of the line was read, or has a fault.
use Rattle.std.proofs.Common.{◌≡◌, ◌<◌, [], ◌∷◌, ◌++◌, length, refl, ◌∙◌, arith}
use Rattle.std.proofs.lemmas.Bool.Decides.{nat_tests}
use Rattle.std.proofs.lemmas.List.{nil_from_length, append-nil}
use Rattle.master_lex.specs.declared.entry.Entry.{Entry}
use Rattle.master_read.proofs.EntryFaults.{fault_told}
use Rattle.master_read.proofs.Reading.{line_entry, first_read, first_fault}
use Rattle.master_read.proofs.file.read_line.Goals as goal

pub returns-then-is_empty-clause-read : goal.returns-then-is_empty-clause-read
returns-then-is_empty-clause-read c include behind texts =
    let none : c.args.tokens.now ≡ [] = nil_from_length c.args.tokens.now (grind (arith, nat_tests, c.is_empty.ensures, c.if-is_empty.true)) in
    rw (none, append-nil c.args.entries.now.items) refl

pub returns-then-not-is_empty-clause-read : goal.returns-then-not-is_empty-clause-read
returns-then-not-is_empty-clause-read c include behind texts =
    let some : 0 < length c.args.tokens.now = grind (arith, nat_tests, c.is_empty.ensures, c.if-is_empty.false) in
    rw (line_entry c.args.line c.args.tokens.now some, c.in_ok-put_entry.ensures, c.new-entry.ensures) refl

pub returns-then-is_directive_in_text-clause-read : goal.returns-then-is_directive_in_text-clause-read
returns-then-is_directive_in_text-clause-read c include behind texts =
    let entry : Entry = record { line = c.args.line.line; blank_start = c.args.line.blank_start; tokens = c.args.tokens.now } in
    let some : 0 < length c.args.tokens.now = grind (arith, nat_tests, c.is_empty.ensures, c.if-is_empty.false) in
    let put : c.put_entry-then-is_directive_in_text.new.entries.items ≡ c.args.entries.now.items ++ entry ∷ [] = c.in_ok-put_entry-2.ensures ∙ rw c.new-entry.ensures refl in
    rw (line_entry c.args.line c.args.tokens.now some) (rw put at (c.read_ready.ensures.read include behind texts))

pub returns-then-is_directive_in_text-clause-fault : goal.returns-then-is_directive_in_text-clause-fault
returns-then-is_directive_in_text-clause-fault c include behind texts =
    let entry : Entry = record { line = c.args.line.line; blank_start = c.args.line.blank_start; tokens = c.args.tokens.now } in
    let some : 0 < length c.args.tokens.now = grind (arith, nat_tests, c.is_empty.ensures, c.if-is_empty.false) in
    let put : c.put_entry-then-is_directive_in_text.new.entries.items ≡ c.args.entries.now.items ++ entry ∷ [] = c.in_ok-put_entry-2.ensures ∙ rw c.new-entry.ensures refl in
    rw (line_entry c.args.line c.args.tokens.now some) (rw put at (c.read_ready.ensures.fault include behind texts))

pub returns-in-Ok-clause-read : goal.returns-in-Ok-clause-read
returns-in-Ok-clause-read c include behind texts =
    let entry : Entry = record { line = c.args.line.line; blank_start = c.args.line.blank_start; tokens = c.args.tokens.now } in
    let some : 0 < length c.args.tokens.now = grind (arith, nat_tests, c.is_empty.ensures, c.if-is_empty.false) in
    let zero : length c.args.entries.now.items ≡ 0 = grind (arith, nat_tests, c.args.entries.now.ok.0, c.is_empty-2.ensures, c.if-not-is_empty.false) in
    rw (line_entry c.args.line c.args.tokens.now some, nil_from_length c.args.entries.now.items zero)
    (first_read include c.args.room c.args.file entry behind c.args.records.now c.read_record.new.self texts (rw c.new-entry.ensures at c.in-Ok.ensures.ok))

pub returns-in-Err-clause-fault : goal.returns-in-Err-clause-fault
returns-in-Err-clause-fault c include behind texts =
    let entry : Entry = record { line = c.args.line.line; blank_start = c.args.line.blank_start; tokens = c.args.tokens.now } in
    let some : 0 < length c.args.tokens.now = grind (arith, nat_tests, c.is_empty.ensures, c.if-is_empty.false) in
    let zero : length c.args.entries.now.items ≡ 0 = grind (arith, nat_tests, c.args.entries.now.ok.0, c.is_empty-2.ensures, c.if-not-is_empty.false) in
    rw (line_entry c.args.line c.args.tokens.now some, nil_from_length c.args.entries.now.items zero, c.at.ensures)
    (first_fault include c.args.room c.args.file entry behind c.args.records.now texts c.in-Err.fault (rw c.new-entry.ensures at c.in-Err.ensures.fault))

pub returns-in-Err-clause-tells : goal.returns-in-Err-clause-tells
returns-in-Err-clause-tells c =
    let entry : Entry = record { line = c.args.line.line; blank_start = c.args.line.blank_start; tokens = c.args.tokens.now } in
    rw c.at.ensures (fault_told c.args.room c.args.file c.args.line.line c.args.records.now entry c.in-Err.fault (rw c.new-entry.ensures at c.in-Err.ensures.fault))
