-- What is left of a file is read, up to an `$INCLUDE` or its end.
use Rattle.std.proofs.Common.{◌≡◌, true, false, [], ap, ◌∙◌, sym, rules}
use Rattle.std.specs.Prelude.{◌≢◌, Err}
use Rattle.std.proofs.lemmas.List.{nil_from_length}
use Rattle.master_read.specs.Reader.{Held, texts_give}
use Rattle.master_read.specs.ZoneText.{Faulty}
use Rattle.master_read.specs.declared.fault.TextFault.TheVariants.{NoMemory}
use Rattle.master_read.proofs.Reading.{pause_reads, pause_fault}
use Rattle.master_read.proofs.reader.ZoneReader.read_files.Goals as goal

pub returns-in_err-read_ready-clause-fault : goal.returns-in_err-read_ready-clause-fault
returns-in_err-read_ready-clause-fault c origin texts before =
    let inside = c.self.inside in
    let fault = c.in_err-read_ready.field-0.0 in
    let limits : inside.limits ≡ c.args.self.now.limits = ap (λ (held : Held). held.limits) (c.self.view_is ∙ c.loop-self.invariant.same) in
    let b = rw (← c.self.view_is) at (c.loop-self.invariant.pauses origin texts before) in
    let here : fault ≢ NoMemory → texts_give c.args.self.now.limits origin texts ≡ Err (Faulty fault)
    = λ named. rw (← limits) (pause_fault inside.limits inside.file inside.around.items origin inside.records inside.file.entries.items inside.file.fault texts fault
    c.in_err-read_ready.ensures.fault b named) in
    search (rules, here)

pub returns-in_err-include-clause-fault : goal.returns-in_err-include-clause-fault
returns-in_err-include-clause-fault c origin texts before =
    let inside = c.self.inside in
    let fault = c.in_err-include.field-0.0 in
    let limits : inside.limits ≡ c.args.self.now.limits = ap (λ (held : Held). held.limits) (c.self.view_is ∙ c.loop-self.invariant.same) in
    let b = rw (← c.self.view_is) at (c.loop-self.invariant.pauses origin texts before) in
    let p = pause_reads inside.limits inside.file inside.around.items origin inside.records c.read_ready.new.records inside.file.entries.items c.read_ready.new.entries.items inside.file.fault texts
    c.in_ok-read_ready.ensures.read b in
    let here : fault ≢ NoMemory → texts_give c.args.self.now.limits origin texts ≡ Err (Faulty fault)
    = λ named. rw (← limits) (c.in_err-include.ensures.fault origin texts (rw c.in-Some.ensures.items at p) named) in
    search (rules, here)

pub returns-in-Some-clause-asked : goal.returns-in-Some-clause-asked
returns-in-Some-clause-asked c origin texts before =
    let inside = c.self.inside in
    let b = rw (← c.self.view_is) at (c.loop-self.invariant.pauses origin texts before) in
    let p = pause_reads inside.limits inside.file inside.around.items origin inside.records c.read_ready.new.records inside.file.entries.items c.read_ready.new.entries.items inside.file.fault texts
    c.in_ok-read_ready.ensures.read b in
    let asked = c.in_ok-include.ensures.asked origin texts (rw c.in-Some.ensures.items at p) in
    let limits : c.include.new.self.limits ≡ inside.limits = ap (λ (held : Held). held.limits) c.include.ensures.same in
    (rw limits asked.0, asked.1)

pub returns-in_err-leave-clause-fault : goal.returns-in_err-leave-clause-fault
returns-in_err-leave-clause-fault c origin texts before =
    let inside = c.self.inside in
    let fault = c.in_err-leave.field-0.0 in
    let limits : inside.limits ≡ c.args.self.now.limits = ap (λ (held : Held). held.limits) (c.self.view_is ∙ c.loop-self.invariant.same) in
    let b = rw (← c.self.view_is) at (c.loop-self.invariant.pauses origin texts before) in
    let p = pause_reads inside.limits inside.file inside.around.items origin inside.records c.read_ready.new.records inside.file.entries.items c.read_ready.new.entries.items inside.file.fault texts
    c.in_ok-read_ready.ensures.read b in
    let none : c.read_ready.new.entries.items ≡ [] = nil_from_length c.read_ready.new.entries.items (sym c.read_ready.new.entries.ok.0 ∙ c.in_default.ensures.cases.0) in
    let here : fault ≢ NoMemory → texts_give c.args.self.now.limits origin texts ≡ Err (Faulty fault)
    = λ named. rw (← limits) (c.in_err-leave.ensures.fault origin texts (rw none at p)) in
    search (rules, here)

pub returns-then-not-branch-clause-asked : goal.returns-then-not-branch-clause-asked
returns-then-not-branch-clause-asked c origin texts before =
    let inside = c.self.inside in
    let b = rw (← c.self.view_is) at (c.loop-self.invariant.pauses origin texts before) in
    let p = pause_reads inside.limits inside.file inside.around.items origin inside.records c.read_ready.new.records inside.file.entries.items c.read_ready.new.entries.items inside.file.fault texts
    c.in_ok-read_ready.ensures.read b in
    let none : c.read_ready.new.entries.items ≡ [] = nil_from_length c.read_ready.new.entries.items (sym c.read_ready.new.entries.ok.0 ∙ c.in_default.ensures.cases.0) in
    let more = c.in_ok-leave.ensures.more origin texts (rw none at p) in
    let last : c.in_ok-leave.field-0 ≡ false = search rules in
    rw last at more

pub loop-self-preserved : goal.loop-self-preserved
loop-self-preserved c = record {
  pauses = λ origin texts before.
      let inside = c.self.inside in
      let b = rw (← c.self.view_is) at (c.loop-self.invariant.pauses origin texts before) in
      let p = pause_reads inside.limits inside.file inside.around.items origin inside.records c.read_ready.new.records inside.file.entries.items c.read_ready.new.entries.items inside.file.fault texts
      c.in_ok-read_ready.ensures.read b in
      let none : c.read_ready.new.entries.items ≡ [] = nil_from_length c.read_ready.new.entries.items (sym c.read_ready.new.entries.ok.0 ∙ c.in_default.ensures.cases.0) in
      let more = c.in_ok-leave.ensures.more origin texts (rw none at p) in
      let others : c.in_ok-leave.field-0 ≡ true = search rules in
      rw others at more;
  same = c.leave.ensures.same
      ∙ ap (λ (held : Held). record held { file = c.leave.new.self.file; around = c.leave.new.self.around; records = c.leave.new.self.records })
      (c.self.view_is ∙ c.loop-self.invariant.same);
}
