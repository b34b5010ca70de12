use Rattle.parts_run.proofs.FileRead.{file_answered}
use Rattle.parts_run.proofs.ReportsRead.{fault_answers, octets_answer}
use Rattle.std.proofs.Common.{List, ℕ, Ok, Err, subst}
use Rattle.dns_data.specs.Answers.{AnswersOr}
use Rattle.config_load.specs.declared.fault.LoadFault.TheVariants.{NoMemory}
use Rattle.part_form.specs.Stated.{part_in, part_of}
use Rattle.parts_run.specs.Answered.{answered}
use Rattle.parts_run.specs.Reading.{report_or}
use Rattle.parts_run.proofs.reading.read_report.Goals as goal

pub returns-in_err-octets : goal.returns-in_err-octets
returns-in_err-octets g c =
    let told = g.F.Files.told c.args.files.now in
    let after = g.F.Files.told c.read_file.new.files in
    let counts = g.F.Files.faults c.args.files.now in
    let counts' = g.F.Files.faults c.read_file.new.files in
    fault_answers c.args.name.now c.largest.result c.largest.ensures c.in_err-octets.field-0.0 c.from_residual.result c.from_residual.ensures.1
    (file_answered c.largest.result c.args.name.now told after counts counts' (Err c.in_err-octets.field-0.0) c.in_err-octets.ensures.gives c.in_err-octets.ensures.order c.in_err-octets.ensures.cause
    c.read_file.ensures.stays c.read_file.ensures.opens c.read_file.ensures.never_fall)

pub returns : goal.returns
returns g c =
    let told = g.F.Files.told c.args.files.now in
    let after = g.F.Files.told c.read_file.new.files in
    let counts = g.F.Files.faults c.args.files.now in
    let counts' = g.F.Files.faults c.read_file.new.files in
    octets_answer c.args.name.now c.largest.result c.largest.ensures c.in_ok-octets.octets c.report_in.result
    (file_answered c.largest.result c.args.name.now told after counts counts' (Ok c.in_ok-octets.octets) c.in_ok-octets.ensures.gives c.in_ok-octets.ensures.order c.in_ok-octets.ensures.cause
    c.read_file.ensures.stays c.read_file.ensures.opens c.read_file.ensures.never_fall)
    (subst (λ (octets : List ℕ). AnswersOr NoMemory (answered part_of c.report_in.result) (Ok (report_or c.args.name.now (part_in octets)))) c.items.ensures c.report_in.ensures)
