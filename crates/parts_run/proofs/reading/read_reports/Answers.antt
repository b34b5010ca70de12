use Rattle.std.proofs.Common.{◌≡◌, ◌+◌, ◌++◌, ◌∷◌, [], List, ℕ, drop, map, Result, Ok, ap, subst, sym, ◌∙◌}
use Rattle.std.proofs.lemmas.List.{map-append}
use Rattle.config_load.specs.Follows.{Follows}
use Rattle.config_load.specs.Reading.{Reads}
use Rattle.config_load.specs.Sources.{HasAnswered, ReadsFor}
use Rattle.config_load.proofs.Follows.{Follows-same, Follows-then}
use Rattle.config_load.proofs.Sources.{ReadsFor-none, ReadsFor-then, HasAnswered-looked, HasAnswered-then, HasAnswered-wanting}
use Rattle.part_form.specs.Stated.{PartStated, part_of}
use Rattle.part_form.specs.declared.stated.StatedPart.{StatedPart}
use Rattle.report_json.proofs.Sending.{left_at}
use Rattle.parts_run.specs.Answered.{answered}
use Rattle.parts_run.specs.Reading.{reports_read}
use Rattle.parts_run.proofs.ReportsRead.{fault_answered, goes_on, none_left, read_for_all, stopped}
use Rattle.config_load.specs.declared.fault.LoadFault.{LoadFault}
use Rattle.config_load.specs.declared.fault.LoadFault.TheVariants.{NoMemory}
use Rattle.parts_run.proofs.reading.read_reports.Goals as goal

pub loop-name-init : goal.loop-name-init
loop-name-init g c =
    let names = c.args.names.now in
    let told = g.F.Files.told c.args.files.now in
    record {
      so_far = Follows-same told (reports_read [] names) (reports_read (map part_of c.new-parts.result) names)
          (λ other. ap (λ (parts : List StatedPart). reports_read (map part_of parts) names other) (sym c.new-parts.ensures));
      source = ReadsFor-none told (g.F.Files.faults c.args.files.now) (reports_read [] names);
    }

pub returns-in_err-part : goal.returns-in_err-part
returns-in_err-part g c =
    let names = c.args.names.now in
    let i = c.loop-name.name-index in
    let parts = map part_of c.loop-name.parts in
    let old = g.F.Files.told c.loop-name.files in
    let new = g.F.Files.told c.read_report.new.files in
    let name = c.as_str.result.now in
    let rest = left_at names i c.name-item.result c.loop-name-test.true c.name-item.is ∙ ap (λ (one : List ℕ). one ∷ drop (i + 1) names) (sym c.as_str.ensures) in
    HasAnswered-then {whole = reports_read [] names} {rest = reports_read parts (drop i names)} c.loop-name.invariant.so_far c.loop-name.invariant.source
    (subst (λ (left : List (List ℕ)). HasAnswered old new (g.F.Files.faults c.loop-name.files) (g.F.Files.faults c.read_report.new.files) (reports_read parts left) (answered (map part_of) c.from_residual.result)) (sym rest)
    (stopped parts name (drop (i + 1) names) c.in_err-part.field-0.0 c.from_residual.result c.from_residual.ensures.1 c.in_err-part.ensures))

pub returns-in_err-push : goal.returns-in_err-push
returns-in_err-push g c =
    let names = c.args.names.now in
    let i = c.loop-name.name-index in
    let parts = map part_of c.loop-name.parts in
    let old = g.F.Files.told c.loop-name.files in
    let new = g.F.Files.told c.read_report.new.files in
    let name = c.as_str.result.now in
    let rest = left_at names i c.name-item.result c.loop-name-test.true c.name-item.is ∙ ap (λ (one : List ℕ). one ∷ drop (i + 1) names) (sym c.as_str.ensures) in
    HasAnswered-wanting (answered (map part_of) c.from_residual-in_err-push.result)
    (ReadsFor-then {whole = reports_read [] names} {rest = reports_read parts (drop i names)} c.loop-name.invariant.so_far c.loop-name.invariant.source
    (subst (λ (left : List (List ℕ)). ReadsFor old new (g.F.Files.faults c.loop-name.files) (g.F.Files.faults c.read_report.new.files) (reports_read parts left)) (sym rest)
    (read_for_all parts name (drop (i + 1) names) c.in_ok-part.ensures.source)))
    (fault_answered (map part_of) c.from_residual-in_err-push.result NoMemory c.from_residual-in_err-push.ensures.1)

pub loop-name-preserved : goal.loop-name-preserved
loop-name-preserved g c =
    let names = c.args.names.now in
    let i = c.loop-name.name-index in
    let parts = map part_of c.loop-name.parts in
    let old = g.F.Files.told c.loop-name.files in
    let new = g.F.Files.told c.read_report.new.files in
    let part = part_of c.in_ok-part.part in
    let name = c.as_str.result.now in
    let rest = left_at names i c.name-item.result c.loop-name-test.true c.name-item.is ∙ ap (λ (one : List ℕ). one ∷ drop (i + 1) names) (sym c.as_str.ensures) in
    let longer : parts ++ part ∷ [] ≡ map part_of c.push.new.self =
    sym (map-append part_of c.loop-name.parts (c.in_ok-part.part ∷ [])) ∙ ap (map part_of) (sym c.in_ok-push.ensures.ok) in
    record {
      so_far = Follows-then old new (reports_read [] names) (reports_read parts (drop i names)) (reports_read (map part_of c.push.new.self) (drop (i + 1) names)) c.in_ok-part.ensures.source.stays c.loop-name.invariant.so_far
          (subst (λ (left : List (List ℕ)). Follows new (reports_read parts left) (reports_read (map part_of c.push.new.self) (drop (i + 1) names))) (sym rest)
          (subst (λ (all : List PartStated). Follows new (reports_read parts (name ∷ drop (i + 1) names)) (reports_read all (drop (i + 1) names))) longer
          (goes_on parts name (drop (i + 1) names) new part c.in_ok-part.ensures.answers)));
      source = ReadsFor-then {whole = reports_read [] names} {rest = reports_read parts (drop i names)} c.loop-name.invariant.so_far c.loop-name.invariant.source
          (subst (λ (left : List (List ℕ)). ReadsFor old new (g.F.Files.faults c.loop-name.files) (g.F.Files.faults c.read_report.new.files) (reports_read parts left)) (sym rest)
          (read_for_all parts name (drop (i + 1) names) c.in_ok-part.ensures.source));
    }

pub returns : goal.returns
returns g c =
    let names = c.args.names.now in
    let i = c.loop-name.name-index in
    let parts = map part_of c.loop-name.parts in
    let told = g.F.Files.told c.loop-name.files in
    let faults = g.F.Files.faults c.loop-name.files in
    let all : Result (Result (List PartStated) (List ℕ)) LoadFault = Ok (Ok parts) in
    HasAnswered-then {whole = reports_read [] names} {rest = reports_read parts (drop i names)} c.loop-name.invariant.so_far c.loop-name.invariant.source
    (HasAnswered-looked told faults (reports_read parts (drop i names)) all tt
    (Follows-same told (reports_read parts (drop i names)) (λ _. Reads (Ok parts)) (λ other. none_left parts names i other c.loop-name-test.false)))
