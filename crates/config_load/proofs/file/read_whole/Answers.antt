use Rattle.std.proofs.Common.{◌≡◌, ◌<◌, ◌≤◌, List, ℕ, Result, Ok, length, vec_len, ap, subst, sym, arith, rules}
use Rattle.io_edges.specs.Files.{first_told}
use Rattle.io_edges.proofs.Told.{first_told-long}
use Rattle.config_load.specs.Limits.{most_octets}
use Rattle.config_load.specs.Reading.{file_octets}
use Rattle.config_load.specs.Sources.{HasAnswered}
use Rattle.config_load.specs.declared.fault.LoadFault.{LoadFault}
use Rattle.config_load.proofs.Sources.{ReadsOnly-none, ReadsOnly-then, HasAnswered-whole, HasAnswered-too_long, HasAnswered-broken}
use Rattle.config_load.proofs.file.read_whole.Goals as goal

pub returns-in_err-count : goal.returns-in_err-count
returns-in_err-count g c =
    HasAnswered-broken c.args.limits c.in_err-count.field-0.0 c.from_residual.result c.loop-piece.invariant.only c.in_err-count.ensures.only c.in_err-count.ensures.fault c.in_err-count.ensures.cause c.from_residual.ensures.1

pub returns-then-count-eq0 : goal.returns-then-count-eq0
returns-then-count-eq0 g c =
    let octets = c.read_more.new.octets.items in
    let short : length octets ≤ most_octets c.args.limits = omega (arith, c.most_octets-most.ensures.is, c.in_ok-count.ensures.grown, c.if-count-eq0.true, c.loop-piece-test.true, c.read_more.new.octets.ok.0) in
    subst (λ (all : List ℕ). let answer : Result (List ℕ) LoadFault = Ok all in HasAnswered (g.F.Files.told c.args.files.now) (g.F.Files.told c.read_more.new.files) (g.F.Files.faults c.args.files.now) (g.F.Files.faults c.read_more.new.files) (file_octets c.args.limits c.args.name.now) answer) (sym c.from_vec.ensures)
    (HasAnswered-whole c.args.limits octets (ReadsOnly-then c.loop-piece.invariant.only c.in_ok-count.ensures.only) (c.in_ok-count.ensures.end c.if-count-eq0.true) short)

pub loop-piece-preserved : goal.loop-piece-preserved
loop-piece-preserved g c = record {
  front = c.in_ok-count.ensures.front;
  short = search rules;
  only = ReadsOnly-then c.loop-piece.invariant.only c.in_ok-count.ensures.only;
}

pub returns : goal.returns
returns g c =
    let told = g.F.Files.told c.loop-piece.files in
    let name = c.args.name.now in
    let at = vec_len c.loop-piece.octets in
    let same : length (first_told (told name) at) ≡ length c.loop-piece.octets.items = ap length (sym c.loop-piece.invariant.front) in
    let long : length (first_told (told name) at) ≡ at = omega (arith, same, c.loop-piece.octets.ok.0) in
    let less : most_octets c.args.limits < at = omega (arith, c.most_octets-most.ensures.is, c.loop-piece-test.false) in
    HasAnswered-too_long c.args.limits c.too_long.result c.loop-piece.invariant.only c.too_long.ensures (first_told-long (told name) at (most_octets c.args.limits) long less)

pub loop-piece-init : goal.loop-piece-init
loop-piece-init g c = record {
  front = search rules;
  short = search rules;
  only = ReadsOnly-none c.args.name.now (g.F.Files.told c.args.files.now) (g.F.Files.faults c.args.files.now);
}
