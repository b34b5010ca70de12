use Rattle.std.proofs.Common.{◌≡◌, ◌+◌, ◌<◌, List, ℕ, length, subst, sym, ap, ◌∙◌, arith, rules}
use Rattle.io_edges.specs.Files.{first_told}
use Rattle.io_edges.proofs.Told.{first_told-long}
use Rattle.config_load.specs.Limits.{most_octets}
use Rattle.master_read.specs.Reader.{IsReaderOf}
use Rattle.master_read.specs.declared.asked.AfterFile.{AfterFile}
use Rattle.config_load.proofs.Follows.{Follows-whole, Answers-too_long}
use Rattle.config_load.proofs.Sources.{FailedAt-then, FailedAt-passed, FailedAt-too_long, FailsToRead-passed, FailsToRead-wanting, ReadsOnly-none, ReadsOnly-then, first_told-none}
use Rattle.config_load.proofs.Steps.{FailedAt-wanting}
use Rattle.config_load.proofs.file.feed_whole.Goals as goal

pub returns-then-count-eq0-clause-asked : goal.returns-then-count-eq0-clause-asked
returns-then-count-eq0-clause-asked g c =
    let told = g.F.Files.told c.feed_more.new.files in
    let name = c.args.name.now in
    let at = c.loop-at.at in
    let octets : List ℕ = first_told (told name) at in
    let none : at + c.in_ok-count.count ≡ at = omega (arith, c.if-count-eq0.true) in
    let long : length octets ≡ at = ap (λ n. length (first_told (told name) n)) (sym none) ∙ (c.in_ok-count.ensures.long ∙ none) in
    record {
      octets = octets;
      whole = Follows-whole c.args.limits told name octets (c.in_ok-count.ensures.end c.if-count-eq0.true) (omega (arith, long, c.most_octets-most.ensures.is, c.loop-at-test.true));
      ended = λ origin room includes ended before.
          let fed : IsReaderOf c.feed_more.new.reader origin room includes ended octets = subst (λ (n : ℕ). IsReaderOf c.feed_more.new.reader origin room includes ended (first_told (told name) n)) none (c.in_ok-count.ensures.stands origin room includes ended (c.loop-at.invariant.stands origin room includes ended before)) in
          (c.in_ok-end_file.ensures.asked origin room includes ended octets fed, c.in_ok-end_file.ensures.stands origin room includes ended octets fed);
    }

pub loop-at-preserved : goal.loop-at-preserved
loop-at-preserved g c = record {
  long = c.in_ok-count.ensures.long;
  short = search rules;
  still_open = c.in_ok-count.ensures.open;
  fed = c.in_ok-count.ensures.fed;
  stands = λ origin room includes ended before. c.in_ok-count.ensures.stands origin room includes ended (c.loop-at.invariant.stands origin room includes ended before);
  only = ReadsOnly-then c.loop-at.invariant.only c.in_ok-count.ensures.only;
}

pub returns-clause-fault : goal.returns-clause-fault
returns-clause-fault g c =
    let told = g.F.Files.told c.loop-at.files in
    let long : most_octets c.args.limits < c.loop-at.at = omega (arith, c.most_octets-most.ensures.is, c.loop-at-test.false) in
    Answers-too_long c.args.limits told c.args.name.now c.too_long.result c.too_long.ensures
    (first_told-long (told c.args.name.now) c.loop-at.at (most_octets c.args.limits) c.loop-at.invariant.long long)

pub returns-in_err-count-clause-fault : goal.returns-in_err-count-clause-fault
returns-in_err-count-clause-fault g c =
    FailsToRead-passed c.args.limits (g.F.Files.told c.feed_more.new.files) c.args.name.now c.in_err-count.field-0.0 c.from_residual.result c.in_err-count.ensures.fault c.from_residual.ensures.1

pub returns-in_err-count-clause-cause : goal.returns-in_err-count-clause-cause
returns-in_err-count-clause-cause g c =
    let first = g.F.Files.faults c.args.files.now in
    let between = g.F.Files.faults c.loop-at.files in
    let last = g.F.Files.faults c.feed_more.new.files in
    FailedAt-then first between last c.from_residual.result c.loop-at.invariant.only.never_fall (FailedAt-passed ℕ between last c.in_err-count.field-0.0 c.from_residual.result c.from_residual.ensures.1 c.in_err-count.ensures.cause)

pub returns-in_err-count-clause-only : goal.returns-in_err-count-clause-only
returns-in_err-count-clause-only g c = ReadsOnly-then c.loop-at.invariant.only c.in_err-count.ensures.only

pub returns-then-count-eq0-clause-only : goal.returns-then-count-eq0-clause-only
returns-then-count-eq0-clause-only g c = ReadsOnly-then c.loop-at.invariant.only c.in_ok-count.ensures.only

pub returns-clause-cause : goal.returns-clause-cause
returns-clause-cause g c =
    FailedAt-too_long AfterFile (g.F.Files.faults c.args.files.now) (g.F.Files.faults c.loop-at.files) c.args.name.now c.too_long.result c.too_long.ensures

pub returns-clause-only : goal.returns-clause-only
returns-clause-only g c = c.loop-at.invariant.only

pub loop-at-init : goal.loop-at-init
loop-at-init g c =
    let told = g.F.Files.told c.args.files.now in
    let none = first_told-none (told c.args.name.now) in
    record {
      long = ap length none;
      short = omega arith;
      still_open = c.requires.open;
      fed = c.requires.none;
      stands = λ origin room includes ended so_far. subst (λ (text : List ℕ). IsReaderOf c.args.reader.now origin room includes ended text) (sym none) so_far;
      only = ReadsOnly-none c.args.name.now told (g.F.Files.faults c.args.files.now);
    }

pub returns-in_err-end_file-clause-fault : goal.returns-in_err-end_file-clause-fault
returns-in_err-end_file-clause-fault g c =
    FailsToRead-wanting c.args.limits (g.F.Files.told c.feed_more.new.files) c.args.name.now c.from_residual-in_err-end_file.result c.from_residual-in_err-end_file.ensures.1

pub returns-in_err-end_file-clause-cause : goal.returns-in_err-end_file-clause-cause
returns-in_err-end_file-clause-cause g c =
    FailedAt-wanting (g.F.Files.faults c.args.files.now) (g.F.Files.faults c.feed_more.new.files) c.from_residual-in_err-end_file.result c.from_residual-in_err-end_file.ensures.1

pub returns-in_err-end_file-clause-only : goal.returns-in_err-end_file-clause-only
returns-in_err-end_file-clause-only g c = ReadsOnly-then c.loop-at.invariant.only c.in_ok-count.ensures.only
