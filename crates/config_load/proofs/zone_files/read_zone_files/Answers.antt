use Rattle.std.proofs.Common.{[], List, ℕ, refl, subst, sym, ap}
use Rattle.dns_data.specs.Name.{Labels}
use Rattle.master_read.specs.Reader.{IsReaderOf}
use Rattle.master_read.specs.declared.asked.AfterFile.{AfterFile}
use Rattle.config_load.specs.Conf.{zone_files}
use Rattle.config_load.specs.Joined.{joined}
use Rattle.config_load.proofs.OpenedFiles.{is_done, fewer-left, HasFedFiles, HasFedFiles-more, HasFedFiles-over, HasOpened-first, HasOpened-asked, HasOpened-source, HasAnswered-unread, HasAnswered-finished}
use Rattle.config_load.proofs.Sources.{ReadsFor-none, HasAnswered-wanting}
use Rattle.config_load.proofs.zone_files.read_zone_files.Goals as goal

pub returns-in_err-origin : goal.returns-in_err-origin
returns-in_err-origin g c =
    HasAnswered-wanting c.from_residual.result (ReadsFor-none (g.F.Files.told c.args.files.now) (g.F.Files.faults c.args.files.now) (zone_files c.args.meta.now c.args.row.now c.args.left)) c.from_residual.ensures.1

-- the row's file isn't read
pub returns-in_err-asked : goal.returns-in_err-asked
returns-in_err-asked g c =
    let meta = c.args.meta.now in
    let row = c.args.row.now in
    let left = c.args.left in
    let old = g.F.Files.told c.args.files.now in
    let new = g.F.Files.told c.feed_next.new.files in
    let stands = subst (λ (origin : Labels). IsReaderOf c.new-reader.result origin left.records left.includes [] []) c.in_ok-origin.ensures c.new-reader.ensures.stands in
    let opened = HasOpened-first meta row left old c.new-names.result (joined meta c.as_str.result.now) c.new-reader.result c.new-names.ensures (ap (joined meta) c.as_str.ensures) c.new-reader.ensures.open c.new-reader.ensures.fed stands in
    HasAnswered-unread meta row left old new c.new-names.result (joined meta c.as_str.result.now) c.new-reader.result c.in_err-asked.field-0.0 c.from_residual-in_err-asked.result (ReadsFor-none old (g.F.Files.faults c.args.files.now) (zone_files meta row left)) opened c.in_err-asked.ensures.only c.in_err-asked.ensures.fault c.in_err-asked.ensures.cause c.from_residual-in_err-asked.ensures.1

pub loop-asked-init : goal.loop-asked-init
loop-asked-init g c =
    let meta = c.args.meta.now in
    let row = c.args.row.now in
    let left = c.args.left in
    let old = g.F.Files.told c.args.files.now in
    let new = g.F.Files.told c.feed_next.new.files in
    let name = joined meta c.as_str.result.now in
    let stands = subst (λ (origin : Labels). IsReaderOf c.new-reader.result origin left.records left.includes [] []) c.in_ok-origin.ensures c.new-reader.ensures.stands in
    let opened = HasOpened-first meta row left old c.new-names.result name c.new-reader.result c.new-names.ensures (ap (joined meta) c.as_str.ensures) c.new-reader.ensures.open c.new-reader.ensures.fed stands in
    record {
      fed = subst (λ (names : List (List ℕ)). HasFedFiles meta row left new names c.in_ok-asked.asked c.feed_next.new.reader) (sym c.in_ok-asked.ensures.named)
          (HasFedFiles-more meta row left old new c.new-names.result name c.new-reader.result c.in_ok-asked.asked c.feed_next.new.reader c.in_ok-asked.ensures.only.stays opened c.in_ok-asked.ensures.asked);
      source = HasOpened-source meta row left old new c.new-names.result name c.new-reader.result (ReadsFor-none old (g.F.Files.faults c.args.files.now) (zone_files meta row left)) opened c.in_ok-asked.ensures.only;
    }

-- the file that is asked for is open
pub feed_next-requires-in-Include-clause-open : goal.feed_next-requires-in-Include-clause-open
feed_next-requires-in-Include-clause-open g c =
    (HasOpened-asked c.args.meta.now c.args.row.now c.args.left (g.F.Files.told c.loop-asked.files) c.loop-asked.names c.loop-asked.reader c.loop-asked.asked c.in-Include.file (joined c.args.meta.now c.in-Include.file) c.in-Include.is c.loop-asked.invariant.fed refl).still_open

pub feed_next-requires-in-Include-clause-none : goal.feed_next-requires-in-Include-clause-none
feed_next-requires-in-Include-clause-none g c =
    (HasOpened-asked c.args.meta.now c.args.row.now c.args.left (g.F.Files.told c.loop-asked.files) c.loop-asked.names c.loop-asked.reader c.loop-asked.asked c.in-Include.file (joined c.args.meta.now c.in-Include.file) c.in-Include.is c.loop-asked.invariant.fed refl).none

-- an included file isn't read
pub returns-in_err-asked-2 : goal.returns-in_err-asked-2
returns-in_err-asked-2 g c =
    let meta = c.args.meta.now in
    let row = c.args.row.now in
    let left = c.args.left in
    let old = g.F.Files.told c.loop-asked.files in
    let new = g.F.Files.told c.feed_next-in-Include.new.files in
    let name = joined meta c.as_str-in-Include.result.now in
    let opened = HasOpened-asked meta row left old c.loop-asked.names c.loop-asked.reader c.loop-asked.asked c.in-Include.file name c.in-Include.is c.loop-asked.invariant.fed (ap (joined meta) c.as_str-in-Include.ensures) in
    HasAnswered-unread meta row left old new c.loop-asked.names name c.loop-asked.reader c.in_err-asked-2.field-0.0 c.from_residual-in_err-asked-2.result c.loop-asked.invariant.source opened c.in_err-asked-2.ensures.only c.in_err-asked-2.ensures.fault c.in_err-asked-2.ensures.cause c.from_residual-in_err-asked-2.ensures.1

pub loop-asked-preserved : goal.loop-asked-preserved
loop-asked-preserved g c =
    let meta = c.args.meta.now in
    let row = c.args.row.now in
    let left = c.args.left in
    let old = g.F.Files.told c.loop-asked.files in
    let new = g.F.Files.told c.feed_next-in-Include.new.files in
    let after = c.feed_next-in-Include.new.reader in
    let name = joined meta c.as_str-in-Include.result.now in
    let opened = HasOpened-asked meta row left old c.loop-asked.names c.loop-asked.reader c.loop-asked.asked c.in-Include.file name c.in-Include.is c.loop-asked.invariant.fed (ap (joined meta) c.as_str-in-Include.ensures) in
    record {
      fed = subst (λ (names : List (List ℕ)). HasFedFiles meta row left new names c.in_ok-asked-2.asked after) (sym c.in_ok-asked-2.ensures.named)
          (HasFedFiles-more meta row left old new c.loop-asked.names name c.loop-asked.reader c.in_ok-asked-2.asked after c.in_ok-asked-2.ensures.only.stays opened c.in_ok-asked-2.ensures.asked);
      source = HasOpened-source meta row left old new c.loop-asked.names name c.loop-asked.reader c.loop-asked.invariant.source opened c.in_ok-asked-2.ensures.only;
    }

pub loop-asked-smaller : goal.loop-asked-smaller
loop-asked-smaller g c =
    let meta = c.args.meta.now in
    let row = c.args.row.now in
    let left = c.args.left in
    let old = g.F.Files.told c.loop-asked.files in
    let name = joined meta c.as_str-in-Include.result.now in
    let opened = HasOpened-asked meta row left old c.loop-asked.names c.loop-asked.reader c.loop-asked.asked c.in-Include.file name c.in-Include.is c.loop-asked.invariant.fed (ap (joined meta) c.as_str-in-Include.ensures) in
    fewer-left meta row left old c.loop-asked.names c.loop-asked.reader name c.feed_next-in-Include.new.names opened c.in_ok-asked-2.ensures.named

pub finish-requires : goal.finish-requires
finish-requires g c =
    let told = g.F.Files.told c.loop-asked.files in
    HasFedFiles-over c.args.meta.now c.args.row.now c.args.left told c.loop-asked.names c.loop-asked.reader
    (subst (λ (asked : AfterFile). HasFedFiles c.args.meta.now c.args.row.now c.args.left told c.loop-asked.names asked c.loop-asked.reader) (is_done c.loop-asked.asked c.in_default.not-Include) c.loop-asked.invariant.fed)

pub returns : goal.returns
returns g c =
    let told = g.F.Files.told c.loop-asked.files in
    let fed = subst (λ (asked : AfterFile). HasFedFiles c.args.meta.now c.args.row.now c.args.left told c.loop-asked.names asked c.loop-asked.reader) (is_done c.loop-asked.asked c.in_default.not-Include) c.loop-asked.invariant.fed in
    HasAnswered-finished c.args.meta.now c.args.row.now c.args.left told c.loop-asked.names c.loop-asked.reader c.finish.result c.told.result c.loop-asked.invariant.source fed c.finish.ensures.answers c.told.ensures
