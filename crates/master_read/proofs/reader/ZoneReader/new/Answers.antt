-- Nothing was taken, and so nothing was read.
use Rattle.std.proofs.Common.{refl, []}
use Rattle.master_read.proofs.Files.{from_start}
use Rattle.master_read.proofs.reader.ZoneReader.new.Goals as goal

pub returns-clause-stands : goal.returns-clause-stands
returns-clause-stands c = record {
  limits = (refl, refl);
  fed_is = refl;
  agrees = (
    [],
    (
      c.new.ensures.stands,
      λ text entries later all.
          rw (c.new-2.ensures, c.root.ensures, c.new-3.ensures.items, c.new-4.ensures.items, c.new-5.ensures)
          (from_start c.args.origin c.args.room c.args.includes text entries later all),
    ),
  );
}
