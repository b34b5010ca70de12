-- The file of one zone more is put in behind the others.
use Rattle.std.proofs.Common.{[], codes, sym}
use Rattle.io_edges.specs.MemoryFiles.{no_files, with_file}
use Rattle.zone_maker.specs.Drill.{meta_text, root_text, zone_file, made_zone_text}
use Rattle.zone_maker.proofs.Numbers.{files_more}
use Rattle.zone_maker.proofs.files.make.Goals as goal

pub loop-i-preserved : goal.loop-i-preserved
loop-i-preserved c =
    let e = files_more (with_file (with_file (no_files []) (codes "meta.json") (meta_text c.args.zones)) (codes "root.zone") (root_text c.args.zones)) (λ i. (zone_file i, made_zone_text c.args.zones i)) c.loop-i.i in
    rw (c.in_ok-add_zone.ensures, c.loop-i.invariant) (sym e)
