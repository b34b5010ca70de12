use Rattle.io_edges.proofs.Passing.{written_front, kept_front}
use Rattle.io_edges.proofs.out_sink.OutSinkSink.write.Goals.{in_default-via-in-Ok+then-is_empty+else-is_ok, in_default-via-in-Ok+else-is_empty, in_default-via-in_default}
use Rattle.io_edges.proofs.out_sink.OutSinkSink.write.Goals as goal

-- what the writer took is a front, and the flush keeps it
pub returns-in_default-clause-passes_front : goal.returns-in_default-clause-passes_front
returns-in_default-clause-passes_front g c =
    let wrote = written_front (g.W.Write.contents c.self.inside.writer) (g.W.Write.contents c.write.new.self) c.write.result c.args.bytes.now c.write.ensures.bytes in
    rw (← c.self.view_is)
    (elim c.in_default.branch [
      | in_default-via-in-Ok+then-is_empty+else-is_ok w ↦ rw w.self-inside-is (kept_front _ _ _ c.args.bytes.now wrote w.flush.ensures.bytes)
      | in_default-via-in-Ok+else-is_empty w ↦ rw w.self-inside-is wrote
      | in_default-via-in_default w ↦ rw w.self-inside-is wrote
    ])
