-- The text went on, or its fault was met.
use Rattle.std.proofs.Common.{Some, refl, ap, ◌∙◌}
use Rattle.std.proofs.lemmas.Result.{on_ok_weaker}
use Rattle.master_read.specs.Reader.{Held}
use Rattle.master_read.proofs.Stands.{stands_on, meets}
use Rattle.master_read.proofs.reader.ZoneReader.feed.Goals as goal

pub returns-clause-stands : goal.returns-clause-stands
returns-clause-stands c =
    let inside = c.self.inside in
    let held : Held
    = record { lexer = inside.lexer; file = inside.file; around = inside.around.items; records = inside.records; limits = inside.limits; fed = inside.fed; fault = inside.fault; ended = inside.ended } in
    let same = c.read_piece.ensures.same in
    rw (← c.self.view_is) (stands_on held c.read_piece.new.self c.args.piece.now c.in_default.is (ap (λ (h : Held). h.fault) same ∙ c.in_default.is) (ap (λ (h : Held). h.limits) same)
    (ap (λ (h : Held). h.fed) same) c.in_default-read_piece.ensures.read)

pub returns-in-Err-clause-stands : goal.returns-in-Err-clause-stands
returns-in-Err-clause-stands c =
    let inside = c.self.inside in
    let after = c.self-2.inside in
    let held : Held
    = record { lexer = inside.lexer; file = inside.file; around = inside.around.items; records = inside.records; limits = inside.limits; fed = inside.fed; fault = inside.fault; ended = inside.ended } in
    let new : Held
    = record { lexer = after.lexer; file = after.file; around = after.around.items; records = after.records; limits = after.limits; fed = after.fed; fault = Some c.in-Err.fault; ended = after.ended } in
    let same = c.self-2.view_is ∙ c.read_piece.ensures.same in
    rw (← c.self.view_is) (λ origin room includes ended text stands. on_ok_weaker c.unless_failed-in-Err.result
    (λ named. meets held new c.args.piece.now c.in-Err.fault c.in_default.is refl (ap (λ (h : Held). h.limits) same) (ap (λ (h : Held). h.fed) same) c.in-Err.ensures.fault named
    origin room includes ended text stands)
    c.unless_failed-in-Err.ensures.ok)
