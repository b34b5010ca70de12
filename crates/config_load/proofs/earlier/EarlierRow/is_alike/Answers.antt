use Rattle.std.proofs.Common.{length, refl, sym, ◌∙◌}
use Rattle.std.proofs.lemmas.Option.{slice_get_read}
use Rattle.std.specs.Cmp.Lexicographic.{bytes_decides}
use Rattle.config_load.proofs.KnownRows.{same_origin}
use Rattle.config_load.proofs.earlier.EarlierRow.is_alike.Goals as goal

pub returns-then-eq : goal.returns-then-eq
returns-then-eq c same =
    let all = c.args.all.now in
    let earlier = c.in-Some.earlier.now in
    record {
      earlier = earlier;
      there = slice_get_read all (length all) c.args.self.row earlier refl c.in-Some.ensures.lookup.3.0 c.in-Some.ensures.lookup.1;
      file = sym c.as_str.ensures ∙ (bytes_decides c.as_str.result.now c.as_str-in-Some.result.now).0 (sym c.eq.ensures ∙ c.if-eq.true) ∙ c.as_str-in-Some.ensures;
      origin = same_origin earlier.origin c.args.row.now.origin (sym c.eq-then-eq.ensures ∙ same);
    }
