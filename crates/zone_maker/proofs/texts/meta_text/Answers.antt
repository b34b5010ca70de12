-- The row of one zone more stands at the end, and behind the last one the end of the metadata.
use Rattle.std.proofs.Common.{◌≡◌, ◌++◌, ◌∙◌, ℕ, List, ap, arith, codes, sym}
use Rattle.zone_maker.specs.Drill.{meta_row, meta_rows}
use Rattle.zone_maker.proofs.Numbers.{gives_more}
use Rattle.zone_maker.proofs.texts.meta_text.Goals as goal

pub loop-i-preserved : goal.loop-i-preserved
loop-i-preserved c =
    let e = gives_more meta_row (codes "{\"TopNameServers\":[\"a.top.\"],\"ZoneFiles\":[{\"FileName\":\"root.zone\",\"NameServer\":\"a.top.\"}") c.loop-i.i in
    rw (c.in_ok-put_meta_row.ensures, c.loop-i.invariant) (sym e)

pub returns : goal.returns
returns c =
    let end : c.loop-i.i ≡ c.args.zones = omega (arith, c.loop-i-test.false, c.loop-i.auto.i-end) in
    c.in_ok-push_str.ensures.bytes ∙ ap (λ (rows : List ℕ). rows ++ codes "]}") (c.loop-i.invariant ∙ ap (λ (n : ℕ). meta_rows n) end)
