use Rattle.std.proofs.Common.{◌≡◌, ◌++◌, ap, ◌∙◌, rules}
use Rattle.dns_data.specs.Spelling.{name_text}
use Rattle.site_checks.specs.Line.{is_line}
use Rattle.site_checks.proofs.Lines.{lines_together, name_line}
use Rattle.site_checks.proofs.line.Line.with_name.Goals as goal

pub invariant_of-result : goal.invariant_of-result
invariant_of-result c =
    let whole : c.from_string.result ≡ c.args.text.now ++ name_text c.args.name.now = search rules in
    ap is_line whole ∙ lines_together c.args.text.now (name_text c.args.name.now) c.requires (name_line c.args.name.now c.labels-labels.ensures.name)
