use Rattle.site_checks.proofs.Lines.{line_utf8}
use Rattle.site_checks.proofs.line.printed.Goals as goal

pub unreachable-requires : goal.unreachable-requires
unreachable-requires c = (c.in-Err.ensures).cases.0 (line_utf8 c.args.octets.now c.requires)
