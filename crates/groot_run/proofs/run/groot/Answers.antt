use Rattle.std.proofs.Common.{ℕ, List, Bor, map}
use Rattle.groot_line.specs.declared.program.Program.TheVariants.{Groot}
use Rattle.groot_run.proofs.HandedChecks.{without_checks}
use Rattle.groot_run.proofs.run.groot.Goals as goal

pub returns-clause-run : goal.returns-clause-run
returns-clause-run g c =
    without_checks _ _ c.new-none.ensures.items Groot (map (λ (word : Bor (List ℕ)). word.now) c.args.words.now) _ _ _ c.groot_with_sites.result c.groot_with_sites.ensures.run
