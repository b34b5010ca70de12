use Rattle.std.proofs.Common.{ℕ, List, Bor, map}
use Rattle.run_endings.proofs.Written.{of_written}
use Rattle.parts_run.proofs.MergedRun.{merges_parts}
use Rattle.parts_run.proofs.PartRun.{reports_parts}
use Rattle.parts_run.proofs.run.groot_parts.Goals as goal

pub returns-clause-merge : goal.returns-clause-merge
returns-clause-merge g c =
    merges_parts (map (λ (word : Bor (List ℕ)). word.now) c.args.words.now) _ _ _ c.run_words.result c.run_words.ensures.run c.write_ending.result c.write_ending.ensures

pub returns-clause-part : goal.returns-clause-part
returns-clause-part g c =
    reports_parts (map (λ (word : Bor (List ℕ)). word.now) c.args.words.now) _ _ _ c.run_words.result c.run_words.ensures.run c.write_ending.result c.write_ending.ensures

pub returns-clause-run : goal.returns-clause-run
returns-clause-run g c = of_written _ _ _ _ _ c.run_words.result c.run_words.ensures.run c.write_ending.result c.write_ending.ensures
