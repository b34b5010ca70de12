use Rattle.std.proofs.Common.{ℕ, List, Bor, map}
use Rattle.run_endings.proofs.Written.{of_written}
use Rattle.map_run.specs.declared.words.MapView.TheVariants.{Records, Reached, Targets, Delegations, Copies, Servers, Aliases, Chain}
use Rattle.map_run.proofs.Endings.{view_written}
use Rattle.map_run.proofs.run.groot_map.Goals as goal

pub returns-clause-records : goal.returns-clause-records
returns-clause-records g c =
    view_written Records (map (λ (word : Bor (List ℕ)). word.now) c.args.words.now) _ _ _ c.run_words.result c.run_words.ensures.run c.write_ending.result c.write_ending.ensures

pub returns-clause-reached : goal.returns-clause-reached
returns-clause-reached g c =
    view_written Reached (map (λ (word : Bor (List ℕ)). word.now) c.args.words.now) _ _ _ c.run_words.result c.run_words.ensures.run c.write_ending.result c.write_ending.ensures

pub returns-clause-targets : goal.returns-clause-targets
returns-clause-targets g c =
    view_written Targets (map (λ (word : Bor (List ℕ)). word.now) c.args.words.now) _ _ _ c.run_words.result c.run_words.ensures.run c.write_ending.result c.write_ending.ensures

pub returns-clause-delegations : goal.returns-clause-delegations
returns-clause-delegations g c =
    view_written Delegations (map (λ (word : Bor (List ℕ)). word.now) c.args.words.now) _ _ _ c.run_words.result c.run_words.ensures.run c.write_ending.result c.write_ending.ensures

pub returns-clause-copies : goal.returns-clause-copies
returns-clause-copies g c =
    view_written Copies (map (λ (word : Bor (List ℕ)). word.now) c.args.words.now) _ _ _ c.run_words.result c.run_words.ensures.run c.write_ending.result c.write_ending.ensures

pub returns-clause-servers : goal.returns-clause-servers
returns-clause-servers g c =
    view_written Servers (map (λ (word : Bor (List ℕ)). word.now) c.args.words.now) _ _ _ c.run_words.result c.run_words.ensures.run c.write_ending.result c.write_ending.ensures

pub returns-clause-aliases : goal.returns-clause-aliases
returns-clause-aliases g c =
    view_written Aliases (map (λ (word : Bor (List ℕ)). word.now) c.args.words.now) _ _ _ c.run_words.result c.run_words.ensures.run c.write_ending.result c.write_ending.ensures

pub returns-clause-chain : goal.returns-clause-chain
returns-clause-chain g c =
    view_written Chain (map (λ (word : Bor (List ℕ)). word.now) c.args.words.now) _ _ _ c.run_words.result c.run_words.ensures.run c.write_ending.result c.write_ending.ensures

pub returns-clause-run : goal.returns-clause-run
returns-clause-run g c = of_written _ _ _ _ _ c.run_words.result c.run_words.ensures.run c.write_ending.result c.write_ending.ensures
