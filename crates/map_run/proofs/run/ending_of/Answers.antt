use Rattle.std.proofs.Common.{◌≡◌, List, subst, sym}
use Rattle.std.specs.Prelude.{◌⊎◌}
use Rattle.config_load.specs.declared.loaded.Loaded.{Loaded}
use Rattle.config_load.specs.declared.loaded.RowFiles.{RowFiles}
use Rattle.run_endings.specs.Endings.{no_memory}
use Rattle.run_endings.specs.declared.ending.Ending.{Ending}
use Rattle.map_run.specs.Limits.{WithinLimits}
use Rattle.map_run.specs.Outcome.{TellsAsked}
use Rattle.map_run.specs.Reached.{TellsRows}
use Rattle.map_run.specs.Records.{records_text}
use Rattle.map_run.specs.declared.words.MapView.{MapView}
use Rattle.map_run.specs.declared.words.MapView.TheVariants.{Records, Reached, Targets, Delegations, Copies, Servers, Aliases, Chain}
use Rattle.map_run.proofs.run.ending_of.Goals as goal

-- an ending for a view is one for what is asked, if that is the view
as_asked : (asked view : MapView) (all : Loaded) (ending : Ending) → asked ≡ view → TellsAsked view all ending ⊎ (ending ≡ no_memory)
    → TellsAsked asked all ending ⊎ (ending ≡ no_memory)
as_asked asked view all ending is = subst (λ (one : MapView). TellsAsked one all ending ⊎ (ending ≡ no_memory)) (sym is)

pub returns-in-Records : goal.returns-in-Records
returns-in-Records c =
    as_asked c.args.asked Records c.args.all.now c.written.result c.in-Records.is (c.written.ensures (records_text c.args.all.now) c.records_text.ensures)

pub returns-in-Reached : goal.returns-in-Reached
returns-in-Reached c =
    let config = c.args.all.now.config in
    let ending = c.reached_rows.result in
    as_asked c.args.asked Reached c.args.all.now ending c.in-Reached.is
    (subst (λ (rows : List RowFiles). WithinLimits config rows (TellsRows config rows ending) ending ⊎ (ending ≡ no_memory)) c.items.ensures c.reached_rows.ensures)

pub returns-in-Targets : goal.returns-in-Targets
returns-in-Targets c = as_asked c.args.asked Targets c.args.all.now c.word_ending.result c.in-Targets.is c.word_ending.ensures

pub returns-in-Delegations : goal.returns-in-Delegations
returns-in-Delegations c =
    as_asked c.args.asked Delegations c.args.all.now c.word_ending-in-Delegations.result c.in-Delegations.is c.word_ending-in-Delegations.ensures

pub returns-in-Copies : goal.returns-in-Copies
returns-in-Copies c = as_asked c.args.asked Copies c.args.all.now c.copies_ending.result c.in-Copies.is c.copies_ending.ensures

pub returns-in-Servers : goal.returns-in-Servers
returns-in-Servers c = as_asked c.args.asked Servers c.args.all.now c.word_ending-in-Servers.result c.in-Servers.is c.word_ending-in-Servers.ensures

pub returns-in-Aliases : goal.returns-in-Aliases
returns-in-Aliases c = as_asked c.args.asked Aliases c.args.all.now c.aliases_ending.result c.in-Aliases.is c.aliases_ending.ensures

pub returns-in-Chain : goal.returns-in-Chain
returns-in-Chain c = as_asked c.args.asked Chain c.args.all.now c.chain_ending.result c.in-Chain.is c.chain_ending.ensures
