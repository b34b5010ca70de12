-- What goes by how the walks of names end that queries for their addresses begin.
use Rattle.std.specs.Prelude.{◌≡◌, ◌⊎◌, List, [], length}
use Rattle.dns_data.specs.Name.{Labels}
use Rattle.net_model.specs.declared.config.Config.{Config}
use Rattle.net_model.specs.Learnt.{IsInForce}
use Rattle.net_model.specs.Step.{following}
use Rattle.plain_resolver.specs.Passed.{NoneInRounds, IsFirstWithTooMany, most_walks_followed}
use Rattle.run_endings.specs.Endings.{too_many_to_learn}
use Rattle.run_endings.specs.declared.ending.Ending.{Ending}
use Rattle.name_ends.specs.Ends.{AreNameEnds}
use Rattle.name_ends.specs.declared.ends.NameEnds.{NameEnds}
use Rattle.map_run.specs.Lines.{with_lines}
use Rattle.map_run.specs.Rewrites.{most_rewrites}
use Rattle.map_run.specs.declared.lines.Line.{Line}

-- the run ends with the lines that go by how the walks of each name end, while the servers of the set in force are
-- followed
pub record TellsByEnds (config : Config) (lines : (Labels → NameEnds) → List Line) (ending : Ending) : Type 0 where
  pub followed : List Labels
  pub in_force : IsInForce config most_rewrites followed
  pub few : NoneInRounds config most_rewrites most_walks_followed [] (length config.servers)
  pub ends : Labels → NameEnds
  pub are : (name : Labels) → AreNameEnds (following config most_rewrites followed) name (ends name)
  pub as_lines : ending ≡ with_lines (lines ends)

-- what a word gives that goes by the ends of walks, unless a server's name has more walks than are followed to learn its
-- address
abbrev pub GivenByEnds : Config → ((Labels → NameEnds) → List Line) → Ending → Type 0
GivenByEnds config lines ending =
    ((server : Labels) × IsFirstWithTooMany config most_rewrites most_walks_followed [] server × (ending ≡ too_many_to_learn most_walks_followed server))
    ⊎ TellsByEnds config lines ending
