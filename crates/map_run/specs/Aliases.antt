-- Aliases into zones that a server holds beside the one that was asked: what that server answers for the target, and what
-- a resolver finds that asks for it again from the top servers (RFC 2181 section 5.4.1).
use Rattle.std.specs.Prelude.{◌≡◌, ◌⊎◌, Bool, false, ◌&&◌, List, [], ◌∷◌, ◌++◌, length, Option, Some, None, is_some}
use Rattle.std.specs.List.{flat_map}
use Rattle.std.specs.Option.{option_map_or}
use Rattle.dns_data.specs.Name.{Labels, name_eq}
use Rattle.dns_data.specs.RrType.{word_of}
use Rattle.dns_data.specs.Spelling.{name_text}
use Rattle.dns_data.specs.declared.rdata.Rdata.{Rdata}
use Rattle.dns_data.specs.declared.rdata.Rdata.TheVariants.{Cname}
use Rattle.dns_data.specs.declared.rdata.Rr.{Rr}
use Rattle.net_model.specs.declared.config.Config.{Config}
use Rattle.net_model.specs.Learnt.{IsInForce}
use Rattle.net_model.specs.Nearest.{nearest_of}
use Rattle.net_model.specs.Step.{following}
use Rattle.plain_resolver.specs.Passed.{IsFirstWithTooMany, NoneInRounds, most_walks_followed}
use Rattle.config_load.specs.declared.loaded.Loaded.{Loaded}
use Rattle.config_load.specs.declared.loaded.RowFiles.{RowFiles}
use Rattle.run_endings.specs.Endings.{too_many_to_learn}
use Rattle.run_endings.specs.declared.ending.Ending.{Ending}
use Rattle.alias_ends.specs.Aliases.{AreWalksByName, WalksByName, alias_counts, alias_text, is_found, target_word}
use Rattle.alias_ends.specs.declared.words.TargetWord.{TargetWord}
use Rattle.map_run.specs.Lines.{if_so, line_of, with_lines}
use Rattle.map_run.specs.Records.{record_columns, records_of}
use Rattle.map_run.specs.Rewrites.{most_rewrites}
use Rattle.map_run.specs.declared.lines.Line.{Line}

-- ---- which aliases are looked at

-- the row's zone is the one in which its server looks the name up
abbrev pub is_looked_up : Config → RowFiles → Labels → Bool
is_looked_up config row name = option_map_or (λ zone. name_eq zone.origin row.origin) (nearest_of config row.server name) false

-- the record of a row's zone is found at the row's server, which holds a zone for its target
abbrev pub is_followed : WalksByName → Config → RowFiles → Labels → Labels → Bool
is_followed walks config row owner target =
    is_looked_up config row owner && is_some (nearest_of config row.server target) && is_found walks row.server owner

-- ---- the lines

-- the line of the word for a record's target
abbrev pub alias_line : RowFiles → Rr → Labels → Option TargetWord → List Line
alias_line row rr target None = []
alias_line row rr target (Some found) =
    line_of (alias_counts found.word) (alias_text found.word ∷ record_columns row rr ++ name_text target ∷ word_of found.rtype ∷ []) ∷ []

-- the lines of a record and its target
abbrev pub alias_lines : WalksByName → Config → RowFiles → Rr → Labels → List Line
alias_lines walks config row rr target =
    if_so (is_followed walks config row rr.owner target) (alias_line row rr target (target_word walks row.server target))

-- the lines of a record of a row's zone, by its data
abbrev pub record_lines : WalksByName → Config → RowFiles → Rr → Rdata → List Line
record_lines walks config row rr (Cname target) = alias_lines walks config row rr target
record_lines walks config row rr rdata = []

-- the lines of a row's records
abbrev pub row_lines : WalksByName → Config → RowFiles → List Line
row_lines walks config row = flat_map (λ rr. record_lines walks config row rr rr.rdata) (records_of config row)

-- the lines of all records, in the order of rows, by the walks of each name
abbrev pub aliases_of : Loaded → WalksByName → List Line
aliases_of all walks = flat_map (row_lines walks all.config) all.rows

-- the run ends with the lines of aliases, while the servers of the set in force are followed
pub record TellsAliases (all : Loaded) (ending : Ending) : Type 0 where
  pub followed : List Labels
  pub in_force : IsInForce all.config most_rewrites followed
  pub few : NoneInRounds all.config most_rewrites most_walks_followed [] (length all.config.servers)
  pub walks : WalksByName
  pub are : AreWalksByName (following all.config most_rewrites followed) walks
  pub as_lines : ending ≡ with_lines (aliases_of all walks)

-- what `aliases` gives, unless a server's name has more walks than are followed to learn its address
abbrev pub IsAliases : Loaded → Ending → Type 0
IsAliases all ending =
    ((server : Labels) × IsFirstWithTooMany all.config most_rewrites most_walks_followed [] server × (ending ≡ too_many_to_learn most_walks_followed server))
    ⊎ TellsAliases all ending
