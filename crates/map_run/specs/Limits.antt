-- What `reached` gives where a query reaches more pairs of state and type than it may.
use Rattle.std.specs.Prelude.{◌≡◌, ◌⊎◌, List, ◌∷◌, ◌++◌, Contains}
use Rattle.dns_data.specs.Name.{Labels}
use Rattle.net_model.specs.declared.config.Config.{Config}
use Rattle.config_load.specs.declared.loaded.RowFiles.{RowFiles}
use Rattle.query_verdicts.specs.Passed.{IsFirstServerPassed}
use Rattle.query_verdicts.specs.Queries.{LimitedQueries, Passes, limited_to, most_states}
use Rattle.query_verdicts.specs.Verdict.{SomeServerPasses}
use Rattle.run_endings.specs.Endings.{too_many_states}
use Rattle.run_endings.specs.declared.ending.Ending.{Ending}
use Rattle.map_run.specs.Rewrites.{most_rewrites}

-- the queries of a configuration within these limits
abbrev pub reached_queries : Config → LimitedQueries
reached_queries config = limited_to config most_rewrites most_states

-- the origin of none of these rows reaches more pairs of state and type than it may
abbrev pub NoOriginPasses : LimitedQueries → List RowFiles → Type 0
NoOriginPasses queries rows = (row : RowFiles) → Contains rows row → Passes queries row.origin → ⊥

-- the query is the origin of the first of these rows whose origin reaches more pairs of state and type than it may
pub record IsFirstOriginPassed (queries : LimitedQueries) (rows : List RowFiles) (query : Labels) : Type 0 where
  pub before : List RowFiles
  pub row : RowFiles
  pub after : List RowFiles
  pub among : rows ≡ before ++ row ∷ after
  pub is_origin : query ≡ row.origin
  pub passes : Passes queries query
  pub first : NoOriginPasses queries before

-- what is given of rows: the first of their origins that reaches more pairs of state and type than it may is named;
-- without such an origin the run ends as given
abbrev pub WithinOrigins : LimitedQueries → List RowFiles → Type 0 → Ending → Type 0
WithinOrigins queries rows EndsSo ending =
    ((origin : Labels) × IsFirstOriginPassed queries rows origin × (ending ≡ too_many_states most_states origin))
    ⊎ (NoOriginPasses queries rows × EndsSo)

-- what `reached` gives: where the name of some server reaches too many pairs, the first that does is named
abbrev pub WithinLimits : Config → List RowFiles → Type 0 → Ending → Type 0
WithinLimits config rows EndsSo ending =
    ((server : Labels) × IsFirstServerPassed config most_rewrites most_states server × (ending ≡ too_many_states most_states server))
    ⊎ ((SomeServerPasses config most_rewrites most_states → ⊥) × WithinOrigins (reached_queries config) rows EndsSo ending)
