-- The first walks that a graph gives are the first of the query that show the fault.
use Rattle.std.proofs.Common.{◌≡◌, ◌≢◌, ◌∙◌, ℕ, List, [], ◌∷◌, map, Some, refl, sym, ap, subst}
use Rattle.std.specs.List.{AllByRecursion}
use Rattle.std.specs.declared.cmp.Ordering.TheVariants.{Less}
use Rattle.dns_data.specs.Name.{Labels}
use Rattle.dns_data.specs.declared.rr_type.RrType.{RrType}
use Rattle.graph_form.specs.Graph.{PlainGraph, path_along}
use Rattle.graph_form.specs.GraphOf.{IsGraphOf}
use Rattle.graph_form.specs.Report.{PathsShow, paths_cmp}
use Rattle.graph_form.specs.Trails.{AreFirst, GraphShows, ZonesShow}
use Rattle.graph_form.proofs.Paths.{path_is_walk}
use Rattle.graph_form.proofs.Taking.{taken, zones, shown}
use Rattle.net_model.specs.declared.fault.Fault.{Fault}
use Rattle.net_model.specs.declared.walk.Walk.{Walk}
use Rattle.net_model.specs.declared.config.Config.{Config}
use Rattle.net_model.specs.Learnt.{IsInForce}
use Rattle.net_model.specs.Shown.{Shows, ShowsIn, with_sets}
use Rattle.net_model.specs.Step.{Setting, following}
use Rattle.net_model.specs.Walk.{IsWalk, walk_along}
use Rattle.net_model.proofs.InForce.{one_in_force}

-- the walks are the first walk, or the first pair of walks, of the query that show the fault with the type
pub record AreFirstWalks (setting : Setting) (query : Labels) (rtype : RrType) (fault : Fault) (walks : List Walk) : Type 0 where
  pub paths : List (List ℕ)
  pub show : PathsShow setting query rtype fault paths walks
  pub first : (others : List (List ℕ)) (other : List Walk) → PathsShow setting query rtype fault others other → paths_cmp others paths ≢ Less

-- what a query shows it shows with the set that is in force
pub shows_with : (config : Config) (rewrites : ℕ) (followed : List Labels) → IsInForce config rewrites followed → (query : Labels) (rtype : RrType) (fault : Fault)
    → ShowsIn config rewrites query rtype fault → Shows (with_sets (following config rewrites followed)) query rtype fault
shows_with config rewrites followed in_force query rtype fault shows =
    subst (λ (set : List Labels). Shows (with_sets (following config rewrites set)) query rtype fault)
    (one_in_force config rewrites shows.followed followed shows.in_force in_force) shows.shows

module _ (setting : Setting) (query : Labels) (rtype : RrType) (graph : PlainGraph) (is : IsGraphOf setting query graph) where
  -- paths of the graph are walks
  paths_are : (paths : List (List ℕ)) → map (path_along graph rtype) paths ≡ map (walk_along setting query rtype) paths
  paths_are [] = refl
  paths_are (path ∷ paths) =
      ap (λ first. first ∷ map (path_along graph rtype) paths) (path_is_walk setting query graph rtype is path)
      ∙ ap (λ rest. walk_along setting query rtype path ∷ rest) (paths_are paths)

  -- walks have paths
  paths_of : (walks : List Walk) → AllByRecursion (IsWalk setting query rtype) walks
      → (paths : List (List ℕ)) × (map (path_along graph rtype) paths ≡ map Some walks)
  paths_of [] are = ([], refl)
  paths_of (walk ∷ walks) ((path, along), are) =
      let (paths, rest) = paths_of walks are in (
        path ∷ paths,
        ap (λ first. first ∷ map (path_along graph rtype) paths) (path_is_walk setting query graph rtype is path ∙ along) ∙ ap (λ more. Some walk ∷ more) rest,
      )

  -- a fault that the query shows with the type is shown by the graph of its walks
  pub graph_shows : (fault : Fault) → Shows (with_sets setting) query rtype fault → GraphShows graph rtype fault
  graph_shows fault shows =
      let (paths, are) = paths_of shows.walks shows.are_walks in
      (paths, shows.walks, record { are_paths = are; take = taken (with_sets setting) shows.walks fault shows.show })

  -- the first walks that the graph gives for a fault that the query shows are the query's first that show it
  pub first_walks : (fault : Fault) (walks : List Walk) → Shows (with_sets setting) query rtype fault → AreFirst graph rtype fault walks
      → AreFirstWalks setting query rtype fault walks
  first_walks fault walks shows first =
      let hold : ZonesShow (with_sets setting) fault = zones (with_sets setting) shows.walks fault shows.show in
      record {
        paths = first.paths;
        show = record {
          are_walks = sym (paths_are first.paths) ∙ first.show.are_paths;
          show = shown (with_sets setting) walks fault first.show.take hold;
        };
        first = λ others other also.
            first.first others other (record { are_paths = paths_are others ∙ also.are_walks; take = taken (with_sets setting) other fault also.show });
      }
