-- A job has at most one outcome: what the files give is one, and each word tells one thing of it.
use Rattle.std.proofs.Common.{◌≡◌, Bool, true, List, [], ◌∷◌, length, Contains, Option, Some, None, sym, ap, ◌∙◌, subst, inl, inr, refl}
use Rattle.std.proofs.Math.Path.{fun_ext}
use Rattle.std.proofs.lemmas.List.Elements.{Contains-append_right}
use Rattle.std.specs.Prelude.{◌⊎◌, ◌↔◌}
use Rattle.std.specs.List.{AllZip}
use Rattle.io_edges.specs.Files.{FilesTold}
use Rattle.dns_data.specs.Name.{Labels}
use Rattle.dns_data.proofs.Membership.{has_first}
use Rattle.dns_data.proofs.Searches.{same_truth}
use Rattle.net_model.specs.declared.config.Config.{Config}
use Rattle.net_model.specs.Step.{following}
use Rattle.net_model.proofs.InForce.{one_in_force}
use Rattle.config_load.specs.declared.loaded.Loaded.{Loaded}
use Rattle.config_load.specs.declared.loaded.RowFiles.{RowFiles}
use Rattle.plain_resolver.specs.Passed.{IsFirstWithTooMany, most_walks_followed}
use Rattle.plain_resolver.proofs.FirstPassed.{one_first, none_is_first}
use Rattle.query_verdicts.specs.Passed.{IsFirstServerPassed}
use Rattle.query_verdicts.specs.Queries.{LimitedQueries, Passes, most_states}
use Rattle.query_verdicts.specs.Verdict.{PassesStates, SomeServerPasses}
use Rattle.query_verdicts.proofs.ClassesJudged.{some_server}
use Rattle.query_verdicts.proofs.OnePassed.{first_of_kind}
use Rattle.run_endings.specs.Endings.{too_many_states, too_many_to_learn, with_output}
use Rattle.run_endings.specs.declared.ending.Ending.{Ending}
use Rattle.run_endings.proofs.OneReading.{one_by_reading}
use Rattle.name_ends.specs.Asked.{ends_in}
use Rattle.name_ends.specs.declared.ends.NameEnds.{NameEnds}
use Rattle.name_ends.proofs.NameWalks.{one_ends}
use Rattle.alias_ends.specs.Known.{walks_in}
use Rattle.alias_ends.specs.Aliases.{WalksByName}
use Rattle.map_run.specs.Aliases.{IsAliases, TellsAliases, aliases_of}
use Rattle.map_run.specs.Asked.{TellsByEnds, GivenByEnds}
use Rattle.map_run.specs.Delegations.{delegations_of}
use Rattle.map_run.specs.Limits.{IsFirstOriginPassed, NoOriginPasses, WithinLimits, WithinOrigins, reached_queries}
use Rattle.map_run.specs.Lines.{with_lines}
use Rattle.map_run.specs.Loaded.{loaded}
use Rattle.map_run.specs.Outcome.{Outcome, TellsAsked}
use Rattle.map_run.specs.Reached.{IsRowReached, TellsRows, reached_status, reached_text}
use Rattle.map_run.specs.Rewrites.{most_rewrites}
use Rattle.map_run.specs.Servers.{servers_of}
use Rattle.map_run.specs.Targets.{targets_of}
use Rattle.map_run.specs.declared.lines.Line.{Line}
use Rattle.map_run.specs.declared.words.MapJob.{MapJob}
use Rattle.map_run.specs.declared.words.MapView.{MapView}
use Rattle.map_run.specs.declared.words.MapView.TheVariants.{Records, Reached, Targets, Delegations, Copies, Servers, Aliases, Chain}
use Rattle.alias_ends.proofs.AliasWords.{all_one}

-- ---- a first name, or else what is given

module _ (IsFirst : Labels → Type 0) (line : Labels → Ending) (EndsSo : Ending → Type 0) (one : (x y : Labels) → IsFirst x → IsFirst y → x ≡ y)
    (none : (x : Labels) (ending : Ending) → IsFirst x → EndsSo ending → ⊥) (same : (a b : Ending) → EndsSo a → EndsSo b → a ≡ b) where
  -- a run ends in one way that tells the first name, or else ends as given
  pub one_name_first : (a b : Ending) → ((x : Labels) × IsFirst x × (a ≡ line x)) ⊎ EndsSo a → ((x : Labels) × IsFirst x × (b ≡ line x)) ⊎ EndsSo b → a ≡ b
  one_name_first a b (inl (x, first, is)) (inl (y, also, was)) = is ∙ ap line (one x y first also) ∙ sym was
  one_name_first a b (inl (x, first, is)) (inr q) = absurd (none x b first q)
  one_name_first a b (inr p) (inl (y, also, was)) = absurd (none y a also p)
  one_name_first a b (inr p) (inr q) = same a b p q

-- ---- the words that go by ends

module _ (config : Config) (lines : (Labels → NameEnds) → List Line) where
  -- how the walks of each name end is known
  known : (ending : Ending) (tells : TellsByEnds config lines ending) → tells.ends ≡ ends_in (following config most_rewrites tells.followed)
  known ending tells = fun_ext (λ name. one_ends (following config most_rewrites tells.followed) name (tells.ends name) (tells.are name))

  one_by_lines : (a b : Ending) → TellsByEnds config lines a → TellsByEnds config lines b → a ≡ b
  one_by_lines a b p q =
      let same = one_in_force config most_rewrites p.followed q.followed p.in_force q.in_force in
      let ends : p.ends ≡ q.ends =
      known a p ∙ ap {B = Labels → NameEnds} (λ (followed : List Labels). ends_in (following config most_rewrites followed)) same ∙ sym (known b q) in
      p.as_lines ∙ ap (λ (ends : Labels → NameEnds). with_lines (lines ends)) ends ∙ sym q.as_lines

  -- a word ends in one way that goes by how the walks of names end
  pub one_by_ends : (a b : Ending) → GivenByEnds config lines a → GivenByEnds config lines b → a ≡ b
  one_by_ends =
      one_name_first (IsFirstWithTooMany config most_rewrites most_walks_followed []) (too_many_to_learn most_walks_followed) (TellsByEnds config lines)
      (one_first config most_rewrites most_walks_followed [])
      (λ server ending first tells. none_is_first config most_rewrites most_walks_followed [] (length config.servers) server first first.is_round tells.few)
      one_by_lines

-- ---- `aliases`

module _ (all : Loaded) where
  walks_known : (ending : Ending) (tells : TellsAliases all ending) → tells.walks ≡ walks_in (following all.config most_rewrites tells.followed)
  walks_known ending tells = all_one (following all.config most_rewrites tells.followed) tells.walks tells.are

  one_by_walks : (a b : Ending) → TellsAliases all a → TellsAliases all b → a ≡ b
  one_by_walks a b p q =
      let same = one_in_force all.config most_rewrites p.followed q.followed p.in_force q.in_force in
      let walks : p.walks ≡ q.walks =
      walks_known a p ∙ ap {B = WalksByName} (λ (followed : List Labels). walks_in (following all.config most_rewrites followed)) same ∙ sym (walks_known b q) in
      p.as_lines ∙ ap (λ (of : WalksByName). with_lines (aliases_of all of)) walks ∙ sym q.as_lines

  one_of_aliases : (a b : Ending) → IsAliases all a → IsAliases all b → a ≡ b
  one_of_aliases =
      one_name_first (IsFirstWithTooMany all.config most_rewrites most_walks_followed []) (too_many_to_learn most_walks_followed) (TellsAliases all)
      (one_first all.config most_rewrites most_walks_followed [])
      (λ server ending first tells. none_is_first all.config most_rewrites most_walks_followed [] (length all.config.servers) server first first.is_round tells.few)
      one_by_walks

-- ---- `reached`

-- each row has one answer
one_of_rows : (P : RowFiles → Type 0) (rows : List RowFiles) (a b : List Bool) → AllZip (λ (row : RowFiles) (one : Bool). (one ≡ true) ↔ P row) rows a
    → AllZip (λ (row : RowFiles) (one : Bool). (one ≡ true) ↔ P row) rows b → a ≡ b
one_of_rows P [] [] [] p q = refl
one_of_rows P [] [] (y ∷ b) p q = absurd q
one_of_rows P [] (x ∷ a) b p q = absurd p
one_of_rows P (row ∷ rows) [] b p q = absurd p
one_of_rows P (row ∷ rows) (x ∷ a) [] p q = absurd q
one_of_rows P (row ∷ rows) (x ∷ a) (y ∷ b) p q =
    let first = same_truth x y (λ e. q.0.1 (p.0.0 e)) (λ e. p.0.1 (q.0.0 e)) in
    let rest = one_of_rows P rows a b p.1 q.1 in
    λ i. first i ∷ rest i

module _ (queries : LimitedQueries) (rows : List RowFiles) where
  one_origin : (a b : Labels) → IsFirstOriginPassed queries rows a → IsFirstOriginPassed queries rows b → a ≡ b
  one_origin a b p q =
      p.is_origin
      ∙ ap (λ (row : RowFiles). row.origin)
      (first_of_kind (λ (row : RowFiles). Passes queries row.origin) p.before p.after q.before q.after p.row q.row (sym p.among ∙ q.among) p.first q.first
      (subst (Passes queries) p.is_origin p.passes) (subst (Passes queries) q.is_origin q.passes))
      ∙ sym q.is_origin

  none_passed : (origin : Labels) → IsFirstOriginPassed queries rows origin → NoOriginPasses queries rows → ⊥
  none_passed origin is none =
      none is.row
      (subst (λ (all : List RowFiles). Contains all is.row) (sym is.among) (Contains-append_right is.before (is.row ∷ is.after) is.row (has_first is.row is.after)))
      (subst (Passes queries) is.is_origin is.passes)

module _ (config : Config) (rows : List RowFiles) where
  one_by_rows : (a b : Ending) → TellsRows config rows a → TellsRows config rows b → a ≡ b
  one_by_rows a b p q =
      p.as_text
      ∙ ap (λ (reached : List Bool). with_output (reached_status reached) (reached_text 1 reached rows)) (one_of_rows (IsRowReached config) rows p.reached q.reached p.tells q.tells)
      ∙ sym q.as_text

  one_of_origins : (a b : Ending) → WithinOrigins (reached_queries config) rows (TellsRows config rows a) a
      → WithinOrigins (reached_queries config) rows (TellsRows config rows b) b → a ≡ b
  one_of_origins =
      one_name_first (IsFirstOriginPassed (reached_queries config) rows) (too_many_states most_states)
      (λ ending. NoOriginPasses (reached_queries config) rows × TellsRows config rows ending)
      (one_origin (reached_queries config) rows) (λ origin ending first p. none_passed (reached_queries config) rows origin first p.0)
      (λ a b p q. one_by_rows a b p.1 q.1)

  one_reached : (a b : Ending) → WithinLimits config rows (TellsRows config rows a) a → WithinLimits config rows (TellsRows config rows b) b → a ≡ b
  one_reached =
      one_name_first (IsFirstServerPassed config most_rewrites most_states) (too_many_states most_states)
      (λ ending. (SomeServerPasses config most_rewrites most_states → ⊥) × WithinOrigins (reached_queries config) rows (TellsRows config rows ending) ending)
      (λ x y p q. first_of_kind (PassesStates config most_rewrites most_states) p.before p.after q.before q.after x y (sym p.among ∙ q.among) p.first q.first p.passes q.passes)
      (λ server ending first p. p.0 (some_server config most_rewrites most_states server first))
      (λ a b p q. one_of_origins a b p.1 q.1)

-- ---- all words

-- a word tells one thing of what was read
one_of_view : (view : MapView) (all : Loaded) (a b : Ending) → TellsAsked view all a → TellsAsked view all b → a ≡ b
one_of_view Records all a b = λ p q. p ∙ sym q
one_of_view Reached all a b = one_reached all.config all.rows a b
one_of_view Targets all a b = one_by_ends all.config (targets_of all) a b
one_of_view Delegations all a b = one_by_ends all.config (delegations_of all) a b
one_of_view Copies all a b = λ p q. p ∙ sym q
one_of_view Servers all a b = one_by_ends all.config (servers_of all) a b
one_of_view Aliases all a b = one_of_aliases all a b
one_of_view Chain all a b = λ p q. p ∙ sym q

-- two outcomes of a job, by the same that is told of the files, are equal
pub one_outcome : (told : FilesTold) (job : Option MapJob) (a b : Ending) → Outcome told job a → Outcome told job b → a ≡ b
one_outcome told None a b = λ p q. p ∙ sym q
one_outcome told (Some job) a b = one_by_reading job.meta (TellsAsked job.asked) (one_of_view job.asked) (loaded job.meta told) a b
