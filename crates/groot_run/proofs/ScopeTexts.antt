-- The texts of scopes, and how a run ends with them.
use Rattle.std.proofs.Common.{◌≡◌, ◌∙◌, ℕ, suc, ◌+◌, ◌<◌, ◌≤◌, Bool, true, false, List, ◌∷◌, ◌++◌, length, drop, get_or, Result, Ok, Err, sym, subst, refl, ap, ap₂, inl, inr, arith}
use Rattle.std.specs.Prelude.{◌⊎◌, ◌||◌}
use Rattle.std.specs.List.{flat_map}
use Rattle.std.specs.Result.{IsErrAnd}
use Rattle.std.proofs.lemmas.Grind.{flat_map-append}
use Rattle.std.proofs.lemmas.List.{drop_all}
use Rattle.std.proofs.Math.Seq.{drop-cons}
use Rattle.dns_data.specs.Name.{Labels}
use Rattle.graph_form.specs.Report.{Subject}
use Rattle.net_model.specs.declared.config.Config.{Config}
use Rattle.query_verdicts.specs.Passed.{IsRefusedFor, NonePasses}
use Rattle.query_verdicts.specs.Queries.{LimitedQueries, most_states}
use Rattle.site_checks.specs.Views.{Site}
use Rattle.run_endings.specs.declared.ending.Ending.{Ending}
use Rattle.run_endings.specs.Endings.{no_memory, with_output, writes_nothing}
use Rattle.report_run.specs.Budgets.{HasMoreNamesAt, WithinSubject}
use Rattle.groot_run.specs.declared.name_list.ListFault.{ListFault}
use Rattle.groot_run.specs.declared.name_list.ListFault.TheVariants.{NotName, NoMemory}
use Rattle.groot_run.specs.declared.scope.ScopeText.{ScopeText}
use Rattle.groot_run.specs.Outcome.{EndsBehind, IsScoped, Scopes, ScopesEach, ScopesNames, ScopesSubject, bad_name, own_sites, scope_of, with_scope, worse}
use Rattle.groot_run.specs.ScopeTexts.{EndsByText, TellsScope, TellsScopes, TellsText, status_when, with_text}
use Rattle.report_run.proofs.Budgets.{beyond}

-- ---- of one name

module _ (limit : ℕ) (subject : Subject) (sites : List Site) where
  -- a text within the budgets is one of the scope
  pub within_budgets : (HasMoreNamesAt subject limit → ⊥) → NonePasses subject most_states → (told : Result ScopeText Ending) → TellsText subject sites told → TellsScope limit subject sites told
  within_budgets few none (Ok text) is = (few, none, is)
  within_budgets few none (Err ending) ran_out = inr ran_out

  -- a run that ends with the text of a scope ends as the scope does, unless memory ran out
  pub scope_ends : (told : Result ScopeText Ending) (ending : Ending) → EndsByText told ending → TellsScope limit subject sites told
      → ScopesSubject limit subject sites ending ⊎ (ending ≡ no_memory)
  scope_ends (Ok text) ending (inl is) (few, none, scoped) = inl (inr (few, inr (none, subst (IsScoped subject sites) (sym is) scoped)))
  scope_ends (Ok text) ending (inr ran_out) tells = inr ran_out
  scope_ends (Err said) ending is tells =
      subst (λ (e : Ending). ScopesSubject limit subject sites e ⊎ (e ≡ no_memory)) (sym is)
      (beyond limit (HasMoreNamesAt subject limit) (IsRefusedFor subject most_states) (NonePasses subject most_states) (IsScoped subject sites said) said tells)

  -- a run that ends since a scope passes a budget writes nothing
  pub silent : (ending : Ending) → WithinSubject subject limit ⊥ ending → writes_nothing ending.status ≡ true
  silent ending (inl (more, is)) = ap (λ (e : Ending). writes_nothing e.status) is
  silent ending (inr (few, inl (query, refused, is))) = ap (λ (e : Ending). writes_nothing e.status) is
  silent ending (inr (few, inr (none, ends))) = absurd ends

-- ---- of many names

-- a run that ends with a text writes it
written : (text : ScopeText) → writes_nothing (with_text text).status ≡ false
written text = by text.faulty where
  by : (faulty : Bool) → writes_nothing (status_when faulty) ≡ false
  by true = refl
  by false = refl

-- two texts, one behind the other, have the status of both
status_of_both : (first second : Bool) → status_when (first || second) ≡ worse (status_when first) (status_when second)
status_of_both true true = refl
status_of_both true false = refl
status_of_both false true = refl
status_of_both false false = refl

-- a run that ends with two texts, one behind the other, wrote the first and then the second
both_written : (first second both : ScopeText) → both.faulty ≡ (first.faulty || second.faulty) → both.pieces ≡ first.pieces ++ second.pieces
    → with_text both ≡ with_scope (with_text first) (with_text second)
both_written first second both faulty pieces =
    ap₂ with_output (ap status_when faulty ∙ status_of_both first.faulty second.faulty)
    (ap (flat_map (λ (piece : List ℕ). piece)) pieces ∙ flat_map-append (λ (piece : List ℕ). piece) first.pieces second.pieces)

module _ (limit : ℕ) (config : Config) where
  abbrev IsScope : Labels → Ending → Type 0
  IsScope name = Scopes limit name own_sites config

  module _ (all : List Labels) (so_far : Ending) where
    -- how names end that are left behind what is written so far is how all of them end
    abbrev pub GoesOnWith : List Labels → Type 0
    GoesOnWith left = (ending : Ending) → EndsBehind IsScope so_far left ending → ScopesEach limit config all ending

    -- where a name passes a budget, all end so
    pub ends_at : (name : Labels) (left : List Labels) (ending : Ending) → GoesOnWith (name ∷ left) → TellsScope limit (scope_of config name) own_sites (Err ending)
        → ScopesEach limit config all ending ⊎ (ending ≡ no_memory)
    ends_at name left ending goes (inl past) =
        inl (goes ending (ending, beyond_budget past, inl (silent limit (scope_of config name) own_sites ending past, refl)))
      where
        beyond_budget : WithinSubject (scope_of config name) limit ⊥ ending → Scopes limit name own_sites config ending
        beyond_budget (inl more) = inl more
        beyond_budget (inr (few, inl refused)) = inr (few, inl refused)
        beyond_budget (inr (few, inr (none, ends))) = absurd ends
    ends_at name left ending goes (inr ran_out) = inr ran_out

    -- with the text of a name behind it, it goes on with the names behind that
    pub goes_on_behind : (name : Labels) (left : List Labels) (text : ScopeText) → GoesOnWith (name ∷ left) → TellsScope limit (scope_of config name) own_sites (Ok text)
        → (ending : Ending) → EndsBehind IsScope (with_scope so_far (with_text text)) left ending → ScopesEach limit config all ending
    goes_on_behind name left text goes (few, none, scoped) ending rest =
        goes ending (with_text text, inr (few, inr (none, scoped)), inr (written text, rest))

-- behind the last name all end with what is written
pub all_scopes : (limit : ℕ) (config : Config) (names : List Labels) (i : ℕ) (text : ScopeText) → length names ≤ i
    → GoesOnWith limit config names (with_text text) (drop i names) → TellsScopes limit config names (Ok text)
all_scopes limit config names i text past goes =
    subst (GoesOnWith limit config names (with_text text)) (drop_all i names past) goes (with_text text) refl

-- the names that are left begin with the next one
next_left : (names : List Labels) (i : ℕ) (name : Labels) → i < length names → name ≡ get_or names i name → drop i names ≡ name ∷ drop (i + 1) names
next_left names i name there is =
    let next : suc i ≡ i + 1 = omega arith in
    drop-cons names i name there ∙ (λ j. sym is j ∷ drop (next j) names)

-- the next of the names that are left, with the queries that the names before it gave back
module _ (limit : ℕ) (of now : LimitedQueries) (same : now ≡ of) (names : List Labels) (i : ℕ) (name : Labels) (text : ScopeText) (there : i < length names)
    (item : name ≡ get_or names i name) (goes : GoesOnWith limit of.config names (with_text text) (drop i names)) where
  goes_next : GoesOnWith limit of.config names (with_text text) (name ∷ drop (i + 1) names)
  goes_next = subst (GoesOnWith limit of.config names (with_text text)) (next_left names i name there item) goes

  of_next : (told : Result ScopeText Ending) → TellsScope limit (scope_of now.config name) own_sites told → TellsScope limit (scope_of of.config name) own_sites told
  of_next told = subst (λ (one : LimitedQueries). TellsScope limit (scope_of one.config name) own_sites told) same

  -- where it passes a budget, and that is handed on, all end so
  pub ends_at_next : (fault : Ending) (told : Result ScopeText Ending) → IsErrAnd told (λ other. other ≡ fault) → TellsScope limit (scope_of now.config name) own_sites (Err fault)
      → TellsScopes limit of.config names told
  ends_at_next fault (Ok both) is tells = absurd is
  ends_at_next fault (Err other) is tells =
      subst (λ (e : Ending). ScopesEach limit of.config names e ⊎ (e ≡ no_memory)) (sym is)
      (ends_at limit of.config names (with_text text) name (drop (i + 1) names) fault goes_next (of_next (Err fault) tells))

  -- with its text behind the others, it goes on with the names behind it
  pub goes_on_behind_next : (more both : ScopeText) → TellsScope limit (scope_of now.config name) own_sites (Ok more) → both.faulty ≡ (text.faulty || more.faulty)
      → both.pieces ≡ text.pieces ++ more.pieces → GoesOnWith limit of.config names (with_text both) (drop (i + 1) names)
  goes_on_behind_next more both tells faulty pieces ending rest =
      goes_on_behind limit of.config names (with_text text) name (drop (i + 1) names) more goes_next (of_next (Ok more) tells) ending
      (subst (λ (e : Ending). EndsBehind (λ (one : Labels). Scopes limit one own_sites of.config) e (drop (i + 1) names) ending) (both_written text more both faulty pieces) rest)

-- the run ends with what is told of names, unless memory ran out
pub scopes_end : (limit : ℕ) (config : Config) (names : List Labels) (told : Result ScopeText Ending) (ending : Ending) → EndsByText told ending → TellsScopes limit config names told
    → ScopesEach limit config names ending ⊎ (ending ≡ no_memory)
scopes_end limit config names (Ok text) ending (inl is) ends = inl (subst (ScopesEach limit config names) (sym is) ends)
scopes_end limit config names (Ok text) ending (inr ran_out) ends = inr ran_out
scopes_end limit config names (Err said) ending is ends = subst (λ (e : Ending). ScopesEach limit config names e ⊎ (e ≡ no_memory)) (sym is) ends

-- the run ends at the line that is no name, unless memory ran out
pub of_bad_name : (limit : ℕ) (file : List ℕ) (config : Config) (said : Result (List Labels) ListFault) (fault : ListFault) (line : ℕ) (ending : Ending) → fault ≡ NotName line
    → (fault ≡ NoMemory) ⊎ (said ≡ Err fault) → (ending ≡ bad_name file line) ⊎ (ending ≡ no_memory) → ScopesNames limit file config said ending ⊎ (ending ≡ no_memory)
of_bad_name limit file config said fault line ending is (inl ran_out) told = absurd (cc)
of_bad_name limit file config said fault line ending is (inr refused) told =
    subst (λ (one : Result (List Labels) ListFault). ScopesNames limit file config one ending ⊎ (ending ≡ no_memory))
    (sym (refused ∙ ap {B = Result (List Labels) ListFault} (λ (one : ListFault). Err one) is)) told
