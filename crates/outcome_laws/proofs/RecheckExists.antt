-- What `recheck` answers there is: whether a value is a right entry is decided, since its query is named by its text, and
-- the query's walks and what they may show are lists.
use Rattle.std.proofs.Common.{◌≡◌, ◌≢◌, ◌∙◌, ◌⊎◌, ℕ, suc, List, [], ◌∷◌, ◌++◌, map, flat_map, length, Contains, Option, Some, None, refl, sym, ap, subst, inl, inr, arith}
use Rattle.std.specs.Prelude.{Result, Ok, Err, codes}
use Rattle.std.specs.List.{AllByRecursion}
use Rattle.std.proofs.lemmas.List.Elements.{Contains-append_left, Contains-append_right, Contains-append_cases}
use Rattle.dns_data.specs.Name.{Labels, IsName}
use Rattle.dns_data.specs.RrType.{types, word_of}
use Rattle.dns_data.specs.Spelling.{name_of_text, name_text}
use Rattle.dns_data.specs.declared.fault.NameFault.{NameFault}
use Rattle.dns_data.specs.declared.rr_type.RrType.{RrType}
use Rattle.dns_data.proofs.Membership.{map_has, from_map, flat_map_has, from_flat_map}
use Rattle.dns_data.proofs.Names.{is_name, is_name_tells, is_name_told}
use Rattle.graph_form.specs.Trails.{WalksTake}
use Rattle.graph_form.proofs.Reached.{every_type}
use Rattle.graph_form.proofs.Taking.{taken, zones, shown}
use Rattle.groot_run.specs.Outcome.{IsRechecked, answered_to}
use Rattle.net_model.specs.declared.config.Config.{Config}
use Rattle.net_model.specs.declared.fault.Fault.{Fault}
use Rattle.net_model.specs.declared.walk.Walk.{Walk}
use Rattle.net_model.specs.Learnt.{IsInForce}
use Rattle.net_model.specs.Nearest.{server_names}
use Rattle.net_model.specs.Reading.{ground_of}
use Rattle.net_model.specs.Shown.{Shows, ShowsBy, with_sets}
use Rattle.net_model.specs.Step.{Setting, following}
use Rattle.net_model.specs.Walk.{IsWalk}
use Rattle.net_model.proofs.InForce.{some_in_force}
use Rattle.plain_resolver.specs.Passed.{most_walks_followed}
use Rattle.plain_resolver.proofs.FirstPassed.{none_is_first}
use Rattle.query_classes.specs.Members.{IsInOneClass}
use Rattle.query_classes.proofs.Decided.{Decided, by_test, turned, both, either, any_of, among}
use Rattle.query_verdicts.proofs.Candidates.{candidates, candidate_of_one, candidate_of_two}
use Rattle.query_verdicts.proofs.CoveringGrounds.{in_own_class}
use Rattle.query_verdicts.proofs.Decided.{same_list, same_number, same_option}
use Rattle.query_verdicts.proofs.FaultsExist.{HasWalks, greatest_decided, least_decided, walks_exist}
use Rattle.query_verdicts.proofs.ShowsDecided.{shows_decided, walks_take}
use Rattle.report_check.specs.Checked.{PassesWalks, IsConfirmed, IsWrong, IsFirst, LearningPasses, RoundsPass, IsChecked}
use Rattle.report_check.specs.ReportIn.{StatedReport, report_in}
use Rattle.report_check.specs.Entries.{ByWalks, entry_with, first_repeats}
use Rattle.report_check.specs.RightEntries.{IsRight, NamesQuery}
use Rattle.report_check.specs.declared.answer.Checked.{Checked}
use Rattle.report_check.specs.declared.answer.Checked.TheVariants as checks
use Rattle.report_check.specs.declared.answer.CheckFault.{CheckFault}
use Rattle.report_check.specs.declared.answer.CheckFault.TheVariants as check_faults
use Rattle.report_check.proofs.NamedQueries.{named_by, not_named, entry_names}
use Rattle.report_check.proofs.RightByWalks.{right_told, walks_few}
use Rattle.report_json.specs.Json.{name_value}
use Rattle.report_json.specs.Report.{entry_value}
use Rattle.run_endings.specs.declared.ending.Ending.{Ending}
use Rattle.serde_json.specs.Data.{Data, null, boolean, number, string, array, object}
use Rattle.serde_json.specs.Find.{get}
use Rattle.outcome_laws.proofs.DataDecided.{same_value}
use Rattle.outcome_laws.proofs.WalksCounted.{more_walks, first_in_rounds}

-- ---- the query that a value names

-- the name has the text at `query`
abbrev IsQueryOf : Option Data → Labels → Type 0
IsQueryOf found query = IsName query × (found ≡ Some (name_value query))

text_names : (text : List ℕ) → Decided ((query : Labels) × IsQueryOf (Some (string text)) query)
text_names text = by (name_of_text text []) refl where
  same_text : (query : Labels) → Some (string text) ≡ Some (name_value query) → text ≡ name_text query
  same_text query e = cc

  by : (read : Result Labels NameFault) → name_of_text text [] ≡ read → Decided ((query : Labels) × IsQueryOf (Some (string text)) query)
  by (Ok name) reads =
      turned
      (λ (is, e). (name, (is, ap (λ (t : List ℕ). Some (string t)) e)))
      (λ (query, (is, e)).
      let same : query ≡ name = named_by text name reads query is (same_text query e) in
      (subst IsName same is, same_text query e ∙ ap name_text same))
      (both (by_test (is_name name) (is_name_tells name) (is_name_told name)) (same_list same_number text (name_text name)))
  by (Err fault) reads = inr (λ (query, (is, e)). not_named text fault reads query is (same_text query e))

query_of : (found : Option Data) → Decided ((query : Labels) × IsQueryOf found query)
query_of None = inr (λ (query, (is, e)). cc)
query_of (Some (string text)) = text_names text
query_of (Some null) = inr (λ (query, (is, e)). cc)
query_of (Some (boolean _)) = inr (λ (query, (is, e)). cc)
query_of (Some (number _)) = inr (λ (query, (is, e)). cc)
query_of (Some (array _)) = inr (λ (query, (is, e)). cc)
query_of (Some (object _)) = inr (λ (query, (is, e)). cc)

-- whether a value names a query with a type is decided
names_decided : (value : Data) → Decided ((query : Labels) × ((rtype : RrType) × NamesQuery value query rtype))
names_decided value =
    turned
    (λ ((query, (is, e)), (rtype, has, f)). (query, (rtype, record { is_name = is; query_is = e; type_is = f })))
    (λ (query, (rtype, names)). ((query, (names.is_name, names.query_is)), (rtype, every_type rtype, names.type_is)))
    (both (query_of (get (codes "query") value))
    (any_of (λ rtype. get (codes "type") value ≡ Some (string (word_of rtype)))
    (λ rtype. same_option same_value (get (codes "type") value) (Some (string (word_of rtype)))) types))

module _ (config : Config) (rewrites : ℕ) (value : Data) where
  -- whether its query has too many walks
  passes_walks : Decided (PassesWalks config rewrites value)
  passes_walks = by (names_decided value) (some_in_force config rewrites).0 (some_in_force config rewrites).1 where
    by : Decided ((query : Labels) × ((rtype : RrType) × NamesQuery value query rtype)) → (followed : List Labels) → IsInForce config rewrites followed
        → Decided (PassesWalks config rewrites value)
    by (inr none) followed in_force = inr (λ passes. none (passes.query, (passes.rtype, passes.names)))
    by (inl (query, (rtype, names))) followed in_force =
        elim (more_walks (following config rewrites followed) query rtype most_walks_followed) [
          | inl more ↦ inl (record { query = query; rtype = rtype; names = names; followed = followed; in_force = in_force; more = more })
          | inr few ↦ inr (walks_few (following config rewrites followed) in_force value query rtype names few)
        ]

  -- ---- a right entry

  module _ (followed : List Labels) where
    abbrev setting : Setting
    setting = following config rewrites followed

    module _ (query : Labels) (of : IsInOneClass (ground_of config) query) (rtype : RrType) where
      every : (walks : List Walk) × HasWalks setting query rtype walks
      every = walks_exist setting rtype query

      abbrev alone : Walk → List Walk
      alone walk = walk ∷ []

      abbrev beside : Walk → Walk → List Walk
      beside one other = one ∷ other ∷ []

      abbrev beside_each : Walk → List (List Walk)
      beside_each one = map (beside one) every.0

      abbrev choices : List (List Walk)
      choices = map alone every.0 ++ flat_map beside_each every.0

      -- a choice are walks of the query
      choice_walks : (walks : List Walk) → Contains choices walks → AllByRecursion (IsWalk setting query rtype) walks
      choice_walks walks has =
          elim (Contains-append_cases (map alone every.0) (flat_map beside_each every.0) walks has) [
            | inl first ↦ (
                let (walk, inside, is) = from_map alone every.0 walks first in
                subst (AllByRecursion (IsWalk setting query rtype)) is (every.1.each walk inside, tt))
            | inr second ↦ (
                let (one, inside, pairs) = from_flat_map beside_each every.0 walks second in
                let (other, also, is) = from_map (beside one) every.0 walks pairs in
                subst (AllByRecursion (IsWalk setting query rtype)) is (every.1.each one inside, (every.1.each other also, tt)))
          ]

      -- walks that take a fault are a choice
      is_choice : (walks : List Walk) (fault : Fault) → AllByRecursion (IsWalk setting query rtype) walks → WalksTake walks fault → Contains choices walks
      is_choice [] fault are take = absurd take
      is_choice (walk ∷ []) fault are take =
          Contains-append_left (map alone every.0) (flat_map beside_each every.0) (walk ∷ []) (map_has alone every.0 walk (every.1.all walk are.0))
      is_choice (one ∷ other ∷ []) fault are take =
          Contains-append_right (map alone every.0) (flat_map beside_each every.0) (one ∷ other ∷ [])
          (flat_map_has beside_each every.0 one (one ∷ other ∷ []) (every.1.all one are.0)
          (map_has (beside one) every.0 other (every.1.all other are.1.0)))
      is_choice (one ∷ other ∷ third ∷ walks) fault are take = absurd take

      -- and the fault is one of those that they may show
      is_candidate : (walks : List Walk) (fault : Fault) → ShowsBy (with_sets setting) query rtype fault walks → Contains (candidates of.class rtype every.0) fault
      is_candidate walks fault by = at walks by.are_walks (taken (with_sets setting) walks fault by.show) where
        at : (walks : List Walk) → AllByRecursion (IsWalk setting query rtype) walks → WalksTake walks fault → Contains (candidates of.class rtype every.0) fault
        at [] are take = absurd take
        at (walk ∷ []) are take = candidate_of_one config query of rtype every.0 fault walk (every.1.all walk are.0) take
        at (one ∷ other ∷ []) are take = candidate_of_two config query of rtype every.0 fault one other by.may take
        at (one ∷ other ∷ third ∷ rest) are take = absurd take

      -- what is decided of a choice and a candidate
      abbrev Fitting : List Walk → Fault → Type 0
      Fitting walks fault =
          Shows (with_sets setting) query rtype fault
          × (WalksTake walks fault × (value ≡ entry_value (entry_with query rtype (first_repeats walks) walks fault)))

      -- whether walks of the query show the fault of the value's entry
      shown_decided : Decided (ByWalks setting query rtype value)
      shown_decided =
          turned
          (λ (walks, has, (fault, among, (shows, (take, is)))). record {
            walks = walks;
            are_walks = choice_walks walks has;
            shown = record {
              fault = fault;
              may = shows.may;
              show = shown (with_sets setting) walks fault take (zones (with_sets setting) shows.walks fault shows.show);
              is = is;
            };
          })
          (λ (fits : ByWalks setting query rtype value).
          let by : ShowsBy (with_sets setting) query rtype fits.shown.fault fits.walks =
          record { may = fits.shown.may; are_walks = fits.are_walks; show = fits.shown.show } in
          let take : WalksTake fits.walks fits.shown.fault = taken (with_sets setting) fits.walks fits.shown.fault fits.shown.show in (
            fits.walks,
            is_choice fits.walks fits.shown.fault fits.are_walks take,
            (
              fits.shown.fault,
              is_candidate fits.walks fits.shown.fault by,
              (record { walks = fits.walks; by = by }, (take, fits.shown.is)),
            ),
          ))
          (any_of (λ walks. (fault : Fault) × Contains (candidates of.class rtype every.0) fault × Fitting walks fault)
          (λ walks. any_of (Fitting walks) (λ fault.
          both
          (shows_decided (with_sets setting) query rtype every.0 every.1.each every.1.all (least_decided config rewrites) (greatest_decided config rewrites) of fault)
          (both (walks_take walks fault) (same_value value (entry_value (entry_with query rtype (first_repeats walks) walks fault)))))
          (candidates of.class rtype every.0))
          choices)

  -- whether the value is a right entry
  right_decided : Decided (IsRight config rewrites value)
  right_decided = by (names_decided value) (some_in_force config rewrites).0 (some_in_force config rewrites).1 where
    by : Decided ((query : Labels) × ((rtype : RrType) × NamesQuery value query rtype)) → (followed : List Labels) → IsInForce config rewrites followed
        → Decided (IsRight config rewrites value)
    by (inr none) followed in_force =
        inr (λ right. none (
          right.entry.query,
          (
            right.entry.seen.rtype,
            subst (λ (v : Data). NamesQuery v right.entry.query right.entry.seen.rtype) (sym right.is)
                (entry_names right.entry right.is_name),
          ),
        ))
    by (inl (query, (rtype, names))) followed in_force =
        let told = right_told (following config rewrites followed) in_force value query rtype names in
        turned told.0 told.1 (shown_decided followed query (in_own_class config query names.is_name) rtype)

-- ---- all entries

module _ (config : Config) (rewrites : ℕ) where
  -- the entries are all confirmed, or the first that isn't is wrong or has too many walks
  abbrev Swept : List Data → Type 0
  Swept entries =
      AllByRecursion (IsConfirmed config rewrites) entries
      ⊎ (((before : ℕ) × IsFirst config rewrites (IsWrong config rewrites) entries (suc before))
      ⊎ ((before : ℕ) × IsFirst config rewrites (PassesWalks config rewrites) entries (suc before)))

  at_first : (so : Data → Type 0) (entry : Data) (entries : List Data) → so entry → IsFirst config rewrites so (entry ∷ entries) 1
  at_first so entry entries is = record { before = []; entry = entry; after = entries; splits = refl; confirmed = tt; is_so = is; counted = refl }

  behind : (so : Data → Type 0) (entry : Data) (entries : List Data) (count : ℕ) → IsConfirmed config rewrites entry → IsFirst config rewrites so entries count
      → IsFirst config rewrites so (entry ∷ entries) (suc count)
  behind so entry entries count is first =
      record {
        before = entry ∷ first.before;
        entry = first.entry;
        after = first.after;
        splits = ap (λ (l : List Data). entry ∷ l) first.splits;
        confirmed = (is, first.confirmed);
        is_so = first.is_so;
        counted = omega (arith, first.counted);
      }

  swept : (entries : List Data) → Swept entries
  swept [] = inl tt
  swept (entry ∷ entries) = by (passes_walks config rewrites entry) (right_decided config rewrites entry) (swept entries) where
    by : Decided (PassesWalks config rewrites entry) → Decided (IsRight config rewrites entry) → Swept entries → Swept (entry ∷ entries)
    by (inl passes) right rest = inr (inr (0, at_first (PassesWalks config rewrites) entry entries passes))
    by (inr few) (inr wrong) rest = inr (inl (0, at_first (IsWrong config rewrites) entry entries (wrong, few)))
    by (inr few) (inl right) (inl all) = inl ((right, few), all)
    by (inr few) (inl right) (inr (inl (before, first))) = inr (inl (suc before, behind (IsWrong config rewrites) entry entries (suc before) (right, few) first))
    by (inr few) (inl right) (inr (inr (before, first))) = inr (inr (suc before, behind (PassesWalks config rewrites) entry entries (suc before) (right, few) first))

  -- whether learning passes its limit is decided
  rounds_pass : (begin : List Labels) → Decided (RoundsPass config rewrites begin)
  rounds_pass begin =
      elim (first_in_rounds config rewrites most_walks_followed begin (length config.servers) (omega arith)) [
        | inl first ↦ inl first
        | inr none ↦ inr (λ (name, first). none_is_first config rewrites most_walks_followed begin (length config.servers) name first first.is_round none)
      ]

  learning_passes : Decided (LearningPasses config rewrites)
  learning_passes = either (rounds_pass []) (rounds_pass (server_names config))

-- there is an answer to the octets of a report
answer_exists : (config : Config) (octets : List ℕ) → (answer : Result Checked CheckFault) × (IsChecked config octets answer × (answer ≢ Err check_faults.NoMemory))
answer_exists config octets = by (report_in octets) refl where
  by : (found : Option StatedReport) → report_in octets ≡ found → (answer : Result Checked CheckFault) × (IsChecked config octets answer × (answer ≢ Err check_faults.NoMemory))
  by None is = (Err check_faults.NotReport, (is, λ e. cc))
  by (Some report) is =
      elim (learning_passes config report.rewrites) [
        | inl passes ↦ (Err (check_faults.Walks 0), ((report, is, passes), λ e. cc))
        | inr few ↦ elim (swept config report.rewrites report.entries) [
          | inl all ↦ (Ok (checks.Right (length report.entries)), ((report, is, (few, (all, refl))), λ e. cc))
          | inr first ↦ elim first [
            | inl (before, wrong) ↦ (Ok (checks.Wrong (suc before)), ((report, is, (few, wrong)), λ e. cc))
            | inr (before, passes) ↦ (Err (check_faults.Walks (suc before)), ((report, is, (few, passes)), λ e. cc))
          ]
        ]
      ]

-- what `recheck` gives of a configuration and a report's octets there is
pub recheck_ends : (file : List ℕ) (config : Config) (octets : List ℕ) → (ending : Ending) × IsRechecked file config octets ending
recheck_ends file config octets =
    let (answer, (is, told)) = answer_exists config octets in
    (answered_to file answer, record { answer = answer; is_checked = is; is_answered = told; as_line = refl })
