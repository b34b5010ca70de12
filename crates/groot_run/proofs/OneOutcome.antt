-- A job has at most one outcome: what the files give is one, a configuration has one class tree and one report.
use Rattle.zone_maker.specs.Source.{drill_told}
use Rattle.std.proofs.Common.{◌≡◌, ℕ, List, Result, Ok, Err, [], ◌∷◌, length, subst, sym, ap, ◌∙◌, inl, inr, true≢false}
use Rattle.std.specs.Prelude.{codes}
use Rattle.io_edges.specs.Files.{FilesTold}
use Rattle.dns_data.specs.Name.{Labels}
use Rattle.dns_data.specs.declared.rr_type.RrType.{RrType}
use Rattle.net_model.specs.declared.config.Config.{Config}
use Rattle.site_checks.specs.Views.{Site}
use Rattle.site_checks.proofs.OneViews.{one_list_of_views}
use Rattle.net_model.specs.Reading.{ground_of}
use Rattle.net_model.specs.Step.{following}
use Rattle.query_verdicts.specs.Carried.{whole_config}
use Rattle.config_load.specs.Reading.{file_octets}
use Rattle.groot_line.specs.declared.fault.LineFault.{LineFault}
use Rattle.groot_line.specs.declared.job.Job.{Job}
use Rattle.groot_line.specs.declared.job.Job.TheVariants as jobs
use Rattle.groot_line.specs.declared.job.Task.{Task}
use Rattle.groot_line.specs.declared.job.Task.TheVariants as tasks
use Rattle.groot_line.specs.declared.program.Program.{Program}
use Rattle.groot_line.specs.Program.{usual_names}
use Rattle.plain_resolver.specs.Passed.{most_walks_followed}
use Rattle.run_endings.proofs.OneReading.{one_by_reading}
use Rattle.run_endings.specs.declared.ending.Ending.{Ending}
use Rattle.run_endings.specs.Endings.{too_many_to_learn, with_output, writes_nothing}
use Rattle.run_endings.specs.declared.status.Status.TheVariants.{Clean}
use Rattle.report_run.specs.Budgets.{HasMoreNames, WithinNames, WithinStates, HasMoreNamesAt}
use Rattle.groot_run.specs.NameList.{names_of}
use Rattle.groot_run.specs.declared.name_list.ListFault.{ListFault}
use Rattle.groot_run.specs.declared.name_list.ListFault.TheVariants as list_faults
use Rattle.groot_run.specs.Outcome.{reported, listed, IsReported, Checks, IsClassList, ListsClasses, ask_rewrites, IsAnswerWith, Asks, walks_written, GivesOf, Outcome, Drills, IsDrilled, drilled, drill_rewrites, answered_to, IsRechecked, Rechecks, TellsFindings, ShowsClasses, findings_written, site_rewrites, Compares, ComparesWith, HasMoreNamesInBoth, IsCompared, compared_of, sameness_written, IsScoped, ScopesSubject, scope_of, scope_written, EndsBehind, Scopes, ScopesNames, ScopesOf, with_scope, own_sites}
use Rattle.groot_run.specs.Programs.{conf_of, limits_of}
use Rattle.report_check.proofs.OneAnswer.{only_answer}
use Rattle.same_answers.specs.Compared.{Compared}
use Rattle.same_answers.specs.Passed.{IsFirstPassedInOne, SomeClassPassesInOne}
use Rattle.same_answers.proofs.OneSameness.{one_sameness, one_passed as one_passed_in_one}
use Rattle.graph_form.specs.Report.{Subject}
use Rattle.graph_form.specs.declared.report.Report.{Report}
use Rattle.job_scope.proofs.OneRefusal.{one_refusal, none_refused}
use Rattle.report_run.proofs.Budgets.{one_within as one_within_budgets}
use Rattle.groot_run.proofs.OneReport.{one_report}
use Rattle.query_verdicts.specs.Passed.{IsFirstPassed, IsRefusedFor, NonePasses, SomeClassPasses}
use Rattle.query_verdicts.proofs.OnePassed.{one_passed}
use Rattle.query_verdicts.specs.Queries.{most_states}
use Rattle.groot_run.proofs.OneClassList.{one_class_list}
use Rattle.net_model.proofs.WalkLists.{one_walks}
use Rattle.plain_resolver.proofs.FirstPassed.{one_first, none_is_first}
use Rattle.net_model.proofs.InForce.{one_in_force}

-- a run gives one thing by whether the class tree has more names than the limit
one_within : (config : Config) (limit : ℕ) (P Q : Type 0) (a b : Ending) → (P → Q → a ≡ b)
    → WithinNames config limit P a → WithinNames config limit Q b → a ≡ b
one_within config limit P Q a b same (inl p) (inl q) = p.1 ∙ sym q.1
one_within config limit P Q a b same (inl p) (inr q) = absurd (q.0 p.0)
one_within config limit P Q a b same (inr p) (inl q) = absurd (p.0 q.0)
one_within config limit P Q a b same (inr p) (inr q) = same p.1 q.1

-- a command gives one thing that judges the classes of a configuration
one_within_states : (config : Config) (limit rewrites : ℕ) (P Q : Type 0) (a b : Ending) → (P → Q → a ≡ b)
    → WithinNames config limit (WithinStates config rewrites P a) a → WithinNames config limit (WithinStates config rewrites Q b) b → a ≡ b
one_within_states config limit rewrites =
    let subject = whole_config config rewrites in
    one_within_budgets limit (HasMoreNames config limit) (IsFirstPassed subject most_states) (SomeClassPasses subject most_states → ⊥)
    (one_passed subject most_states) (λ none query first. none (first.class, query, first.passes))

one_check : (limit rewrites : ℕ) (config : Config) (a b : Ending) → Checks limit rewrites config a → Checks limit rewrites config b → a ≡ b
one_check limit rewrites config a b =
    one_within_states config limit rewrites (IsReported config rewrites a) (IsReported config rewrites b) a b
    (λ p q. p.as_text ∙ ap reported (one_report (whole_config config rewrites) p.report q.report p.is_report q.is_report) ∙ sym q.as_text)

one_drill : (limit zones : ℕ) (config : Config) (a b : Ending) → Drills limit zones config a → Drills limit zones config b → a ≡ b
one_drill limit zones config a b =
    one_within_states config limit drill_rewrites (IsDrilled zones config a) (IsDrilled zones config b) a b
    (λ p q. p.as_line ∙ ap (drilled zones config) (one_report (whole_config config drill_rewrites) p.report q.report p.is_report q.is_report) ∙ sym q.as_line)

one_shown : (limit : ℕ) (sites : List Site) (config : Config) (a b : Ending) → ShowsClasses limit sites config a → ShowsClasses limit sites config b → a ≡ b
one_shown limit sites config a b =
    one_within_states config limit site_rewrites (TellsFindings config sites a) (TellsFindings config sites b) a b
    (λ p q. p.as_text ∙ ap (findings_written sites) (one_list_of_views (whole_config config site_rewrites) p.views q.views p.are_views q.are_views) ∙ sym q.as_text)

-- two configurations that are compared give one thing
one_comparison : (limit : ℕ) (two : Compared) (a b : Ending) → Compares limit two a → Compares limit two b → a ≡ b
one_comparison limit two a b =
    one_within_budgets limit (HasMoreNamesInBoth two limit) (IsFirstPassedInOne two) (SomeClassPassesInOne two → ⊥)
    (one_passed_in_one two) (λ none query first. none (first.class, query, first.passes)) (IsCompared two a) (IsCompared two b) a b
    (λ p q. p.as_line ∙ ap sameness_written (one_sameness two p.sameness q.sameness p.is_sameness q.is_sameness) ∙ sym q.as_line)

-- and so does a subject with its scope
one_scope : (limit : ℕ) (subject : Subject) (sites : List Site) (a b : Ending) → ScopesSubject limit subject sites a → ScopesSubject limit subject sites b → a ≡ b
one_scope limit subject sites a b =
    one_within_budgets limit (HasMoreNamesAt subject limit) (IsRefusedFor subject most_states) (NonePasses subject most_states)
    (one_refusal subject most_states) (λ none query refused. none_refused subject most_states query none refused) (IsScoped subject sites a) (IsScoped subject sites b) a b
    (λ p q.
    p.as_text
    ∙ ap (λ (report : Report). scope_written report subject.below sites p.views) (one_report subject p.report q.report p.is_report q.is_report)
    ∙ ap (scope_written q.report subject.below sites) (one_list_of_views subject p.views q.views p.are_views q.are_views)
    ∙ sym q.as_text)

-- names give one thing behind what is written of others, if each has one scope
one_behind : (IsScope : Labels → Ending → Type 0) → ((name : Labels) (a b : Ending) → IsScope name a → IsScope name b → a ≡ b)
    → (so_far : Ending) (names : List Labels) (a b : Ending) → EndsBehind IsScope so_far names a → EndsBehind IsScope so_far names b → a ≡ b
one_behind IsScope one so_far [] a b p q = p ∙ sym q
one_behind IsScope one so_far (name ∷ names) a b (scope, is, inl p) (other, was, inl q) = p.1 ∙ one name scope other is was ∙ sym q.1
one_behind IsScope one so_far (name ∷ names) a b (scope, is, inl p) (other, was, inr q) =
    absurd (true≢false (sym p.0 ∙ ap (λ (e : Ending). writes_nothing e.status) (one name scope other is was) ∙ q.0))
one_behind IsScope one so_far (name ∷ names) a b (scope, is, inr p) (other, was, inl q) =
    absurd (true≢false (sym q.0 ∙ ap (λ (e : Ending). writes_nothing e.status) (one name other scope was is) ∙ p.0))
one_behind IsScope one so_far (name ∷ names) a b (scope, is, inr p) (other, was, inr q) =
    one_behind IsScope one (with_scope so_far scope) names a b p.1
    (subst (λ (e : Ending). EndsBehind IsScope (with_scope so_far e) names b) (one name other scope was is) q.1)

-- and so do the names that a file may have
one_listed : (limit : ℕ) (file : List ℕ) (config : Config) (names : Result (List Labels) ListFault) (a b : Ending)
    → ScopesNames limit file config names a → ScopesNames limit file config names b → a ≡ b
one_listed limit file config (Ok names) a b =
    one_behind (λ name. Scopes limit name own_sites config) (λ name. one_scope limit (scope_of config name) own_sites) (with_output Clean []) names a b
one_listed limit file config (Err (list_faults.NotName line)) a b = λ p q. p ∙ sym q
one_listed limit file config (Err list_faults.NoMemory) a b = λ p q. p ∙ sym q

one_list : (limit : ℕ) (config : Config) (a b : Ending) → ListsClasses limit config a → ListsClasses limit config b → a ≡ b
one_list limit config a b =
    one_within config limit (IsClassList config a) (IsClassList config b) a b
    (λ p q. p.as_text ∙ ap listed (one_class_list (ground_of config) [] p.classes q.classes p.are_listed q.are_listed) ∙ sym q.as_text)

one_answer : (config : Config) (followed : List Labels) (name : Labels) (rtype : RrType) (a b : Ending)
    → IsAnswerWith config followed name rtype a → IsAnswerWith config followed name rtype b → a ≡ b
one_answer config followed name rtype a b (inl p) (inl q) = p.1 ∙ sym q.1
one_answer config followed name rtype a b (inl p) (inr q) = absurd (q.0 p.0)
one_answer config followed name rtype a b (inr p) (inl q) = absurd (p.0 q.0)
one_answer config followed name rtype a b (inr p) (inr q) =
    p.1.as_text
    ∙ ap (walks_written name rtype)
    (one_walks (following config ask_rewrites followed) name rtype p.1.walks q.1.walks p.1.are_walks q.1.are_walks)
    ∙ sym q.1.as_text

one_asked : (name : Labels) (rtype : RrType) (config : Config) (a b : Ending) → Asks name rtype config a → Asks name rtype config b → a ≡ b
one_asked name rtype config a b (inl (server, first, is)) (inl (other, also, was)) =
    is ∙ ap (too_many_to_learn most_walks_followed) (one_first config ask_rewrites most_walks_followed [] server other first also) ∙ sym was
one_asked name rtype config a b (inl (server, first, is)) (inr q) =
    absurd (none_is_first config ask_rewrites most_walks_followed [] (length config.servers) server first first.is_round q.few)
one_asked name rtype config a b (inr p) (inl (server, first, is)) =
    absurd (none_is_first config ask_rewrites most_walks_followed [] (length config.servers) server first first.is_round p.few)
one_asked name rtype config a b (inr p) (inr q) =
    one_answer config q.followed name rtype a b
    (subst (λ (followed : List Labels). IsAnswerWith config followed name rtype a)
    (one_in_force config ask_rewrites p.followed q.followed p.in_force q.in_force) p.answer)
    q.answer

one_recheck : (program : Program) (told : FilesTold) (file : List ℕ) (config : Config) (a b : Ending) → Rechecks program told file config a → Rechecks program told file config b → a ≡ b
one_recheck program told file config a b =
    one_by_reading file (IsRechecked file config)
    (λ octets one other p q. p.as_line ∙ ap (answered_to file) (only_answer config octets p.answer q.answer p.is_checked q.is_checked p.is_answered q.is_answered) ∙ sym q.as_line)
    (file_octets (limits_of program) file told) a b

one_same : (program : Program) (told : FilesTold) (second : List ℕ) (config : Config) (a b : Ending) → ComparesWith program told second config a → ComparesWith program told second config b → a ≡ b
one_same program told second config a b =
    one_by_reading second (λ other. Compares (usual_names program) (compared_of config other)) (λ other. one_comparison (usual_names program) (compared_of config other))
    (conf_of program second told) a b

one_of_scopes : (program : Program) (told : FilesTold) (file : List ℕ) (config : Config) (a b : Ending) → ScopesOf program told file config a → ScopesOf program told file config b → a ≡ b
one_of_scopes program told file config a b =
    one_by_reading file (λ octets. ScopesNames (usual_names program) file config (names_of octets)) (λ octets. one_listed (usual_names program) file config (names_of octets))
    (file_octets (limits_of program) file told) a b

-- two outcomes of a task over the same configuration are equal
one_of_task : (program : Program) (task : Task) (sites : List Site) (config : Config) (a b : Ending) → GivesOf program task sites config a → GivesOf program task sites config b → a ≡ b
one_of_task program (tasks.Check workers classes rewrites) sites = one_check classes rewrites
one_of_task program (tasks.Ask name rtype) sites = one_asked name rtype
one_of_task program (tasks.Classes classes) sites = one_list classes
one_of_task program tasks.Site sites = one_shown (usual_names program) sites
one_of_task program (tasks.Scope name) sites = λ config. one_scope (usual_names program) (scope_of config name) sites

-- two outcomes of a job, by the same that is told of the files, are equal
pub one_outcome : (program : Program) (told : FilesTold) (job : Result Job LineFault) (sites : List Site) (a b : Ending) → Outcome program told job sites a → Outcome program told job sites b → a ≡ b
one_outcome program told (Ok (jobs.OfConfig meta task)) sites a b =
    one_by_reading meta (GivesOf program task sites) (one_of_task program task sites) (conf_of program meta told) a b
one_outcome program told (Ok (jobs.Drill zones workers)) sites a b =
    one_by_reading (codes "meta.json") (Drills (usual_names program) zones) (one_drill (usual_names program) zones) (conf_of program (codes "meta.json") (drill_told zones)) a b
one_outcome program told (Ok (jobs.Recheck meta report)) sites a b =
    one_by_reading meta (Rechecks program told report) (one_recheck program told report) (conf_of program meta told) a b
one_outcome program told (Ok (jobs.Same first second)) sites a b =
    one_by_reading first (ComparesWith program told second) (one_same program told second) (conf_of program first told) a b
one_outcome program told (Ok (jobs.Scopes meta names)) sites a b =
    one_by_reading meta (ScopesOf program told names) (one_of_scopes program told names) (conf_of program meta told) a b
one_outcome program told (Err fault) sites a b = λ p q. p ∙ sym q
