-- Whole configurations as subjects of a judge: each is covered by its own ground, and a refusal of its report names a
-- representative.
use Rattle.std.proofs.Common.{◌≡◌, ℕ, inl, inr, subst}
use Rattle.dns_data.specs.Name.{Labels}
use Rattle.graph_form.specs.Report.{Subject}
use Rattle.net_model.specs.declared.config.Config.{Config}
use Rattle.net_model.specs.Reading.{ground_of}
use Rattle.walk_laws.proofs.JoinedGround.{own_covers}
use Rattle.query_verdicts.specs.Carried.{whole_config}
use Rattle.query_verdicts.specs.Passed.{IsFirstPassed, IsRefusedFor, IsReportFault}
use Rattle.query_verdicts.specs.Subjects.{IsCovering}
use Rattle.query_verdicts.specs.declared.report.JudgeFault.{JudgeFault}
use Rattle.query_verdicts.specs.declared.report.JudgeFault.TheVariants.{StatesPassed, NoMemory}
use Rattle.query_verdicts.proofs.ClassesJudged.{some_name}
use Rattle.query_verdicts.proofs.CoveringGrounds.{root_in_tree}
use Rattle.query_verdicts.proofs.PassingNames.{class_passes}
use Rattle.class_judge.specs.Judge.{IsWholeRefusal}

-- a whole configuration is covered by its own ground, whose tree has the root
pub is_covered : (config : Config) (rewrites : ℕ) → IsCovering (whole_config config rewrites)
is_covered config rewrites = record { covers = own_covers config; in_tree = root_in_tree config (ground_of config) (own_covers config) }

-- the name for which a whole configuration's report is refused is its first representative that reaches too many pairs of
-- state and type: if the name of a server does, so does the representative of its class
pub first_passed : (config : Config) (rewrites states : ℕ) (query : Labels) → IsRefusedFor (whole_config config rewrites) states query
    → IsFirstPassed (whole_config config rewrites) states query
first_passed config rewrites states query (inl first) = first
first_passed config rewrites states server (inr (none, is)) =
    absurd (none (class_passes config rewrites states (ground_of config) (own_covers config) (some_name config rewrites states server is)))

of_whole : (config : Config) (rewrites states : ℕ) (fault : JudgeFault) → IsReportFault (whole_config config rewrites) states fault
    → IsWholeRefusal (whole_config config rewrites) states fault
of_whole config rewrites states (StatesPassed query) is = first_passed config rewrites states query is
of_whole config rewrites states NoMemory is = tt

-- a refusal of a whole configuration's report names its first representative that passes, or says that memory ran out
pub refused : (subject : Subject) (states : ℕ) → whole_config subject.config subject.rewrites ≡ subject → (fault : JudgeFault)
    → IsReportFault subject states fault → IsWholeRefusal subject states fault
refused subject states whole fault is =
    subst (λ (one : Subject). IsReportFault one states fault → IsWholeRefusal one states fault) whole
    (of_whole subject.config subject.rewrites states fault) is
