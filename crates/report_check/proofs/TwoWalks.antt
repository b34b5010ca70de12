-- Two walks show that answers differ, and nothing else.
use Rattle.std.proofs.Common.{◌≡◌, [], ◌∷◌, ap, ◌∙◌}
use Rattle.dns_data.specs.Name.{Labels}
use Rattle.dns_data.specs.declared.rr_type.RrType.{RrType}
use Rattle.net_model.specs.Class.{IsClassOf}
use Rattle.net_model.specs.Reading.{ground_of}
use Rattle.net_model.specs.Shown.{MayShow, ShowsAnswers, WalksShow, with_sets}
use Rattle.net_model.specs.Step.{Setting}
use Rattle.net_model.specs.declared.class.Class.{Class}
use Rattle.net_model.specs.declared.fault.Fault.{Fault}
use Rattle.net_model.specs.declared.fault.Fault.TheVariants as faults
use Rattle.net_model.specs.declared.walk.Walk.{Walk}
use Rattle.report_json.specs.Report.{entry_value}
use Rattle.serde_json.specs.Data.{Data}
use Rattle.report_check.specs.Entries.{IsShownBy, entry_with, first_repeats}

-- the entry that two walks show is that of differing answers of the query's class and type
pub answers_shown : (setting : Setting) (query : Labels) (rtype : RrType) (class : Class)
    → ((other : Class) → IsClassOf (ground_of setting.config) query other → other ≡ class) → (one other : Walk) (value : Data)
    → IsShownBy setting query rtype (one ∷ other ∷ []) value
    → value ≡ entry_value (entry_with query rtype (first_repeats (one ∷ other ∷ [])) (one ∷ other ∷ []) (faults.Answers class rtype))
answers_shown setting query rtype class single one other value shown = by shown.fault shown.may shown.show shown.is where
  by : (fault : Fault) → MayShow setting.config query rtype fault → WalksShow (with_sets setting) (one ∷ other ∷ []) fault
      → value ≡ entry_value (entry_with query rtype (first_repeats (one ∷ other ∷ [])) (one ∷ other ∷ []) fault)
      → value ≡ entry_value (entry_with query rtype (first_repeats (one ∷ other ∷ [])) (one ∷ other ∷ []) (faults.Answers class rtype))
  by (faults.Answers own with_type) may show is =
      is
      ∙ ap (λ (c : Class). entry_value (entry_with query rtype (first_repeats (one ∷ other ∷ [])) (one ∷ other ∷ []) (faults.Answers c with_type))) (single own may.1)
      ∙ ap (λ (t : RrType). entry_value (entry_with query rtype (first_repeats (one ∷ other ∷ [])) (one ∷ other ∷ []) (faults.Answers class t))) may.0
  by fault may show is = absurd show

-- two walks that show an entry have other answers
pub two_differ : (setting : Setting) (query : Labels) (rtype : RrType) (one other : Walk) (value : Data) → IsShownBy setting query rtype (one ∷ other ∷ []) value
    → ShowsAnswers one other
two_differ setting query rtype one other value shown = by shown.fault shown.show where
  by : (fault : Fault) → WalksShow (with_sets setting) (one ∷ other ∷ []) fault → ShowsAnswers one other
  by (faults.Answers own with_type) show = show
  by fault show = absurd show
