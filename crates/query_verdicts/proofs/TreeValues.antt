-- The children and the verdicts of all names of a subject, as values: for whoever picks the name of a judge.
use Rattle.std.proofs.Common.{ℕ, List, []}
use Rattle.dns_data.specs.Name.{Labels, IsName}
use Rattle.graph_form.specs.Report.{Subject}
use Rattle.net_model.specs.declared.class.Class.TheVariants.{Below}
use Rattle.net_model.specs.Class.{IsRepresentative}
use Rattle.net_model.specs.Reading.{Covers}
use Rattle.query_classes.proofs.Decided.{Decided}
use Rattle.query_classes.proofs.LiveSetsExist.{live_set_of}
use Rattle.query_classes.proofs.TreeItems.{children_of, children_are, parents_apart}
use Rattle.verdict_book.specs.Items.{ParentsApart}
use Rattle.query_verdicts.specs.Values.{AreValues}
use Rattle.query_verdicts.specs.Verdict.{IsClassVerdict, IsNameVerdict}
use Rattle.query_verdicts.specs.declared.verdict.ClassVerdict.{ClassVerdict}
use Rattle.query_verdicts.specs.declared.verdict.ClassVerdict.TheVariants.{Faults}
use Rattle.query_verdicts.specs.declared.verdict.NameVerdict.{NameVerdict}
use Rattle.query_verdicts.proofs.BelowDecided.{below_decided}
use Rattle.query_verdicts.proofs.CoveringGrounds.{in_own_class, is_closed}
use Rattle.query_verdicts.proofs.NameVerdicts as verdicts
use Rattle.query_verdicts.proofs.VerdictsExist.{class_verdict_exists}

module _ (subject : Subject) (covers : Covers subject.ground subject.config) where
  decided : (above : Labels) → IsName above → Decided ((query : Labels) × IsRepresentative subject.ground (Below above) query)
  decided =
      let closed = is_closed subject.config subject.ground covers in below_decided subject.ground closed (live_set_of subject.ground closed)

  verdict_exists : (states : ℕ) (query : Labels) → IsName query → (verdict : ClassVerdict) × IsClassVerdict subject.config subject.rewrites states query verdict
  verdict_exists states query is = class_verdict_exists subject.config subject.rewrites states query (in_own_class subject.config query is)

  -- the verdict of a name; what isn't a name shows nothing
  pub verdict_of : ℕ → Labels → NameVerdict ClassVerdict
  verdict_of states =
      verdicts.verdict_of subject.ground (IsClassVerdict subject.config subject.rewrites states) (Faults []) (verdict_exists states) decided

  verdict_is : (states : ℕ) (name : Labels) → IsName name → IsNameVerdict subject states name (verdict_of states name)
  unfolding verdict_of
  verdict_is states =
      verdicts.verdict_is subject.ground (IsClassVerdict subject.config subject.rewrites states) (Faults []) (verdict_exists states) decided

  -- the names of the class tree one label below a name
  abbrev pub names_below : Labels → List Labels
  names_below = children_of subject.ground (is_closed subject.config subject.ground covers)

  -- the names below each name of the class tree, with the verdicts, are the subject's values
  pub values : (states : ℕ) → AreValues subject states names_below (verdict_of states)
  values states =
      record { children = children_are subject.ground (is_closed subject.config subject.ground covers); verdicts = verdict_is states }

  -- no name is one label below two names of the tree
  pub apart : ParentsApart subject.below names_below
  apart =
      let closed = is_closed subject.config subject.ground covers in
      parents_apart subject.ground subject.below (children_of subject.ground closed) (children_are subject.ground closed)
