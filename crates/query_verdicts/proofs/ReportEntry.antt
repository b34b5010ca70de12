-- The entry of a fault with the walks of a class that shows it: the first ones of their graph, or the only one.
use Rattle.std.proofs.Common.{◌≡◌, ◌≤◌, List, [], ◌∷◌, Some, refl, ap, ◌∙◌, subst}
use Rattle.std.specs.Prelude.{slice_get, Bool}
use Rattle.dns_data.specs.Name.{Labels}
use Rattle.dns_data.specs.RrType.{number_of}
use Rattle.dns_data.specs.declared.rr_type.RrType.{RrType}
use Rattle.graph_form.specs.Report.{Subject, repeats}
use Rattle.graph_form.specs.Trails.{AreFirst, GraphShows}
use Rattle.net_model.specs.declared.class.Class.{Class}
use Rattle.net_model.specs.declared.walk.Walk.{Walk}
use Rattle.net_model.specs.Class.{IsRepresentative}
use Rattle.net_model.specs.Learnt.{IsInForce}
use Rattle.net_model.specs.Shown.{Shows, ShowsIn, with_sets}
use Rattle.net_model.specs.Step.{Setting, following}
use Rattle.net_model.proofs.TrialOrder.{one_representative}
use Rattle.query_verdicts.specs.Entries.{IsEntryOf, IsRightFound, IsWalked}
use Rattle.query_verdicts.specs.OnlyWalk.{IsOnlyOfLeast}
use Rattle.query_verdicts.specs.declared.first_classes.ClassFault.{ClassFault}
use Rattle.query_verdicts.specs.declared.report.Walked.{Walked}
use Rattle.query_verdicts.proofs.FirstWalksShow.{AreFirstWalks, shows_with, graph_shows, first_walks}
use Rattle.query_verdicts.proofs.OnlyWalks.{only_first}

module _ (subject : Subject) (found : ClassFault) (right : IsRightFound subject found) (query : Labels) (represents : IsRepresentative subject.ground found.class query)
    (followed : List Labels) (in_force : IsInForce subject.config subject.rewrites followed) where
  abbrev setting : Setting
  setting = following subject.config subject.rewrites followed

  -- the class has one representative
  query_is : right.query ≡ query
  query_is = one_representative subject.ground found.class right.query query right.shows.represents represents

  -- it shows the fault
  query_shows : ShowsIn subject.config subject.rewrites query found.seen.rtype found.seen.fault
  query_shows = subst (λ (n : Labels). ShowsIn subject.config subject.rewrites n found.seen.rtype found.seen.fault) query_is right.shows.shows

  shows : Shows (with_sets setting) query found.seen.rtype found.seen.fault
  shows = shows_with subject.config subject.rewrites followed in_force query found.seen.rtype found.seen.fault query_shows

  -- the fault with the first walks that show it is the report's entry
  entry_by : (repeated : Bool) (walks : List Walk) → AreFirstWalks setting query found.seen.rtype found.seen.fault walks
      → ((first : Walk) → slice_get walks 0 ≡ Some first → repeated ≡ repeats first.states)
      → IsEntryOf subject found (record { seen = found.seen; query = query; repeats = repeated; walks = walks })
  entry_by repeated walks first told =
      record {
        seen_is = refl;
        is_entry = λ first_class. record {
          class = found.class;
          followed = followed;
          paths = first.paths;
          in_force = in_force;
          shown = record { is_class = right.shows.is_class; represents = represents; shows = query_shows };
          first_class = first_class;
          first_type = subst (λ (n : Labels). (rtype : RrType) → ShowsIn subject.config subject.rewrites n rtype found.seen.fault → number_of found.seen.rtype ≤ number_of rtype) query_is right.first_type;
          walks_show = first.show;
          first_walks = first.first;
          repeated = told;
        };
      }

-- the fault with the only walk that the class's representative has with the type is the report's entry
pub only_entry : (subject : Subject) (found : ClassFault) (right : IsRightFound subject found) (query : Labels) → IsRepresentative subject.ground found.class query
    → (walk : Walk) → IsOnlyOfLeast subject.config subject.rewrites query found.seen.rtype walk → (repeated : Bool) → repeated ≡ repeats walk.states
    → IsEntryOf subject found (record { seen = found.seen; query = query; repeats = repeated; walks = walk ∷ [] })
only_entry subject found right query represents walk is repeated told =
    entry_by subject found right query represents is.followed is.in_force repeated (walk ∷ [])
    (only_first (following subject.config subject.rewrites is.followed) query found.seen.rtype walk is.is_only found.seen.fault
    (shows subject found right query represents is.followed is.in_force))
    by
  where
    by : (first : Walk) → slice_get (walk ∷ []) 0 ≡ Some first → repeated ≡ repeats first.states
    by first at = let same : walk ≡ first = cc in told ∙ ap (λ (w : Walk). repeats w.states) same

module _ (subject : Subject) (found : ClassFault) (right : IsRightFound subject found)
    (walked : Walked) (is : IsWalked subject walked) (same : walked.class ≡ found.class) where
  represents_found : IsRepresentative subject.ground found.class walked.query
  represents_found = subst (λ (class : Class). IsRepresentative subject.ground class walked.query) same is.represents

  walked_shows : Shows (with_sets (following subject.config subject.rewrites is.of_query.followed)) walked.query found.seen.rtype found.seen.fault
  walked_shows = shows subject found right walked.query represents_found is.of_query.followed is.of_query.in_force

  -- a fault that is found for a class is shown by the graph of the class's representative
  pub fault_shown : GraphShows walked.graph found.seen.rtype found.seen.fault
  fault_shown =
      graph_shows (following subject.config subject.rewrites is.of_query.followed) walked.query found.seen.rtype walked.graph is.of_query.is_graph found.seen.fault walked_shows

  -- the fault with the first walks of the graph that show it is the report's entry
  pub is_entry : (repeated : Bool) (walks : List Walk) → AreFirst walked.graph found.seen.rtype found.seen.fault walks
      → ((first : Walk) → slice_get walks 0 ≡ Some first → repeated ≡ repeats first.states)
      → IsEntryOf subject found (record { seen = found.seen; query = walked.query; repeats = repeated; walks = walks })
  is_entry repeated walks are told =
      entry_by subject found right walked.query represents_found is.of_query.followed is.of_query.in_force repeated walks
      (first_walks (following subject.config subject.rewrites is.of_query.followed) walked.query found.seen.rtype walked.graph is.of_query.is_graph found.seen.fault walks
      walked_shows are)
      told
