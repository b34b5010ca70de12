-- An entry is right exactly where walks of its query show its fault.
use Rattle.std.proofs.Common.{◌≡◌, ◌↔◌, Bool, List, [], ◌∷◌, slice_get, Some, refl, sym, ap, ◌∙◌, subst}
use Rattle.dns_data.specs.Name.{Labels}
use Rattle.dns_data.specs.declared.rr_type.RrType.{RrType}
use Rattle.graph_form.specs.Report.{repeats}
use Rattle.net_model.specs.Learnt.{IsInForce}
use Rattle.net_model.specs.Shown.{ShowsBy, with_sets}
use Rattle.net_model.specs.Step.{Setting, following}
use Rattle.net_model.specs.declared.fault.Fault.{Fault}
use Rattle.net_model.specs.declared.walk.Walk.{Walk}
use Rattle.net_model.proofs.InForce.{one_in_force}
use Rattle.report_json.specs.Report.{entry_value}
use Rattle.serde_json.specs.Data.{Data}
use Rattle.plain_resolver.specs.Passed.{HasMoreWalks, most_walks_followed}
use Rattle.report_check.specs.Checked.{PassesWalks}
use Rattle.report_check.specs.Entries.{ByWalks, entry_with, first_repeats}
use Rattle.report_check.specs.RightEntries.{IsRight, NamesQuery}
use Rattle.report_check.proofs.NamedQueries.{entry_names, one_query}

-- the first of the walks
first_is : (walks : List Walk) (first : Walk) → slice_get walks 0 ≡ Some first → first_repeats walks ≡ repeats first.states
first_is [] first e = absurd cc
first_is (walk ∷ walks) first e =
    let same : walk ≡ first = cc in
    ap (λ (w : Walk). repeats w.states) same

module _ (setting : Setting) (in_force : IsInForce setting.config setting.rewrites setting.followed) (value : Data) (query : Labels) (rtype : RrType)
    (names : NamesQuery value query rtype) where
  by_right : ByWalks setting query rtype value → IsRight setting.config setting.rewrites value
  by_right by =
      record {
        entry = entry_with query rtype (first_repeats by.walks) by.walks by.shown.fault;
        is = by.shown.is;
        is_name = names.is_name;
        followed = setting.followed;
        in_force = in_force;
        shows = record { may = by.shown.may; are_walks = by.are_walks; show = by.shown.show };
        repeated = λ first e. first_is by.walks first e;
      }

  -- of an entry with this query and type, read with the set in force
  of_entry : (walks : List Walk) (fault : Fault) (repeated : Bool) → value ≡ entry_value (entry_with query rtype repeated walks fault)
      → ShowsBy (with_sets setting) query rtype fault walks → ((first : Walk) → slice_get walks 0 ≡ Some first → repeated ≡ repeats first.states)
      → ByWalks setting query rtype value
  of_entry [] fault repeated is shows first = absurd shows.show
  of_entry (walk ∷ walks) fault repeated is shows first =
      record {
        walks = walk ∷ walks;
        are_walks = shows.are_walks;
        shown = record {
          fault = fault;
          may = shows.may;
          show = shows.show;
          is = is ∙ ap (λ (b : Bool). entry_value (entry_with query rtype b (walk ∷ walks) fault)) (first walk refl);
        };
      }

  right_by : IsRight setting.config setting.rewrites value → ByWalks setting query rtype value
  right_by right =
      let entry = right.entry in
      let same = one_query value entry.query query entry.seen.rtype rtype
      (subst (λ (v : Data). NamesQuery v entry.query entry.seen.rtype) (sym right.is) (entry_names entry right.is_name)) names in
      let set = one_in_force setting.config setting.rewrites right.followed setting.followed right.in_force in_force in
      of_entry entry.walks entry.seen.fault entry.repeats
      (right.is ∙ ap (λ (q : Labels). entry_value (entry_with q entry.seen.rtype entry.repeats entry.walks entry.seen.fault)) same.0
      ∙ ap (λ (t : RrType). entry_value (entry_with query t entry.repeats entry.walks entry.seen.fault)) same.1)
      (subst (λ (names : List Labels). ShowsBy (with_sets (following setting.config setting.rewrites names)) query rtype entry.seen.fault entry.walks) set
      (subst (λ (t : RrType). ShowsBy (with_sets (following setting.config setting.rewrites right.followed)) query t entry.seen.fault entry.walks) same.1
      (subst (λ (q : Labels). ShowsBy (with_sets (following setting.config setting.rewrites right.followed)) q entry.seen.rtype entry.seen.fault entry.walks) same.0 right.shows)))
      right.repeated

  -- an entry is right exactly where walks of its query show its fault
  pub right_told : ByWalks setting query rtype value ↔ IsRight setting.config setting.rewrites value
  right_told = (by_right, right_by)

  -- ---- how many walks there are

  -- where the query that an entry names hasn't too many walks, the entry doesn't pass the limit of walks
  pub walks_few : (HasMoreWalks setting query rtype most_walks_followed → ⊥) → PassesWalks setting.config setting.rewrites value → ⊥
  walks_few few passes =
      let same = one_query value passes.query query passes.rtype rtype passes.names names in
      let set = one_in_force setting.config setting.rewrites passes.followed setting.followed passes.in_force in_force in
      few
      (subst (λ (names : List Labels). HasMoreWalks (following setting.config setting.rewrites names) query rtype most_walks_followed) set
      (subst (λ (t : RrType). HasMoreWalks (following setting.config setting.rewrites passes.followed) query t most_walks_followed) same.1
      (subst (λ (q : Labels). HasMoreWalks (following setting.config setting.rewrites passes.followed) q passes.rtype most_walks_followed) same.0 passes.more)))
