use Rattle.std.proofs.Common.{◌≡◌, List, All, map, Contains, IsSorted, ◌↔◌, is_lt, ap, ◌∙◌, subst, rules}
use Rattle.std.specs.Cmp.{IsStrictWeakOrder}
use Rattle.std.specs.List.Sorted.{IsStableBy}
use Rattle.std.proofs.lemmas.List.Elements.{All-contains}
use Rattle.std.proofs.lemmas.List.Sorted.{All-permutation, answers_always, ranks_by}
use Rattle.dns_data.specs.declared.rdata.Rr.{Rr}
use Rattle.zone_tree.specs.Owners.{AreByOwner}
use Rattle.zone_tree.specs.Records.{data_of}
use Rattle.zone_tree.specs.Runs.{IsKeyedRun, keyed_cmp, owner_of}
use Rattle.zone_tree.specs.declared.runs.KeyedRun.{KeyedRun}
use Rattle.zone_tree.proofs.KeyedRuns.{keyed_total, stands_before, sorted_by_owner, data_stay, data_through, owners_kept, owners_through}
use Rattle.zone_tree.proofs.Owned.{data_within}
use Rattle.zone_tree.proofs.SortedTree.{sorted_names}
use Rattle.zone_tree.proofs.runs.runs_in_order.Goals as goal

pub returns : goal.returns
returns c =
    let zone = c.args.zone.now in
    let old : List KeyedRun = c.in_ok-runs.runs.items in
    let new : List KeyedRun = c.sort_by.new.self.items in
    let weak : IsStrictWeakOrder stands_before = ranks_by keyed_total (λ (run : KeyedRun). run) in
    let stable : IsStableBy stands_before old new =
    c.sort_by.ensures.stable stands_before weak
    (answers_always _ (λ a r. is_lt r ≡ is_lt (keyed_cmp a.0.now a.1.0.now)) _ (λ f a r g called. search rules)) in
    let sorted : IsSorted keyed_cmp new =
    c.in_ok-sort_by.ensures.sorted stands_before weak
    (answers_always _ (λ a r. is_lt r ≡ is_lt (keyed_cmp a.0.now a.1.0.now)) _ (λ f a r g called. search rules)) in
    let keyed : All (IsKeyedRun zone.origin) old = c.in_ok-runs.ensures.each in
    let each : (run : KeyedRun) → Contains old run → IsKeyedRun zone.origin run = (λ run has. All-contains (IsKeyedRun zone.origin) old run keyed has) in
    let by_owner : AreByOwner zone new = record {
      owners = λ name.
          owners_kept zone old new c.sort_by.ensures.permutation name
          (subst (λ (rrs : List Rr). Contains (map owner_of old) name ↔ Contains (map (λ (rr : Rr). rr.owner) rrs) name) c.in_ok-runs.ensures.rrs
          (owners_through zone.origin old each name));
      sorted =
          sorted_names owner_of new
          (sorted_by_owner zone.origin new (All-permutation (IsKeyedRun zone.origin) old new c.sort_by.ensures.permutation keyed) sorted);
      in_file_order = λ name inside.
          data_stay zone.origin old new keyed c.sort_by.ensures.permutation stable name
          ∙ data_through zone.origin old each name
          ∙ ap (λ (xs : List Rr). data_of xs name) c.in_ok-runs.ensures.rrs
          ∙ data_within zone.origin name inside zone.rrs;
    } in
    by_owner
