use Rattle.std.proofs.Common.{◌≡◌, ℕ, ◌<◌, List, [], length, get_or, Contains, sym, ap, ◌∙◌, subst, arith}
use Rattle.std.proofs.lemmas.List.Elements.{Contains-get_or}
use Rattle.dns_data.specs.Name.{Labels}
use Rattle.dns_data.specs.declared.rdata.Rdata.{Rdata}
use Rattle.net_model.specs.declared.config.Zone.{Zone}
use Rattle.zone_tree.specs.FirstDecider.{AreFirstDeciders}
use Rattle.zone_tree.specs.Names.{AreExisting}
use Rattle.zone_tree.specs.Owners.{AreByOwner, data_of_runs}
use Rattle.zone_tree.specs.Records.{OwnedRecords, TellsData, IsTree}
use Rattle.zone_tree.specs.declared.runs.KeyedRun.{KeyedRun}
use Rattle.zone_tree.specs.declared.tree.Nodes.{Nodes}
use Rattle.zone_tree.proofs.Existing.{existing_within, existing_table, owners_among}
use Rattle.zone_tree.proofs.tree.Tree.build.Goals as goal

pub records_by_name-requires-clause-among : goal.records_by_name-requires-clause-among
records_by_name-requires-clause-among c = λ owner has.
    let runs : List KeyedRun = c.as_slice-runs.result.now in
    let are : AreByOwner c.args.zone.now runs = subst (AreByOwner c.args.zone.now) (sym c.as_slice-runs.ensures.value) c.in_ok-sorted.ensures in
    subst (λ (xs : List Labels). Contains xs owner) (sym c.as_slice.ensures.value)
    (owners_among c.args.zone.now runs c.in_ok-names.names.items are c.in_ok-names.ensures owner has)

-- the names with what they own
told : (zone : Zone) (runs : List KeyedRun) (names slice : List Labels) (records : List OwnedRecords) → slice ≡ names → AreByOwner zone runs → AreExisting zone names
    → length records ≡ length slice
    → ((k : ℕ) (d : OwnedRecords) → k < length slice → TellsData (data_of_runs runs (get_or slice k [])) (get_or records k d)) → IsTree zone names records
told zone runs names slice records same are existing many each = record {
  existing = existing;
  many = many ∙ ap (λ (xs : List Labels). length xs) same;
  each = λ k d below.
      let name : Labels = get_or names k [] in
      let within : k < length slice = omega (arith, below, ap (λ (xs : List Labels). length xs) same) in
      subst (λ (all : List Rdata). TellsData all (get_or records k d))
      (ap (λ (xs : List Labels). data_of_runs runs (get_or xs k [])) same
      ∙ are.in_file_order name (existing_within zone name ((existing.all name).0 (Contains-get_or names k [] below))))
      (each k d within);
}

pub first_deciders-requires : goal.first_deciders-requires
first_deciders-requires c =
    let zone = c.args.zone.now in
    let are : AreByOwner zone c.as_slice-runs.result.now = subst (AreByOwner zone) (sym c.as_slice-runs.ensures.value) c.in_ok-sorted.ensures in
    subst (λ (names : List Labels). IsTree zone names c.in_ok-records.records) (sym c.as_slice-2.ensures.value)
    (told zone c.as_slice-runs.result.now c.in_ok-names.names.items c.as_slice.result.now c.in_ok-records.records
    c.as_slice.ensures.value are c.in_ok-names.ensures c.in_ok-records.ensures.many c.in_ok-records.ensures.each)

pub of-requires : goal.of-requires
of-requires c = existing_table c.args.zone.now c.in_ok-names.names.items c.in_ok-names.ensures

pub invariant_of-result : goal.invariant_of-result
invariant_of-result c =
    let zone = c.args.zone.now in
    let are : AreByOwner zone c.as_slice-runs.result.now = subst (AreByOwner zone) (sym c.as_slice-runs.ensures.value) c.in_ok-sorted.ensures in
    subst (λ (nodes : Nodes). IsTree zone nodes.names nodes.records × AreFirstDeciders zone nodes.names nodes.first_deciders.items) (sym c.in_ok-nodes.ensures.ok) (
      subst (λ (names : List Labels). IsTree zone names c.in_ok-records.records) (sym c.in_ok-table.ensures)
          (told zone c.as_slice-runs.result.now c.in_ok-names.names.items c.as_slice.result.now c.in_ok-records.records
          c.as_slice.ensures.value are c.in_ok-names.ensures c.in_ok-records.ensures.many c.in_ok-records.ensures.each),
      subst (λ (names : List Labels). AreFirstDeciders zone names c.in_ok-first_deciders.first_deciders.items) (sym c.in_ok-table.ensures)
          (subst (λ (names : List Labels). AreFirstDeciders zone names c.in_ok-first_deciders.first_deciders.items) c.as_slice-2.ensures.value
          c.in_ok-first_deciders.ensures),
    )
