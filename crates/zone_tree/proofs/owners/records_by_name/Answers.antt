use Rattle.std.proofs.Common.{◌≡◌, ℕ, ◌+◌, ◌-◌, ◌<◌, ◌≤◌, List, [], All, map, flat_map, take, drop, length, get_or, Contains, sym, refl, ap, ◌∙◌, subst, arith}
use Rattle.std.proofs.lemmas.List.{drop-map, take_all, drop-drop, length-drop, length-map, get_or_default, get_or-map}
use Rattle.std.proofs.lemmas.List.Elements.{All-nil, All-push}
use Rattle.dns_data.specs.Name.{Labels}
use Rattle.dns_data.specs.declared.rdata.Rdata.{Rdata}
use Rattle.zone_tree.specs.declared.owned_data.OwnedForm.{OwnedForm}
use Rattle.zone_tree.specs.declared.owned_data.OwnedForm.TheVariants.{Nothing}
use Rattle.zone_tree.specs.declared.owned_lists.OwnedLists.{OwnedLists}
use Rattle.zone_tree.specs.declared.runs.KeyedRun.{KeyedRun}
use Rattle.zone_tree.specs.OwnedData.{written_out, IsFormPut, IsFormWithin}
use Rattle.zone_tree.specs.OwnedLists.{IsWithin}
use Rattle.zone_tree.specs.Owners.{data_of_runs, leading}
use Rattle.zone_tree.specs.Records.{OwnedRecords, TellsData}
use Rattle.zone_tree.specs.Runs.{data_of_run, owner_of}
use Rattle.zone_tree.proofs.Owned.{data_leading, data_behind, order_behind, order_from_first, next_up_to, from_drop}
use Rattle.zone_tree.proofs.OwnedLists.{form_stays, form_within}
use Rattle.name_table.proofs.Pairs.{each_pushed}
use Rattle.name_table.proofs.SearchedNames.{apart}
use Rattle.zone_tree.proofs.SortedTree.{InOrder}
use Rattle.zone_tree.proofs.owners.records_by_name.Goals as goal

not_later : (i k : ℕ) → i + 1 ≤ k → i ≡ k → ⊥
not_later i k later same = omega arith

pub loop-name-init : goal.loop-name-init
loop-name-init c = record {
  within = omega arith;
  many = ap (λ (xs : List OwnedForm). length xs) c.in_ok-forms.ensures.items;
  lists = subst (All (IsWithin c.new-lists.result)) (sym c.new-lists.ensures) (All-nil (IsWithin c.new-lists.result));
  forms = subst (All (IsFormWithin c.new-lists.result)) (sym c.in_ok-forms.ensures.items) (All-nil (IsFormWithin c.new-lists.result));
  each = λ k d below. absurd (omega arith);
  left = λ k here below. refl;
  order = λ some. order_from_first c.args.names.now c.requires.names (map owner_of c.args.runs.now) c.requires.sorted c.requires.among;
}

pub loop-name-preserved : goal.loop-name-preserved
loop-name-preserved c =
    let runs : List KeyedRun = c.args.runs.now in
    let owners : List Labels = map owner_of runs in
    let names : List Labels = c.args.names.now in
    let i : ℕ = c.loop-name.name-index in
    let at : ℕ = c.loop-name.at in
    let name : Labels = get_or names i [] in
    let rest : List KeyedRun = drop at runs in
    let own : List KeyedRun = c.split_at.result.0.now in
    let forms : List OwnedForm = c.loop-name.forms.items in
    let form : OwnedForm = c.in_ok-form_by_runs.field-0 in
    let before : OwnedLists = c.loop-name.lists in
    let after : OwnedLists = c.form_by_runs.new.lists in
    let put : IsFormPut (flat_map data_of_run own) before after form = c.in_ok-form_by_runs.ensures in
    let whole : take (length runs - at) rest ≡ rest = take_all (length runs - at) rest (omega (arith, length-drop at runs)) in
    let named : c.name-item.result ≡ name = c.name-item.is ∙ get_or_default names i c.name-item.result [] c.loop-name-test.true in
    let count : c.leading.result ≡ leading name (map owner_of rest) =
    c.leading.ensures.value
    ∙ ap (λ (x : Labels). leading x (map owner_of (take (length runs - at) rest))) named
    ∙ ap (λ (xs : List KeyedRun). leading name (map owner_of xs)) whole in
    let many : length own ≡ leading name (map owner_of rest) = c.split_at.ensures.front_len ∙ count in
    let next : drop (at + length own) runs ≡ drop (leading name (map owner_of rest)) rest =
    ap (λ (n : ℕ). drop (at + n) runs) many ∙ sym (drop-drop (leading name (map owner_of rest)) at runs) in
    let behind : drop (at + length own) owners ≡ drop (leading name (map owner_of rest)) (map owner_of rest) =
    ap (λ (n : ℕ). drop (at + n) owners) many ∙ sym (drop-drop (leading name (map owner_of rest)) at owners)
    ∙ ap (drop (leading name (map owner_of rest))) (drop-map owner_of at runs) in
    let order : InOrder name (map owner_of rest) = subst (InOrder name) (drop-map owner_of at runs) (c.loop-name.invariant.order c.loop-name-test.true) in
    let owned : flat_map data_of_run own ≡ data_of_runs runs name =
    ap (flat_map data_of_run) (c.split_at.ensures.front ∙ ap (take c.leading.result) whole ∙ ap (λ (n : ℕ). take n rest) count)
    ∙ sym (data_leading name rest order)
    ∙ c.loop-name.invariant.left i (omega arith) c.loop-name-test.true in
    let tells : TellsData (data_of_runs runs name) (written_out after form) = subst (λ (all : List Rdata). TellsData all (written_out after form)) owned put.tells in
    let stays : (k : ℕ) (d : OwnedForm) → k < i → TellsData (data_of_runs runs (get_or names k [])) (written_out after (get_or forms k d)) =
    (λ k d below.
    subst (TellsData (data_of_runs runs (get_or names k [])))
    (sym (form_stays before after put.grown (get_or forms k d) c.loop-name.invariant.lists
    (c.loop-name.invariant.forms k d (let within : k < length forms = omega (arith, below, c.loop-name.invariant.many) in within))))
    (c.loop-name.invariant.each k d below)) in
    record {
      within =
          omega (arith, c.leading.ensures.within, c.split_at.ensures.front_len, ap (λ (xs : List KeyedRun). length xs) whole, length-drop at runs, c.loop-name.invariant.within);
      many = omega (arith, c.in_ok-push.ensures.len, c.loop-name.invariant.many);
      lists = put.lists c.loop-name.invariant.lists;
      forms =
          subst (All (IsFormWithin after)) (sym c.in_ok-push.ensures.items)
          (All-push (IsFormWithin after) forms form (λ k d below. form_within before after put.grown (get_or forms k d) (c.loop-name.invariant.forms k d below)) put.within);
      each = λ k d below.
          subst (λ (xs : List OwnedForm). TellsData (data_of_runs runs (get_or names k [])) (written_out after (get_or xs k d))) (sym c.in_ok-push.ensures.items)
          (each_pushed (λ (j : ℕ) (one : OwnedForm). TellsData (data_of_runs runs (get_or names j [])) (written_out after one))
          forms i form c.loop-name.invariant.many stays tells k d below);
      left = λ k later below.
          ap (λ (xs : List KeyedRun). data_of_runs xs (get_or names k [])) next
          ∙ data_behind name rest (get_or names k []) (apart names i k c.requires.names c.loop-name-test.true below (not_later i k later))
          ∙ c.loop-name.invariant.left k (omega arith) below;
      order = λ more.
          subst (InOrder (get_or names (i + 1) [])) (sym behind)
          (order_behind name (map owner_of rest) (get_or names (i + 1) []) order
          (λ owner has before. next_up_to names c.requires.names i owner c.loop-name-test.true
          (c.requires.among owner (from_drop at owners owner (subst (λ (xs : List Labels). Contains xs owner) (sym (drop-map owner_of at runs)) has))) before));
    }

pub of-requires-clause-lists : goal.of-requires-clause-lists
of-requires-clause-lists c = c.loop-name.invariant.lists

pub of-requires-clause-forms : goal.of-requires-clause-forms
of-requires-clause-forms c = c.loop-name.invariant.forms

pub returns-clause-many : goal.returns-clause-many
returns-clause-many c =
    let forms : List OwnedForm = c.loop-name.forms.items in
    ap (λ (all : List OwnedRecords). length all) c.of.ensures
    ∙ length-map forms (written_out c.loop-name.lists)
    ∙ c.loop-name.invariant.many
    ∙ (let all : c.loop-name.name-index ≡ length c.args.names.now = omega (arith, c.loop-name-test.false) in all)

pub returns-clause-each : goal.returns-clause-each
returns-clause-each c = λ k d below.
    let forms : List OwnedForm = c.loop-name.forms.items in
    let within : k < length forms = omega (arith, below, c.loop-name.invariant.many, c.loop-name-test.false) in
    subst (TellsData (data_of_runs c.args.runs.now (get_or c.args.names.now k [])))
    (sym (ap (λ (all : List OwnedRecords). get_or all k d) c.of.ensures ∙ get_or-map (written_out c.loop-name.lists) forms k Nothing d within))
    (c.loop-name.invariant.each k Nothing (omega (arith, within, c.loop-name.invariant.many)))
