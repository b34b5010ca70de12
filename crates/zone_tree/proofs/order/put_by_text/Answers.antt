use Rattle.std.proofs.Common.{◌≡◌, true, false, Option, Some, None, map, sym, refl, ap, ◌∙◌}
use Rattle.std.specs.Option.{is_some}
use Rattle.std.specs.BTreeMap.{is_at}
use Rattle.std.specs.Cmp.Lexicographic.{slice_cmp}
use Rattle.std.specs.Map.{lookup}
use Rattle.std.specs.Ordering.{nat_cmp}
use Rattle.dns_data.specs.DataText.{data_text}
use Rattle.dns_data.specs.declared.rdata.Rdata.{Rdata}
use Rattle.net_model.specs.Order.{put_in_order}
use Rattle.net_model.specs.Zone.{data_cmp}
use Rattle.zone_tree.proofs.ByText.{data_at_entry, put_absent, put_present, keyed_put}
use Rattle.zone_tree.proofs.order.put_by_text.Goals as goal

none_from : {X : Type 0} (o : Option X) → is_some o ≡ false → o ≡ None
none_from None e = refl
none_from (Some x) e = cc

some_from : {X : Type 0} (o : Option X) → is_some o ≡ true → (x : X) × (o ≡ Some x)
some_from None e = cc
some_from (Some x) e = (x, refl)

pub returns-in_ok-insert-clause-keyed : goal.returns-in_ok-insert-clause-keyed
returns-in_ok-insert-clause-keyed c =
    rw c.in_ok-insert.ensures.entries (keyed_put c.in_ok-copy.copy c.in_ok-text.text (c.in_ok-text.ensures ∙ ap data_text (sym c.in_ok-copy.ensures)) c.args.set.now.entries c.requires)

pub returns-in_ok-insert-clause-put : goal.returns-in_ok-insert-clause-put
returns-in_ok-insert-clause-put c =
    let none : lookup (is_at (slice_cmp nat_cmp c.in_ok-text.text)) c.args.set.now.entries ≡ None = none_from _ (sym c.if-not-contains_key.ensures) in
    rw c.in_ok-insert.ensures.entries
    (put_absent c.in_ok-copy.copy c.in_ok-text.text (c.in_ok-text.ensures ∙ ap data_text (sym c.in_ok-copy.ensures)) c.args.set.now.entries c.requires none
    ∙ ap (λ (rdata : Rdata). put_in_order data_cmp rdata (map data_at_entry c.args.set.now.entries)) c.in_ok-copy.ensures)

pub returns-else-not-contains_key-clause-put : goal.returns-else-not-contains_key-clause-put
returns-else-not-contains_key-clause-put c =
    let some : is_some (lookup (is_at (slice_cmp nat_cmp c.in_ok-text.text)) c.args.set.now.entries) ≡ true = sym c.if-not-contains_key.ensures in
    let found = some_from (lookup (is_at (slice_cmp nat_cmp c.in_ok-text.text)) c.args.set.now.entries) some in
    put_present c.args.rdata.now c.in_ok-text.text c.in_ok-text.ensures c.args.set.now.entries c.requires c.len.ensures.ordered found.0 found.1
