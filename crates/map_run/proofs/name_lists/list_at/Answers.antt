use Rattle.std.proofs.Common.{◌≡◌, [], ◌∷◌, ◌++◌, Some, ap, cond, ◌∙◌}
use Rattle.dns_data.specs.Name.{Labels, name_eq}
use Rattle.map_run.specs.NameLists.{listed_at}
use Rattle.map_run.proofs.ListedNames.{listed_behind, listed_by, pushed_behind}
use Rattle.map_run.proofs.name_lists.list_at.Goals as goal

pub returns : goal.returns
returns g c =
    let name = c.args.name.now in
    let old = c.args.lists.now in
    let mid = c.take_listed-listed.new.lists in
    let same : c.in_ok-key.key ≡ name = c.in_ok-key.ensures in
    let behind : c.push.new.self ≡ listed_at old name ++ c.args.item ∷ [] =
    pushed_behind c.args.item _ _ _ c.in_ok-push.ensures.ok (c.take_listed-listed.ensures.taken ∙ ap (listed_at old) same) in
    listed_behind name c.args.item old mid c.insert.new.self
    (λ other differs. c.take_listed-listed.ensures.others other (ap (λ (n : Labels). name_eq n other) same ∙ differs))
    (λ other.
    listed_by c.in_ok-key.key other (Some c.push.new.self) mid c.insert.new.self (c.in_ok-insert.ensures.updates.0 other)
    ∙ (λ i. cond (name_eq (same i) other) (behind i) (listed_at mid other)))
