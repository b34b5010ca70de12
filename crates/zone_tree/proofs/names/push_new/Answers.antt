use Rattle.std.proofs.Common.{◌≡◌, ◌+◌, ◌<◌, ◌≤◌, ◌∷◌, ◌++◌, [], List, ℕ, length, drop, sym, ap, ◌∙◌, append_assoc, append-nil, arith}
use Rattle.std.specs.List.{common_prefix_len}
use Rattle.std.proofs.lemmas.List.{drop_more, drop_all}
use Rattle.dns_data.specs.Label.{label_eq}
use Rattle.dns_data.specs.Name.{Labels}
use Rattle.net_model.specs.Prefix.{prefixes}
use Rattle.net_model.proofs.Prefixes.{length-prefixes}
use Rattle.zone_tree.proofs.SortedTree.{new_from, prefix_at}
use Rattle.zone_tree.proofs.names.push_new.Goals as goal

pub loop-count-init : goal.loop-count-init
loop-count-init c =
    let name = c.args.name.now in
    let before = c.args.before.now in
    let shared : c.common_len-shared.result ≡ common_prefix_len label_eq name before =
    c.common_len-shared.ensures.value
    ∙ ap (λ (x : Labels). common_prefix_len label_eq x c.labels-2.result) c.labels.ensures.same
    ∙ ap (λ (x : Labels). common_prefix_len label_eq name x) c.labels-2.ensures.same in
    ap (λ (xs : List Labels). c.args.names.now.items ++ xs)
    (ap (λ (n : ℕ). drop (n + 1) (prefixes name)) shared ∙ sym (new_from before name))

pub loop-count-preserved : goal.loop-count-preserved
loop-count-preserved c =
    let name = c.args.name.now in
    let count = c.loop-count.count in
    let items = c.loop-count.names.items in
    let many = length-prefixes name in
    let within : count < length (prefixes name) = omega (arith, c.len.ensures.value) in
    let next : drop count (prefixes name) ≡ c.in_ok-copy_front.field-0 ∷ drop (count + 1) (prefixes name) =
    drop_more (prefixes name) count [] within
    ∙ ap (λ (x : Labels). x ∷ drop (count + 1) (prefixes name)) (prefix_at name count [] (omega arith) ∙ sym c.in_ok-copy_front.ensures) in
    rw (c.in_ok-push.ensures.items)
    (append_assoc items (c.in_ok-copy_front.field-0 ∷ []) (drop (count + 1) (prefixes name))
    ∙ ap (λ (xs : List Labels). items ++ xs) (sym next) ∙ c.loop-count.invariant)

pub returns : goal.returns
returns c =
    let name = c.args.name.now in
    let many = length-prefixes name in
    let items = c.loop-count.names.items in
    let beyond : length (prefixes name) ≤ c.loop-count.count = omega (arith, c.len.ensures.value) in
    sym (append-nil items) ∙ ap (λ (xs : List Labels). items ++ xs) (sym (drop_all c.loop-count.count (prefixes name) beyond)) ∙ c.loop-count.invariant
