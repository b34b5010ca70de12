use Rattle.std.proofs.Common.{◌∙◌, List, [], ◌∷◌, ◌++◌, take, get_or, append_assoc, sym, ap}
use Rattle.std.proofs.lemmas.List.{take_more}
use Rattle.dns_data.specs.Name.{Labels}
use Rattle.base_names.proofs.base.put_copies.Goals as goal

pub loop-name-preserved : goal.loop-name-preserved
loop-name-preserved c =
    let more = c.args.more.now in
    let index = c.loop-name.name-index in
    let name = c.name-item.result in
    c.in_ok-push.ensures.items
    ∙ ap (λ (copy : Labels). c.loop-name.names.items ++ copy ∷ []) (c.in_ok-copy.ensures ∙ c.name-item.is)
    ∙ ap (λ (l : List Labels). l ++ get_or more index name ∷ []) c.loop-name.invariant
    ∙ append_assoc c.args.names.now.items (take index more) (get_or more index name ∷ [])
    ∙ ap (λ (l : List Labels). c.args.names.now.items ++ l) (sym (take_more more index name c.loop-name-test.true))
