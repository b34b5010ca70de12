use Rattle.std.proofs.Common.{ℕ, ◌++◌, List, ap, ◌∙◌}
use Rattle.std.proofs.lemmas.List.{take_all}
use Rattle.dns_data.specs.Name.{Labels}
use Rattle.dns_data.specs.Listed.{places_of}
use Rattle.address_deps.proofs.direction.wake.Goals as goal

pub returns : goal.returns
returns c = λ server there.
    let items : List ℕ = c.on-other-items.result.now in
    c.loop-other.invariant
    ∙ ap (λ (xs : List ℕ). c.args.next.now ++ xs)
    (take_all c.loop-other.other-index items c.loop-other-test.false
    ∙ (c.on-other-items.ensures ∙ ap (λ (name : Labels). places_of c.args.dependents.now.places name) (c.name_at.ensures server there)))
