use Rattle.std.proofs.Common.{◌≡◌, ◌∙◌, ◌++◌, ◌∷◌, [], Bool, Bor, Option, Some, None, sym, ap}
use Rattle.std.specs.Prelude.{IfSome, IsSomeAnd}
use Rattle.std.proofs.lemmas.List.{map_more}
use Rattle.dns_data.specs.Name.{Labels, is_among}
use Rattle.dns_data.specs.declared.rdata.Rr.{Rr}
use Rattle.part_names.specs.declared.names.PartNames.{PartNames}
use Rattle.part_checks.specs.Parts.{held_by}
use Rattle.part_checks.proofs.owners.held_owners.Goals as goal
use Rattle.part_checks.proofs.owners.held_owners.Goals.{then-not-is_owner_of, else-not-is_owner_of}

-- what is known of the record before holds of one with the same owner
of_before : (names : PartNames) (before : Option (Bor Rr)) (held : Bool) (owner : Labels) → IsSomeAnd before (λ other. other.now.owner ≡ owner)
    → IfSome before (λ other. held ≡ is_among (held_by names) other.now.owner) → held ≡ is_among (held_by names) owner
of_before names (Some other) held owner same known = known ∙ ap (is_among (held_by names)) same
of_before names None held owner same known = absurd same

pub loop-rr-preserved : goal.loop-rr-preserved
loop-rr-preserved c =
    let names = c.args.sets.now in
    let rrs = c.args.rrs.now in
    let rr = c.rr-item.result in
    let k = c.loop-rr.rr-index in
    let f : Rr → Bool = λ rr. is_among (held_by names) rr.owner in
    let is : c.if-not-is_owner_of.is_held ≡ is_among (held_by names) rr.owner = elim c.if-not-is_owner_of.branch [
      | then-not-is_owner_of w ↦ w.is_held-is ∙ w.has-is_held.ensures
      | else-not-is_owner_of w ↦ w.is_held-is ∙ of_before names c.loop-rr.before c.loop-rr.is_held rr.owner (c.is_owner_of.ensures w.if-not-is_owner_of.false) c.loop-rr.invariant.last
    ] in
    record {
      all = c.in_ok-push.ensures.items ∙ ((λ i. c.loop-rr.invariant.all i ++ (is ∙ ap f c.rr-item.is) i ∷ []) ∙ sym (map_more f rrs k rr c.loop-rr-test.true));
      last = is;
    }
