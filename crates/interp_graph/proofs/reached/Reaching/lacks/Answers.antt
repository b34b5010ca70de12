use Rattle.std.proofs.Common.{◌≡◌, ◌<◌, ℕ, Bool, true, false, not, List, Option, Some, None, length, sym, ap, ◌∙◌, true≢false, arith}
use Rattle.std.specs.Prelude.{◌&&◌, IfSome, is_some, slice_get}
use Rattle.std.specs.Option.{option_map_or}
use Rattle.std.proofs.lemmas.Bool.{and_parts, not-true}
use Rattle.dns_data.specs.TypeSet.{has_bit}
use Rattle.dns_data.specs.declared.rr_type.RrType.{RrType}
use Rattle.interp_graph.specs.Restricted.{has_type}
use Rattle.interp_graph.proofs.ItemsByNumber.{item_is}
use Rattle.interp_graph.proofs.reached.Reaching.lacks.Goals as goal

-- a type that is found among those that a node lacks
lacking : (sets : List (List Bool)) (at : ℕ) (types had newly : List Bool) → slice_get sets at ≡ Some had
    → ((rtype : RrType) → has_bit newly rtype ≡ (has_bit types rtype && not (has_bit had rtype)))
    → (found : Option RrType) → IfSome found (λ rtype. has_bit newly rtype ≡ true) → is_some found ≡ true
    → (rtype : RrType) × (has_bit types rtype ≡ true) × (has_type sets at rtype ≡ false)
lacking sets at types had newly is minus None so some = absurd (true≢false (sym some))
lacking sets at types had newly is minus (Some rtype) so some =
    let both = and_parts (has_bit types rtype) (not (has_bit had rtype)) (sym (minus rtype) ∙ so) in
    (rtype, both.0, ap (λ found. option_map_or (λ set. has_bit set rtype) found false) is ∙ not-true (has_bit had rtype) both.1)

pub returns-clause-some : goal.returns-clause-some
returns-clause-some c = λ is.
    let below : c.args.at < length c.args.self.now.sets.items = omega (arith, c.if-at-len.false, c.len.ensures) in
    let found = lacking c.args.self.now.sets.items c.args.at c.args.types c.index.result.now c.minus.result
    (item_is c.args.self.now.sets.items c.args.at c.index.result.now below c.index.ensures) c.minus.ensures c.first.result c.first.ensures.member
    (sym c.is_some.ensures ∙ is) in
    (found.0, found.1, below, found.2)
