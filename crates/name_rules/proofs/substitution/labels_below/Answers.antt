use Rattle.std.proofs.Common.{◌≡◌, ◌<◌, List, [], ◌∷◌, Option, Some, None, Bor, ℕ, length, drop, sym, ap, ◌∙◌}
use Rattle.std.specs.Option.{MatchOption}
use Rattle.std.proofs.lemmas.List.{drop-drop}
use Rattle.dns_data.specs.Name.{Labels}
use Rattle.name_rules.proofs.substitution.labels_below.Goals as goal

-- taking the top label off leaves the others
next_leaves : (o : Option (Bor (List ℕ))) (old new : Labels) → MatchOption o (old ≡ []) (λ label. old ≡ label.now ∷ new)
    → MatchOption o (new ≡ []) (λ label. length new < length old) → new ≡ drop 1 old
next_leaves None old new first none = none ∙ ap (drop 1) (sym first)
next_leaves (Some label) old new first none = ap (drop 1) (sym first)

pub loop-preserved : goal.loop-preserved
loop-preserved c =
    next_leaves c.next.result c.loop.below c.next.new.self c.next.ensures.first c.next.ensures.none
    ∙ ap (drop 1) c.loop.invariant ∙ drop-drop 1 c.loop.counter c.args.name.now
