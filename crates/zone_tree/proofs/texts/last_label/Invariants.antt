use Rattle.std.proofs.Common.{◌≡◌, ◌++◌, ◌∷◌, length}
use Rattle.std.specs.Prelude.{MatchOption}
use Rattle.dns_data.specs.Name.{Labels}
use Rattle.zone_tree.proofs.texts.last_label.Given as goal

-- the last label so far stands right above the others
abbrev pub invariant-loop-label : goal.invariant-loop-label
invariant-loop-label l = MatchOption l.last (l.rest ≡ l.name) (λ label. (front : Labels) × (l.name ≡ front ++ label.now ∷ l.rest))

abbrev pub decreases-loop-label : goal.decreases-loop-label
decreases-loop-label l = length l.rest
