-- the tokens so far, each with a line feed behind it
use Rattle.std.proofs.Common.{◌≡◌, ◌∷◌, ◌++◌, [], take}
use Rattle.std.specs.List.{flat_map}
use Rattle.zone_copies.proofs.compared.tokens_text.Given as goal

abbrev pub invariant-loop-token : goal.invariant-loop-token
invariant-loop-token l = l.text ≡ flat_map (λ token. token ++ 10 ∷ []) (take l.token-index l.tokens)
