use Rattle.std.proofs.Common.{◌≡◌, ◌↔◌, Option, Some, None, refl, sym, ◌∙◌, true≢false}
use Rattle.std.specs.Prelude.{IsNone}
use Rattle.interp_graph.proofs.forks.fork.Goals as goal

-- what is said where there is none
said_of_none : {A : Type 0} (answer : Option A) (P : Type 0) → IsNone answer ↔ P → answer ≡ None → P
said_of_none None P says is = says.0 refl
said_of_none (Some x) P says is = cc

pub unreachable-requires : goal.unreachable-requires
unreachable-requires c =
    let none = said_of_none c.first.result _ c.first.ensures.none c.in-None.is in
    true≢false (sym c.requires.some.1 ∙ none c.requires.some.0)
