-- The walks that are asked for, shown one after the other. The contracts of inner calls alone cite it.
use Rattle.std.specs.Prelude.{◌≡◌, ℕ, List}
use Rattle.std.specs.List.{fold}
use Rattle.net_model.specs.declared.walk.Walk.{Walk}
use Rattle.plain_resolver.specs.Asked.{Asked}
use Rattle.plain_resolver.specs.FromServer.{AreAsked, HasMoreAsked}

-- there are more walks than so many of what is asked
abbrev pub HasMore : Asked → ℕ → Type 0
HasMore asked most = HasMoreAsked asked.setting asked.query asked.rtype asked.server most

-- what becomes of a visitor that is shown all walks that are asked for, in order
abbrev pub ShownAll : {V : Type 0} → (V → Walk → V) → Asked → V → V → Type 0
ShownAll after asked old new =
    (walks : List Walk) × AreAsked asked.setting asked.query asked.rtype asked.server walks × (new ≡ fold after old walks)
