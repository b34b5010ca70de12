-- Equality of states. The contracts of inner calls alone cite it.
use Rattle.std.specs.Prelude.{◌≡◌, ℕ, Bool, true, false, ◌&&◌, ◌==◌, List, ◌∷◌, Option, Some, None, IsTrue}
use Rattle.std.proofs.Common.{refl, sym, ap, subst, true≢false}
use Rattle.std.specs.Hash as fed
use mathlib.Core.Bool.{beq}
use Rattle.std.specs.Bool.{Decides}
use Rattle.std.specs.Cmp.{IsEquivalence, decided, unsigned_Decides, booleans_Decides}
use Rattle.std.proofs.lemmas.Bool.{and_parts, and_from}
use Rattle.dns_data.specs.Encoding.{encoded}
use Rattle.dns_data.specs.Name.{name_eq}
use Rattle.dns_data.proofs.Names.{name_eq_decides}
use Rattle.net_model.specs.declared.place.Place.{Place}
use Rattle.net_model.specs.declared.walk.State.{State}
use Rattle.graph_form.specs.FirstPath.{place_eq}
use Rattle.graph_form.proofs.ShownKinds.{place_itself, same_place}

-- both values are there and are equal, or neither is there
abbrev pub maybe_eq : {X : Type 0} → (X → X → Bool) → Option X → Option X → Bool
maybe_eq eq None None = true
maybe_eq eq (Some a) (Some b) = eq a b
maybe_eq eq a b = false

-- two states are one
abbrev pub state_eq : State → State → Bool
state_eq a b =
    (a.used == b.used) && ((a.cut == b.cut) && (name_eq a.name b.name && (name_eq a.server b.server && (beq a.carried b.carried
    && (maybe_eq place_eq a.last b.last && maybe_eq name_eq a.zone b.zone)))))

-- ---- which decides

place_decides : (a b : Place) → Decides (place_eq a b) (a ≡ b)
place_decides a b = (same_place a b, λ e. subst (λ (c : Place). place_eq a c ≡ true) e (place_itself a))

maybe_decides : {X : Type 0} (eq : X → X → Bool) → ((a b : X) → Decides (eq a b) (a ≡ b)) → (a b : Option X) → Decides (maybe_eq eq a b) (a ≡ b)
maybe_decides eq decides None None = ((λ e. refl), (λ e. refl))
maybe_decides eq decides (Some a) (Some b) =
    ((λ e. ap Some ((decides a b).0 e)), (λ e. (decides a b).1 (let one : a ≡ b = cc in one)))
maybe_decides eq decides None (Some b) = ((λ e. absurd (true≢false (sym e))), (λ e. cc))
maybe_decides eq decides (Some a) None = ((λ e. absurd (true≢false (sym e))), (λ e. cc))

-- what is left to compare of two states behind their first five tests; and below it behind four, three, two and one
abbrev rest5 : State → State → Bool
rest5 a b = maybe_eq place_eq a.last b.last && maybe_eq name_eq a.zone b.zone

abbrev rest4 : State → State → Bool
rest4 a b = beq a.carried b.carried && rest5 a b

abbrev rest3 : State → State → Bool
rest3 a b = name_eq a.server b.server && rest4 a b

abbrev rest2 : State → State → Bool
rest2 a b = name_eq a.name b.name && rest3 a b

abbrev rest1 : State → State → Bool
rest1 a b = (a.cut == b.cut) && rest2 a b

-- two states are equal by the test exactly where they are one
pub state_decides : (a b : State) → Decides (state_eq a b) (a ≡ b)
state_decides a b = (
  λ e. let one = and_parts (a.used == b.used) (rest1 a b) e in
      let two = and_parts (a.cut == b.cut) (rest2 a b) one.1 in
      let three = and_parts (name_eq a.name b.name) (rest3 a b) two.1 in
      let four = and_parts (name_eq a.server b.server) (rest4 a b) three.1 in
      let five = and_parts (beq a.carried b.carried) (rest5 a b) four.1 in
      let six = and_parts (maybe_eq place_eq a.last b.last) (maybe_eq name_eq a.zone b.zone) five.1 in
      same ((unsigned_Decides a.used b.used).0 one.0) ((unsigned_Decides a.cut b.cut).0 two.0)
      ((name_eq_decides a.name b.name).0 three.0) ((name_eq_decides a.server b.server).0 four.0) ((booleans_Decides a.carried b.carried).0 five.0)
      ((maybe_decides place_eq place_decides a.last b.last).0 six.0) ((maybe_decides name_eq name_eq_decides a.zone b.zone).0 six.1),
  λ e. subst (λ (c : State). state_eq a c ≡ true) e
      (and_from (a.used == a.used) (rest1 a a) ((unsigned_Decides a.used a.used).1 refl)
      (and_from (a.cut == a.cut) (rest2 a a) ((unsigned_Decides a.cut a.cut).1 refl)
      (and_from (name_eq a.name a.name) (rest3 a a) ((name_eq_decides a.name a.name).1 refl)
      (and_from (name_eq a.server a.server) (rest4 a a) ((name_eq_decides a.server a.server).1 refl)
      (and_from (beq a.carried a.carried) (rest5 a a) ((booleans_Decides a.carried a.carried).1 refl)
      (and_from (maybe_eq place_eq a.last a.last) (maybe_eq name_eq a.zone a.zone)
      ((maybe_decides place_eq place_decides a.last a.last).1 refl) ((maybe_decides name_eq name_eq_decides a.zone a.zone).1 refl))))))),
)
  where
    same : a.used ≡ b.used → a.cut ≡ b.cut → a.name ≡ b.name → a.server ≡ b.server → a.carried ≡ b.carried → a.last ≡ b.last → a.zone ≡ b.zone → a ≡ b
    same u k n s c l z = λ i. record { server = s i; name = n i; carried = c i; cut = k i; used = u i; last = l i; zone = z i }

-- the test of two states is an equivalence
pub state_equivalence : IsEquivalence state_eq
state_equivalence = decided state_eq state_decides

-- ---- what is hashed of a state: its server and its name, each as its octets, and the rewrites used

-- what is hashed of a state, in order
abbrev pub state_writes : State → List (List ℕ)
state_writes state = encoded state.server ∷ encoded state.name ∷ fed.u32 state.used

-- of equal states the same is hashed
pub equal_writes : (a b : State) → IsTrue (state_eq a b) → state_writes a ≡ state_writes b
equal_writes a b e = ap state_writes ((state_decides a b).0 e)
