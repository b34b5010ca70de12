-- Whether an address of a name is learnt depends on the name servers alone for whose addresses it waits.
use Rattle.std.proofs.Common.{◌≡◌, ℕ, Bool, true, false, ◌&&◌, List, [], ◌∷◌, length, Contains, Option, Some, None, refl, sym, ap, ◌∙◌, subst, inl, inr, ◌==◌}
use Rattle.std.specs.Prelude.{slice_get}
use Rattle.std.specs.List.{flat_map}
use Rattle.std.specs.Option.{option_map_or}
use Rattle.std.proofs.lemmas.List.Elements.{Contains-append_left, Contains-append_right}
use Rattle.dns_data.specs.Name.{Labels, name_eq, is_among}
use Rattle.dns_data.proofs.Membership.{flat_map_has, has_first}
use Rattle.dns_data.proofs.Names.{name_eq_decides}
use Rattle.graph_form.proofs.Places.{item_there}
use Rattle.address_deps.specs.Dependents.{address_awaits, turn_awaits, turns_await}
use Rattle.address_deps.specs.Addresses.{PathGives, IsLearnt, gives_from, node_gives, turn_gives}
use Rattle.address_deps.specs.declared.addresses.AddressLearnt.{AddressLearnt}
use Rattle.address_deps.specs.declared.addresses.AddressLearnt.TheVariants.{Known, ByPaths}
use Rattle.address_deps.specs.declared.addresses.Turn.{Turn}
use Rattle.address_deps.specs.declared.addresses.Turn.TheVariants.{Gives, Fails, Goes, Waits}

-- two sets of servers are equal but for one name, which isn't among those that are awaited
pub record AreAlike (awaited one other : List Labels) : Type 0 where
  pub name : Labels
  pub apart : (server : Labels) → name_eq name server ≡ false → is_among one server ≡ is_among other server
  pub not_awaited : Contains awaited name → ⊥

-- if one set of servers is like another but for one name, which isn't awaited, the other is like the one
pub alike_back : (awaited one other : List Labels) → AreAlike awaited one other → AreAlike awaited other one
alike_back awaited one other alike =
    record { name = alike.name; apart = λ server differs. sym (alike.apart server differs); not_awaited = alike.not_awaited }

module _ (one other : List Labels) (name : Labels) (apart : (server : Labels) → name_eq name server ≡ false → is_among one server ≡ is_among other server) where
  -- each other server is followed in both or in none
  same_among : (server : Labels) → (name ≡ server → ⊥) → is_among one server ≡ is_among other server
  same_among server differs = apart server (by (name_eq name server) refl) where
    by : (b : Bool) → name_eq name server ≡ b → b ≡ false
    by false e = refl
    by true e = absurd (differs ((name_eq_decides name server).0 e))

  module _ (nodes : List (List Turn)) (not_awaited : Contains (flat_map turns_await nodes) name → ⊥) where
    -- so a path gives the same by each turn
    same_turn : (at number : ℕ) (turns : List Turn) (turn : Turn) → slice_get nodes at ≡ Some turns → slice_get turns number ≡ Some turn
        → (on_one on_other : ℕ → Bool) → ((to : ℕ) → on_one to ≡ on_other to) → (is_last : Bool)
        → turn_gives one on_one is_last turn ≡ turn_gives other on_other is_last turn
    same_turn at number turns Gives here there on_one on_other rest is_last = refl
    same_turn at number turns Fails here there on_one on_other rest is_last = refl
    same_turn at number turns (Goes to) here there on_one on_other rest is_last = rest to
    same_turn at number turns (Waits to server) here there on_one on_other rest is_last =
        ap (λ (b : Bool). b && on_one to) (same_among server.now (λ e. not_awaited (subst (Contains (flat_map turns_await nodes)) (sym e) awaited)))
        ∙ ap (λ (b : Bool). is_among other server.now && b) (rest to)
      where
        awaited : Contains (flat_map turns_await nodes) server.now
        awaited =
            flat_map_has turns_await nodes turns server.now (item_there nodes at turns here)
            (flat_map_has turn_awaits turns (Waits to server) server.now (item_there turns number (Waits to server) there) (has_first server.now []))

    -- and along its turns
    same_path : (numbers : List ℕ) (at : ℕ) → gives_from one nodes numbers at ≡ gives_from other nodes numbers at
    same_path [] at = refl
    same_path (number ∷ numbers) at = by_node (slice_get nodes at) refl (same_path numbers) where
      by_turn : (turns : List Turn) → slice_get nodes at ≡ Some turns → (turn : Option Turn) → slice_get turns number ≡ turn
          → ((to : ℕ) → gives_from one nodes numbers to ≡ gives_from other nodes numbers to)
          → option_map_or (turn_gives one (gives_from one nodes numbers) (length numbers == 0)) turn false
          ≡ option_map_or (turn_gives other (gives_from other nodes numbers) (length numbers == 0)) turn false
      by_turn turns here None there rest = refl
      by_turn turns here (Some turn) there rest =
          same_turn at number turns turn here there (gives_from one nodes numbers) (gives_from other nodes numbers) rest (length numbers == 0)

      by_node : (turns : Option (List Turn)) → slice_get nodes at ≡ turns
          → ((to : ℕ) → gives_from one nodes numbers to ≡ gives_from other nodes numbers to)
          → node_gives one (gives_from one nodes numbers) number (length numbers == 0) turns
          ≡ node_gives other (gives_from other nodes numbers) number (length numbers == 0) turns
      by_node None here rest = refl
      by_node (Some turns) here rest = by_turn turns here (slice_get turns number) refl rest

    same_given : (starts : List ℕ) → PathGives one nodes starts → PathGives other nodes starts
    same_given starts path =
        record {
          at = path.at;
          numbers = path.numbers;
          starts_there = path.starts_there;
          gives = sym (same_path path.numbers path.at) ∙ path.gives;
        }

-- if two sets of servers differ in nothing but one name, which isn't awaited, an address can be learnt with the one where
-- it can with the other
pub same_learnt : (address : AddressLearnt) (one other : List Labels) → AreAlike (address_awaits address) one other → IsLearnt one address → IsLearnt other address
same_learnt (Known learnt) one other alike tells = tells
same_learnt (ByPaths paths) one other alike tells =
    elim tells [
      | inl four ↦ inl (same_given one other alike.name alike.apart paths.four
          (λ has. alike.not_awaited (Contains-append_left (flat_map turns_await paths.four) (flat_map turns_await paths.six) alike.name has)) paths.starts four)
      | inr six ↦ inr (same_given one other alike.name alike.apart paths.six
          (λ has. alike.not_awaited (Contains-append_right (flat_map turns_await paths.four) (flat_map turns_await paths.six) alike.name has)) paths.starts six)
    ]
