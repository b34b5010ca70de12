-- Nodes from which a path gives an address are marked.
use Rattle.std.proofs.Common.{◌≡◌, ◌↔◌, ℕ, Bool, true, false, ◌&&◌, List, [], ◌∷◌, length, Option, Some, None, refl, sym, ap, ◌∙◌, ◌==◌}
use Rattle.std.specs.Prelude.{slice_get}
use Rattle.std.specs.List.{list_any}
use Rattle.std.specs.Option.{option_map_or}
use Rattle.std.proofs.lemmas.Bool.{and_parts}
use Rattle.dns_data.specs.Name.{Labels, is_among}
use Rattle.dns_data.proofs.Searches.{from_any, any_has}
use Rattle.graph_form.proofs.Places.{item_there, place_of_item}
use Rattle.address_deps.specs.Giving.{AreComplete, AreGiving, is_marked}
use Rattle.address_deps.specs.Addresses.{PathGives, gives_from, node_gives, turn_gives}
use Rattle.address_deps.specs.declared.addresses.Turn.{Turn}
use Rattle.address_deps.specs.declared.addresses.Turn.TheVariants.{Gives, Fails, Goes, Waits}

module _ (followed : List Labels) (nodes : List (List Turn)) where
  abbrev from_node : List ℕ → ℕ → Bool
  from_node numbers at = gives_from followed nodes numbers at

  -- from a node with a turn that gives an address, by marks that are right, a path gives one
  pub giving_node : (marks : List Bool) (at : ℕ) (turns : List Turn) → AreGiving followed nodes marks → slice_get nodes at ≡ Some turns
      → list_any (turn_gives followed (is_marked marks) true) turns ≡ true → (numbers : List ℕ) × (from_node numbers at ≡ true)
  giving_node marks at turns giving here some =
      let found = from_any (turn_gives followed (is_marked marks) true) turns some in
      let place = place_of_item turns found.0 found.1 in
      by place.0 found.0 place.1 found.2
    where
      along : (number : ℕ) (turn : Turn) (later : List ℕ) → slice_get turns number ≡ Some turn
          → from_node (number ∷ later) at ≡ turn_gives followed (from_node later) (length later == 0) turn
      along number turn later there =
          ap (node_gives followed (from_node later) number (length later == 0)) here
          ∙ ap (λ (found : Option Turn). option_map_or (turn_gives followed (from_node later) (length later == 0)) found false) there

      by : (number : ℕ) (turn : Turn) → slice_get turns number ≡ Some turn → turn_gives followed (is_marked marks) true turn ≡ true
          → (numbers : List ℕ) × (from_node numbers at ≡ true)
      by number Gives there gives = (number ∷ [], along number Gives [] there)
      by number Fails there gives = cc
      by number (Goes to) there gives =
          let later = giving to gives in (number ∷ later.0, along number (Goes to) later.0 there ∙ later.1)
      by number (Waits to name) there gives =
          let both = and_parts (is_among followed name.now) (is_marked marks to) gives in
          let later = giving to both.1 in (
            number ∷ later.0,
            along number (Waits to name) later.0 there ∙ (ap (λ (b : Bool). b && from_node later.0 to) both.0 ∙ later.1),
          )

  -- no path from an unmarked node gives an address, if the marks are complete
  pub barren : (marks : List Bool) → AreComplete followed nodes marks → (numbers : List ℕ) (at : ℕ) → is_marked marks at ≡ false → from_node numbers at ≡ false
  barren marks complete [] at clear = refl
  barren marks complete (number ∷ numbers) at clear = by (slice_get nodes at) refl (barren marks complete numbers) where
    one : (turn : Turn) → turn_gives followed (is_marked marks) true turn ≡ false → ((to : ℕ) → is_marked marks to ≡ false → from_node numbers to ≡ false)
        → turn_gives followed (from_node numbers) (length numbers == 0) turn ≡ false
    one Gives fail rest = cc
    one Fails fail rest = refl
    one (Goes to) fail rest = rest to fail
    one (Waits to name) fail rest = split (is_among followed name.now) (is_marked marks to) refl fail where
      split : (free mark : Bool) → is_marked marks to ≡ mark → (free && mark) ≡ false → (free && from_node numbers to) ≡ false
      split false mark m e = refl
      split true false m e = rest to m
      split true true m e = cc

    at_turn : (turns : List Turn) (turn : Option Turn) → slice_get turns number ≡ turn → list_any (turn_gives followed (is_marked marks) true) turns ≡ false
        → ((to : ℕ) → is_marked marks to ≡ false → from_node numbers to ≡ false)
        → option_map_or (turn_gives followed (from_node numbers) (length numbers == 0)) turn false ≡ false
    at_turn turns None there none rest = refl
    at_turn turns (Some turn) there none rest = one turn (fails (turn_gives followed (is_marked marks) true turn) refl) rest where
      fails : (t : Bool) → turn_gives followed (is_marked marks) true turn ≡ t → t ≡ false
      fails false e = refl
      fails true e =
          let no : true ≡ false = sym (any_has (turn_gives followed (is_marked marks) true) turns turn (item_there turns number turn there) e) ∙ none in cc

    by : (turns : Option (List Turn)) → slice_get nodes at ≡ turns → ((to : ℕ) → is_marked marks to ≡ false → from_node numbers to ≡ false)
        → node_gives followed (from_node numbers) number (length numbers == 0) turns ≡ false
    by None here rest = refl
    by (Some turns) here rest = at_turn turns (slice_get turns number) refl (complete at turns here clear) rest

  -- a path from a start gives an address exactly where a start is marked
  pub starts_tell : (marks : List Bool) (starts : List ℕ) → AreGiving followed nodes marks → AreComplete followed nodes marks
      → (list_any (is_marked marks) starts ≡ true) ↔ PathGives followed nodes starts
  starts_tell marks starts giving complete = (there, back) where
    there : list_any (is_marked marks) starts ≡ true → PathGives followed nodes starts
    there some =
        let found = from_any (is_marked marks) starts some in
        let path = giving found.0 found.2 in
        record { at = found.0; numbers = path.0; starts_there = found.1; gives = path.1 }

    back : PathGives followed nodes starts → list_any (is_marked marks) starts ≡ true
    back path = any_has (is_marked marks) starts path.at path.starts_there (marked (is_marked marks path.at) refl) where
      marked : (b : Bool) → is_marked marks path.at ≡ b → b ≡ true
      marked true m = refl
      marked false m = let no : false ≡ true = sym (barren marks complete path.numbers path.at m) ∙ path.gives in cc
