-- Walks of type A and of type AAAA take the same steps up to their ends. So a name has as many of the one type as of the
-- other.
use Rattle.std.proofs.Common.{◌≡◌, ℕ, zero, suc, Bool, true, false, ◌==◌, List, [], ◌∷◌, length, Option, Some, None, is_some, refl, sym, ap, ◌∙◌, inl, inr}
use Rattle.std.specs.Prelude.{◌⊎◌, option_and_then, option_map, slice_get}
use Rattle.dns_data.specs.Name.{Labels}
use Rattle.dns_data.specs.declared.rdata.Rdata.{Rdata}
use Rattle.dns_data.specs.declared.rr_type.RrType.TheVariants as types
use Rattle.net_model.specs.declared.config.Zone.{Zone}
use Rattle.net_model.specs.declared.walk.Leaf.{Leaf}
use Rattle.net_model.specs.declared.walk.Leaf.TheVariants.{Answer, NoData}
use Rattle.net_model.specs.declared.walk.State.{State}
use Rattle.net_model.specs.declared.walk.Walk.{Walk}
use Rattle.net_model.specs.Lookup.{Deciding, ByCut, ByRedirection, ByRecords, ByNothing, aliased, answer_of, answered, deciding, first_name}
use Rattle.net_model.specs.Nearest.{nearest_of}
use Rattle.net_model.specs.Order.{in_order}
use Rattle.net_model.specs.Step.{Branch, Go, End, Setting, after_lookup, in_zone, next, start}
use Rattle.net_model.specs.Walk.{branched, led_on, walk_along, walk_from}
use Rattle.net_model.specs.Zone.{data_at, data_cmp, targets_at}

-- branches are the same, or each are one end
abbrev AreAlike : List Branch → List Branch → Type 0
AreAlike some others = (some ≡ others) ⊎ ((one : Leaf) × (other : Leaf) × (some ≡ End None one ∷ []) × (others ≡ End None other ∷ []))

module _ (setting : Setting) where
  -- ---- a step

  at_data : (state : State) (origin : Labels) (four six : List Rdata) → AreAlike (after_lookup setting state origin (answer_of four)) (after_lookup setting state origin (answer_of six))
  at_data state origin [] [] = inl refl
  at_data state origin [] (first ∷ rest) = inr (NoData, Answer (first ∷ rest), refl, refl)
  at_data state origin (first ∷ rest) [] = inr (Answer (first ∷ rest), NoData, refl, refl)
  at_data state origin (four ∷ fours) (six ∷ sixes) = inr (Answer (four ∷ fours), Answer (six ∷ sixes), refl, refl)

  at_owner : (state : State) (zone : Zone) (owner : Labels) (target : Option Labels)
      → AreAlike (after_lookup setting state zone.origin (aliased zone owner types.A target)) (after_lookup setting state zone.origin (aliased zone owner types.Aaaa target))
  at_owner state zone owner (Some target) = inl refl
  at_owner state zone owner None = at_data state zone.origin (in_order data_cmp (data_at zone owner types.A)) (in_order data_cmp (data_at zone owner types.Aaaa))

  by_deciding : (state : State) (zone : Zone) (decides : Deciding)
      → AreAlike (after_lookup setting state zone.origin (answered zone state.name types.A decides)) (after_lookup setting state zone.origin (answered zone state.name types.Aaaa decides))
  by_deciding state zone (ByCut cut) = inl refl
  by_deciding state zone (ByRedirection owner target) = inl refl
  by_deciding state zone (ByRecords owner) = at_owner state zone owner (first_name (targets_at zone owner types.Cname))
  by_deciding state zone ByNothing = inl refl

  by_zone : (state : State) (zone : Option Zone) → AreAlike (in_zone setting types.A state zone) (in_zone setting types.Aaaa state zone)
  by_zone state None = inl refl
  by_zone state (Some zone) = by_deciding state zone (deciding zone state.name)

  next_alike : (state : State) → AreAlike (next setting types.A state) (next setting types.Aaaa state)
  next_alike state = by_zone state (nearest_of setting.config state.server state.name)

  -- ---- walks by their numbers

  mapped : (state : State) (hop : _) (one other : Option Walk) → is_some one ≡ is_some other → is_some (option_map (led_on state hop) one) ≡ is_some (option_map (led_on state hop) other)
  mapped state hop None None e = refl
  mapped state hop None (Some walk) e = e
  mapped state hop (Some walk) None e = e
  mapped state hop (Some walk) (Some other) e = refl

  by_branch : (state : State) (is_last : Bool) (one other : State → Option Walk) → ((to : State) → is_some (one to) ≡ is_some (other to)) → (branch : Option Branch)
      → is_some (branched state is_last one branch) ≡ is_some (branched state is_last other branch)
  by_branch state is_last one other each None = refl
  by_branch state is_last one other each (Some (Go hop to)) = mapped state hop (one to) (other to) (each to)
  by_branch state is_last one other each (Some (End hop leaf)) = refl

  at_end : (state : State) (is_last : Bool) (one other : State → Option Walk) (first second : Leaf) (number : ℕ)
      → is_some (branched state is_last one (slice_get (End None first ∷ []) number)) ≡ is_some (branched state is_last other (slice_get (End None second ∷ []) number))
  at_end state true one other first second zero = refl
  at_end state false one other first second zero = refl
  at_end state is_last one other first second (suc number) = refl

  from_state : (numbers : List ℕ) (state : State) → is_some (walk_from setting types.A numbers state) ≡ is_some (walk_from setting types.Aaaa numbers state)
  from_state [] state = refl
  from_state (number ∷ numbers) state =
      let four : State → Option Walk = walk_from setting types.A numbers in
      let six : State → Option Walk = walk_from setting types.Aaaa numbers in
      let is_last : Bool = length numbers == 0 in
      elim (next_alike state) [
        | inl same ↦
            ap (λ (branches : List Branch). is_some (branched state is_last four (slice_get branches number))) same
            ∙ by_branch state is_last four six (from_state numbers) (slice_get (next setting types.Aaaa state) number)
        | inr (one, other, is, also) ↦
            ap (λ (branches : List Branch). is_some (branched state is_last four (slice_get branches number))) is
            ∙ at_end state is_last four six one other number
            ∙ sym (ap (λ (branches : List Branch). is_some (branched state is_last six (slice_get branches number))) also)
      ]

  by_start : (numbers : List ℕ) (state : Option State) → is_some (option_and_then (walk_from setting types.A numbers) state) ≡ is_some (option_and_then (walk_from setting types.Aaaa numbers) state)
  by_start numbers None = refl
  by_start numbers (Some state) = from_state numbers state

  along : (query : Labels) (numbers : List ℕ) → is_some (walk_along setting query types.A numbers) ≡ is_some (walk_along setting query types.Aaaa numbers)
  along query [] = refl
  along query (number ∷ numbers) = by_start numbers (slice_get (start setting.config query) number)
