-- And back: where no walk of the query ends overlong, it walks as the name with the other tail does.
use Rattle.std.proofs.Common.{◌≡◌, ◌≢◌, ℕ, ◌+◌, Bool, true, false, List, [], ◌∷◌, ◌++◌, map, length, slice_get, Contains, Option, Some, None, IsSome, option_map, sym, refl, ap, ◌∙◌, subst, inl, inr, ◌⊎◌}
use Rattle.std.specs.Prelude.{◌==◌, ◌&&◌, if◌then◌else◌}
use Rattle.std.specs.Option.{option_to_list}
use Rattle.std.proofs.lemmas.Simd.{map-map}
use Rattle.dns_data.specs.Name.{Labels}
use Rattle.dns_data.specs.declared.rr_type.RrType.{RrType}
use Rattle.dns_data.proofs.Membership.{item_there}
use Rattle.net_model.specs.declared.place.Place.{Place}
use Rattle.net_model.specs.declared.walk.Hop.{Hop}
use Rattle.net_model.specs.declared.walk.Hop.TheVariants.{Rewrite}
use Rattle.net_model.specs.declared.walk.Leaf.{Leaf}
use Rattle.net_model.specs.declared.walk.Leaf.TheVariants.{Overlong}
use Rattle.net_model.specs.declared.walk.State.{State}
use Rattle.net_model.specs.declared.walk.Walk.{Walk}
use Rattle.net_model.specs.Retail.{retail, retailed_hop, retailed_name, retailed_state}
use Rattle.net_model.specs.Step.{Setting, Branch, Go, End, arrived, next, start}
use Rattle.net_model.specs.Tails.{WalksAs, is_overlong}
use Rattle.net_model.specs.Walk.{IsBoundedWith, led_on, walk_along, walk_from}
use Rattle.net_model.proofs.Branches.{each_branch, place_in}
use Rattle.net_model.proofs.Leads.{EndsBy, GoesOn, branch_taken}
use Rattle.net_model.proofs.WalkEnds.{item}
use Rattle.walk_laws.proofs.WalksAlike.AlikeSteps.{map_same, retailed_tail}
use Rattle.walk_laws.proofs.WalksAlike.OpenWalks.{AllOpen, open_walks}
use Rattle.walk_laws.proofs.WalksAlike.QueryWalks.{begins_at, some_image, some_images}

module _ (setting : Setting) (rtype : RrType) (own other : Labels) (Among : State → Type 0) (all : AllOpen setting rtype own other Among) where
  abbrev there : Walk → Walk
  there = retail (length own) other

  abbrev back : Walk → Walk
  back = retail (length other) own

  name_back : (name above : Labels) → name ≡ above ++ own → retailed_name (length other) own (retailed_name (length own) other name) ≡ name
  name_back name above is =
      ap (λ (n : Labels). retailed_name (length other) own (retailed_name (length own) other n)) is
      ∙ ap (retailed_name (length other) own) (retailed_tail above own other) ∙ retailed_tail above other own ∙ sym is

  carried_stays : (state : State) → (retailed_state (length own) other state).carried ≡ state.carried
  carried_stays state = by state.carried where
    by : (b : Bool) → (if b then record state { name = retailed_name (length own) other state.name } else state).carried ≡ state.carried
    by true = refl
    by false = refl

  -- a state whose tail is replaced, and then replaced by its own, is the state
  state_back : (state : State) → Among state → retailed_state (length other) own (retailed_state (length own) other state) ≡ state
  state_back state among = by state.carried refl where
    by : (b : Bool) → state.carried ≡ b
        → retailed_state (length other) own (if b then record state { name = retailed_name (length own) other state.name } else state) ≡ state
    by true carried =
        let at = all.opens state among carried in
        let name : Labels = retailed_name (length own) other state.name in
        ap (λ (b : Bool). if b then record state { name = retailed_name (length other) own name } else record state { name = name }) carried
        ∙ ap (λ (n : Labels). record state { name = n }) (name_back state.name at.above at.is)
    by false carried =
        ap (λ (b : Bool). if b then record state { name = retailed_name (length other) own state.name } else state) carried

  -- so it is with the hop of a branch
  abbrev HopBack : State → Hop → Type 0
  HopBack state hop = retailed_hop (length other) own state.carried (retailed_hop (length own) other state.carried hop) ≡ hop

  abbrev BranchBack : State → Branch → Type 0
  BranchBack state (Go hop to) = Among to → HopBack state hop
  BranchBack state (End None leaf) = Unit {0}
  BranchBack state (End (Some hop) leaf) = HopBack state hop

  hops_back : (state : State) → (number : ℕ) (branch : Branch) → slice_get (next setting rtype state) number ≡ Some branch → BranchBack state branch
  hops_back state number branch is =
      item (BranchBack state) (next setting rtype state) number branch
      (each_branch setting rtype state (BranchBack state) (λ leaf. tt) (λ cut leaf. refl) (λ zone below cut ns names looks delegated among. refl)
      (λ zone by_dname owner to server looks left has among.
      by (place_in state zone owner) by_dname to server (state.carried) by_dname refl refl among)) is
    where
      by : (place : Place) (by_dname : Bool) (to server : Labels) (b c : Bool) → state.carried ≡ b → by_dname ≡ c
          → Among (arrived setting.config to (state.carried && by_dname) (state.used + 1) (Some place) server)
          → retailed_hop (length other) own b (retailed_hop (length own) other b (Rewrite place c to)) ≡ Rewrite place c to
      by place by_dname to server true true carried dname among =
          let at = all.opens (arrived setting.config to (state.carried && by_dname) (state.used + 1) (Some place) server) among (λ i. carried i && dname i) in
          ap (Rewrite place true) (name_back to at.above at.is)
      by place by_dname to server true false carried dname among = refl
      by place by_dname to server false c carried dname among = refl

  -- and with a whole walk
  walk_back : (numbers : List ℕ) (state : State) (walk : Walk) → Among state → walk_from setting rtype numbers state ≡ Some walk → back (there walk) ≡ walk
  walk_back [] state walk among e = cc
  walk_back (number ∷ numbers) state walk among e =
      by (branch_taken state (length numbers == 0) (walk_from setting rtype numbers) (slice_get (next setting rtype state) number) walk e)
      (λ to later amid goes. walk_back numbers to later amid goes)
    where
      hop_of : (hop : Hop) → HopBack state hop
          → retailed_hop (length other) own (retailed_state (length own) other state).carried (retailed_hop (length own) other state.carried hop) ≡ hop
      hop_of hop is =
          ap (λ (b : Bool). retailed_hop (length other) own b (retailed_hop (length own) other state.carried hop)) (carried_stays state) ∙ is

      ended : (hop : Option Hop) (leaf : Leaf) → BranchBack state (End hop leaf)
          → back (there (record { states = state ∷ []; hops = option_to_list hop; leaf = leaf })) ≡ record { states = state ∷ []; hops = option_to_list hop; leaf = leaf }
      ended None leaf is = λ i. record { states = state_back state among i ∷ []; hops = []; leaf = leaf }
      ended (Some hop) leaf is = λ i. record { states = state_back state among i ∷ []; hops = hop_of hop is i ∷ []; leaf = leaf }

      by : GoesOn state (walk_from setting rtype numbers) (slice_get (next setting rtype state) number) walk
          ⊎ EndsBy state (slice_get (next setting rtype state) number) walk
          → ((to : State) (later : Walk) → Among to → walk_from setting rtype numbers to ≡ Some later → back (there later) ≡ later)
          → back (there walk) ≡ walk
      by (inl goes) rest =
          let amid = all.on state among goes.hop goes.to (item_there (next setting rtype state) number (Go goes.hop goes.to) goes.is) in
          let hop = hop_of goes.hop (hops_back state number (Go goes.hop goes.to) goes.is amid) in
          let later = rest goes.to goes.later amid goes.goes in
          subst (λ (w : Walk). back (there w) ≡ w) goes.made (λ i. led_on (state_back state among i) (hop i) (later i))
      by (inr ends) rest =
          subst (λ (w : Walk). back (there w) ≡ w) ends.made (ended ends.hop ends.leaf (hops_back state number (End ends.hop ends.leaf) ends.is))

-- where the query begins among states with open tails, and no walk of it ends overlong, it walks as the name with the other
-- tail does
pub open_back : (setting : Setting) (rtype : RrType) (above own other : Labels) (Among : State → Type 0) → AllOpen setting rtype own other Among
    → setting.config.tops ≢ [] → ((state : State) → Contains (start setting.config (above ++ own)) state → Among state)
    → IsBoundedWith setting (above ++ own) rtype → WalksAs setting rtype above other own
open_back setting rtype above own other Among all tops begin bounded = record {
  walks = λ numbers walk e good. along numbers ∙ ap (option_map turned) e;
  bounded = λ none walks (paths, are, listed). (
    paths,
    record {
      ordered = are.ordered;
      all = λ numbers. (
        (λ has. subst (λ (o : Option Walk). IsSome o) (sym (along numbers)) ((some_image turned (walk_along setting (above ++ other) rtype numbers)).1 ((are.all numbers).0 has))),
        (λ is. (are.all numbers).1 ((some_image turned (walk_along setting (above ++ other) rtype numbers)).0 (subst (λ (o : Option Walk). IsSome o) (along numbers) is))),
      );
    },
    map_same (walk_along setting (above ++ own) rtype) (λ (numbers : List ℕ). option_map turned (walk_along setting (above ++ other) rtype numbers)) paths along
        ∙ sym (map-map (option_map turned) (walk_along setting (above ++ other) rtype) paths)
        ∙ ap (map (option_map turned)) listed ∙ some_images turned walks,
  );
  along = λ none numbers. along numbers;
  overlong = λ walk (numbers, e) long. absurd (never numbers (walk_along setting (above ++ own) rtype numbers) refl walk e long);
} where
  turned : Walk → Walk
  turned = retail (length other) own

  same : (numbers : List ℕ) → walk_along setting (above ++ other) rtype numbers ≡ option_map (retail (length own) other) (walk_along setting (above ++ own) rtype numbers)
  same = (open_walks setting rtype above own other Among all tops begin).along bounded

  found_back : (numbers : List ℕ) (found : Option Walk) → walk_along setting (above ++ own) rtype numbers ≡ found
      → found ≡ option_map turned (option_map (retail (length own) other) found)
  found_back numbers None is = refl
  found_back numbers (Some walk) is =
      let begun = begins_at setting (above ++ own) rtype numbers walk is in
      ap Some (sym (walk_back setting rtype own other Among all begun.rest begun.state walk
      (begin begun.state (item_there (start setting.config (above ++ own)) begun.number begun.state begun.starts)) begun.goes))

  along : (numbers : List ℕ) → walk_along setting (above ++ own) rtype numbers ≡ option_map turned (walk_along setting (above ++ other) rtype numbers)
  along numbers = found_back numbers (walk_along setting (above ++ own) rtype numbers) refl ∙ ap (option_map turned) (sym (same numbers))

  place_of : (leaf : Leaf) → is_overlong leaf ≡ true → (place : Place) × (leaf ≡ Overlong place)
  place_of (Overlong place) long = (place, refl)
  place_of leaf long = cc

  never : (numbers : List ℕ) (found : Option Walk) → walk_along setting (above ++ own) rtype numbers ≡ found → (walk : Walk)
      → walk_along setting (above ++ other) rtype numbers ≡ Some walk → is_overlong walk.leaf ≡ true → ⊥
  never numbers None is walk e long =
      let nothing : None ≡ Some walk = sym (same numbers ∙ ap (option_map (retail (length own) other)) is) ∙ e in cc
  never numbers (Some before) is walk e long =
      let whole : Some (retail (length own) other before) ≡ Some walk = sym (same numbers ∙ ap (option_map (retail (length own) other)) is) ∙ e in
      let one : retail (length own) other before ≡ walk = cc in
      let at = place_of walk.leaf long in
      bounded before at.0 (numbers, is) (ap (λ (w : Walk). w.leaf) one ∙ at.1)
