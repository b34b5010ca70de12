-- While more servers are followed, a query's walks stay the same where none of its walks ends at a server that is newly
-- followed.
use Rattle.std.proofs.Common.{◌≡◌, ◌↔◌, ◌∙◌, ℕ, zero, suc, ◌||◌, Bool, true, false, not, List, [], ◌∷◌, map, length, Option, Some, None, refl, sym, ap, subst, ◌==◌, true≢false}
use Rattle.std.specs.Prelude.{slice_get, option_and_then, option_map, if◌then◌else◌, IsSome}
use Rattle.std.specs.List.{AllByRecursion}
use Rattle.std.specs.Option.{option_to_list}
use Rattle.dns_data.specs.Name.{Labels, is_among}
use Rattle.dns_data.specs.declared.rr_type.RrType.{RrType}
use Rattle.net_model.specs.declared.config.Config.{Config}
use Rattle.net_model.specs.declared.config.Zone.{Zone}
use Rattle.net_model.specs.declared.found.Found.{Found}
use Rattle.net_model.specs.declared.found.Found.TheVariants as found_as
use Rattle.net_model.specs.declared.place.Cut.{Cut}
use Rattle.net_model.specs.declared.walk.Hop.{Hop}
use Rattle.net_model.specs.declared.walk.Hop.TheVariants.{Refer}
use Rattle.net_model.specs.declared.walk.Leaf.TheVariants.{NoAddress, Unhosted}
use Rattle.net_model.specs.declared.walk.State.{State}
use Rattle.net_model.specs.declared.walk.Walk.{Walk}
use Rattle.net_model.specs.Learnt.{LearnsBy}
use Rattle.net_model.specs.Lookup.{found}
use Rattle.net_model.specs.Nearest.{is_configured, is_top, nearest_of}
use Rattle.net_model.specs.Step.{Setting, Branch, Go, End, following, may_follow, has_glue, delegated, referred, after_lookup, in_zone, next, start}
use Rattle.net_model.specs.Walk.{IsWalk, branched, led_on, walk_along, walk_from}
use Rattle.plain_resolver.specs.Passed.{HasMoreWalks}
use Rattle.plain_resolver.specs.KnownNames.{IsPartOf}

-- what holds of each item for one property holds of each for one that follows from it
pub each_so : {X : Type 0} {P Q : X → Type 0} → ((x : X) → P x → Q x) → (xs : List X) → AllByRecursion P xs → AllByRecursion Q xs
each_so turn [] each = tt
each_so turn (x ∷ xs) (here, later) = (turn x here, each_so turn xs later)

module _ (config : Config) (rewrites : ℕ) (followed more : List Labels) (part : IsPartOf followed more) where
  abbrev fewer : Setting
  fewer = following config rewrites followed

  abbrev wider : Setting
  wider = following config rewrites more

  -- the server isn't newly followed
  abbrev pub IsntNew : Labels → Type 0
  IsntNew ns = is_among more ns ≡ true → is_among followed ns ≡ true

  -- the branch doesn't end at a server that is newly followed
  abbrev StaysBranch : Branch → Type 0
  StaysBranch branch = (hop : Option Hop) (ns : Labels) → branch ≡ End hop (NoAddress ns) → IsntNew ns

  -- none of the branches does
  abbrev StayBranches : List Branch → Type 0
  StayBranches branches = (number : ℕ) (branch : Branch) → slice_get branches number ≡ Some branch → StaysBranch branch

  -- ---- steps

  referral : (state : State) (cut : Cut) → StaysBranch (referred fewer state cut) → referred fewer state cut ≡ referred wider state cut
  referral state cut stays =
      by (is_configured config cut.ns) (is_top config cut.ns || has_glue config cut) (is_among followed cut.ns) (is_among more cut.ns) (part cut.ns)
      (λ configured may. stays (Some (Refer cut)) cut.ns
      (ap (λ (b : Bool). if not b then End (Some (Refer cut)) (Unhosted cut.ns)
      else (if not (may_follow config cut followed) then End (Some (Refer cut)) (NoAddress cut.ns) else delegated state cut (nearest_of config cut.ns state.name))) configured
      ∙ ap (λ (b : Bool). if not b then End (Some (Refer cut)) (NoAddress cut.ns) else delegated state cut (nearest_of config cut.ns state.name)) may))
    where
      by : (configured known here there : Bool) → (here ≡ true → there ≡ true) → (configured ≡ true → (known || here) ≡ false → there ≡ true → here ≡ true)
          → (if not configured then End (Some (Refer cut)) (Unhosted cut.ns)
          else (if not (known || here) then End (Some (Refer cut)) (NoAddress cut.ns) else delegated state cut (nearest_of config cut.ns state.name)))
          ≡ (if not configured then End (Some (Refer cut)) (Unhosted cut.ns)
          else (if not (known || there) then End (Some (Refer cut)) (NoAddress cut.ns) else delegated state cut (nearest_of config cut.ns state.name)))
      by false known here there one other = refl
      by true true here there one other = refl
      by true false true true one other = refl
      by true false true false one other = absurd (true≢false (sym (one refl)))
      by true false false true one other = absurd (true≢false (sym (other refl refl refl)))
      by true false false false one other = refl

  referrals : (state : State) (to : Labels → Cut) (names : List Labels) → StayBranches (map (λ ns. referred fewer state (to ns)) names)
      → map (λ ns. referred fewer state (to ns)) names ≡ map (λ ns. referred wider state (to ns)) names
  referrals state to [] stay = refl
  referrals state to (ns ∷ names) stay =
      ap (λ (b : Branch). b ∷ map (λ n. referred fewer state (to n)) names) (referral state (to ns) (stay zero (referred fewer state (to ns)) refl))
      ∙ ap (λ (bs : List Branch). referred wider state (to ns) ∷ bs) (referrals state to names (λ number. stay (suc number)))

  looked_up : (state : State) (origin : Labels) (what : Found) → StayBranches (after_lookup fewer state origin what)
      → after_lookup fewer state origin what ≡ after_lookup wider state origin what
  looked_up state origin (found_as.Answer rdata) stay = refl
  looked_up state origin found_as.NoData stay = refl
  looked_up state origin found_as.NxDomain stay = refl
  looked_up state origin (found_as.Referral cut names) stay =
      referrals state (λ ns. record { server = state.server; zone = origin; cut = cut; ns = ns }) names stay
  looked_up state origin (found_as.Rewrite by_dname owner to) stay = refl
  looked_up state origin (found_as.TooLong owner) stay = refl

  same_next : (rtype : RrType) (state : State) → StayBranches (next fewer rtype state) → next fewer rtype state ≡ next wider rtype state
  same_next rtype state = by (nearest_of config state.server state.name) where
    by : (zone : Option Zone) → StayBranches (in_zone fewer rtype state zone) → in_zone fewer rtype state zone ≡ in_zone wider rtype state zone
    by None stay = refl
    by (Some zone) stay = looked_up state zone.origin (found zone state.name rtype) stay

  -- ---- walks

  module _ (rtype : RrType) where
    -- no walk from the state ends at a server that is newly followed
    abbrev StaysFrom : State → Type 0
    StaysFrom state = (numbers : List ℕ) (walk : Walk) (ns : Labels) → walk_from fewer rtype numbers state ≡ Some walk → walk.leaf ≡ NoAddress ns → IsntNew ns

    branches_stay : (state : State) → StaysFrom state → StayBranches (next fewer rtype state)
    branches_stay state stays number branch at hop ns ends =
        stays (number ∷ []) (record { states = state ∷ []; hops = option_to_list hop; leaf = NoAddress ns }) ns
        (ap (branched state true (walk_from fewer rtype [])) (at ∙ ap (λ (b : Branch). Some b) ends)) refl

    stays_on : (state : State) → StaysFrom state → (number : ℕ) (hop : Hop) (to : State) → slice_get (next fewer rtype state) number ≡ Some (Go hop to) → StaysFrom to
    stays_on state stays number hop to at numbers walk ns is ends =
        stays (number ∷ numbers) (led_on state hop walk) ns
        (ap (branched state (length numbers == 0) (walk_from fewer rtype numbers)) at ∙ ap (option_map (led_on state hop)) is) ends

    same_from : (numbers : List ℕ) (state : State) → StaysFrom state → walk_from fewer rtype numbers state ≡ walk_from wider rtype numbers state
    same_from [] state stays = refl
    same_from (number ∷ numbers) state stays =
        by (slice_get (next fewer rtype state) number) refl (same_from numbers)
        ∙ ap (λ (steps : List Branch). branched state (length numbers == 0) (walk_from wider rtype numbers) (slice_get steps number))
        (same_next rtype state (branches_stay state stays))
      where
        by : (branch : Option Branch) → slice_get (next fewer rtype state) number ≡ branch
            → ((to : State) → StaysFrom to → walk_from fewer rtype numbers to ≡ walk_from wider rtype numbers to)
            → branched state (length numbers == 0) (walk_from fewer rtype numbers) branch ≡ branched state (length numbers == 0) (walk_from wider rtype numbers) branch
        by None at rest = refl
        by (Some (Go hop to)) at rest = ap (λ (later : Option Walk). option_map (led_on state hop) later) (rest to (stays_on state stays number hop to at))
        by (Some (End hop leaf)) at rest = refl

    module _ (query : Labels) (stay : (walk : Walk) (ns : Labels) → IsWalk fewer query rtype walk → walk.leaf ≡ NoAddress ns → IsntNew ns) where
      -- each list of numbers tells the same walk while more are followed, or none
      pub same_along : (numbers : List ℕ) → walk_along fewer query rtype numbers ≡ walk_along wider query rtype numbers
      same_along [] = refl
      same_along (number ∷ numbers) = by (slice_get (start config query) number) refl where
        by : (state : Option State) → slice_get (start config query) number ≡ state
            → option_and_then (walk_from fewer rtype numbers) state ≡ option_and_then (walk_from wider rtype numbers) state
        by None at = refl
        by (Some state) at =
            same_from numbers state
            (λ later walk ns is. stay walk ns (number ∷ later, ap (option_and_then (walk_from fewer rtype later)) at ∙ is))

      -- an address is learnt by the type exactly where it is while more are followed
      pub learns_same : LearnsBy fewer query rtype ↔ LearnsBy wider query rtype
      learns_same = (
        λ learns. record { walk = learns.walk; is_walk = (learns.is_walk.0, sym (same_along learns.is_walk.0) ∙ learns.is_walk.1); ends = learns.ends },
        λ learns. record { walk = learns.walk; is_walk = (learns.is_walk.0, same_along learns.is_walk.0 ∙ learns.is_walk.1); ends = learns.ends },
      )

      -- there are no more walks than so many while more are followed where there aren't while fewer are
      pub more_same : (most : ℕ) → HasMoreWalks wider query rtype most → HasMoreWalks fewer query rtype most
      more_same most many =
          record {
            items = many.items;
            more = many.more;
            differ = many.differ;
            each = each_so (λ numbers some. subst (λ (walk : Option Walk). IsSome walk) (sym (same_along numbers)) some) many.items many.each;
          }
