-- A search begins at the top servers: at all of them, or at those that hold a zone for a name, which are the same for each
-- name below it with no origin between.
use Rattle.std.proofs.Common.{◌≡◌, ◌<◌, ◌≤◌, Bool, true, false, cond, List, [], ◌∷◌, length, map, filter, Contains, Option, Some, None, is_some, true≢false, refl, sym, ap, ◌∙◌, subst, inl, inr, arith, lt-ltb}
use Rattle.std.specs.Prelude.{◌⊎◌, nat_lt}
use Rattle.std.proofs.lemmas.Bool.{ltb-true}
use Rattle.std.proofs.lemmas.List.{length-map}
use Rattle.dns_data.specs.Name.{Labels}
use Rattle.dns_data.proofs.Membership.{filter_has, first_or_later, from_filter, from_map, has_first, has_later, map_has, none_in_nil}
use Rattle.net_model.specs.Nearest.{nearest_of}
use Rattle.net_model.specs.Step.{arrived, start}
use Rattle.net_model.specs.declared.config.Config.{Config}
use Rattle.net_model.specs.declared.config.Zone.{Zone}
use Rattle.net_model.specs.declared.walk.State.{State}
use Rattle.zone_lookup.specs.Tops.{tops_holding}
use Rattle.straight_walks.specs.Searching.{BeginsAtTops, IsBegun, queued_state, state_at}
use Rattle.straight_walks.specs.Straight.{NoOriginBetween}
use Rattle.straight_walks.specs.declared.queue.Queued.{Queued}
use Rattle.straight_walks.proofs.BelowOrigins.{same_nearest}

-- ---- how many pass a test

module _ {X : Type 0} (test : X → Bool) where
  no_more_pass : (xs : List X) → length (filter test xs) ≤ length xs
  no_more_pass [] = omega arith
  no_more_pass (x ∷ xs) = by (test x) (no_more_pass xs) where
    by : (b : Bool) → length (filter test xs) ≤ length xs → length (cond b (x ∷ filter test xs) (filter test xs)) ≤ length (x ∷ xs)
    by true rest = omega (arith, rest)
    by false rest = omega (arith, rest)

  -- fewer items pass a test than there are if one fails it
  fewer_pass : (xs : List X) (x : X) → Contains xs x → test x ≡ false → length (filter test xs) < length xs
  fewer_pass [] x has fails = absurd (none_in_nil x has)
  fewer_pass (first ∷ xs) x has fails = by (test first) refl (first_or_later first xs x has) (fewer_pass xs x) where
    by : (b : Bool) → test first ≡ b → (first ≡ x) ⊎ Contains xs x → (Contains xs x → test x ≡ false → length (filter test xs) < length xs)
        → length (cond b (first ∷ filter test xs) (filter test xs)) < length (first ∷ xs)
    by true e (inl same) rest = absurd (true≢false (sym e ∙ ap test same ∙ fails))
    by true e (inr later) rest = omega (arith, rest later fails)
    by false e at rest = omega (arith, no_more_pass xs)

  -- one fails it if fewer pass than there are
  one_fails : (xs : List X) → length (filter test xs) < length xs → (x : X) × Contains xs x × (test x ≡ false)
  one_fails [] fewer = absurd (omega (arith, fewer))
  one_fails (first ∷ xs) fewer = by (test first) refl fewer (one_fails xs) where
    by : (b : Bool) → test first ≡ b → length (cond b (first ∷ filter test xs) (filter test xs)) < length (first ∷ xs)
        → (length (filter test xs) < length xs → (x : X) × Contains xs x × (test x ≡ false)) → (x : X) × Contains (first ∷ xs) x × (test x ≡ false)
    by true e fewer rest = let (x, has, fails) = rest (omega (arith, fewer)) in (x, has_later first xs x has, fails)
    by false e fewer rest = (first, has_first first xs, e)

-- no zone is held where there is none
none_there : (zone : Option Zone) → is_some zone ≡ false → zone ≡ None
none_there None e = refl
none_there (Some zone) e = cc

-- ---- where a search begins

module _ (config : Config) (query : Labels) (queue : List Queued) where
  -- whether some top server isn't queued
  abbrev pub some_left : Bool
  some_left = nat_lt (length queue) (length config.tops)

  -- as many states are queued as there are servers at which they are
  as_many : (servers : List Labels) → map (queued_state config query) queue ≡ map (λ server. state_at config query server 0) servers → length queue ≡ length servers
  as_many servers is =
      sym (length-map queue (queued_state config query)) ∙ ap (λ (all : List State). length all) is ∙ length-map servers (λ server. state_at config query server 0)

  -- a search begins at the top servers if the states at all of them are queued
  pub begins_at_all : map (queued_state config query) queue ≡ start config query → BeginsAtTops config query queue some_left
  begins_at_all is =
      record {
        each = λ top has. inl (subst (λ (all : List State). Contains all (state_at config query top 0)) (sym is) (map_has (arrived config query true 0 None) config.tops top has));
        only = λ one has. subst (λ (all : List State). Contains all (queued_state config query one)) is (map_has (queued_state config query) queue one has);
        told = λ fewer.
            let less : length queue < length config.tops = ltb-true (length queue) (length config.tops) fewer in
            absurd (omega (arith, less, as_many config.tops is));
      }

  -- and if those at all that hold a zone for a name are, and no origin stands between that and the query
  module _ (name : Labels) (between : NoOriginBetween config name query)
      (is : map (queued_state config query) queue ≡ map (λ server. state_at config query server 0) (tops_holding config name)) where
    abbrev holds : Labels → Bool
    holds top = is_some (nearest_of config top name)

    begun : (top : Labels) → Contains config.tops top → (zone : Option Zone) → nearest_of config top name ≡ zone → IsBegun config query queue some_left top
    begun top has (Some zone) near =
        inl (subst (λ (all : List State). Contains all (state_at config query top 0)) (sym is)
        (map_has (λ server. state_at config query server 0) (tops_holding config name) top (filter_has holds config.tops top has (ap is_some near))))
    begun top has None near =
        inr (
          lt-ltb (length queue) (length config.tops) (omega (arith, as_many (tops_holding config name) is, fewer_pass holds config.tops top has (ap is_some near))),
          same_nearest config name query between top ∙ near,
        )

    pub begins_at_holding : BeginsAtTops config query queue some_left
    begins_at_holding =
        record {
          each = λ top has. begun top has (nearest_of config top name) refl;
          only = λ one has.
              let from = from_map (λ (server : Labels). state_at config query server 0) (tops_holding config name) (queued_state config query one)
              (subst (λ (all : List State). Contains all (queued_state config query one)) is (map_has (queued_state config query) queue one has)) in
              subst (Contains (start config query)) from.2
              (map_has (arrived config query true 0 None) config.tops from.0 (from_filter holds config.tops from.0 from.1).0);
          told = λ fewer.
              let less : length queue < length config.tops = ltb-true (length queue) (length config.tops) fewer in
              let (top, has, none) = one_fails holds config.tops (omega (arith, less, as_many (tops_holding config name) is)) in
              (top, has, same_nearest config name query between top ∙ none_there (nearest_of config top name) none);
        }
