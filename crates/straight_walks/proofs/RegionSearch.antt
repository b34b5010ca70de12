-- The search for all names whose nearest origin is the same: it passes a state where it does so for the origin.
use Rattle.std.proofs.Common.{◌≡◌, Vec, Global, ℕ, ◌+◌, ◌<◌, ◌≤◌, Bool, true, List, [], ◌∷◌, ◌++◌, length, map, take, take_all, get_or, Bor, sym, ap, ◌∙◌, subst, inl, inr, arith}
use Rattle.std.specs.Prelude.{◌⊎◌, Contains}
use Rattle.std.proofs.lemmas.List.{append-nil, length-append, take_more, take-append-le}
use Rattle.std.proofs.lemmas.List.Elements.{Contains-append_cases, Contains-append_left, Contains-append_right, Contains-get_or}
use Rattle.dns_data.specs.Name.{Labels}
use Rattle.dns_data.proofs.Membership.{first_or_later, from_map, has_first, map_has, none_in_nil}
use Rattle.dns_data.proofs.NameFronts.{is_prefix_tells}
use Rattle.net_model.specs.declared.deps.Deps.{Deps}
use Rattle.net_model.specs.Lookup.{deciding}
use Rattle.net_model.specs.Zone.{ns_names}
use Rattle.net_model.specs.declared.config.Config.{Config}
use Rattle.net_model.specs.declared.walk.State.{State}
use Rattle.zone_lookup.proofs.Glue.{further_below}
use Rattle.zone_tree.specs.Tree.{ZoneTree, name_of}
use Rattle.zone_lookup.specs.Reply.{IsReply}
use Rattle.straight_walks.specs.Faulty.{AreAbove}
use Rattle.straight_walks.specs.Searching.{AreReferrals, Extends, HasWalked, PassesServer, queued_state, unanswered}
use Rattle.straight_walks.specs.Regions.{IsAnsweringMore, IsLookedAt, IsPassedMore, IsSearchBelow}
use Rattle.straight_walks.specs.Straight.{NoOriginBetween}
use Rattle.straight_walks.specs.declared.ends.StraightEnds.{StraightEnds}
use Rattle.straight_walks.specs.declared.faulty.Faulty.{Faulty}
use Rattle.straight_walks.specs.declared.queue.Queued.{Queued}
use Rattle.straight_walks.specs.declared.region.RegionSearch.{RegionSearch}
use Rattle.straight_walks.specs.declared.searching.Search.{Search}
use Rattle.zone_lookup.specs.declared.reply.Reply.TheVariants as reply
use Rattle.straight_walks.proofs.BelowOrigins.{cut_stays, none_between_itself, same_nearest}
use Rattle.straight_walks.proofs.OtherNames.{refers_for}
use Rattle.straight_walks.proofs.StraightSearch.{one_walked, outside_passes, referral_passes, same_faulty_told, walked_among}

module _ (config : Config) (deps : Deps) (origin : Labels) where
  -- ---- one server

  -- walks for each name below the origin with no other between pass a server that has no zone for the origin
  pub outside_past : (server : Labels) (queue : List Queued) (fails : Bool) (faulty : Vec Faulty Global) → IsReply config server origin reply.Outside
      → (query : Labels) → NoOriginBetween config origin query → PassesServer config deps query server queue (unanswered fails faulty) queue (unanswered true faulty)
  outside_past server queue fails faulty so query nearest =
      outside_passes config deps query server queue (unanswered fails faulty) (same_nearest config origin query nearest server ∙ so)

  -- a server whose zone refers the origin refers each name below it, with no other origin between, by the same zone cut
  pub refers_below : (server : Labels) (tree : Bor ZoneTree) (cut : ℕ) → IsReply config server origin (reply.Refers tree cut)
      → (query : Labels) → NoOriginBetween config origin query → IsReply config server query (reply.Refers tree cut)
  refers_below server tree cut so query nearest =
      let begins = is_prefix_tells origin query nearest.above in (
        same_nearest config origin query nearest server ∙ so.0,
        (
          so.1.0,
          record {
            inside = further_below tree.now.zone.origin origin query so.1.1.inside nearest.above;
            decides = ap (deciding tree.now.zone) (sym begins.1) ∙ cut_stays tree.now.zone origin begins.0 (name_of tree.now cut) so.1.1.decides;
          },
        ),
      )

  -- walks for each name below the origin with no other between pass a server whose zone refers the origin
  pub referral_past : (server : Labels) (queue : List Queued) (fails_before : Bool) (before : Vec Faulty Global) (after : List Queued) (fails : Bool) (faulty : Vec Faulty Global)
      (tree : Bor ZoneTree) (cut : ℕ) → IsReply config server origin (reply.Refers tree cut)
      → AreReferrals config deps origin server tree.now.zone (name_of tree.now cut) (ns_names tree.now.zone (name_of tree.now cut))
      (record { queue = queue; fails = fails_before; faulty = before.items }) (record { queue = after; fails = fails; faulty = faulty.items })
      → AreAbove origin before.items → (query : Labels) → NoOriginBetween config origin query
      → PassesServer config deps query server queue (unanswered fails_before before) after (unanswered fails faulty)
  referral_past server queue fails_before before after fails faulty tree cut so on above query nearest =
      referral_passes config deps query server queue (unanswered fails_before before) tree cut after fails faulty (refers_below server tree cut so query nearest)
      (refers_for config deps origin query (same_nearest config origin query nearest) server tree.now.zone (name_of tree.now cut) (ns_names tree.now.zone (name_of tree.now cut))
      nearest.above (record { queue = queue; fails = fails_before; faulty = before.items }) (record { queue = after; fails = fails; faulty = faulty.items }) above on)

  -- ---- those that are either out

  -- so many of the states are looked at: each of these is among those that are passed or those whose servers answer,
  -- which are all queued, and for each of the names the search has walked over those that are passed
  pub record AreLookedAt (at : ℕ) (search : RegionSearch) : Type 0 where
    pub within : at ≤ length search.queue
    pub walked : (query : Labels) → NoOriginBetween config origin query → HasWalked config deps query search.queue search.passed.items (unanswered search.fails search.faulty)
    pub either : (one : Queued) → Contains (take at search.queue) one → Contains (search.passed.items ++ search.answering.items) one
    pub only : (one : Queued) → Contains (search.passed.items ++ search.answering.items) one → Contains search.queue one

  -- where a search has begun no state is looked at
  pub none_looked_at : (begun : Search) → IsSearchBelow config deps origin begun → begun.passed ≡ 0 → (search : RegionSearch) → search.queue ≡ begun.queue.items
      → search.passed.items ≡ [] → search.answering.items ≡ [] → search.fails ≡ begun.fails → search.faulty ≡ begun.faulty → AreLookedAt 0 search
  none_looked_at begun is first search queue_is passed_is answering_is fails_is faulty_is =
      record {
        within = omega arith;
        walked = λ query nearest.
            subst (λ (passed : List Queued). HasWalked config deps query search.queue passed (unanswered search.fails search.faulty)) (sym passed_is)
            (subst (λ (ends : StraightEnds). HasWalked config deps query search.queue [] ends) (λ i. unanswered (sym fails_is i) (sym faulty_is i))
            (subst (λ (queue : List Queued). HasWalked config deps query queue [] (unanswered begun.fails begun.faulty)) (sym queue_is)
            (subst (λ (n : ℕ). HasWalked config deps query begun.queue.items (take n begun.queue.items) (unanswered begun.fails begun.faulty)) first (is query nearest).walked)));
        either = λ one has. absurd (none_in_nil one has);
        only = λ one has. absurd (none_in_nil one
            (subst (λ (all : List Queued). Contains all one) (ap (λ (p : List Queued). p ++ search.answering.items) passed_is ∙ answering_is) has));
      }

  -- an item more on either side
  more_passed : (passed answering : List Queued) (item one : Queued) → Contains (passed ++ answering) one ⊎ (item ≡ one) → Contains ((passed ++ item ∷ []) ++ answering) one
  more_passed passed answering item one (inl has) = by (Contains-append_cases passed answering one has) where
    by : Contains passed one ⊎ Contains answering one → Contains ((passed ++ item ∷ []) ++ answering) one
    by (inl left) = Contains-append_left (passed ++ item ∷ []) answering one (Contains-append_left passed (item ∷ []) one left)
    by (inr right) = Contains-append_right (passed ++ item ∷ []) answering one right
  more_passed passed answering item one (inr is) =
      Contains-append_left (passed ++ item ∷ []) answering one (Contains-append_right passed (item ∷ []) one (subst (Contains (item ∷ [])) is (has_first item [])))

  more_answering : (passed answering : List Queued) (item one : Queued) → Contains (passed ++ answering) one ⊎ (item ≡ one) → Contains (passed ++ (answering ++ item ∷ [])) one
  more_answering passed answering item one (inl has) = by (Contains-append_cases passed answering one has) where
    by : Contains passed one ⊎ Contains answering one → Contains (passed ++ (answering ++ item ∷ [])) one
    by (inl left) = Contains-append_left passed (answering ++ item ∷ []) one left
    by (inr right) = Contains-append_right passed (answering ++ item ∷ []) one (Contains-append_left answering (item ∷ []) one right)
  more_answering passed answering item one (inr is) =
      Contains-append_right passed (answering ++ item ∷ []) one (Contains-append_right answering (item ∷ []) one (subst (Contains (item ∷ [])) is (has_first item [])))

  -- and the other way round
  last_or_before : (items : List Queued) (item one : Queued) → Contains (items ++ item ∷ []) one → Contains items one ⊎ (item ≡ one)
  last_or_before items item one has = by (Contains-append_cases items (item ∷ []) one has) where
    last : (item ≡ one) ⊎ Contains [] one → Contains items one ⊎ (item ≡ one)
    last (inl same) = inr same
    last (inr none) = absurd (none_in_nil one none)

    by : Contains items one ⊎ Contains (item ∷ []) one → Contains items one ⊎ (item ≡ one)
    by (inl before) = inl before
    by (inr here) = last (first_or_later item [] one here)

  either_before : (passed answering : List Queued) (item one : Queued) → Contains ((passed ++ item ∷ []) ++ answering) one → Contains (passed ++ answering) one ⊎ (item ≡ one)
  either_before passed answering item one has = by (Contains-append_cases (passed ++ item ∷ []) answering one has) where
    left : Contains passed one ⊎ (item ≡ one) → Contains (passed ++ answering) one ⊎ (item ≡ one)
    left (inl before) = inl (Contains-append_left passed answering one before)
    left (inr same) = inr same

    by : Contains (passed ++ item ∷ []) one ⊎ Contains answering one → Contains (passed ++ answering) one ⊎ (item ≡ one)
    by (inl among) = left (last_or_before passed item one among)
    by (inr right) = inl (Contains-append_right passed answering one right)

  answering_before : (passed answering : List Queued) (item one : Queued) → Contains (passed ++ (answering ++ item ∷ [])) one → Contains (passed ++ answering) one ⊎ (item ≡ one)
  answering_before passed answering item one has = by (Contains-append_cases passed (answering ++ item ∷ []) one has) where
    right : Contains answering one ⊎ (item ≡ one) → Contains (passed ++ answering) one ⊎ (item ≡ one)
    right (inl before) = inl (Contains-append_right passed answering one before)
    right (inr same) = inr same

    by : Contains passed one ⊎ Contains (answering ++ item ∷ []) one → Contains (passed ++ answering) one ⊎ (item ≡ one)
    by (inl left) = inl (Contains-append_left passed answering one left)
    by (inr among) = right (last_or_before answering item one among)

  -- one more of the states is looked at
  module _ (before after : RegionSearch) (at : ℕ) (item : Queued) (within : at < length before.queue) (is : item ≡ get_or before.queue at item) (so : AreLookedAt at before) where
    queued : Contains before.queue item
    queued = subst (Contains before.queue) (sym is) (Contains-get_or before.queue at item within)

    in_reach : Extends before.queue after.queue → at + 1 ≤ length after.queue
    in_reach more = subst (λ (all : List Queued). at + 1 ≤ length all) (sym more.1) (omega (arith, within, length-append before.queue more.0))

    -- of the states up to the next one
    so_far : Extends before.queue after.queue → (other : Queued) → Contains (take (at + 1) after.queue) other
        → Contains (before.passed.items ++ before.answering.items) other ⊎ (item ≡ other)
    so_far more other has = by (last_or_before (take at before.queue) item other (subst (λ (all : List Queued). Contains all other) passed_over has)) where
      passed_over : take (at + 1) after.queue ≡ take at before.queue ++ item ∷ []
      passed_over =
          ap (take (at + 1)) more.1 ∙ take-append-le (at + 1) before.queue more.0 (omega (arith, within)) ∙ take_more before.queue at item within
          ∙ (λ j. take at before.queue ++ sym is j ∷ [])

      by : Contains (take at before.queue) other ⊎ (item ≡ other) → Contains (before.passed.items ++ before.answering.items) other ⊎ (item ≡ other)
      by (inl early) = inl (so.either other early)
      by (inr same) = inr same

    -- each of those that were looked at is queued, and so is the next one
    still_queued_after : Extends before.queue after.queue → (other : Queued) → Contains (before.passed.items ++ before.answering.items) other ⊎ (item ≡ other)
        → Contains after.queue other
    still_queued_after more other among = subst (λ (all : List Queued). Contains all other) (sym more.1) (Contains-append_left before.queue more.0 other (by among)) where
      by : Contains (before.passed.items ++ before.answering.items) other ⊎ (item ≡ other) → Contains before.queue other
      by (inl has) = so.only other has
      by (inr same) = subst (Contains before.queue) same queued

    -- one state more is looked at if it is passed
    pub passed_looked_at : IsPassedMore config deps origin item before after → AreLookedAt (at + 1) after
    passed_looked_at more =
        record {
          within = in_reach more.extends;
          walked = λ query nearest.
              subst (λ (passed : List Queued). HasWalked config deps query after.queue passed (unanswered after.fails after.faulty)) (sym more.passed)
              (one_walked config deps query before.queue after.queue before.passed.items (unanswered before.fails before.faulty) (unanswered after.fails after.faulty) item queued
              (so.walked query nearest) (more.passes (so.walked origin (none_between_itself config origin)).above query nearest));
          either = λ other has.
              subst (λ (all : List Queued). Contains all other) (sym both) (more_passed before.passed.items before.answering.items item other (so_far more.extends other has));
          only = λ other has.
              still_queued_after more.extends other
              (either_before before.passed.items before.answering.items item other (subst (λ (all : List Queued). Contains all other) both has));
        }
      where
        both : after.passed.items ++ after.answering.items ≡ (before.passed.items ++ item ∷ []) ++ before.answering.items
        both = ap (λ (p : List Queued). p ++ after.answering.items) more.passed ∙ ap (λ (a : List Queued). (before.passed.items ++ item ∷ []) ++ a) more.answering

    -- one state more is looked at if its server answers
    pub answering_looked_at : IsAnsweringMore item before after → AreLookedAt (at + 1) after
    answering_looked_at more =
        record {
          within = in_reach same_queue;
          walked = λ query nearest.
              subst (λ (queue : List Queued). HasWalked config deps query queue after.passed.items (unanswered after.fails after.faulty)) (sym more.queue)
              (subst (λ (passed : List Queued). HasWalked config deps query before.queue passed (unanswered after.fails after.faulty)) (sym more.passed)
              (subst (λ (ends : StraightEnds). HasWalked config deps query before.queue before.passed.items ends) (λ i. unanswered (sym more.fails i) (sym more.faulty i))
              (so.walked query nearest)));
          either = λ other has.
              subst (λ (all : List Queued). Contains all other) (sym both) (more_answering before.passed.items before.answering.items item other (so_far same_queue other has));
          only = λ other has.
              still_queued_after same_queue other
              (answering_before before.passed.items before.answering.items item other (subst (λ (all : List Queued). Contains all other) both has));
        }
      where
        same_queue : Extends before.queue after.queue
        same_queue = ([], more.queue ∙ sym (append-nil before.queue))

        both : after.passed.items ++ after.answering.items ≡ before.passed.items ++ (before.answering.items ++ item ∷ [])
        both = ap (λ (p : List Queued). p ++ after.answering.items) more.passed ∙ ap (λ (a : List Queued). before.passed.items ++ a) more.answering

    -- once the next state was looked at, one more of the states was
    pub one_looked_at : IsLookedAt config deps origin item before after → AreLookedAt (at + 1) after
    one_looked_at (inl more) = passed_looked_at more
    one_looked_at (inr more) = answering_looked_at more

  -- where all are looked at the search is one for each of the names
  pub all_looked_at : (search : RegionSearch) (at : ℕ) → AreLookedAt at search → length search.queue ≤ at
      → (searched : Search) → searched.queue.items ≡ search.passed.items ++ search.answering.items → searched.passed ≡ length search.passed.items → searched.fails ≡ search.fails
      → searched.faulty.items ≡ search.faulty.items → IsSearchBelow config deps origin searched
  all_looked_at search at so all searched queue_is passed_is fails_is faulty_is query nearest =
      record {
        within = omega (arith, ap (λ (l : List Queued). length l) queue_is, length-append search.passed.items search.answering.items, passed_is);
        walked =
            subst (λ (first : List Queued). HasWalked config deps query searched.queue.items first (unanswered searched.fails searched.faulty)) (sym first_are)
            (subst (λ (fails : Bool). HasWalked config deps query searched.queue.items search.passed.items (unanswered fails searched.faulty)) (sym fails_is)
            (same_faulty_told config deps query searched.queue.items search.passed.items (unanswered search.fails search.faulty) searched.faulty faulty_is
            (walked_among config deps query search.queue searched.queue.items search.passed.items (unanswered search.fails search.faulty) among back (so.walked query nearest))));
      }
    where
      among : (state : State) → Contains (map (queued_state config query) search.queue) state → Contains (map (queued_state config query) searched.queue.items) state
      among state has =
          let from = from_map (queued_state config query) search.queue state has in
          subst (Contains (map (queued_state config query) searched.queue.items)) from.2
          (map_has (queued_state config query) searched.queue.items from.0
          (subst (λ (l : List Queued). Contains l from.0) (sym queue_is) (so.either from.0 (subst (λ (l : List Queued). Contains l from.0) (sym (take_all at search.queue all)) from.1))))

      back : (one : Queued) → Contains searched.queue.items one → Contains search.queue one
      back one has = so.only one (subst (λ (l : List Queued). Contains l one) queue_is has)

      first_are : take searched.passed searched.queue.items ≡ search.passed.items
      first_are =
          ap (λ (n : ℕ). take n searched.queue.items) passed_is ∙ ap (take (length search.passed.items)) queue_is
          ∙ take-append-le (length search.passed.items) search.passed.items search.answering.items (omega arith) ∙ take_all (length search.passed.items) search.passed.items (omega arith)
