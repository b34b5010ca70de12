-- What a search passes for a query it passes for the names below it of which ends are told.
use Rattle.std.proofs.Common.{◌≡◌, Vec, Global, ℕ, ◌+◌, ◌<◌, ◌++◌, Bool, true, List, [], length, take, get_or, IfSome, Bor, refl, sym, ap, ◌∙◌, subst, inl, inr, true≢false}
use Rattle.std.specs.List.{slice_get}
use Rattle.std.proofs.lemmas.Bool.{and_parts}
use Rattle.std.proofs.lemmas.Option.{IfSome_then}
use Rattle.dns_data.specs.Name.{Labels}
use Rattle.dns_data.proofs.Names.{all_so}
use Rattle.net_model.specs.declared.deps.Deps.{Deps}
use Rattle.net_model.specs.Zone.{ns_names}
use Rattle.net_model.specs.declared.config.Config.{Config}
use Rattle.zone_tree.specs.Tree.{ZoneTree, name_of}
use Rattle.zone_lookup.specs.CutTable.{cut_to}
use Rattle.zone_lookup.specs.Reply.{IsReply}
use Rattle.straight_walks.specs.Searching.{AllEndOutside, AnswerIsPut, AreEndsFor, AreReferrals, EndsOutside, HavePassed, HasPassed, IsAnswered, IsReferral, Known, PassesServer, failing, no_flags, nothing_below, nothing_there, unanswered}
use Rattle.straight_walks.specs.Regions.{IsSearchBelow}
use Rattle.straight_walks.specs.Straight.{NoOriginBetween}
use Rattle.straight_walks.specs.declared.ends.StraightEnds.{StraightEnds}
use Rattle.straight_walks.specs.declared.faulty.Faulty.{Faulty}
use Rattle.straight_walks.specs.Nowhere.{Told, untold}
use Rattle.straight_walks.specs.declared.lent_place.AliasFault.{AliasFault}
use Rattle.straight_walks.specs.declared.lent_place.LentPlace.{LentPlace}
use Rattle.straight_walks.specs.declared.name_server.Referral.TheVariants as referral
use Rattle.straight_walks.specs.declared.queue.Queued.{Queued}
use Rattle.straight_walks.specs.declared.searching.Search.{Search}
use Rattle.zone_lookup.specs.declared.reply.Reply.TheVariants as reply
use Rattle.straight_walks.proofs.BelowOrigins.{none_between_itself, same_nearest}
use Rattle.straight_walks.proofs.GoingOn.{all_that_end}
use Rattle.straight_walks.proofs.OtherNames.{refers_for}
use Rattle.straight_walks.proofs.RegionSearch.{refers_below}
use Rattle.straight_walks.proofs.Replies.{refers_held}
use Rattle.straight_walks.proofs.StraightSearch.{answer_passes, one_passed, outside_passes, referral_passed, referral_passes, same_faulty_told}
use Rattle.straight_walks.proofs.UnnamedBelow.{none_between, nothing_so, put_below}

module _ (config : Config) (deps : Deps) (query : Labels) where
  -- no origin stands between the query and a name of which ends are told
  between : (ends : StraightEnds) (name : Labels) (found : StraightEnds) → AreEndsFor config query ends name found → NoOriginBetween config query name
  between ends name found (inl itself) = subst (NoOriginBetween config query) (sym itself.0) (none_between_itself config query)
  between ends name found (inr (inl below)) = below.1
  between ends name found (inr (inr unnamed)) =
      let (tail, is, whole) = unnamed.1 in subst (NoOriginBetween config query) (sym whole) (none_between config query tail is)

  -- the ends of each name of which the query's ends tell have the query's rewrites and faults of aliases
  pub same_told : (ends : StraightEnds) (name : Labels) (found : StraightEnds) → AreEndsFor config query ends name found
      → (found.rewrites ≡ ends.rewrites) × (found.alias_faults ≡ ends.alias_faults)
  same_told ends name found (inl itself) = (ap (λ (e : StraightEnds). e.rewrites) itself.1, ap (λ (e : StraightEnds). e.alias_faults) itself.1)
  same_told ends name found (inr (inl below)) = (ap (λ (e : StraightEnds). e.rewrites) below.2, ap (λ (e : StraightEnds). e.alias_faults) below.2)
  same_told ends name found (inr (inr unnamed)) = (ap (λ (e : StraightEnds). e.rewrites) unnamed.2, ap (λ (e : StraightEnds). e.alias_faults) unnamed.2)

  -- the states that a search for an origin has passed are passed for each name of which the ends tell
  pub begun : (searched : Search) (faulty : Vec Faulty Global) → faulty.items ≡ searched.faulty.items → (places : List LentPlace) → places ≡ [] → (aliases : List AliasFault) → aliases ≡ []
      → IsSearchBelow config deps query searched
      → HavePassed config deps query searched.queue.items searched.passed (record (unanswered searched.fails faulty) { blackholes = places; alias_faults = aliases })
  begun searched faulty told places none aliases none_too is =
      subst (λ (all : List AliasFault). HavePassed config deps query searched.queue.items searched.passed (record (unanswered searched.fails faulty) { blackholes = places; alias_faults = all }))
      (sym none_too)
      (subst (λ (all : List LentPlace). HavePassed config deps query searched.queue.items searched.passed (record (unanswered searched.fails faulty) { blackholes = all }))
      (sym none) passed)
    where
      passed : HavePassed config deps query searched.queue.items searched.passed (unanswered searched.fails faulty)
      passed name found of =
          let before = is name (between (unanswered searched.fails faulty) name found of) in
          subst (HasPassed config deps name searched.queue.items searched.passed) (sym (same of))
          (record {
            within = before.within;
            walked =
                same_faulty_told config deps name searched.queue.items (take searched.passed searched.queue.items) (unanswered searched.fails searched.faulty) faulty told before.walked;
          })
        where
          same : AreEndsFor config query (unanswered searched.fails faulty) name found → found ≡ unanswered searched.fails faulty
          same (inl itself) = itself.1
          same (inr (inl below)) = below.2
          same (inr (inr unnamed)) = unnamed.2

  -- ---- one server

  -- a server passes a name of which it tells these ends, where others were told of it before
  abbrev pub PassesFor : Labels → List Queued → StraightEnds → StraightEnds → Labels → StraightEnds → Type 0
  PassesFor server queue before after name found =
      (found_before : StraightEnds) × AreEndsFor config query before name found_before × PassesServer config deps name server queue found_before queue found

  -- the ends with another failure and other referrals that show faults
  abbrev with_known : StraightEnds → Bool → Vec Faulty Global → StraightEnds
  with_known ends fails faulty = record ends { fails = fails; faulty = faulty }

  -- those of which ends are told where walks fail besides are the same
  before_failing : (ends : StraightEnds) (name : Labels) (found : StraightEnds) → AreEndsFor config query (failing ends) name found
      → (found_before : StraightEnds) × AreEndsFor config query ends name found_before × (found ≡ failing found_before)
  before_failing ends name found (inl itself) = (ends, inl (itself.0, refl), itself.1)
  before_failing ends name found (inr (inl below)) = (ends, inr (inl (below.0, below.1, refl)), below.2)
  before_failing ends name found (inr (inr unnamed)) = (nothing_below ends, inr (inr (unnamed.0, unnamed.1, refl)), unnamed.2)

  -- what is known of the ends with these states queued
  abbrev known_of : List Queued → StraightEnds → Known
  known_of queue ends = record { queue = queue; fails = ends.fails; faulty = ends.faulty.items }

  -- and so are they whatever is known
  before_known : (ends : StraightEnds) (fails : Bool) (faulty : Vec Faulty Global) (name : Labels) (found : StraightEnds)
      → AreEndsFor config query (with_known ends fails faulty) name found
      → (found_before : StraightEnds) × AreEndsFor config query ends name found_before × (found ≡ with_known found_before fails faulty)
      × ((queue : List Queued) → known_of queue found_before ≡ known_of queue ends)
  before_known ends fails faulty name found (inl itself) = (ends, inl (itself.0, refl), itself.1, λ queue. refl)
  before_known ends fails faulty name found (inr (inl below)) = (ends, inr (inl (below.0, below.1, refl)), below.2, λ queue. refl)
  before_known ends fails faulty name found (inr (inr unnamed)) = (nothing_below ends, inr (inr (unnamed.0, unnamed.1, refl)), unnamed.2, λ queue. refl)

  module _ (server : Labels) (queue : List Queued) (ends : StraightEnds) where
    -- for each name of which the ends tell, walks pass a server without a zone for the query
    pub outside_for : IsReply config server query reply.Outside → (name : Labels) (found : StraightEnds) → AreEndsFor config query (failing ends) name found
        → PassesFor server queue ends (failing ends) name found
    outside_for so name found of =
        let (found_before, of_before, is) = before_failing ends name found of in (
          found_before,
          of_before,
          subst (PassesServer config deps name server queue found_before queue) (sym is)
              (outside_passes config deps name server queue found_before (same_nearest config query name (between ends name found_before of_before) server ∙ so)),
        )

    -- for each name of which the ends tell, walks pass a server that refers the query by a zone cut at all of whose
    -- name servers they end
    pub ending_for : (tree : Bor ZoneTree) (cut : ℕ) → IsReply config server query (reply.Refers tree cut) → AllEndOutside config tree.now cut
        → (name : Labels) (found : StraightEnds) → AreEndsFor config query (failing ends) name found → PassesFor server queue ends (failing ends) name found
    ending_for tree cut so all name found of =
        let (found_before, of_before, is) = before_failing ends name found of in (
          found_before,
          of_before,
          subst (PassesServer config deps name server queue found_before queue) (sym is)
              (referral_passes config deps name server queue found_before tree cut queue true found_before.faulty
              (refers_below config deps query server tree cut so name (between ends name found_before of_before))
              (all_that_end config deps name server tree.now.zone (name_of tree.now cut) (ns_names tree.now.zone (name_of tree.now cut))
              (all_so (EndsOutside config tree.now cut) (λ (ns : Labels). IsReferral config deps name (cut_to server tree.now.zone (name_of tree.now cut) ns) (referral.Ends no_flags))
              (ns_names tree.now.zone (name_of tree.now cut)) (λ ns end. end deps name server (refers_held config query server tree cut so)) all.0)
              all.1 (known_of queue found_before))),
        )

    -- for the query, and for it with an unnamed tail if the server has nothing there, walks pass a server that answers
    pub answer_for : (after : StraightEnds) → IsAnswered config query server ends after
        → (name : Labels) (found : StraightEnds) → AreEndsFor config query after name found → PassesFor server queue ends after name found
    answer_for after so name found (inl itself) = (
      ends,
      inl (itself.0, refl),
      subst (λ (n : Labels). PassesServer config deps n server queue ends queue found) (sym itself.0)
          (subst (PassesServer config deps query server queue ends queue) (sym itself.1) (answer_passes config deps query server queue ends so.answering so.rewrites so.none_below so.told after so.so so.put)),
    )
    answer_for after so name found (inr (inl below)) = absurd (true≢false (sym below.0 ∙ so.put.alone))
    answer_for after so name found (inr (inr unnamed)) =
        let told = and_parts ends.unnamed_below so.none_below (sym so.put.unnamed ∙ unnamed.0) in
        let (tail, is, whole) = unnamed.1 in (
          nothing_below ends,
          inr (inr (told.0, unnamed.1, refl)),
          subst (λ (n : Labels). PassesServer config deps n server queue (nothing_below ends) queue found) (sym whole)
              (subst (PassesServer config deps (query ++ tail) server queue (nothing_below ends) queue) (sym unnamed.2)
              (answer_passes config deps (query ++ tail) server queue (nothing_below ends) (nothing_there so.answering) 0 so.none_below untold (nothing_below after)
              (nothing_so config query server tail so.answering is (so.below told.1))
              (subst (λ (told : Told). AnswerIsPut (nothing_below ends) (nothing_there so.answering) 0 so.none_below told (nothing_below after)) (so.tells_nothing told.1)
              (put_below ends after so.answering so.rewrites so.none_below so.told so.put)))),
        )

  -- ---- one state more

  -- for each name of which the ends tell, one queued state more is passed if walks pass its server
  pub one_passed_for : (queue : List Queued) (at : ℕ) (ends_before ends : StraightEnds) (item : Queued) → at < length queue → item ≡ get_or queue at item
      → HavePassed config deps query queue at ends_before
      → ((name : Labels) (found : StraightEnds) → AreEndsFor config query ends name found → PassesFor item.server.now queue ends_before ends name found)
      → HavePassed config deps query queue (at + 1) ends
  one_passed_for queue at ends_before ends item within is so one name found of =
      let (found_before, of_before, passes) = one name found of in one_passed config deps name queue queue at found_before found item within is (so name found_before of_before) passes

  -- for each name of which the ends tell, one queued state more is passed if its server refers the query
  pub referral_passed_for : (queue after : List Queued) (at : ℕ) (ends : StraightEnds) (fails : Bool) (faulty : Vec Faulty Global) (tree : Bor ZoneTree) (cut : ℕ) (item : Queued)
      → at < length queue → item ≡ get_or queue at item
      → IfSome (slice_get queue at) (λ one. IsReply config one.server.now query (reply.Refers tree cut)) → HavePassed config deps query queue at ends
      → AreReferrals config deps query item.server.now tree.now.zone (name_of tree.now cut) (ns_names tree.now.zone (name_of tree.now cut))
      (known_of queue ends) (record { queue = after; fails = fails; faulty = faulty.items })
      → HavePassed config deps query after (at + 1) (record ends { fails = fails; faulty = faulty })
  referral_passed_for queue after at ends fails faulty tree cut item within is refers so on name found of =
      let (found_before, of_before, same, known) = before_known ends fails faulty name found of in
      let none = between ends name found_before of_before in
      let cut_name = name_of tree.now cut in
      let servers = ns_names tree.now.zone cut_name in
      let known_after : Known = record { queue = after; fails = fails; faulty = faulty.items } in
      subst (HasPassed config deps name after (at + 1)) (sym same)
      (referral_passed config deps name queue after at found_before fails faulty tree cut item within is
      (IfSome_then (slice_get queue at) refers (λ one refers_it. refers_below config deps query one.server.now tree cut refers_it name none))
      (so name found_before of_before)
      (subst (λ (known_before : Known). AreReferrals config deps name item.server.now tree.now.zone cut_name servers known_before known_after) (sym (known queue))
      (refers_for config deps query name (same_nearest config query name none) item.server.now tree.now.zone cut_name servers none.above (known_of queue ends) known_after
      (so query ends (inl (refl, refl))).walked.above on)))
