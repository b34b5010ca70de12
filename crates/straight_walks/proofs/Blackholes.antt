-- What ends tell of rewrites: what was told before stays told, and more comes by the answers that are put.
use Rattle.std.proofs.Common.{◌≡◌, ℕ, Bool, true, false, cond, List, [], ◌∷◌, ◌++◌, map, Option, Some, None, Bor, refl, sym, ap, ◌∙◌, subst, inl, inr, arith}
use Rattle.std.specs.Prelude.{◌⊎◌, Contains}
use Rattle.std.specs.List.{AllByRecursion}
use Rattle.std.proofs.lemmas.List.{append-nil, map-append}
use Rattle.std.proofs.lemmas.List.Elements.{Contains-append_cases, Contains-append_left, Contains-append_right}
use Rattle.dns_data.specs.Name.{Labels}
use Rattle.dns_data.specs.RrType.{type_eq}
use Rattle.dns_data.specs.declared.rr_type.RrType.{RrType}
use Rattle.dns_data.specs.declared.rr_type.RrType.TheVariants as types
use Rattle.dns_data.proofs.Membership.{along, each_along, first_or_later, has_first, none_in_nil}
use Rattle.net_model.specs.Step.{Setting, End, next}
use Rattle.net_model.specs.declared.config.Config.{Config}
use Rattle.net_model.specs.declared.fault.Fault.{Fault}
use Rattle.net_model.specs.declared.fault.Fault.TheVariants as faults
use Rattle.net_model.specs.declared.place.Place.{Place}
use Rattle.net_model.specs.declared.walk.Leaf.TheVariants.{NxDomain}
use Rattle.net_model.specs.declared.walk.State.{State}
use Rattle.zone_lookup.specs.Reply.{IsReply}
use Rattle.zone_lookup.specs.declared.reply.Reply.TheVariants as reply
use Rattle.zone_tree.specs.Tree.{ZoneTree}
use Rattle.straight_walks.specs.Answers.{AnswerOwners, answering_by}
use Rattle.straight_walks.specs.Faulty.{faults_at}
use Rattle.straight_walks.specs.Nowhere.{HasLimit, IsToldEnd, Told, alias_fault, alias_faults_with, blackholes_at, place_of, told_with, untold}
use Rattle.straight_walks.specs.Searching.{AnswerIsPut, AnswersBehind, ArePut, EndsInFault, IsBehind, KeepsAll, KeepsOutcomes}
use Rattle.straight_walks.specs.Straight.{faults_by_ends, told_of}
use Rattle.straight_walks.specs.declared.ends.StraightEnds.{StraightEnds}
use Rattle.straight_walks.specs.declared.faulty.Faulty.{Faulty}
use Rattle.straight_walks.specs.declared.lent_place.AliasFault.{AliasFault}
use Rattle.straight_walks.specs.declared.lent_place.LentPlace.{LentPlace}
use Rattle.straight_walks.proofs.AliasEnds.{outcome_is}
use Rattle.straight_walks.proofs.AliasWalks.{falls_there}
use Rattle.straight_walks.proofs.GoingOn.{faults_kept}
use Rattle.straight_walks.proofs.Replies.{nothing_end}

-- items that are put stand behind those before
pub all_put : {T : Type 0} (before more after : List T) → ArePut before more after → after ≡ before ++ more
all_put before [] after same = same ∙ sym (append-nil before)
all_put before (one ∷ rest) after put = put

-- ---- faults of rewrites

-- a fault that is told is one of an alias or a blackhole
parted : (told : Told) (rtype : RrType) (fault : Fault) → Contains (told_with told rtype) fault
    → Contains (alias_faults_with told.aliases rtype) fault ⊎ Contains (blackholes_at told.places) fault
parted told rtype fault has = Contains-append_cases (alias_faults_with told.aliases rtype) (blackholes_at told.places) fault has

-- faults of aliases that are put stand behind those before
aliases_put : (before more after : List AliasFault) → ArePut before more after → (rtype : RrType)
    → alias_faults_with after rtype ≡ alias_faults_with before rtype ++ alias_faults_with more rtype
aliases_put before more after put rtype = by (type_eq rtype types.Cname) where
  by : (b : Bool) → cond b [] (map alias_fault after) ≡ cond b [] (map alias_fault before) ++ cond b [] (map alias_fault more)
  by true = refl
  by false = ap (map alias_fault) (all_put before more after put) ∙ map-append alias_fault before more

-- and so do blackholes
holes_put : (before more after : List LentPlace) → ArePut before more after → blackholes_at after ≡ blackholes_at before ++ blackholes_at more
holes_put before more after put =
    ap blackholes_at (all_put before more after put) ∙ map-append (λ (place : LentPlace). faults.Blackhole (place_of place)) before more

module _ (before after more : Told) (places : ArePut before.places more.places after.places) (aliases : ArePut before.aliases more.aliases after.aliases) (rtype : RrType) where
  -- what was told, and what is put, is told then
  pub told_still : (fault : Fault) → Contains (told_with before rtype) fault ⊎ Contains (told_with more rtype) fault → Contains (told_with after rtype) fault
  told_still fault has = by has where
    alias_told : Contains (alias_faults_with before.aliases rtype ++ alias_faults_with more.aliases rtype) fault → Contains (told_with after rtype) fault
    alias_told has =
        Contains-append_left (alias_faults_with after.aliases rtype) (blackholes_at after.places) fault
        (subst (λ (all : List Fault). Contains all fault) (sym (aliases_put before.aliases more.aliases after.aliases aliases rtype)) has)

    hole_told : Contains (blackholes_at before.places ++ blackholes_at more.places) fault → Contains (told_with after rtype) fault
    hole_told has =
        Contains-append_right (alias_faults_with after.aliases rtype) (blackholes_at after.places) fault
        (subst (λ (all : List Fault). Contains all fault) (sym (holes_put before.places more.places after.places places)) has)

    by_before : Contains (alias_faults_with before.aliases rtype) fault ⊎ Contains (blackholes_at before.places) fault → Contains (told_with after rtype) fault
    by_before (inl alias) = alias_told (Contains-append_left (alias_faults_with before.aliases rtype) (alias_faults_with more.aliases rtype) fault alias)
    by_before (inr hole) = hole_told (Contains-append_left (blackholes_at before.places) (blackholes_at more.places) fault hole)

    by_more : Contains (alias_faults_with more.aliases rtype) fault ⊎ Contains (blackholes_at more.places) fault → Contains (told_with after rtype) fault
    by_more (inl alias) = alias_told (Contains-append_right (alias_faults_with before.aliases rtype) (alias_faults_with more.aliases rtype) fault alias)
    by_more (inr hole) = hole_told (Contains-append_right (blackholes_at before.places) (blackholes_at more.places) fault hole)

    by : Contains (told_with before rtype) fault ⊎ Contains (told_with more rtype) fault → Contains (told_with after rtype) fault
    by (inl early) = by_before (parted before rtype fault early)
    by (inr late) = by_more (parted more rtype fault late)

  -- and nothing else
  pub told_apart : (fault : Fault) → Contains (told_with after rtype) fault → Contains (told_with before rtype) fault ⊎ Contains (told_with more rtype) fault
  told_apart fault has = by (parted after rtype fault has) where
    alias_of : Contains (alias_faults_with before.aliases rtype) fault ⊎ Contains (alias_faults_with more.aliases rtype) fault
        → Contains (told_with before rtype) fault ⊎ Contains (told_with more rtype) fault
    alias_of (inl early) = inl (Contains-append_left (alias_faults_with before.aliases rtype) (blackholes_at before.places) fault early)
    alias_of (inr late) = inr (Contains-append_left (alias_faults_with more.aliases rtype) (blackholes_at more.places) fault late)

    hole_of : Contains (blackholes_at before.places) fault ⊎ Contains (blackholes_at more.places) fault
        → Contains (told_with before rtype) fault ⊎ Contains (told_with more rtype) fault
    hole_of (inl early) = inl (Contains-append_right (alias_faults_with before.aliases rtype) (blackholes_at before.places) fault early)
    hole_of (inr late) = inr (Contains-append_right (alias_faults_with more.aliases rtype) (blackholes_at more.places) fault late)

    by : Contains (alias_faults_with after.aliases rtype) fault ⊎ Contains (blackholes_at after.places) fault
        → Contains (told_with before rtype) fault ⊎ Contains (told_with more rtype) fault
    by (inl alias) =
        alias_of (Contains-append_cases (alias_faults_with before.aliases rtype) (alias_faults_with more.aliases rtype) fault
        (subst (λ (all : List Fault). Contains all fault) (aliases_put before.aliases more.aliases after.aliases aliases rtype) alias))
    by (inr hole) =
        hole_of (Contains-append_cases (blackholes_at before.places) (blackholes_at more.places) fault
        (subst (λ (all : List Fault). Contains all fault) (holes_put before.places more.places after.places places) hole))

-- ---- faults of ends

-- each fault that was told stays told
pub told_kept : (query : Labels) (before after : StraightEnds) → KeepsOutcomes before after → (rtype : RrType) (fault : Fault) → Contains (faults_by_ends query before rtype) fault
    → Contains (faults_by_ends query after rtype) fault
told_kept query before after still rtype fault has = by (Contains-append_cases (told_with (told_of before) rtype) (faults_at query before.faulty.items) fault has) where
  by : Contains (told_with (told_of before) rtype) fault ⊎ Contains (faults_at query before.faulty.items) fault → Contains (faults_by_ends query after rtype) fault
  by (inl told) =
      Contains-append_left (told_with (told_of after) rtype) (faults_at query after.faulty.items) fault
      (told_still (told_of before) (told_of after) (record { places = still.blackholes.0; aliases = still.alias_faults.0 }) still.blackholes.1 still.alias_faults.1 rtype fault (inl told))
  by (inr referral) =
      Contains-append_right (told_with (told_of after) rtype) (faults_at query after.faulty.items) fault
      (faults_kept query before.faulty.items after.faulty.items still.faulty fault referral)

module _ (query : Labels) (before : StraightEnds) (answering : AnswerOwners) (rewrites : ℕ) (none_below : Bool) (told : Told) (after : StraightEnds)
    (put : AnswerIsPut before answering rewrites none_below told after) (rtype : RrType) where
  -- each fault that is told was told before, or comes by the answer that is put
  pub told_before : (fault : Fault) → Contains (faults_by_ends query after rtype) fault → Contains (faults_by_ends query before rtype) fault ⊎ Contains (told_with told rtype) fault
  told_before fault has = by (Contains-append_cases (told_with (told_of after) rtype) (faults_at query after.faulty.items) fault has) where
    held : Contains (told_with (told_of before) rtype) fault ⊎ Contains (told_with told rtype) fault
        → Contains (faults_by_ends query before rtype) fault ⊎ Contains (told_with told rtype) fault
    held (inl early) = inl (Contains-append_left (told_with (told_of before) rtype) (faults_at query before.faulty.items) fault early)
    held (inr late) = inr late

    by : Contains (told_with (told_of after) rtype) fault ⊎ Contains (faults_at query after.faulty.items) fault
        → Contains (faults_by_ends query before rtype) fault ⊎ Contains (told_with told rtype) fault
    by (inl of_rewrite) = held (told_apart (told_of before) (told_of after) told put.blackholes put.alias_faults rtype fault of_rewrite)
    by (inr referral) =
        inl (Contains-append_right (told_with (told_of before) rtype) (faults_at query before.faulty.items) fault
        (subst (λ (all : List Faulty). Contains (faults_at query all) fault) put.same_faulty referral))

  -- what comes by the answer is told then
  pub told_then : (fault : Fault) → Contains (told_with told rtype) fault → Contains (faults_by_ends query after rtype) fault
  told_then fault has =
      Contains-append_left (told_with (told_of after) rtype) (faults_at query after.faulty.items) fault
      (told_still (told_of before) (told_of after) told put.blackholes put.alias_faults rtype fault (inr has))

-- ---- limits

-- limits that are told stay told
pub limits_before : (rewrites : ℕ) (before after : List AliasFault) → KeepsAll before after → AllByRecursion (HasLimit rewrites) after → AllByRecursion (HasLimit rewrites) before
limits_before rewrites before after (more, put) all =
    along (HasLimit rewrites) before (λ one has. each_along (HasLimit rewrites) after all one
    (subst (λ (l : List AliasFault). Contains l one) (sym (all_put before more after put)) (Contains-append_left before more one has)))

-- and those that come by an answer are told then
pub limits_put : (rewrites : ℕ) (before more after : List AliasFault) → ArePut before more after → AllByRecursion (HasLimit rewrites) after → AllByRecursion (HasLimit rewrites) more
limits_put rewrites before more after put all =
    along (HasLimit rewrites) more (λ one has. each_along (HasLimit rewrites) after all one
    (subst (λ (l : List AliasFault). Contains l one) (sym (all_put before more after put)) (Contains-append_right before more one has)))

-- ---- what is put before the answer that comes with it

module _ (before after : StraightEnds) (answering : AnswerOwners) (rewrites : ℕ) where
  -- a blackhole
  pub put_placed : (place : LentPlace) (pushed : List LentPlace) → pushed ≡ before.blackholes ++ place ∷ []
      → AnswerIsPut (record before { blackholes = pushed }) answering rewrites false untold after
      → AnswerIsPut before answering rewrites false (record { places = place ∷ []; aliases = [] }) after
  put_placed place pushed is put =
      record {
        still =
            record {
              rewrites = put.still.rewrites;
              fails = put.still.fails;
              faulty = put.still.faulty;
              blackholes = (place ∷ [], put.blackholes ∙ is);
              alias_faults = put.still.alias_faults;
              outcomes = λ rtype outcome told. put.still.outcomes rtype outcome told;
            };
        behind = put.behind;
        failed = put.failed;
        there = put.there;
        only = λ rtype outcome told. put.only rtype outcome told;
        same_faulty = put.same_faulty;
        blackholes = put.blackholes ∙ is;
        alias_faults = put.alias_faults;
        alone = put.alone;
        unnamed = put.unnamed;
      }

  -- a fault of an alias
  pub put_aliased : (fault : AliasFault) (pushed : List AliasFault) → pushed ≡ before.alias_faults ++ fault ∷ []
      → AnswerIsPut (record before { alias_faults = pushed }) answering rewrites false untold after
      → AnswerIsPut before answering rewrites false (record { places = []; aliases = fault ∷ [] }) after
  put_aliased fault pushed is put =
      record {
        still =
            record {
              rewrites = put.still.rewrites;
              fails = put.still.fails;
              faulty = put.still.faulty;
              blackholes = put.still.blackholes;
              alias_faults = (fault ∷ [], put.alias_faults ∙ is);
              outcomes = λ rtype outcome told. put.still.outcomes rtype outcome told;
            };
        behind = put.behind;
        failed = put.failed;
        there = put.there;
        only = λ rtype outcome told. put.only rtype outcome told;
        same_faulty = put.same_faulty;
        blackholes = put.blackholes;
        alias_faults = put.alias_faults ∙ is;
        alone = put.alone;
        unnamed = put.unnamed;
      }

-- ---- a name to which a rewrite leads, and which doesn't exist

module _ (config : Config) (server name : Labels) (rewrites : ℕ) (by : LentPlace) (tree : Bor ZoneTree) (so : IsReply config server name (reply.Nothing tree)) where
  -- what is told of it
  abbrev one_hole : Told
  one_hole = record { places = by ∷ []; aliases = [] }

  -- with each type it is the blackhole
  hole_with : (rtype : RrType) → told_with one_hole rtype ≡ faults.Blackhole (place_of by) ∷ []
  hole_with rtype = with_type (type_eq rtype types.Cname) where
    with_type : (b : Bool) → cond b [] [] ++ faults.Blackhole (place_of by) ∷ [] ≡ faults.Blackhole (place_of by) ∷ []
    with_type true = refl
    with_type false = refl

  -- that there is no such name is told as a blackhole
  told_nothing : (rtype : RrType) → IsToldEnd (told_with one_hole rtype) (Some (place_of by)) NxDomain
  told_nothing rtype = λ place led.
      let same : place_of by ≡ place = cc in
      subst (λ (p : Place). Contains (told_with one_hole rtype) (faults.Blackhole p)) same
      (subst (λ (all : List Fault). Contains all (faults.Blackhole (place_of by))) (sym (hole_with rtype)) (has_first (faults.Blackhole (place_of by)) []))

  -- walks end there so, with each type
  ends_there : (setting : Setting) (rtype : RrType) (state : State) → setting.config ≡ config → IsBehind server name rewrites (Some (place_of by)) state
      → next setting rtype state ≡ End None NxDomain ∷ []
  ends_there setting rtype state same is = nothing_end config name server setting rtype state same is.at_server is.with_name tree so

  -- a server that has no such name answers so, and walks fall into the blackhole
  pub nothing_behind : AnswersBehind config server name rewrites (Some (place_of by)) one_hole (answering_by tree.now None) rewrites
  nothing_behind =
      record {
        answers = λ setting rtype state may is. (
          NxDomain,
          [],
          sym (outcome_is tree.now None rtype),
          omega arith,
          (
            ends_there setting rtype state may.config_is is,
            subst (λ (last : Option Place). IsToldEnd (told_with one_hole rtype) last NxDomain) (sym is.by_last) (told_nothing rtype),
          ),
        );
        shows = λ setting rtype state may is fault has.
            let same : faults.Blackhole (place_of by) ≡ fault = only_one fault (subst (λ (all : List Fault). Contains all fault) (hole_with rtype) has) in
            subst (EndsInFault setting rtype state) same
            (falls_there setting rtype state (ends_there setting rtype state may.config_is is) (place_of by) is.by_last);
      }
    where
      only_one : (fault : Fault) → Contains (faults.Blackhole (place_of by) ∷ []) fault → faults.Blackhole (place_of by) ≡ fault
      only_one fault has = elim (first_or_later (faults.Blackhole (place_of by)) [] fault has) [
        | inl same ↦ same
        | inr later ↦ absurd (none_in_nil fault later)
      ]
