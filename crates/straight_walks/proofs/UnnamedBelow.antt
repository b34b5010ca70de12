-- The query with an unnamed tail: no origin stands between, and a zone that has nothing there answers so.
use Rattle.std.proofs.Common.{◌≡◌, ℕ, ◌<◌, Bool, true, false, cond, ◌&&◌, List, [], ◌∷◌, ◌++◌, length, Contains, Option, Some, None, Bor, refl, sym, ap, ◌∙◌, subst, inl, inr, true≢false, arith, append_assoc, append-nil, length-append, lt-ltb}
use Rattle.std.specs.Prelude.{◌⊎◌, is_some, nat_le, nat_lt, option_map, option_and_then}
use Rattle.std.proofs.lemmas.Bool.{and_right}
use Rattle.dns_data.specs.Label.{IsLabel}
use Rattle.dns_data.specs.Name.{Labels, is_prefix, name_eq}
use Rattle.dns_data.specs.RrType.{type_eq}
use Rattle.dns_data.specs.declared.rr_type.RrType.{RrType}
use Rattle.dns_data.specs.declared.rr_type.RrType.TheVariants as types
use Rattle.dns_data.proofs.Membership.{none_in_nil}
use Rattle.dns_data.proofs.NameFronts.{Begins, is_prefix_told, two_fronts, is_prefix_tells}
use Rattle.dns_data.proofs.Names.{name_eq_decides}
use Rattle.dns_data.proofs.Searches.{find_none, find_some, found_there}
use Rattle.net_model.specs.Lookup.{ByCut, ByNothing, ByRecords, by_dname, closest_encloser, decided, deciding, dname_owner, shorter_decides, source_of_synthesis, synthesized, zone_cut}
use Rattle.net_model.specs.Nearest.{held_zone, nearest_of, server_named, zone_with_origin}
use Rattle.net_model.specs.OpenTail.{open_decided, open_deciding, redirecting}
use Rattle.net_model.specs.Prefix.{prefixes}
use Rattle.net_model.specs.Tails.{IsUnnamedTail}
use Rattle.net_model.specs.Zone.{exists_in, owns}
use Rattle.net_model.specs.declared.config.Config.{Config}
use Rattle.net_model.specs.declared.config.Server.{Server}
use Rattle.net_model.specs.declared.config.Zone.{Zone}
use Rattle.net_model.specs.declared.fault.Fault.{Fault}
use Rattle.net_model.specs.declared.walk.Leaf.{Leaf}
use Rattle.net_model.specs.declared.walk.Leaf.TheVariants.{NxDomain}
use Rattle.net_model.proofs.Descent.{shorter_passes}
use Rattle.net_model.proofs.NearestZones.{nearest_tells, origin_of_config, zone_of_config}
use Rattle.net_model.proofs.OpenTails.{open_tail}
use Rattle.net_model.proofs.Prefixes.{from_prefixes}
use Rattle.walk_laws.proofs.WalksAlike.UnnamedTails.{far_names, nearest_with_tail, opens_in}
use Rattle.zone_tree.specs.Tree.{ZoneTree}
use Rattle.zone_tree.proofs.Prefixes.{longest_itself}
use Rattle.straight_walks.specs.Answers.{AnswerOwners, outcome_with, owner_leaf}
use Rattle.straight_walks.specs.Ends.{IsOutcomeOf, told_by}
use Rattle.straight_walks.specs.Nowhere.{Told, untold}
use Rattle.straight_walks.specs.Searching.{AnswersNothingBelow, AnswersSo, AnswerIsPut, nothing_below, nothing_there, state_at}
use Rattle.straight_walks.specs.Straight.{NoOriginBetween}
use Rattle.straight_walks.specs.declared.ends.StraightEnds.{StraightEnds}
use Rattle.straight_walks.proofs.AliasEnds.{none_led, untold_with}
use Rattle.straight_walks.proofs.Replies.{nothing_answers}

-- ---- no origin stands between

module _ (config : Config) (query tail : Labels) (is : IsUnnamedTail config query tail) where
  -- the query with the first label of the tail
  abbrev front : Labels
  front = query ++ is.first ∷ []

  whole : front ++ is.rest ≡ query ++ tail
  whole = append_assoc query (is.first ∷ []) is.rest ∙ ap (λ (x : Labels). query ++ x) (sym is.is)

  -- a front of it that is longer than the query begins with that
  begins_longer : (longer : Labels) → is_prefix longer (query ++ tail) ≡ true → length query < length longer → Begins front longer
  begins_longer longer inside more =
      let begins = is_prefix_tells longer (query ++ tail) inside in by (two_fronts longer begins.0 front is.rest (begins.1 ∙ sym whole))
    where
      by : Begins longer front ⊎ Begins front longer → Begins front longer
      by (inr further) = further
      by (inl (rest, e)) = further rest e where
        further : (rest : Labels) → longer ++ rest ≡ front → Begins front longer
        further [] same = ([], append-nil front ∙ sym same ∙ append-nil longer)
        further (label ∷ rest) same =
            absurd (omega (arith, more, ap (λ (n : Labels). length n) same, length-append longer (label ∷ rest), length-append query (is.first ∷ [])))

  -- no server holds a zone whose origin has it
  none_held : (server longer : Labels) → Begins front longer → (held : Option Zone) → held_zone config server longer ≡ held → held ≡ None
  none_held server longer begins None held = refl
  none_held server longer begins (Some zone) held = by (server_named config server) refl held where
    by : (holder : Option Server) → server_named config server ≡ holder → option_and_then (λ h. zone_with_origin h longer) holder ≡ Some zone → Some zone ≡ None
    by None named e = cc
    by (Some holder) named e =
        let one = found_there (λ (s : Server). name_eq s.name server) config.servers holder named in
        let other = found_there (λ (z : Zone). name_eq z.origin longer) holder.zones zone e in
        absurd (far_names config query is.first is.unnamed zone.origin (origin_of_config config zone (zone_of_config config holder zone one.0 other.0))
        (subst (Begins front) (sym ((name_eq_decides zone.origin longer).0 other.1)) begins))

  -- no server has a zone whose origin stands between the query and the query with an unnamed tail
  pub none_between : NoOriginBetween config query (query ++ tail)
  none_between =
      record {
        above = is_prefix_told query (query ++ tail) (tail, refl);
        none_longer = λ server longer inside more. none_held server longer (begins_longer longer inside more) (held_zone config server longer) refl;
      }

-- ---- a zone that has nothing there

module _ (zone : Zone) (name : Labels) where
  -- the test of a DNAME owner above the name, and of one at or above it
  abbrev redirects_it : Labels → Bool
  redirects_it above = nat_le (length zone.origin) (length above) && nat_lt (length above) (length name) && owns zone above types.Dname

  abbrev redirects_below : Labels → Bool
  redirects_below above = nat_le (length zone.origin) (length above) && owns zone above types.Dname

  -- where neither passes, no name with an open tail is redirected
  none_redirects : dname_owner zone name ≡ None → owns zone name types.Dname ≡ false → redirecting zone name ≡ None
  none_redirects none not_it = find_none redirects_below (prefixes name) (λ above has. fails above has (from_prefixes name above has)) where
    fails : (above : Labels) → Contains (prefixes name) above → Begins above name → redirects_below above ≡ false
    fails above has ([], same) =
        and_right (nat_le (length zone.origin) (length above)) (owns zone above types.Dname)
        (ap (λ (x : Labels). owns zone x types.Dname) (sym (append-nil above) ∙ same) ∙ not_it)
    fails above has (label ∷ rest, same) =
        sym (shorter_passes (nat_le (length zone.origin) (length above)) (nat_lt (length above) (length name)) (owns zone above types.Dname)
        (lt-ltb (length above) (length name) (omega (arith, ap (λ (x : Labels). length x) same, length-append above (label ∷ rest)))))
        ∙ by (redirects_it above) refl
      where
        by : (b : Bool) → redirects_it above ≡ b → redirects_it above ≡ false
        by false e = e
        by true e =
            let there = find_some redirects_it (prefixes name) above has e in absurd (true≢false (sym (ap (λ (found : Option Labels). is_some found) there.1) ∙ ap (λ (found : Option Labels). is_some found) none))

  -- the name exists, owns no DNAME record, and has no asterisk label below it
  module _ (exists : exists_in zone name ≡ true) (no_dname : owns zone name types.Dname ≡ false) (no_asterisk : exists_in zone (source_of_synthesis name) ≡ false) where
    no_source : synthesized zone (closest_encloser zone name) ≡ ByNothing
    no_source =
        ap (synthesized zone) (longest_itself (exists_in zone) name exists)
        ∙ ap (λ (b : Bool). cond b (ByRecords (source_of_synthesis name)) ByNothing) no_asterisk

    -- if records decide at a name without a DNAME record and with nothing at the asterisk label below, nothing decides
    -- at it with an open tail
    pub nothing_opens : (owner : Labels) → deciding zone name ≡ ByRecords owner → open_deciding zone name ≡ ByNothing
    nothing_opens owner decides = by (zone_cut zone name) (dname_owner zone name) refl refl decides where
      shorter : (cut by_owner : Labels) (b : Bool) → cond b (by_dname zone by_owner) (ByCut cut) ≡ ByRecords owner → ⊥
      shorter cut by_owner true e = cc
      shorter cut by_owner false e = cc

      by : (cut redirecting_it : Option Labels) → zone_cut zone name ≡ cut → dname_owner zone name ≡ redirecting_it
          → decided zone name (shorter_decides zone cut redirecting_it) ≡ ByRecords owner → open_deciding zone name ≡ ByNothing
      by (Some cut) None cut_is owner_is e = cc
      by (Some cut) (Some by_owner) cut_is owner_is e = absurd (shorter cut by_owner (nat_lt (length by_owner) (length cut)) e)
      by None (Some by_owner) cut_is owner_is e = cc
      by None None cut_is owner_is e =
          ap (λ (cut : Option Labels). open_decided zone name (shorter_decides zone cut (redirecting zone name))) cut_is
          ∙ ap (λ (by_owner : Option Labels). open_decided zone name (shorter_decides zone None by_owner)) (none_redirects owner_is no_dname)
          ∙ no_source

-- the asterisk label is a label
pub asterisk_is_label : IsLabel (42 ∷ [])
asterisk_is_label = record { not_empty = omega arith; short = omega arith; octets = refl }

-- ---- what servers answer there

-- if nothing decides with an open tail in the zone in which a server looks the query up, the server answers the query
-- with an unnamed tail that there is no such name
pub nothing_answered : (config : Config) (query server : Labels) (tree : Bor ZoneTree) → nearest_of config server query ≡ Some tree.now.zone
    → open_deciding tree.now.zone query ≡ ByNothing → AnswersNothingBelow config query server
nothing_answered config query server tree nearest opens tail is zone =
    let near : nearest_of config server (query ++ tail) ≡ Some tree.now.zone = nearest_with_tail config query tail is server ∙ nearest in
    nothing_answers config (query ++ tail) server tree (
      near,
      record {
        inside = is_prefix_told tree.now.zone.origin (query ++ tail) (nearest_tells config server (query ++ tail) tree.now.zone near).1;
        decides = open_tail tree.now.zone query tail (opens_in config query tail server tree.now.zone is nearest) ∙ opens;
      },
    )

-- ---- the ends there

-- with each type the answer is that there is no such name
nothing_leaf : (answering : AnswerOwners) (rtype : RrType) → outcome_with (nothing_there answering) rtype ≡ Some NxDomain
nothing_leaf answering rtype = by (type_eq rtype types.Cname) where
  by : (b : Bool) → option_map (λ at. owner_leaf at rtype) (cond b (Some (nothing_there answering).own) (nothing_there answering).last) ≡ Some NxDomain
  by true = refl
  by false = refl

-- walks of the query with an unnamed tail end at once at a server that answers that there is no such name
pub nothing_so : (config : Config) (query server tail : Labels) (answering : AnswerOwners) → IsUnnamedTail config query tail → AnswersNothingBelow config query server
    → AnswersSo config (query ++ tail) server untold (nothing_there answering) 0
nothing_so config query server tail answering is so =
    record {
      answers = λ setting rtype above may. (
        NxDomain,
        [],
        sym (nothing_leaf answering rtype),
        omega arith,
        (
          so tail is answering.own.zone setting rtype (state_at config (query ++ tail) server above) may.config_is refl refl,
          λ place led. absurd (none_led place led),
        ),
      );
      shows = λ setting rtype above may fault has. absurd (none_in_nil fault (subst (λ (all : List Fault). Contains all fault) (untold_with rtype) has));
    }

-- where some server answers, an answer there is that there is no such name
module _ (before after : StraightEnds) (answering : AnswerOwners) (rewrites : ℕ) (none_below : Bool) (told : Told)
    (put : AnswerIsPut before answering rewrites none_below told after) (rtype : RrType) where
  abbrev outcome_by : Option AnswerOwners → Option (Option Leaf)
  outcome_by answer = option_map (λ (one : AnswerOwners). outcome_with one rtype) answer

  only_nothing : (answer : Option AnswerOwners) (outcome : Option Leaf) → outcome_by (option_map nothing_there answer) ≡ Some outcome → outcome ≡ Some NxDomain
  only_nothing None outcome e = cc
  only_nothing (Some one) outcome e = let same : outcome_with (nothing_there one) rtype ≡ outcome = cc in sym same ∙ nothing_leaf one rtype

  some_nothing : (answer : Option AnswerOwners) (outcome : Option Leaf) → outcome_by answer ≡ Some outcome → outcome_by (option_map nothing_there answer) ≡ Some (Some NxDomain)
  some_nothing None outcome e = cc
  some_nothing (Some one) outcome e = ap (λ (o : Option Leaf). Some o) (nothing_leaf one rtype)

  there : told_by (nothing_below after) rtype ≡ Some (Some NxDomain)
  there = some_nothing after.answer (outcome_with answering rtype) (put.there rtype)

  still : (outcome : Option Leaf) → IsOutcomeOf (nothing_below before) rtype outcome → IsOutcomeOf (nothing_below after) rtype outcome
  still outcome (inl fails) = inl (fails.0, put.still.fails fails.1)
  still outcome (inr is) = inr (there ∙ ap (λ (o : Option Leaf). Some o) (sym (only_nothing before.answer outcome is)))

  only : (outcome : Option Leaf) → IsOutcomeOf (nothing_below after) rtype outcome
      → IsOutcomeOf (nothing_below before) rtype outcome ⊎ (outcome ≡ outcome_with (nothing_there answering) rtype)
  only outcome (inl fails) = inl (inl (fails.0, put.failed fails.1))
  only outcome (inr is) = inr (only_nothing after.answer outcome is ∙ sym (nothing_leaf answering rtype))

-- an answer that is put to the query's ends is put, as no such name, to those of the query with an unnamed tail
pub put_below : (before after : StraightEnds) (answering : AnswerOwners) (rewrites : ℕ) (none_below : Bool) (told : Told) → AnswerIsPut before answering rewrites none_below told after
    → AnswerIsPut (nothing_below before) (nothing_there answering) 0 none_below told (nothing_below after)
put_below before after answering rewrites none_below told put =
    record {
      still =
          record {
            rewrites = put.still.rewrites;
            fails = put.still.fails;
            faulty = put.still.faulty;
            blackholes = put.still.blackholes;
            alias_faults = put.still.alias_faults;
            outcomes = λ rtype outcome is. still before after answering rewrites none_below told put rtype outcome is;
          };
      behind = omega arith;
      failed = put.failed;
      there = λ rtype. there before after answering rewrites none_below told put rtype ∙ ap (λ (o : Option Leaf). Some o) (sym (nothing_leaf answering rtype));
      only = λ rtype outcome is. only before after answering rewrites none_below told put rtype outcome is;
      same_faulty = put.same_faulty;
      blackholes = put.blackholes;
      alias_faults = put.alias_faults;
      alone = put.alone;
      unnamed = put.unnamed;
    }
