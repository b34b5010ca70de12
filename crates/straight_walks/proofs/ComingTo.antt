-- Walks of a query come to the states in which it begins, and on by each branch of a state to which they come.
use Rattle.std.proofs.Common.{◌==◌, List, [], ◌∷◌, ◌++◌, length, map, Option, None, true, refl, sym, ap, ◌∙◌, subst}
use Rattle.std.proofs.lemmas.List.{append_assoc}
use Rattle.dns_data.proofs.Membership.{none_in_nil}
use Rattle.std.specs.Prelude.{Contains, option_and_then, option_map}
use Rattle.dns_data.specs.Name.{Labels}
use Rattle.dns_data.specs.declared.rr_type.RrType.{RrType}
use Rattle.graph_form.proofs.Places.{place_of_item}
use Rattle.net_model.specs.Shown.{MayShow, Shows, WalksShow, with_lists}
use Rattle.net_model.specs.Step.{Setting, Go, arrived, next, start}
use Rattle.net_model.specs.Walk.{branched, led_on, walk_from}
use Rattle.net_model.specs.declared.deps.Deps.{Deps}
use Rattle.net_model.specs.declared.fault.Fault.{Fault}
use Rattle.net_model.specs.declared.fault.Fault.TheVariants as faults
use Rattle.net_model.specs.declared.walk.Leaf.{Leaf}
use Rattle.net_model.specs.declared.walk.State.{State}
use Rattle.walk_laws.specs.Outcome.{HasOutcome, outcome_of}
use Rattle.straight_walks.specs.Nowhere.{EndShows}
use Rattle.straight_walks.specs.Searching.{EndsInFault, EndsWith, IsComeTo, IsRestOfWalk, LeadsOn}

module _ (setting : Setting) (query : Labels) (rtype : RrType) where
  -- walks of a query come to the states in which it begins
  pub comes_first : (state : State) → Contains (start setting.config query) state → IsComeTo setting query rtype state
  comes_first state has =
      record {
        tops = λ none. none_in_nil state (subst (λ (tops : List Labels). Contains (map (arrived setting.config query true 0 None) tops) state) none has);
        rest = λ numbers walk e.
            let (at, here) = place_of_item (start setting.config query) state has in
            record {
              whole = walk;
              is_walk = (at ∷ numbers, ap (option_and_then (walk_from setting rtype numbers)) here ∙ e);
              front = [];
              states = refl;
              before = [];
              hops = refl;
              leaf = refl;
            };
      }

  module _ (state : State) (comes : IsComeTo setting query rtype state) where
    -- if walks of a query come to a state, they come to each state to which a branch of it leads
    pub comes_on : (to : State) → LeadsOn setting rtype state to → IsComeTo setting query rtype to
    comes_on to (hop, has) =
        record {
          tops = comes.tops;
          rest = λ numbers walk e.
              let (at, here) = place_of_item (next setting rtype state) (Go hop to) has in
              let so = comes.rest (at ∷ numbers) (led_on state hop walk)
              (ap (branched state (length numbers == 0) (walk_from setting rtype numbers)) here ∙ ap (option_map (led_on state hop)) e) in
              record {
                whole = so.whole;
                is_walk = so.is_walk;
                front = so.front ++ state ∷ [];
                states = so.states ∙ sym (append_assoc so.front (state ∷ []) walk.states);
                before = so.before ++ hop ∷ [];
                hops = so.hops ∙ sym (append_assoc so.before (hop ∷ []) walk.hops);
                leaf = so.leaf;
              };
        }

    -- if walks of a query come to a state, the query has the outcome of each walk from there
    pub comes_to_end : (outcome : Option Leaf) → EndsWith setting rtype state outcome → HasOutcome setting query rtype outcome
    comes_to_end outcome (numbers, walk, goes, told) =
        let so = comes.rest numbers walk goes in
        (so.whole, so.is_walk, ap outcome_of so.leaf ∙ told)

    -- and it shows the fault that a walk from there shows by its end
    pub comes_to_fault : (deps : Deps) (fault : Fault) → EndsInFault setting rtype state fault → Shows (with_lists setting deps.least deps.greatest) query rtype fault
    comes_to_fault deps fault ends =
        let so = comes.rest ends.numbers ends.walk ends.goes in
        record {
          walks = so.whole ∷ [];
          by = record { may = may fault ends.shows; are_walks = (so.is_walk, tt); show = show so fault ends.shows };
        }
      where
        may : (fault : Fault) → EndShows ends.walk fault → MayShow setting.config query rtype fault
        may (faults.Blackhole place) shows = tt
        may (faults.Limit place) shows = tt
        may fault shows = absurd shows

        show : (so : IsRestOfWalk setting query rtype ends.walk) (fault : Fault) → EndShows ends.walk fault → WalksShow (with_lists setting deps.least deps.greatest) (so.whole ∷ []) fault
        show so (faults.Blackhole place) shows =
            record {
              rewritten =
                  record {
                    before = so.front ++ shows.rewritten.before;
                    last = shows.rewritten.last;
                    states =
                        so.states ∙ ap (λ (states : List State). so.front ++ states) shows.rewritten.states
                        ∙ sym (append_assoc so.front shows.rewritten.before (shows.rewritten.last ∷ []));
                    at_place = shows.rewritten.at_place;
                  };
              ends = so.leaf ∙ shows.ends;
            }
        show so (faults.Limit place) shows = so.leaf ∙ shows
        show so fault shows = absurd shows
