-- The ends of the walks of a query are those of another name's, where the query walks as that name does.
use Rattle.std.proofs.Common.{◌≡◌, ◌∙◌, ℕ, Bool, true, false, List, [], ◌∷◌, ◌++◌, map, refl, sym, ap, ap₂, subst}
use Rattle.std.specs.Prelude.{if◌then◌else◌}
use Rattle.std.specs.List.{flat_map}
use Rattle.dns_data.specs.Distinct.{distinct}
use Rattle.dns_data.specs.Name.{Labels}
use Rattle.dns_data.specs.RrType.{types}
use Rattle.dns_data.specs.declared.rr_type.RrType.{RrType}
use Rattle.net_model.specs.Retail.{retail, retailed_name, retailed_state}
use Rattle.net_model.specs.Step.{Setting, following}
use Rattle.net_model.specs.Walk.{AreWalks}
use Rattle.net_model.specs.declared.walk.State.{State}
use Rattle.net_model.specs.declared.walk.Walk.{Walk}
use Rattle.query_verdicts.specs.Queries.{LimitedQueries, WalksLike}
use Rattle.site_checks.specs.Ends.{AreEnds, end_eq, end_of, last_server, typed_end}
use Rattle.site_checks.specs.declared.views.TypedEnd.{TypedEnd}
use Rattle.site_checks.specs.declared.views.View.{View}
use Rattle.groot_run.specs.HeldView.{IsHeld}
use Rattle.groot_run.specs.ShownClasses.{HasEnds}
use Rattle.groot_run.specs.declared.held_view.HeldView.{HeldView}

-- what is the same of each type is the same of all types
all_types : (one other : RrType → List TypedEnd) → ((rtype : RrType) → one rtype ≡ other rtype) → (all : List RrType) → flat_map one all ≡ flat_map other all
all_types one other same [] = refl
all_types one other same (rtype ∷ all) = ap₂ (λ (front back : List TypedEnd). front ++ back) (same rtype) (all_types one other same all)

module _ (count : ℕ) (tail : Labels) where
  -- with other last labels, a state is one of the same server
  server_same : (state : State) → (retailed_state count tail state).server ≡ state.server
  server_same state = by state.carried where
    by : (b : Bool) → (if b then record state { name = retailed_name count tail state.name } else state).server ≡ state.server
    by true = refl
    by false = refl

  last_same : (states : List State) → last_server (map (retailed_state count tail) states) ≡ last_server states
  last_same [] = refl
  last_same (state ∷ []) = server_same state
  last_same (state ∷ next ∷ states) = last_same (next ∷ states)

  -- so a walk has the same end
  ends_same : (rtype : RrType) (walks : List Walk) → map (end_of rtype) (map (retail count tail) walks) ≡ map (end_of rtype) walks
  ends_same rtype [] = refl
  ends_same rtype (walk ∷ walks) =
      ap₂ (λ (end : TypedEnd) ends. end ∷ ends) (ap (λ server. typed_end rtype server walk.leaf) (last_same walk.states)) (ends_same rtype walks)

  -- the ends of a name's walks are those of the query's, where these are the same with other last labels
  ends_like : (setting : Setting) (like query : Labels) (ends : List TypedEnd)
      → ((rtype : RrType) (walks : List Walk) → AreWalks setting like rtype walks → AreWalks setting query rtype (map (retail count tail) walks))
      → AreEnds setting like ends → AreEnds setting query ends
  ends_like setting like query ends as_like are = record {
    walks = λ rtype. map (retail count tail) (are.walks rtype);
    are_walks = λ rtype. as_like rtype (are.walks rtype) (are.are_walks rtype);
    are_ends = are.are_ends
        ∙ ap (distinct end_eq)
        (all_types (λ rtype. map (end_of rtype) (are.walks rtype)) (λ rtype. map (end_of rtype) (map (retail count tail) (are.walks rtype)))
        (λ rtype. sym (ends_same rtype (are.walks rtype))) types);
  }

-- a view with the ends that are held has those of a query that walks so
pub held_ends : (queries : LimitedQueries) (held : HeldView) (like query : Labels) (view : View) → IsHeld queries held → held.like ≡ like
    → WalksLike queries like query → view.query ≡ query → view.ends ≡ held.view.ends → HasEnds queries view
held_ends queries held like query view is of_like walks of_query same_ends = record {
  followed = is.followed;
  in_force = is.in_force;
  ends = subst (λ (ends : List TypedEnd). AreEnds setting view.query ends) (sym same_ends)
      (subst (λ (name : Labels). AreEnds setting name held.view.ends) (sym of_query)
      (ends_like walks.count walks.tail setting like query held.view.ends (walks.walks is.followed)
      (subst (λ (name : Labels). AreEnds setting name held.view.ends) of_like is.ends)));
} where
  setting : Setting
  setting = following queries.config queries.rewrites is.followed
