-- What comes from where a query begins: its first states, and those to which steps lead on; and that it stands on a walk.
use Rattle.std.proofs.Common.{◌≡◌, ◌≢◌, ℕ, List, [], ◌∷◌, ◌++◌, map, length, Some, None, true, refl, sym, ap, ◌∙◌, subst, inl, inr, ◌==◌}
use Rattle.std.specs.Prelude.{Contains, slice_get, option_and_then}
use Rattle.std.proofs.lemmas.List.Elements.{Contains-append_right}
use Rattle.dns_data.specs.Name.{Labels}
use Rattle.dns_data.specs.declared.rr_type.RrType.{RrType}
use Rattle.dns_data.proofs.Membership.{has_first}
use Rattle.net_model.specs.Step.{Setting, Go, arrived, start, next}
use Rattle.net_model.specs.Walk.{walk_from}
use Rattle.net_model.specs.declared.walk.Hop.{Hop}
use Rattle.net_model.specs.declared.walk.State.{State}
use Rattle.net_model.specs.declared.walk.Walk.{Walk}
use Rattle.net_model.proofs.EndsSomewhere.{ends_somewhere}
use Rattle.net_model.proofs.Leads.{Leads, branch_taken, leads_walk}
use Rattle.graph_form.specs.GraphOf.{StandsOn}
use Rattle.graph_form.proofs.Places.{place_of_item}
use Rattle.interp_graph.specs.Listed.{Comes, ComesOver}

-- a state in which the query begins comes from there
pub begins : (setting : Setting) (begin : List State) (state : State) (rtype : RrType) → Contains begin state → Comes setting begin rtype state
begins setting begin state rtype has = record { path = []; over = has }

-- one branch more
leads_on : (setting : Setting) (rtype : RrType) (numbers : List ℕ) (hops : List Hop) (from via : State) (number : ℕ) (hop : Hop) (to : State)
    → Leads setting rtype from numbers hops via → slice_get (next setting rtype via) number ≡ Some (Go hop to)
    → Leads setting rtype from (numbers ++ number ∷ []) (hops ++ hop ∷ []) to
leads_on setting rtype [] [] from via number hop to same is =
    (to, ap (λ (s : State). slice_get (next setting rtype s) number) same ∙ is, refl)
leads_on setting rtype [] (h ∷ hops) from via number hop to none is = absurd none
leads_on setting rtype (n ∷ numbers) [] from via number hop to none is = absurd none
leads_on setting rtype (n ∷ numbers) (h ∷ hops) from via number hop to (between, first, rest) is =
    (between, first, leads_on setting rtype numbers hops between via number hop to rest is)

-- a state comes from where the query begins, and so does each to which it leads
pub comes_on : (setting : Setting) (begin : List State) (rtype : RrType) (state : State) → Comes setting begin rtype state
    → (hop : Hop) (to : State) → Contains (next setting rtype state) (Go hop to) → Comes setting begin rtype to
comes_on setting begin rtype state comes hop to has =
    record { path = state ∷ comes.path; over = (comes.over, hop, has) }

-- branches with these numbers lead to the state from one in which the query begins
record Led (setting : Setting) (begin : List State) (rtype : RrType) (state : State) : Type 0 where
  number : ℕ
  first : State
  is_first : slice_get begin number ≡ Some first
  numbers : List ℕ
  hops : List Hop
  leads : Leads setting rtype first numbers hops state

-- those of a path that comes to it do
led : (setting : Setting) (begin : List State) (rtype : RrType) (path : List State) (state : State) → ComesOver setting begin rtype path state
    → Led setting begin rtype state
led setting begin rtype [] state has =
    let at = place_of_item begin state has in
    record { number = at.0; first = state; is_first = at.1; numbers = []; hops = []; leads = refl }
led setting begin rtype (before ∷ path) state (comes, hop, has) =
    let so = led setting begin rtype path before comes in
    let at = place_of_item (next setting rtype before) (Go hop state) has in
    record {
      number = so.number;
      first = so.first;
      is_first = so.is_first;
      numbers = so.numbers ++ at.0 ∷ [];
      hops = so.hops ++ hop ∷ [];
      leads = leads_on setting rtype so.numbers so.hops so.first before at.0 hop state so.leads at.1;
    }

-- a walk from a state has it as its first
begins_with : (setting : Setting) (rtype : RrType) (numbers : List ℕ) (state : State) (walk : Walk)
    → walk_from setting rtype numbers state ≡ Some walk → Contains walk.states state
begins_with setting rtype [] state walk e = cc
begins_with setting rtype (number ∷ numbers) state walk e =
    elim (branch_taken state (length numbers == 0) (walk_from setting rtype numbers) (slice_get (next setting rtype state) number) walk e) [
      | inl goes ↦ subst (λ (w : Walk). Contains w.states state) goes.made (has_first state goes.later.states)
      | inr ends ↦ subst (λ (w : Walk). Contains w.states state) ends.made (has_first state [])
    ]

-- where a query begins somewhere, there are top servers
has_tops : (setting : Setting) (query : Labels) (number : ℕ) (first : State) → slice_get (start setting.config query) number ≡ Some first
    → setting.config.tops ≢ []
has_tops setting query number first is none =
    by (sym (ap (λ (tops : List Labels). slice_get (map (arrived setting.config query true 0 None) tops) number) none) ∙ is)
  where
    by : None ≡ Some first → ⊥
    by e = cc

-- a state that comes from where a query begins stands on a walk of the query, for the same type
pub comes_stand : (setting : Setting) (query : Labels) (rtype : RrType) (state : State) → Comes setting (start setting.config query) rtype state
    → StandsOn setting query (state, rtype)
comes_stand setting query rtype state along =
    let comes = led setting (start setting.config query) rtype along.path state along.over in
    let ends = ends_somewhere setting rtype (has_tops setting query comes.number comes.first comes.is_first) state in
    let walks = leads_walk setting rtype comes.numbers ends.0 comes.hops comes.first state ends.1 comes.leads ends.2 in
    record {
      walk = walks.walk;
      is_walk = (comes.number ∷ (comes.numbers ++ ends.0), ap (option_and_then (walk_from setting rtype (comes.numbers ++ ends.0))) comes.is_first ∙ walks.is_walk);
      stands = subst (λ (states : List State). Contains states state) (sym walks.states)
          (Contains-append_right walks.front ends.1.states state (begins_with setting rtype ends.0 state ends.1 ends.2));
    }
