-- The two turns in which states are visited, one after another.
use Rattle.std.proofs.Common.{◌≡◌, ℕ, ◌+◌, ◌<◌, ◌≤◌, Bool, true, not, suc, List, [], ◌∷◌, ◌++◌, map, length, Option, Some, None, refl, sym, ap, ◌∙◌, subst, inl, inr, true≢false, eq-eqb, eqb-true, length-append, arith}
use Rattle.std.specs.Prelude.{◌&&◌, Contains, slice_get}
use Rattle.std.specs.Iterator.{YieldsFirst}
use Rattle.std.proofs.lemmas.List.Elements.{Contains-append_cases}
use Rattle.std.proofs.lemmas.Option.{slice_get_within}
use Rattle.dns_data.specs.RrType.{number_of, type_eq}
use Rattle.dns_data.specs.TypeSet.{has_bit}
use Rattle.dns_data.specs.declared.rr_type.RrType.{RrType}
use Rattle.dns_data.specs.declared.rr_type.RrType.TheVariants as rr
use Rattle.dns_data.proofs.Searches.{same_truth}
use Rattle.net_model.specs.Step.{Setting}
use Rattle.net_model.specs.declared.walk.State.{State}
use Rattle.graph_form.specs.declared.node.Arm.{Arm}
use Rattle.graph_form.proofs.Places.{item_there}
use Rattle.zone_lookup.proofs.TypeSets.{same_split}
use Rattle.interp_graph.specs.Listed.{Adds, Comes, ComesFrom, ComesWith, DraftGoes, Lists, but_cname, every}
use Rattle.interp_graph.specs.Making.{AreBeside, AreEarly, EarlyGoes, IsDraft, IsDraftBy, IsEarly, IsEarlyOf, IsFinishedOf, IsNode, typed}
use Rattle.interp_graph.specs.Steps.{AreForks, AreForksOrAlias, types_of}
use Rattle.interp_graph.specs.declared.step.Draft.{Draft}
use Rattle.interp_graph.specs.declared.step.Draft.TheVariants.{Done, Left}
use Rattle.interp_graph.specs.declared.step.Early.{Early}
use Rattle.interp_graph.specs.declared.step.Early.TheVariants as early_as
use Rattle.interp_graph.specs.declared.step.Fork.{Fork}
use Rattle.interp_graph.proofs.ForksFollowed.{all_go, early_made, early_on, node_finished, node_on, rest_go}
use Rattle.interp_graph.proofs.ItemsByNumber.{one_there}
use Rattle.interp_graph.proofs.Listing.{adds_none, adds_twice, beside_more, no_fewer, still_listed}
use Rattle.interp_graph.proofs.Standing.{comes_on}
use Rattle.interp_graph.proofs.TypesAlike.{typed_first, typed_rest}

-- all types without CNAME are each type but that
pub others_than : (all one others : List Bool) → ((rtype : RrType) → has_bit all rtype ≡ true) → ((rtype : RrType) → has_bit one rtype ≡ type_eq rr.Cname rtype)
    → ((rtype : RrType) → has_bit others rtype ≡ (has_bit all rtype && not (has_bit one rtype))) → (rtype : RrType) → has_bit others rtype ≡ but_cname rtype
others_than all one others is_all is_one minus rtype =
    minus rtype
    ∙ (ap (λ b. b && not (has_bit one rtype)) (is_all rtype)
    ∙ ap not (is_one rtype ∙ same_truth (type_eq rr.Cname rtype) (type_eq rtype rr.Cname) (turned rr.Cname rtype) (turned rtype rr.Cname)))
  where
    turned : (a b : RrType) → type_eq a b ≡ true → type_eq b a ≡ true
    turned a b is = eq-eqb (number_of b) (number_of a) (sym (eqb-true (number_of a) (number_of b) is))

-- the forks of a state for some types are those for the same types told otherwise
pub forks_as : (setting : Setting) (state : State) (among more : RrType → Bool) (forks : List Fork) → ((rtype : RrType) → more rtype ≡ among rtype)
    → AreForks setting state among forks → AreForks setting state more forks
forks_as setting state among more forks same are =
    record { split = same_split among (map types_of forks) are.split more same; tell = are.tell }

-- all listed states come from where the query begins, if the first ones do
pub all_come : (setting : Setting) (among : RrType → Bool) (before now : List State) → Adds (ComesFrom setting among before) before now → (begin : List State)
    → ((one : State) → Contains before one → ComesWith setting begin among one) → (one : State) → Contains now one → ComesWith setting begin among one
all_come setting among before now adds begin come one has =
    elim (Contains-append_cases before adds.more one (subst (λ (states : List State). Contains states one) adds.behind has)) [
      | inl here ↦ come one here
      | inr behind ↦ adds.each one behind begin come
    ]

module _ (setting : Setting) (most : ℕ) where
  -- ---- the first turn

  -- so far: what the first turn gives stands beside the first of the listed states, which all come with each type
  pub record FirstSoFar (before now : List State) (all : List Early) : Type 0 where
    pub lists : Lists (ComesFrom setting every before) most before now
    pub beside : AreBeside (λ at. IsEarly setting now (length now)) all now

  module _ (before now : List State) (all : List Early) (so : FirstSoFar before now all) (state : State)
      (next : slice_get now (length all) ≡ Some state) (forks : Option (List Fork)) (are : AreForksOrAlias setting state forks) where
    -- the states to which the next state's forks go come with each type
    pub early_comes : (to : State) → EarlyGoes forks to → ComesFrom setting every before to
    early_comes to goes begin come rtype typed = by forks are goes where
      by : (forks : Option (List Fork)) → AreForksOrAlias setting state forks → EarlyGoes forks to → Comes setting begin rtype to
      by None ends goes = absurd goes
      by (Some forks) are goes =
          let on = all_go setting state every forks are.0 are.1 to goes rtype in
          comes_on setting begin rtype state
          (all_come setting every before now so.lists.adds begin come state (item_there now (length all) state next) rtype refl) on.0 to on.1

    -- with what it gives for the next state, one more stands beside its state
    pub first_more : (after : List State) (early : Early) → Lists (EarlyGoes forks) most now after → IsEarlyOf after forks early
        → FirstSoFar before after (all ++ early ∷ [])
    first_more after early lists is =
        record {
          lists = record { adds = adds_twice (λ s is. is) early_comes before now so.lists.adds after lists.adds; few = lists.few };
          beside = beside_more lists.adds (λ at. IsEarly setting now (length now)) (λ at. IsEarly setting after (length after)) all early state
              (λ at e s was. early_on lists.adds setting (length now) (length after) (no_fewer lists.adds) e s was) so.beside next
              (early_made setting after state forks early are is);
        }

  -- ---- the second turn

  -- so far: nodes stand beside the first of the listed states, which all come with each type but CNAME, and what is left of
  -- the first turn beside the states behind them
  pub record RestSoFar (before now : List State) (left : List Early) (nodes : List (List Arm)) : Type 0 where
    pub lists : Lists (ComesFrom setting but_cname before) most before now
    pub beside : AreBeside (λ at. IsNode setting now (length before) (typed (length before) at)) nodes now
    pub early : (at : ℕ) (one : Early) → slice_get left at ≡ Some one
        → (state : State) × (slice_get before (length nodes + at) ≡ Some state) × IsEarly setting before (length before) one state
    pub enough : length before ≤ length nodes + length left

  -- at first all is left
  pub rest_begun : (states : List State) (all : List Early) → length states ≤ most → AreEarly setting states all → RestSoFar states states all []
  rest_begun states all few are =
      record {
        lists = record { adds = adds_none (ComesFrom setting but_cname states) states; few = few };
        beside = λ at below. absurd (omega (arith, below));
        early = λ at one is.
            let so = are.beside at (slice_get_within all at one is) in
            (so.other, ap (slice_get states) (none_before at) ∙ so.at_other, subst (λ (e : Early). IsEarly setting states (length states) e so.other) (one_there all at so.one one so.at_one is) so.paired);
        enough = omega (arith, are.all);
      }
    where
      none_before : (at : ℕ) → 0 + at ≡ at
      none_before at = omega arith

  module _ (before now : List State) (nodes : List (List Arm)) (state : State) (next : slice_get now (length nodes) ≡ Some state) where
    -- what is left first is of the next state, which all types reach
    left_first : (one : Early) (rest : List Early) → RestSoFar before now (one ∷ rest) nodes
        → (length nodes < length before) × IsEarly setting now (length before) one state
    left_first one rest so =
        let was = so.early 0 one refl in
        let same : length nodes + 0 ≡ length nodes = omega arith in
        let there : slice_get before (length nodes) ≡ Some was.0 = ap (slice_get before) (sym same) ∙ was.1 in
        let is : was.0 ≡ state = one_there now (length nodes) was.0 state (still_listed so.lists.adds (length nodes) was.0 there) next in (
          slice_get_within before (length nodes) was.0 there,
          subst (λ (s : State). IsEarly setting now (length before) one s) is (early_on so.lists.adds setting (length before) (length before) (omega arith) one was.0 was.2),
        )

    -- the types with which walks reach the next state
    abbrev reaching : RrType → Bool
    reaching = typed (length before) (length nodes)

    module _ (left rest : List Early) (given : Option Early) (steps : YieldsFirst (λ (es : List Early). es) left given rest) (so : RestSoFar before now left nodes)
        (types : List Bool) (others : (rtype : RrType) → has_bit types rtype ≡ but_cname rtype) (draft : Draft) (is : IsDraftBy setting state types given draft) where
      -- by what is left first, or by the forks where nothing is left, the draft is one of the next state
      next_draft : IsDraft setting now (length before) reaching draft state
      next_draft = by given steps is where
        by : (given : Option Early) → YieldsFirst (λ (es : List Early). es) left given rest → IsDraftBy setting state types given draft
            → IsDraft setting now (length before) reaching draft state
        by (Some (early_as.Done arms)) steps same =
            let (below, node) = left_first (early_as.Done arms) rest (subst (λ (es : List Early). RestSoFar before now es nodes) steps so) in
            subst (λ (d : Draft). IsDraft setting now (length before) reaching d state) (sym same)
            (subst (λ (among : RrType → Bool). IsNode setting now (length before) among arms state) (sym (typed_first (length before) (length nodes) below)) node)
        by (Some early_as.Alias) steps (forks, same, are) =
            let (below, ends) = left_first early_as.Alias rest (subst (λ (es : List Early). RestSoFar before now es nodes) steps so) in
            subst (λ (d : Draft). IsDraft setting now (length before) reaching d state) (sym same)
            (record {
              are = subst (λ (among : RrType → Bool). AreForks setting state among forks) (sym (typed_first (length before) (length nodes) below)) are;
              stays = λ reaches. ends;
            })
        by None steps (forks, same, are) =
            let rest_only = typed_rest (length before) (length nodes) (omega (arith, (subst (λ (es : List Early). RestSoFar before now es nodes) steps.0 so).enough)) in
            subst (λ (d : Draft). IsDraft setting now (length before) reaching d state) (sym same)
            (record {
              are = subst (λ (among : RrType → Bool). AreForks setting state among forks) (sym rest_only)
                  (forks_as setting state (has_bit types) but_cname forks (λ rtype. sym (others rtype)) are);
              stays = λ reaches. absurd (true≢false (sym (ap (λ (among : RrType → Bool). among rr.Cname) (sym rest_only) ∙ reaches)));
            })

      -- the states to which its forks go come with each type but CNAME
      pub rest_comes : (to : State) → DraftGoes draft to → ComesFrom setting but_cname before to
      rest_comes to goes begin come rtype other = by draft next_draft goes where
        by : (draft : Draft) → IsDraft setting now (length before) reaching draft state → DraftGoes draft to
            → Comes setting begin rtype to
        by (Done arms) is goes = absurd goes
        by (Left forks) is goes =
            let on = rest_go setting state reaching forks is.are to goes rtype other in
            comes_on setting begin rtype state
            (all_come setting but_cname before now so.lists.adds begin come state (item_there now (length nodes) state next) rtype other) on.0 to on.1

      -- with its arms, one more node stands beside its state
      pub rest_more : (after : List State) (arms : List Arm) → Lists (DraftGoes draft) most now after → IsFinishedOf after draft arms
          → RestSoFar before after rest (nodes ++ arms ∷ [])
      rest_more after arms lists finished =
          record {
            lists = record { adds = adds_twice (λ s is. is) rest_comes before now so.lists.adds after lists.adds; few = lists.few };
            beside = beside_more lists.adds (λ at. IsNode setting now (length before) (typed (length before) at))
                (λ at. IsNode setting after (length before) (typed (length before) at)) nodes arms state
                (λ at a s was. node_on lists.adds setting (length before) (length before) (omega arith) (typed (length before) at) s a was) so.beside next
                (node_finished now after lists.adds setting (length before) reaching state draft arms next_draft finished);
            early = λ at other there.
                let was = so.early (suc at) other (later given steps at other there) in
                (was.0, ap (slice_get before) (by at) ∙ was.1, was.2);
            enough = omega (arith, so.enough, fewer given steps, long);
          }
        where
          long : length (nodes ++ arms ∷ []) ≡ length nodes + 1
          long = length-append nodes (arms ∷ [])

          by : (at : ℕ) → length (nodes ++ arms ∷ []) + at ≡ length nodes + suc at
          by at = omega (arith, long)

          later : (given : Option Early) → YieldsFirst (λ (es : List Early). es) left given rest → (at : ℕ) (other : Early) → slice_get rest at ≡ Some other
              → slice_get left (suc at) ≡ Some other
          later (Some one) steps at other there = ap (λ (es : List Early). slice_get es (suc at)) steps ∙ there
          later None steps at other there = absurd (none (sym (ap (λ (es : List Early). slice_get es at) steps.1) ∙ there)) where
            none : None ≡ Some other → ⊥
            none e = cc

          fewer : (given : Option Early) → YieldsFirst (λ (es : List Early). es) left given rest → length left ≤ suc (length rest)
          fewer (Some one) steps = omega (arith, ap (λ (es : List Early). length es) steps)
          fewer None steps = omega (arith, ap (λ (es : List Early). length es) steps.0)
