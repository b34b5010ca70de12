-- States are listed, one item after another.
use Rattle.std.proofs.Common.{◌≡◌, ℕ, ◌≤◌, Some, length-append, arith, List, [], ◌∷◌, ◌++◌, length, refl, sym, ap, ◌∙◌, subst, inl, inr, append_assoc, append-nil}
use Rattle.std.specs.Prelude.{Contains, slice_get}
use Rattle.std.specs.List.{AllZip}
use Rattle.std.proofs.lemmas.List.Elements.{Contains-append_cases, Contains-append_right}
use Rattle.std.proofs.lemmas.Option.{slice_get_within}
use Rattle.dns_data.proofs.Membership.{none_in_nil, has_first}
use Rattle.net_model.specs.declared.walk.State.{State}
use Rattle.interp_graph.specs.Listed.{Adds, Lists, OfOne, Passes}
use Rattle.interp_graph.specs.Making.{AreBeside, StandsBeside}
use Rattle.interp_graph.proofs.ItemsByNumber.{beside_pushed, from_pushed, in_front, item_below, pushed_there, side_by_side}

-- where none is put behind them, no state is more
pub adds_none : (Is : State → Type 0) (states : List State) → Adds Is states states
adds_none Is states =
    record { more = []; behind = sym (append-nil states); each = λ state has. absurd (none_in_nil state has) }

module _ {Is : State → Type 0} {before after : List State} (adds : Adds Is before after) where
  -- where states are put behind the others, these keep their numbers
  pub still_listed : (at : ℕ) (state : State) → slice_get before at ≡ Some state → slice_get after at ≡ Some state
  still_listed at state is = ap (λ (states : List State). slice_get states at) adds.behind ∙ in_front before adds.more at state is

  -- and there are no fewer
  pub no_fewer : length before ≤ length after
  no_fewer = omega (arith, ap (λ (states : List State). length states) adds.behind, length-append before adds.more)

  -- items beside states stay there, and so does one item more beside the next state
  pub beside_more : {A : Type 0} (Was Now : ℕ → A → State → Type 0) (items : List A) (item : A) (state : State)
      → ((at : ℕ) (i : A) (s : State) → Was at i s → Now at i s) → AreBeside Was items before → slice_get before (length items) ≡ Some state
      → Now (length items) item state → AreBeside Now (items ++ item ∷ []) after
  beside_more {A = A} Was Now items item state stays so next new at below =
      let one = item_below (items ++ item ∷ []) at below in
      elim (from_pushed items item one.0 at one.1) [
        | inl old ↦ (let was = so at (slice_get_within items at one.0 old) in
            pair was.one was.other (in_front items (item ∷ []) at was.one was.at_one) was.at_other (stays at was.one was.other was.paired))
        | inr last ↦ pair item state (subst (λ k. slice_get (items ++ item ∷ []) k ≡ Some item) (sym last.0) (pushed_there items item))
            (ap (slice_get before) last.0 ∙ next) (subst (λ k. Now k item state) (sym last.0) new)
      ]
    where
      pair : (i : A) (s : State) → slice_get (items ++ item ∷ []) at ≡ Some i → slice_get before at ≡ Some s → Now at i s
          → StandsBeside (Now at) (items ++ item ∷ []) after at
      pair i s is_item is_state is =
          record { one = i; other = s; at_one = is_item; at_other = still_listed at s is_state; paired = is }

module _ {One Both : State → Type 0} (most : ℕ) (one : (state : State) → One state → Both state) (before : List State) where
  -- states of a kind are states of each kind that says less
  pub lists_as : (after : List State) → Lists One most before after → Lists Both most before after
  lists_as after lists =
      record {
        adds = record { more = lists.adds.more; behind = lists.adds.behind; each = λ state has. one state (lists.adds.each state has) };
        few = lists.few;
      }

  -- and so are too many of them
  pub passes_as : Passes One most before → Passes Both most before
  passes_as passes =
      record {
        after = passes.after;
        adds = record { more = passes.adds.more; behind = passes.adds.behind; each = λ state has. one state (passes.adds.each state has) };
        once = passes.once;
        many = passes.many;
      }

module _ {One Other Both : State → Type 0} (one : (state : State) → One state → Both state) (other : (state : State) → Other state → Both state)
    (before between : List State) (first : Adds One before between) where
  -- states are put behind the others, and then more of them
  pub adds_twice : (after : List State) → Adds Other between after → Adds Both before after
  adds_twice after second =
      record {
        more = first.more ++ second.more;
        behind = second.behind ∙ (ap (λ (front : List State). front ++ second.more) first.behind ∙ append_assoc before first.more second.more);
        each = λ state has. elim (Contains-append_cases first.more second.more state has) [
          | inl here ↦ one state (first.each state here)
          | inr behind ↦ other state (second.each state behind)
        ];
      }

  -- and where these are too many together
  pub passes_later : (most : ℕ) → Passes Other most between → Passes Both most before
  passes_later most passes =
      record { after = passes.after; adds = adds_twice passes.after passes.adds; once = passes.once; many = passes.many }

module _ {Item Made : Type 0} (Is : Item → State → Type 0) (IsMade : List State → Made → Item → Type 0) (most : ℕ) where
  -- so far: what is made stands beside the items that aren't left, and the states of each are listed
  pub record ListedSoFar (all left : List Item) (made : List Made) (before now : List State) : Type 0 where
    pub done : List Item
    pub parts : done ++ left ≡ all
    pub each : AllZip (IsMade now) made done
    pub lists : Lists (OfOne Is all) most before now

  -- at first all items are left
  pub listed_first : (all : List Item) (states : List State) → length states ≤ most → ListedSoFar all all [] states states
  listed_first all states few =
      record { done = []; parts = refl; each = tt; lists = record { adds = adds_none (OfOne Is all) states; few = few } }

  module _ (all left : List Item) (made : List Made) (item : Item) (before now : List State) (so : ListedSoFar all (item ∷ left) made before now) where
    of_all : (state : State) → Is item state → OfOne Is all state
    of_all state is =
        (item, subst (λ (items : List Item). Contains items item) so.parts (Contains-append_right so.done (item ∷ left) item (has_first item left)), is)

    -- where the states of the next item are too many, those of all items are
    pub listed_passed : Passes (Is item) most now → Passes (OfOne Is all) most before
    listed_passed passes = passes_later (λ state is. is) of_all before now so.lists.adds most passes

    -- when the states of one item more are listed, one fewer is left
    pub listed_more : (after : List State) (one : Made) → ((m : Made) (i : Item) → IsMade now m i → IsMade after m i) → Lists (Is item) most now after
        → IsMade after one item → ListedSoFar all left (made ++ one ∷ []) before after
    listed_more after one stays lists is =
        record {
          done = so.done ++ item ∷ [];
          parts = append_assoc so.done (item ∷ []) left ∙ so.parts;
          each = beside_pushed (IsMade after) made so.done one item (side_by_side (IsMade now) (IsMade after) made so.done stays so.each) is;
          lists = record { adds = adds_twice (λ state is. is) of_all before now so.lists.adds after lists.adds; few = lists.few };
        }
