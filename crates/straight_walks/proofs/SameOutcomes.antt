-- Ends that are compared.
use Rattle.std.proofs.Common.{◌≡◌, ℕ, ◌≤◌, Bool, true, false, List, [], ◌∷◌, Option, Some, None, refl, sym, ap, ◌∙◌, subst, inl, inr, true≢false}
use Rattle.std.specs.Prelude.{◌↔◌, ◌⊎◌, ◌&&◌, ◌||◌, is_some, not, option_and_then, option_map, if◌then◌else◌}
use Rattle.std.specs.Option.{option_map_or}
use Rattle.std.specs.Cmp.{booleans_Decides}
use Rattle.std.proofs.lemmas.Bool.{and_from, and_parts}
use Rattle.std.proofs.lemmas.List.{append-nil}
use mathlib.Core.Bool.{beq}
use lib.Pointwise.{pointwise}
use Rattle.dns_data.specs.Name.{Labels}
use Rattle.dns_data.specs.Rdata.{data_eq}
use Rattle.dns_data.specs.contracts.rdata.RdataPartialEq.TheImpl as data_impl
use Rattle.dns_data.specs.declared.rdata.Rdata.{Rdata}
use Rattle.dns_data.specs.declared.rr_type.RrType.{RrType}
use Rattle.graph_form.specs.FirstPath.{answer_eq}
use Rattle.graph_form.proofs.EqualAnswers.{answer_itself, same_answers, same_lists}
use Rattle.net_model.specs.Shown.{is_authoritative}
use Rattle.net_model.specs.declared.walk.Leaf.{Leaf}
use Rattle.net_model.specs.declared.walk.Leaf.TheVariants.{NxDomain}
use Rattle.walk_laws.specs.Outcome.{outcome_of}
use Rattle.zone_lookup.specs.Resting.{data_leaf}
use Rattle.straight_walks.specs.Answers.{AnswerOwners, ZoneOwner, outcome_with, owner_leaf, owner_with, sorted_data}
use Rattle.straight_walks.specs.Ends.{IsOutcomeOf, answer_with, ends_alike, fails_with, outcomes_alike, told_by}
use Rattle.straight_walks.specs.Nowhere.{untold}
use Rattle.straight_walks.specs.Searching.{AnswerIsPut}
use Rattle.straight_walks.specs.declared.ends.StraightEnds.{StraightEnds}

-- ---- what a zone answers

told_data : (found : List Rdata) → is_authoritative (data_leaf found) ≡ true
told_data [] = refl
told_data (first ∷ rest) = refl

-- an owner's zone answers with authority
owner_told : (owner : ZoneOwner) (rtype : RrType) → is_authoritative (owner_leaf owner rtype) ≡ true
owner_told owner rtype = by owner.owner where
  by : (name : Option Labels) → is_authoritative (option_map_or (λ name. data_leaf (sorted_data owner.zone name rtype)) name NxDomain) ≡ true
  by None = refl
  by (Some name) = told_data (sorted_data owner.zone name rtype)

-- what an owner's zone answers is the outcome of a walk that ends there
pub owner_outcome : (owner : ZoneOwner) (rtype : RrType) → outcome_of (owner_leaf owner rtype) ≡ Some (owner_leaf owner rtype)
owner_outcome owner rtype = ap (λ (b : Bool). if b then Some (owner_leaf owner rtype) else None) (owner_told owner rtype)

-- what a server answers by its owners is authoritative
answer_told : (answering : AnswerOwners) (rtype : RrType) (leaf : Leaf) → outcome_with answering rtype ≡ Some leaf → is_authoritative leaf ≡ true
answer_told answering rtype leaf = by (owner_with answering rtype) where
  by : (owner : Option ZoneOwner) → option_map (λ at. owner_leaf at rtype) owner ≡ Some leaf → is_authoritative leaf ≡ true
  by None e = cc
  by (Some owner) e = let same : owner_leaf owner rtype ≡ leaf = cc in subst (λ (l : Leaf). is_authoritative l ≡ true) same (owner_told owner rtype)

-- outcomes that are seen to be alike are the same
pub alike_same : (one other : Option Leaf) → outcomes_alike one other ≡ true → one ≡ other
alike_same None None e = refl
alike_same None (Some other) e = absurd (true≢false (sym e))
alike_same (Some one) None e = absurd (true≢false (sym e))
alike_same (Some one) (Some other) e = ap (λ (leaf : Leaf). Some leaf) (same_answers one other e)

-- an outcome is like itself, if it is a failure or authoritative
alike_itself : (one : Option Leaf) → ((leaf : Leaf) → one ≡ Some leaf → is_authoritative leaf ≡ true) → outcomes_alike one one ≡ true
alike_itself None told = refl
alike_itself (Some leaf) told = answer_itself leaf (told leaf refl)

-- it is told by the data that the owner has, or that there is none
leaf_by_data : (owner : ZoneOwner) (rtype : RrType) (found : Option (List Rdata)) → found ≡ option_map (λ name. sorted_data owner.zone name rtype) owner.owner
    → owner_leaf owner rtype ≡ option_map_or data_leaf found NxDomain
leaf_by_data owner rtype found is = by owner.owner ∙ ap (λ (data_found : Option (List Rdata)). option_map_or data_leaf data_found NxDomain) (sym is) where
  by : (name : Option Labels) → option_map_or (λ name. data_leaf (sorted_data owner.zone name rtype)) name NxDomain
      ≡ option_map_or data_leaf (option_map (λ name. sorted_data owner.zone name rtype) name) NxDomain
  by None = refl
  by (Some name) = refl

-- data are equal as the answers are that they make
data_told : (found others : List Rdata) → pointwise data_eq found others ≡ answer_eq (data_leaf found) (data_leaf others)
data_told [] [] = refl
data_told [] (other ∷ others) = refl
data_told (one ∷ found) [] = refl
data_told (one ∷ found) (other ∷ others) = refl

-- what answers are compared by: the owner's data of the type, or that there is no owner
abbrev pub FoundWith : ZoneOwner → RrType → Option (List Rdata) → Type 0
FoundWith owner rtype found = found ≡ option_map (λ name. sorted_data owner.zone name rtype) owner.owner

-- answers are equal exactly if what they are compared by makes equal answers
pub compared_found : (one other : ZoneOwner) (rtype : RrType) (found others : Option (List Rdata)) → FoundWith one rtype found → FoundWith other rtype others
    → answer_eq (option_map_or data_leaf found NxDomain) (option_map_or data_leaf others NxDomain) ≡ answer_eq (owner_leaf one rtype) (owner_leaf other rtype)
compared_found one other rtype found others is also =
    ap (λ (leaf : Leaf). answer_eq leaf (option_map_or data_leaf others NxDomain)) (sym (leaf_by_data one rtype found is))
    ∙ ap (answer_eq (owner_leaf one rtype)) (sym (leaf_by_data other rtype others also))

-- if both owners have data of the type, their answers are equal exactly if the data are
pub compared_by_data : (one other : ZoneOwner) (rtype : RrType) (found others : List Rdata) → FoundWith one rtype (Some found) → FoundWith other rtype (Some others)
    → pointwise (data_impl.ghosts).eq found others ≡ answer_eq (owner_leaf one rtype) (owner_leaf other rtype)
compared_by_data one other rtype found others is also =
    same_lists found others ∙ data_told found others ∙ compared_found one other rtype (Some found) (Some others) is also

data_or_nothing : (found : List Rdata) → (answer_eq (data_leaf found) NxDomain ≡ false) × (answer_eq NxDomain (data_leaf found) ≡ false)
data_or_nothing [] = (refl, refl)
data_or_nothing (first ∷ rest) = (refl, refl)

-- ---- whether ends are alike

-- the ends have the same outcomes with the type
abbrev pub HaveSame : StraightEnds → StraightEnds → RrType → Type 0
HaveSame one other rtype = (outcome : Option Leaf) → IsOutcomeOf one rtype outcome ↔ IsOutcomeOf other rtype outcome

-- failure
abbrev failure : Option Leaf
failure = None

module _ (ends : StraightEnds) (rtype : RrType) where
  -- failure is an outcome exactly where some walk fails
  fails_decide : IsOutcomeOf ends rtype None ↔ (fails_with ends rtype ≡ true)
  fails_decide = by ends.fails (told_by ends rtype) where
    by : (fails : Bool) (told : Option (Option Leaf)) → (((failure ≡ failure) × (fails ≡ true)) ⊎ (told ≡ Some failure))
        ↔ ((fails || option_map_or (λ outcome. not (is_some outcome)) told false) ≡ true)
    by true told = (λ is. refl, λ e. inl (refl, refl))
    by false None = (
      λ is. elim is [
        | inl fails ↦ absurd (true≢false (sym fails.1))
        | inr e ↦ absurd cc
      ],
      λ e. absurd (true≢false (sym e)),
    )
    by false (Some None) = (λ is. refl, λ e. inr refl)
    by false (Some (Some leaf)) = (
      λ is. elim is [
        | inl fails ↦ absurd (true≢false (sym fails.1))
        | inr e ↦ absurd cc
      ],
      λ e. absurd (true≢false (sym e)),
    )

  -- an answer is an outcome exactly where it is the answer of the ends
  answer_decides : (leaf : Leaf) → IsOutcomeOf ends rtype (Some leaf) ↔ (answer_with ends rtype ≡ Some leaf)
  answer_decides leaf = by (told_by ends rtype) where
    by : (told : Option (Option Leaf)) → (((Some leaf ≡ None) × (ends.fails ≡ true)) ⊎ (told ≡ Some (Some leaf))) ↔ (option_and_then (λ outcome. outcome) told ≡ Some leaf)
    by None = (
      λ is. elim is [
        | inl none ↦ absurd (apart none.0)
        | inr e ↦ absurd cc
      ],
      λ e. absurd cc,
    ) where
      apart : Some leaf ≡ None → ⊥
      apart e = cc
    by (Some outcome) = (
      λ is. elim is [
        | inl none ↦ absurd (apart none.0)
        | inr e ↦ cc
      ],
      λ e. inr (ap (λ (o : Option Leaf). Some o) e),
    ) where
      apart : Some leaf ≡ None → ⊥
      apart e = cc

  -- the answer of the ends is authoritative
  told_answer : (leaf : Leaf) → answer_with ends rtype ≡ Some leaf → is_authoritative leaf ≡ true
  told_answer leaf = by ends.answer where
    by : (answer : Option AnswerOwners) → option_and_then (λ outcome. outcome) (option_map (λ answering. outcome_with answering rtype) answer) ≡ Some leaf → is_authoritative leaf ≡ true
    by None e = cc
    by (Some answering) e = answer_told answering rtype leaf e

fails_told : (one other : Bool) → (one ≡ true) ↔ (other ≡ true) → one ≡ other
fails_told true true same = refl
fails_told true false same = sym (same.0 refl)
fails_told false true same = same.1 refl
fails_told false false same = refl

answers_told_alike : (one other : Option Leaf) → ((leaf : Leaf) → (one ≡ Some leaf) ↔ (other ≡ Some leaf)) → one ≡ other
answers_told_alike None None same = refl
answers_told_alike (Some leaf) other same = sym ((same leaf).0 refl)
answers_told_alike None (Some leaf) same = (same leaf).1 refl

-- ends are alike exactly where they have the same outcomes
pub alike_decides : (one other : StraightEnds) (rtype : RrType) → (ends_alike one other rtype ≡ true) ↔ HaveSame one other rtype
alike_decides one other rtype = (forth, back) where
  forth : ends_alike one other rtype ≡ true → HaveSame one other rtype
  forth alike outcome =
      let parts = and_parts (beq (fails_with one rtype) (fails_with other rtype)) (outcomes_alike (answer_with one rtype) (answer_with other rtype)) alike in
      by outcome ((booleans_Decides (fails_with one rtype) (fails_with other rtype)).0 parts.0) (alike_same (answer_with one rtype) (answer_with other rtype) parts.1)
    where
      by : (outcome : Option Leaf) → fails_with one rtype ≡ fails_with other rtype → answer_with one rtype ≡ answer_with other rtype
          → IsOutcomeOf one rtype outcome ↔ IsOutcomeOf other rtype outcome
      by None fails answers = (
        λ is. (fails_decide other rtype).1 (sym fails ∙ (fails_decide one rtype).0 is),
        λ is. (fails_decide one rtype).1 (fails ∙ (fails_decide other rtype).0 is),
      )
      by (Some leaf) fails answers = (
        λ is. (answer_decides other rtype leaf).1 (sym answers ∙ (answer_decides one rtype leaf).0 is),
        λ is. (answer_decides one rtype leaf).1 (answers ∙ (answer_decides other rtype leaf).0 is),
      )

  back : HaveSame one other rtype → ends_alike one other rtype ≡ true
  back same =
      and_from (beq (fails_with one rtype) (fails_with other rtype)) (outcomes_alike (answer_with one rtype) (answer_with other rtype))
      ((booleans_Decides (fails_with one rtype) (fails_with other rtype)).1 (fails_told (fails_with one rtype) (fails_with other rtype) (
        λ e. (fails_decide other rtype).0 ((same None).0 ((fails_decide one rtype).1 e)),
        λ e. (fails_decide one rtype).0 ((same None).1 ((fails_decide other rtype).1 e)),
      )))
      (subst (λ (answer : Option Leaf). outcomes_alike (answer_with one rtype) answer ≡ true)
      (answers_told_alike (answer_with one rtype) (answer_with other rtype) (λ leaf. (
        λ e. (answer_decides other rtype leaf).0 ((same (Some leaf)).0 ((answer_decides one rtype leaf).1 e)),
        λ e. (answer_decides one rtype leaf).0 ((same (Some leaf)).1 ((answer_decides other rtype leaf).1 e)),
      )))
      (alike_itself (answer_with one rtype) (told_answer one rtype)))

-- ---- what one more server answers

-- the ends with another number of rewrites, of the query alone and, where they were and it is said so, of it with an
-- unnamed tail
abbrev pub with_rewrites : StraightEnds → ℕ → Bool → StraightEnds
with_rewrites ends rewrites none_below = record ends { rewrites = rewrites; below = false; unnamed_below = ends.unnamed_below && none_below }

module _ (ends : StraightEnds) (answering : AnswerOwners) (rewrites more : ℕ) (none_below : Bool) (kept : ends.rewrites ≤ more) (reached : rewrites ≤ more) where
  -- an answer is put to ends that have none yet
  pub put_first : ends.answer ≡ None → AnswerIsPut ends answering rewrites none_below untold (record (with_rewrites ends more none_below) { answer = Some answering })
  put_first none =
      record {
        still = record {
          rewrites = kept;
          fails = λ is. is;
          faulty = ([], sym (append-nil ends.faulty.items));
          blackholes = ([], refl);
          alias_faults = ([], refl);
          outcomes = still;
        };
        behind = reached;
        failed = λ is. is;
        there = λ rtype. refl;
        only = only;
        same_faulty = refl;
        blackholes = refl;
        alias_faults = refl;
        alone = refl;
        unnamed = refl;
      }
    where
      still : (rtype : RrType) (outcome : Option Leaf) → IsOutcomeOf ends rtype outcome
          → IsOutcomeOf (record (with_rewrites ends more none_below) { answer = Some answering }) rtype outcome
      still rtype outcome (inl fails) = inl fails
      still rtype outcome (inr told) = absurd (by (sym (ap (option_map (λ (one : AnswerOwners). outcome_with one rtype)) none) ∙ told)) where
        by : None ≡ Some outcome → ⊥
        by e = cc

      only : (rtype : RrType) (outcome : Option Leaf) → IsOutcomeOf (record (with_rewrites ends more none_below) { answer = Some answering }) rtype outcome
          → IsOutcomeOf ends rtype outcome ⊎ (outcome ≡ outcome_with answering rtype)
      only rtype outcome (inl fails) = inl (inl fails)
      only rtype outcome (inr told) = let same : outcome_with answering rtype ≡ outcome = cc in inr (sym same)

  -- an answer is put to ends that have one like it
  pub put_again : (before : AnswerOwners) → ends.answer ≡ Some before → ((rtype : RrType) → outcome_with before rtype ≡ outcome_with answering rtype)
      → AnswerIsPut ends answering rewrites none_below untold (with_rewrites ends more none_below)
  put_again before some same =
      record {
        still = record {
          rewrites = kept;
          fails = λ is. is;
          faulty = ([], sym (append-nil ends.faulty.items));
          blackholes = ([], refl);
          alias_faults = ([], refl);
          outcomes = λ rtype outcome is. is;
        };
        behind = reached;
        failed = λ is. is;
        there = λ rtype. ap (option_map (λ (one : AnswerOwners). outcome_with one rtype)) some ∙ ap (λ (o : Option Leaf). Some o) (same rtype);
        only = λ rtype outcome is. inl is;
        same_faulty = refl;
        blackholes = refl;
        alias_faults = refl;
        alone = refl;
        unnamed = refl;
      }
