-- What is known of names: by their walks, unless something new is followed, and of all servers' names in a round.
use Rattle.std.proofs.Common.{◌≡◌, ◌↔◌, ◌∙◌, ℕ, Bool, true, false, ◌||◌, cond, List, [], ◌∷◌, ◌++◌, map, length, filter, Contains, refl, sym, ap, subst, inl, inr, true≢false}
use Rattle.std.specs.Prelude.{nat_lt}
use Rattle.std.specs.List.{AllByRecursion, fold, list_any}
use Rattle.std.proofs.lemmas.Bool.{or_cases, or_left, or_right}
use Rattle.std.proofs.lemmas.List.Elements.{Contains-append_left, Contains-append_right}
use Rattle.dns_data.specs.Name.{Labels}
use Rattle.dns_data.specs.declared.rr_type.RrType.TheVariants as types
use Rattle.dns_data.proofs.Membership.{none_in_nil, has_first, first_or_later}
use Rattle.net_model.specs.declared.config.Config.{Config}
use Rattle.net_model.specs.declared.walk.Leaf.{Leaf}
use Rattle.net_model.specs.declared.walk.Leaf.TheVariants.{Answer, NoData, NxDomain, Outside, Unhosted, Lame, Limit, Overlong, NoAddress}
use Rattle.net_model.specs.declared.walk.Walk.{Walk}
use Rattle.net_model.specs.Learnt.{IsRound, Learns, LearnsBy, gives_address}
use Rattle.net_model.specs.Nearest.{server_names}
use Rattle.net_model.specs.Step.{following}
use Rattle.net_model.specs.Walk.{AreWalks, IsWalk}
use Rattle.zone_lookup.specs.Resting.{Rests}
use Rattle.zone_lookup.proofs.ListedWalks.{is_listed, learns_told}
use Rattle.plain_resolver.specs.Passed.{HasMoreWalks, HasTooMany, IsFirstToPass, NoneHasTooMany}
use Rattle.plain_resolver.specs.KnownNames.{FollowedNow, FollowsOn, IsFirstOf, IsPartOf, NoneNew, Seen, StaysKnown, StaysUnlessNew, Known, Waits, most_waited_for, names_learnt, names_known, no_waits, seen_after, known_of, waits_after, waits_also}
use Rattle.plain_resolver.proofs.Learning.{test_is, test_tells, test_while}
use Rattle.plain_resolver.proofs.WaitingWalks.{learns_same, more_same}

-- ---- what is seen of walks

-- where all are kept with one more, all were before, each that was kept still is, and this one is
record Keeps (before after : Waits) : Type 0 where
  all : before.all ≡ true
  names : (ns : Labels) → Contains before.names ns → Contains after.names ns

also_keeps : (waits : Waits) (ns : Labels) → (waits_also waits ns).all ≡ true → Keeps waits (waits_also waits ns) × Contains (waits_also waits ns).names ns
also_keeps waits ns = by (nat_lt (length waits.names) most_waited_for) where
  more : Bool → Waits
  more b = cond b (record { names = waits.names ++ ns ∷ []; all = waits.all }) (record { names = waits.names; all = false })

  by : (b : Bool) → (more b).all ≡ true → Keeps waits (more b) × Contains (more b).names ns
  by true all = (
    record { all = all; names = λ other has. Contains-append_left waits.names (ns ∷ []) other has },
    Contains-append_right waits.names (ns ∷ []) ns (has_first ns []),
  )
  by false all = absurd (true≢false (sym all))

after_keeps : (waits : Waits) (leaf : Leaf) → (waits_after waits leaf).all ≡ true → Keeps waits (waits_after waits leaf)
after_keeps waits (Answer rdata) all = record { all = all; names = λ ns has. has }
after_keeps waits NoData all = record { all = all; names = λ ns has. has }
after_keeps waits NxDomain all = record { all = all; names = λ ns has. has }
after_keeps waits Outside all = record { all = all; names = λ ns has. has }
after_keeps waits (Unhosted ns) all = record { all = all; names = λ other has. has }
after_keeps waits (Lame ns) all = record { all = all; names = λ other has. has }
after_keeps waits (Limit place) all = record { all = all; names = λ ns has. has }
after_keeps waits (Overlong place) all = record { all = all; names = λ ns has. has }
after_keeps waits (NoAddress ns) all = (also_keeps waits ns all).0

after_has : (waits : Waits) (leaf : Leaf) (ns : Labels) → leaf ≡ NoAddress ns → (waits_after waits leaf).all ≡ true → Contains (waits_after waits leaf).names ns
after_has waits leaf ns ends =
    subst (λ (l : Leaf). (waits_after waits l).all ≡ true → Contains (waits_after waits l).names ns) (sym ends) (λ all. (also_keeps waits ns all).1)

-- whether an address was seen
seen_gives : (seen : Seen) (walks : List Walk) → (fold seen_after seen walks).gives ≡ (seen.gives || list_any (λ (walk : Walk). gives_address walk.leaf) walks)
seen_gives seen walks = by seen.gives seen.waits walks where
  by : (gives : Bool) (waits : Waits) (walks : List Walk)
      → (fold seen_after (record { gives = gives; waits = waits }) walks).gives ≡ (gives || list_any (λ (walk : Walk). gives_address walk.leaf) walks)
  by true waits [] = refl
  by false waits [] = refl
  by true waits (walk ∷ walks) = by true (waits_after waits walk.leaf) walks
  by false waits (walk ∷ walks) = by (gives_address walk.leaf) (waits_after waits walk.leaf) walks

-- where all are kept at the end, they were at the start, and each that was kept still is
seen_keeps : (seen : Seen) (walks : List Walk) → (fold seen_after seen walks).waits.all ≡ true → Keeps seen.waits (fold seen_after seen walks).waits
seen_keeps seen [] all = record { all = all; names = λ ns has. has }
seen_keeps seen (walk ∷ walks) all =
    let later = seen_keeps (seen_after seen walk) walks all in
    let here = after_keeps seen.waits walk.leaf later.all in
    record { all = here.all; names = λ ns has. later.names ns (here.names ns has) }

-- where all are kept, each name server is kept at which a walk ends that was seen
seen_has : (seen : Seen) (walks : List Walk) → (fold seen_after seen walks).waits.all ≡ true
    → (walk : Walk) (ns : Labels) → Contains walks walk → walk.leaf ≡ NoAddress ns → Contains (fold seen_after seen walks).waits.names ns
seen_has seen [] all walk ns has ends = absurd (none_in_nil walk has)
seen_has seen (first ∷ walks) all walk ns has ends =
    elim (first_or_later first walks walk has) [
      | inl same ↦ (
          let later = seen_keeps (seen_after seen first) walks all in
          later.names ns (after_has seen.waits first.leaf ns (ap (λ (w : Walk). w.leaf) same ∙ ends) later.all))
      | inr later ↦ seen_has (seen_after seen first) walks all walk ns later ends
    ]

module _ (config : Config) (rewrites most : ℕ) (followed : List Labels) where
  -- what is known of a name at rest stays so
  pub rests_known : (name : Labels) (learnt : Bool) → Rests config name learnt
      → ((rewrites : ℕ) (followed : List Labels) → HasTooMany config rewrites most followed name → ⊥)
      → StaysKnown config rewrites most followed (known_of name (record { gives = learnt; waits = no_waits }))
  rests_known name learnt rests few =
      record {
        is_known = record { learns = rests.learns rewrites followed; few = few rewrites followed };
        later = λ more all part none. record { learns = rests.learns rewrites more; few = few rewrites more };
      }

  module _ (name : Labels) (begin between end : Seen) (begins : begin ≡ record { gives = false; waits = no_waits }) (four six : List Walk)
      (are_four : AreWalks (following config rewrites followed) name types.A four) (are_six : AreWalks (following config rewrites followed) name types.Aaaa six)
      (shown_four : between ≡ fold seen_after begin four) (shown_six : end ≡ fold seen_after between six)
      (few_four : HasMoreWalks (following config rewrites followed) name types.A most → ⊥)
      (few_six : HasMoreWalks (following config rewrites followed) name types.Aaaa most → ⊥) where
    any_four : between.gives ≡ list_any (λ (walk : Walk). gives_address walk.leaf) four
    any_four =
        ap (λ (seen : Seen). seen.gives) shown_four ∙ seen_gives begin four
        ∙ ap (λ (seen : Seen). seen.gives || list_any (λ (walk : Walk). gives_address walk.leaf) four) begins

    any_both : end.gives ≡ (between.gives || list_any (λ (walk : Walk). gives_address walk.leaf) six)
    any_both = ap (λ (seen : Seen). seen.gives) shown_six ∙ seen_gives between six

    four_learn : (between.gives ≡ true) ↔ LearnsBy (following config rewrites followed) name types.A
    four_learn = learns_told (following config rewrites followed) name types.A four are_four between.gives any_four

    six_learn : (list_any (λ (walk : Walk). gives_address walk.leaf) six ≡ true) ↔ LearnsBy (following config rewrites followed) name types.Aaaa
    six_learn = learns_told (following config rewrites followed) name types.Aaaa six are_six (list_any (λ (walk : Walk). gives_address walk.leaf) six) refl

    both_learn : (end.gives ≡ true) ↔ Learns (following config rewrites followed) name
    both_learn = (
      λ gives.
          elim (or_cases between.gives (list_any (λ (walk : Walk). gives_address walk.leaf) six) (sym any_both ∙ gives)) [
            | inl of_four ↦ inl (four_learn.0 of_four)
            | inr of_six ↦ inr (six_learn.0 of_six)
          ],
      λ learns.
          any_both
          ∙ elim learns [
            | inl of_four ↦ or_left between.gives (list_any (λ (walk : Walk). gives_address walk.leaf) six) (four_learn.1 of_four)
            | inr of_six ↦ or_right between.gives (list_any (λ (walk : Walk). gives_address walk.leaf) six) (six_learn.1 of_six)
          ],
    )

    module _ (all : end.waits.all ≡ true) where
      all_six : (fold seen_after between six).waits.all ≡ true
      all_six = subst (λ (seen : Seen). seen.waits.all ≡ true) shown_six all

      all_four : (fold seen_after begin four).waits.all ≡ true
      all_four = subst (λ (seen : Seen). seen.waits.all ≡ true) shown_four (seen_keeps between six all_six).all

      waits_six : (walk : Walk) (ns : Labels) → IsWalk (following config rewrites followed) name types.Aaaa walk → walk.leaf ≡ NoAddress ns → Contains end.waits.names ns
      waits_six walk ns is ends =
          subst (λ (seen : Seen). Contains seen.waits.names ns) (sym shown_six)
          (seen_has between six all_six walk ns (is_listed (following config rewrites followed) name types.Aaaa six are_six walk is) ends)

      waits_four : (walk : Walk) (ns : Labels) → IsWalk (following config rewrites followed) name types.A walk → walk.leaf ≡ NoAddress ns → Contains end.waits.names ns
      waits_four walk ns is ends =
          subst (λ (seen : Seen). Contains seen.waits.names ns) (sym shown_six)
          ((seen_keeps between six all_six).names ns (subst (λ (seen : Seen). Contains seen.waits.names ns) (sym shown_four)
          (seen_has begin four all_four walk ns (is_listed (following config rewrites followed) name types.A four are_four walk is) ends)))

    -- what is known of a name by all its walks stays so while nothing of what it waits for is followed newly
    pub walks_known : StaysKnown config rewrites most followed (known_of name end)
    walks_known =
        record {
          is_known = record { learns = both_learn; few = λ many. elim many [ inl of_four ↦ few_four of_four | inr of_six ↦ few_six of_six ] };
          later = λ more all part none.
              let stay_four = λ (walk : Walk) (ns : Labels) (is : IsWalk (following config rewrites followed) name types.A walk) (ends : walk.leaf ≡ NoAddress ns).
              none ns (waits_four all walk ns is ends) in
              let stay_six = λ (walk : Walk) (ns : Labels) (is : IsWalk (following config rewrites followed) name types.Aaaa walk) (ends : walk.leaf ≡ NoAddress ns).
              none ns (waits_six all walk ns is ends) in
              let same_four = learns_same config rewrites followed more part types.A name stay_four in
              let same_six = learns_same config rewrites followed more part types.Aaaa name stay_six in
              record {
                learns = (
                  λ gives. elim (both_learn.0 gives) [ inl of_four ↦ inl (same_four.0 of_four) | inr of_six ↦ inr (same_six.0 of_six) ],
                  λ learns. both_learn.1 (elim learns [ inl of_four ↦ inl (same_four.1 of_four) | inr of_six ↦ inr (same_six.1 of_six) ]),
                );
                few = λ many. elim many [
                  | inl of_four ↦ few_four (more_same config rewrites followed more part types.A name stay_four most of_four)
                  | inr of_six ↦ few_six (more_same config rewrites followed more part types.Aaaa name stay_six most of_six)
                ];
              };
        }

  -- ---- from one round to the next

  -- what was known stays so in the next round, unless something that is waited for is followed newly
  pub unless_new : (on : FollowedNow) (one : Known) → FollowsOn followed on → StaysKnown config rewrites most followed one
      → StaysUnlessNew config rewrites most on one
  unless_new on one follows stays nothing =
      let part : IsPartOf followed on.names = follows.part nothing.grown in
      let none : NoneNew one.waits.names followed on.names = λ ns waits among. elim (follows.either ns among) [
        | inl before ↦ before
        | inr new ↦ absurd (true≢false (sym new ∙ nothing.none ns waits))
      ] in
      record {
        is_known = stays.later on.names nothing.all part none;
        later = λ more all wider none_more. stays.later more all (λ name is. wider name (part name is)) (λ ns waits among. none ns waits (none_more ns waits among));
      }

  -- so it is with all that was known
  pub all_unless_new : (on : FollowedNow) (known : List Known) → FollowsOn followed on → AllByRecursion (StaysKnown config rewrites most followed) known
      → AllByRecursion (StaysUnlessNew config rewrites most on) known
  all_unless_new on [] follows each = tt
  all_unless_new on (one ∷ known) follows (here, later) = (unless_new on one follows here, all_unless_new on known follows later)

  -- ---- a round

  learnt_filter : (known : List Known) → AllByRecursion (StaysKnown config rewrites most followed) known
      → names_learnt known ≡ filter (test_while config rewrites followed) (names_known known)
  learnt_filter [] each = refl
  learnt_filter (one ∷ known) (here, later) =
      by one.learnt (test_while config rewrites followed one.name) (sym (test_is config rewrites followed one.name one.learnt here.is_known.learns)) (learnt_filter known later)
    where
      by : (learnt test : Bool) → learnt ≡ test → names_learnt known ≡ filter (test_while config rewrites followed) (names_known known)
          → map (λ (t : Known). t.name) (cond learnt (one ∷ filter (λ (t : Known). t.learnt) known) (filter (λ (t : Known). t.learnt) known))
          ≡ cond test (one.name ∷ filter (test_while config rewrites followed) (names_known known)) (filter (test_while config rewrites followed) (names_known known))
      by true true same rest = ap (λ (names : List Labels). one.name ∷ names) rest
      by false false same rest = rest
      by true false same rest = absurd (true≢false same)
      by false true same rest = absurd (true≢false (sym same))

  few_known : (known : List Known) → AllByRecursion (StaysKnown config rewrites most followed) known
      → (name : Labels) → Contains (names_known known) name → HasTooMany config rewrites most followed name → ⊥
  few_known [] each name has many = absurd (none_in_nil name has)
  few_known (one ∷ known) (here, later) name has many =
      elim (first_or_later one.name (names_known known) name has) [
        | inl same ↦ here.is_known.few (subst (HasTooMany config rewrites most followed) (sym same) many)
        | inr rest ↦ few_known known later name rest many
      ]

  module _ (known : List Known) (each : AllByRecursion (StaysKnown config rewrites most followed) known) (are : names_known known ≡ server_names config) where
    -- what is known of all servers' names is a round
    pub round_known : IsRound config rewrites followed (names_learnt known)
    round_known =
        record {
          test = test_while config rewrites followed;
          tells = λ name among. test_tells config rewrites followed name;
          are = learnt_filter known each ∙ ap (filter (test_while config rewrites followed)) are;
        }

    -- no server's name has too many walks
    pub none_known : NoneHasTooMany config rewrites most followed
    none_known name among = few_known known each name (subst (λ (names : List Labels). Contains names name) (sym are) among)

  -- the first name that has too many, behind those of which it is known that they haven't
  pub first_of : (now rest : List Known) (one : Known) (all : List Labels) (name : Labels) → AllByRecursion (StaysKnown config rewrites most followed) now
      → names_known now ++ one.name ∷ names_known rest ≡ all → one.name ≡ name → HasTooMany config rewrites most followed one.name
      → IsFirstOf config rewrites most followed all name
  first_of now rest one all name each are same many =
      subst (IsFirstOf config rewrites most followed all) same
      (record { earlier = names_known now; later = names_known rest; splits = sym are; none_has = few_known now each; has = many })

  -- the first of all servers' names that has too many
  pub first_known : (names : List Labels) (name : Labels) → names ≡ server_names config → IsFirstOf config rewrites most followed names name
      → IsFirstToPass config rewrites most followed name
  first_known names name are first =
      record { earlier = first.earlier; later = first.later; splits = sym are ∙ first.splits; none_has = first.none_has; has = first.has }
