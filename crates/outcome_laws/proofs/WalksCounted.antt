-- The walks of a query are a list, so whether there are more than so many is decided; and so is which server's name has too
-- many first, in which round of learning.
use Rattle.std.proofs.Common.{◌≡◌, ◌⊎◌, ℕ, zero, suc, ◌≤◌, List, [], ◌∷◌, ◌++◌, length, flat_map, Contains, refl, sym, ap, subst, inl, inr, arith}
use Rattle.std.specs.Prelude.{IsSome}
use Rattle.std.specs.Cmp.Lexicographic.{nat_list_cmp_total}
use Rattle.std.proofs.lemmas.Bool.{cases_lt}
use Rattle.dns_data.specs.Name.{Labels}
use Rattle.dns_data.specs.declared.rr_type.RrType.{RrType}
use Rattle.dns_data.specs.declared.rr_type.RrType.TheVariants as types
use Rattle.dns_data.proofs.Membership.{none_in_nil, first_or_later, along}
use Rattle.groot_run.specs.Outcome.{Asks, IsAnswerWith, ask_rewrites, most_walks_written, walks_written, too_many_walks}
use Rattle.net_model.specs.declared.config.Config.{Config}
use Rattle.net_model.specs.declared.walk.Walk.{Walk}
use Rattle.net_model.specs.Learnt.{AfterRounds}
use Rattle.net_model.specs.Nearest.{server_names}
use Rattle.net_model.specs.Step.{Setting, following, start}
use Rattle.net_model.specs.Walk.{AreWalks, ArePaths, path_cmp, walk_along}
use Rattle.net_model.proofs.AllWalks.{walks_within}
use Rattle.net_model.proofs.Counting.{no_more_than}
use Rattle.net_model.proofs.InForce.{some_in_force}
use Rattle.net_model.proofs.LearntSets.{one_after_rounds}
use Rattle.net_model.proofs.RoundsExist.{query_settles, rounds_exist}
use Rattle.net_model.proofs.WalkLists.{are_walks}
use Rattle.plain_resolver.specs.Passed.{HasMoreWalks, HasTooMany, NoneInRounds, IsFirstWithTooMany, most_walks_followed}
use Rattle.query_classes.proofs.Decided.{Decided, either}
use Rattle.run_endings.specs.declared.ending.Ending.{Ending}
use Rattle.run_endings.specs.Endings.{too_many_to_learn}
use Rattle.outcome_laws.proofs.RisingDiffer.{rising_differ}

-- all walks of a query, in order
pub all_walks_exist : (setting : Setting) (query : Labels) (rtype : RrType) → (walks : List Walk) × AreWalks setting query rtype walks
all_walks_exist setting query rtype =
    let (depth, settled) = query_settles setting rtype query in
    let walks = flat_map (walks_within depth setting rtype) (start setting.config query) in
    (walks, are_walks setting rtype depth query walks refl settled)

-- whether there are more walks than so many is decided
pub more_walks : (setting : Setting) (query : Labels) (rtype : RrType) (most : ℕ) → Decided (HasMoreWalks setting query rtype most)
more_walks setting query rtype most = by (all_walks_exist setting query rtype).1.0 (all_walks_exist setting query rtype).1.1 where
  by : (paths : List (List ℕ)) → ArePaths setting query rtype paths → Decided (HasMoreWalks setting query rtype most)
  by paths are =
      elim (cases_lt most (length paths)) [
        | inl more ↦ inl (record {
          items = paths;
          more = more;
          differ = rising_differ path_cmp nat_list_cmp_total paths are.ordered;
          each = along (λ numbers. IsSome (walk_along setting query rtype numbers)) paths (λ numbers has. (are.all numbers).0 has);
        })
        | inr few ↦ inr (no_more_than (λ numbers. IsSome (walk_along setting query rtype numbers)) most paths few (λ numbers some. (are.all numbers).1 some))
      ]

-- ---- the first of some names with a property

-- the name is the first of these that has the property
pub record IsFirstWith (P : Labels → Type 0) (names : List Labels) : Type 0 where
  pub earlier : List Labels
  pub name : Labels
  pub later : List Labels
  pub splits : names ≡ earlier ++ name ∷ later
  pub none_has : (other : Labels) → Contains earlier other → P other → ⊥
  pub has : P name

module _ (P : Labels → Type 0) (decide : (name : Labels) → Decided (P name)) where
  -- some name of a list is the first that has a decided property, or none has it
  pub first_with : (names : List Labels) → IsFirstWith P names ⊎ ((name : Labels) → Contains names name → P name → ⊥)
  first_with [] = inr (λ name has holds. none_in_nil name has)
  first_with (name ∷ names) = by (decide name) (first_with names) where
    by : Decided (P name) → IsFirstWith P names ⊎ ((other : Labels) → Contains names other → P other → ⊥)
        → IsFirstWith P (name ∷ names) ⊎ ((other : Labels) → Contains (name ∷ names) other → P other → ⊥)
    by (inl holds) rest =
        inl (record { earlier = []; name = name; later = names; splits = refl; none_has = λ other has. absurd (none_in_nil other has); has = holds })
    by (inr fails) (inl first) =
        inl (record {
          earlier = name ∷ first.earlier;
          name = first.name;
          later = first.later;
          splits = ap (λ (l : List Labels). name ∷ l) first.splits;
          none_has = λ other has holds. elim (first_or_later name first.earlier other has) [
            | inl same ↦ fails (subst P (sym same) holds)
            | inr behind ↦ first.none_has other behind holds
          ];
          has = first.has;
        })
    by (inr fails) (inr none) =
        inr (λ other has holds. elim (first_or_later name names other has) [
          | inl same ↦ fails (subst P (sym same) holds)
          | inr behind ↦ none other behind holds
        ])

module _ (config : Config) (rewrites most : ℕ) where
  too_many : (followed : List Labels) (name : Labels) → Decided (HasTooMany config rewrites most followed name)
  too_many followed name =
      either (more_walks (following config rewrites followed) name types.A most) (more_walks (following config rewrites followed) name types.Aaaa most)

  -- in some of the first rounds, begun with these servers, a server's name is the first that has too many, or in none
  pub first_in_rounds : (begin : List Labels) (rounds : ℕ) → rounds ≤ length config.servers
      → ((name : Labels) × IsFirstWithTooMany config rewrites most begin name) ⊎ NoneInRounds config rewrites most begin rounds
  first_in_rounds begin zero within = inr (λ before followed less after. absurd (omega (arith, less)))
  first_in_rounds begin (suc rounds) within = by (first_in_rounds begin rounds (omega (arith, within))) where
    by : ((name : Labels) × IsFirstWithTooMany config rewrites most begin name) ⊎ NoneInRounds config rewrites most begin rounds
        → ((name : Labels) × IsFirstWithTooMany config rewrites most begin name) ⊎ NoneInRounds config rewrites most begin (suc rounds)
    by (inl first) = inl first
    by (inr none) =
        let (followed, after) = rounds_exist config rewrites rounds begin in
        elim (first_with (HasTooMany config rewrites most followed) (too_many followed) (server_names config)) [
          | inl first ↦ inl (
            first.name,
            record {
              before = rounds;
              is_round = omega (arith, within);
              none_earlier = none;
              followed = followed;
              after = after;
              first = record { earlier = first.earlier; later = first.later; splits = first.splits; none_has = first.none_has; has = first.has };
            },
          )
          | inr none_has ↦ inr (λ before others less also.
              elim (cases_lt before rounds) [
                | inl earlier ↦ none before others earlier also
                | inr not_earlier ↦ (
                    let same : before ≡ rounds = omega (arith, less, not_earlier) in
                    let one : followed ≡ others =
                    one_after_rounds config rewrites rounds begin followed others after (subst (λ (n : ℕ). AfterRounds config rewrites n begin others) same also) in
                    subst (λ (f : List Labels). (name : Labels) → Contains (server_names config) name → HasTooMany config rewrites most f name → ⊥) one none_has)
              ])
        ]

-- what `ask` gives of a configuration there is
pub ask_ends : (name : Labels) (rtype : RrType) (config : Config) → (ending : Ending) × Asks name rtype config ending
ask_ends name rtype config =
    elim (first_in_rounds config ask_rewrites most_walks_followed [] (length config.servers) (omega arith)) [
      | inl (server, first) ↦ (too_many_to_learn most_walks_followed server, inl (server, first, refl))
      | inr few ↦ (
          let (followed, in_force) = some_in_force config ask_rewrites in
          let (ending, is) = answer followed in
          (ending, inr (record { followed = followed; in_force = in_force; few = few; answer = is })))
    ]
  where
    answer : (followed : List Labels) → (ending : Ending) × IsAnswerWith config followed name rtype ending
    answer followed =
        elim (more_walks (following config ask_rewrites followed) name rtype most_walks_written) [
          | inl more ↦ (too_many_walks, inl (more, refl))
          | inr few ↦ (
              let (walks, are) = all_walks_exist (following config ask_rewrites followed) name rtype in
              (walks_written name rtype walks, inr (few, record { walks = walks; are_walks = are; as_text = refl })))
        ]
