-- Every round of learnt addresses has its list: the walks of a query are a list, so it is decided which addresses are
-- learnt.
use Rattle.std.proofs.Common.{◌≡◌, ℕ, zero, suc, ◌+◌, ◌-◌, ◌<◌, ◌≤◌, Bool, true, false, List, [], ◌∷◌, filter, refl, ap, inl, inr, arith}
use Rattle.std.specs.Prelude.{◌↔◌, ◌||◌, None, length, map}
use Rattle.std.specs.List.{AllByRecursion, list_any}
use Rattle.std.proofs.lemmas.Bool.{or_cases}
use Rattle.dns_data.specs.Name.{Labels}
use Rattle.dns_data.specs.declared.rr_type.RrType.{RrType}
use Rattle.dns_data.specs.declared.rr_type.RrType.TheVariants as types
use Rattle.dns_data.proofs.Searches.{from_any, any_has}
use Rattle.net_model.specs.declared.config.Config.{Config}
use Rattle.net_model.specs.declared.walk.Hop.{Hop}
use Rattle.net_model.specs.declared.walk.Hop.TheVariants.{Refer, Rewrite}
use Rattle.net_model.specs.declared.walk.State.{State}
use Rattle.net_model.specs.Learnt.{gives_address, LearnsBy, Learns, IsRound, AfterRounds}
use Rattle.net_model.specs.Nearest.{server_names}
use Rattle.net_model.specs.Step.{Setting, Branch, Go, End, next, start, arrived, following}
use Rattle.net_model.proofs.AllWalks.{Numbered, all_along, LeadsTo, Settled, all_along_are, none_missing_along}
use Rattle.net_model.proofs.StepBounds.{IsNear, BranchStepsOn, StepsOn, next_steps}

-- what holds of each state that branches lead to
each_state : (P Q : State → Type 0) → ((state : State) → P state → Q state) → (branches : List Branch)
    → AllByRecursion (LeadsTo P) branches → AllByRecursion (LeadsTo Q) branches
each_state P Q more [] all = tt
each_state P Q more (Go hop to ∷ branches) all = (more to all.0, each_state P Q more branches all.1)
each_state P Q more (End hop leaf ∷ branches) all = (tt, each_state P Q more branches all.1)

module _ (setting : Setting) (rtype : RrType) where
  -- ---- every state settles

  -- where no walk has more states than so many, none has more than a larger number
  settled_more : (depth deeper : ℕ) → depth ≤ deeper → (state : State) → Settled depth setting rtype state → Settled deeper setting rtype state
  settled_more zero deeper more state settled = absurd settled
  settled_more (suc depth) zero more state settled = absurd (omega arith)
  settled_more (suc depth) (suc deeper) more state settled =
      each_state (Settled depth setting rtype) (Settled deeper setting rtype) (settled_more depth deeper (omega arith)) (next setting rtype state) settled

  -- the walks from the state have no more states than some number
  abbrev pub Settles : State → Type 0
  Settles state = (depth : ℕ) × Settled depth setting rtype state

  -- so have those of several branches
  branches_settle : (branches : List Branch) → AllByRecursion (LeadsTo Settles) branches
      → (depth : ℕ) × AllByRecursion (LeadsTo (Settled depth setting rtype)) branches
  branches_settle [] all = (0, tt)
  branches_settle (Go hop to ∷ branches) all =
      let one = all.0 in
      let later = branches_settle branches all.1 in
      let deeper = one.0 + later.0 in (
        deeper,
        (
          settled_more one.0 deeper (omega arith) to one.1,
          each_state (Settled later.0 setting rtype) (Settled deeper setting rtype) (settled_more later.0 deeper (omega arith)) branches later.1,
        ),
      )
  branches_settle (End hop leaf ∷ branches) all =
      let later = branches_settle branches all.1 in (later.0, (tt, later.1))

  -- the states that branches step on to settle
  each_settles : (state : State) → ((hop : Hop) (to : State) → StepsOn setting state hop to → Settles to) → (branches : List Branch)
      → AllByRecursion (BranchStepsOn setting state) branches → AllByRecursion (LeadsTo Settles) branches
  each_settles state on [] steps = tt
  each_settles state on (Go hop to ∷ branches) steps = (on hop to steps.0, each_settles state on branches steps.1)
  each_settles state on (End hop leaf ∷ branches) steps = (tt, each_settles state on branches steps.1)

  settles_by : (state : State) → IsNear setting state → ((hop : Hop) (to : State) → StepsOn setting state hop to → Settles to) → Settles state
  settles_by state near on =
      let all = branches_settle (next setting rtype state)
      (each_settles state on (next setting rtype state) (next_steps setting state rtype near)) in
      (suc all.0, all.1)

  -- a state settles if those with fewer rewrites left do, by how much longer its zone cut may get
  by_cut : (left : ℕ) → ((to : State) → IsNear setting to → setting.rewrites - to.used < left → Settles to)
      → (room : ℕ) (state : State) → IsNear setting state → setting.rewrites - state.used ≤ left → length state.name - state.cut ≤ room → Settles state
  by_cut left fewer zero state near many short = settles_by state near on where
    on : (hop : Hop) (to : State) → StepsOn setting state hop to → Settles to
    on (Refer cut) to steps =
        absurd (omega (arith, steps.within, steps.advances.1, ap (λ (x : Labels). length x) steps.advances.2))
    on (Rewrite place by_dname name) to steps =
        fewer to steps.near (omega (arith, steps.advances.0, steps.advances.1))
  by_cut left fewer (suc room) state near many short =
      settles_by state near (on (λ to near many short. by_cut left fewer room to near many short))
    where
      on : ((to : State) → IsNear setting to → setting.rewrites - to.used ≤ left → length to.name - to.cut ≤ room → Settles to)
          → (hop : Hop) (to : State) → StepsOn setting state hop to → Settles to
      on closer (Refer cut) to steps =
          let used : to.used ≡ state.used = steps.advances.0 in
          closer to steps.near (omega (arith, used))
          (omega (arith, steps.within, steps.advances.1, ap (λ (x : Labels). length x) steps.advances.2))
      on closer (Rewrite place by_dname name) to steps =
          fewer to steps.near (omega (arith, steps.advances.0, steps.advances.1))

  -- so every state settles, by the rewrites left
  by_rewrites : (left : ℕ) (state : State) → IsNear setting state → setting.rewrites - state.used ≤ left → Settles state
  by_rewrites zero state near many =
      by_cut zero (λ to also less. absurd (omega arith)) (length state.name - state.cut) state near many (omega arith)
  by_rewrites (suc left) state near many =
      by_cut (suc left) (λ to also less. by_rewrites left to also (omega arith)) (length state.name - state.cut) state near many (omega arith)

  -- the walks from a state have no more states than some number, if its zone cut isn't below the zone in which its name
  -- is looked up
  pub settles : (state : State) → IsNear setting state → Settles state
  settles state near = by_rewrites (setting.rewrites - state.used) state near (omega arith)

  -- and so do those in which a query begins
  starts_settle : (query : Labels) (servers : List Labels)
      → (depth : ℕ) × AllByRecursion (Settled depth setting rtype) (map (arrived setting.config query true 0 None) servers)
  starts_settle query [] = (0, tt)
  starts_settle query (server ∷ servers) =
      let state = arrived setting.config query true 0 None server in
      let one = settles state (λ zone nearest. omega arith) in
      let later = starts_settle query servers in
      let deeper = one.0 + later.0 in (
        deeper,
        (
          settled_more one.0 deeper (omega arith) state one.1,
          all_more later.0 deeper (omega arith) (map (arrived setting.config query true 0 None) servers) later.1,
        ),
      )
    where
      all_more : (depth deeper : ℕ) → depth ≤ deeper → (states : List State) → AllByRecursion (Settled depth setting rtype) states
          → AllByRecursion (Settled deeper setting rtype) states
      all_more depth deeper more [] all = tt
      all_more depth deeper more (state ∷ states) all =
          (settled_more depth deeper more state all.0, all_more depth deeper more states all.1)

  -- no walk of the query has more states than some number
  pub query_settles : (query : Labels) → (depth : ℕ) × AllByRecursion (Settled depth setting rtype) (start setting.config query)
  query_settles query = starts_settle query setting.config.tops

  -- ---- what is learnt is decided

  abbrev gives : Numbered → Bool
  gives x = gives_address x.1.leaf

  -- whether a walk of the name gives an address
  pub learns_by : (name : Labels) → (test : Bool) × ((test ≡ true) ↔ LearnsBy setting name rtype)
  learns_by name =
      let settled = query_settles name in
      let all = all_along settled.0 setting rtype name in (
        list_any gives all,
        (
          λ some.
              let found = from_any gives all some in
              record {
                walk = found.0.1;
                is_walk = (found.0.0, all_along_are setting rtype settled.0 name found.0 found.1);
                ends = found.2;
              },
          λ learns.
              any_has gives all (learns.is_walk.0, learns.walk)
              (none_missing_along setting rtype settled.0 name learns.is_walk.0 learns.walk settled.1 learns.is_walk.1) learns.ends,
        ),
      )

-- whether an address of the name is learnt
pub learns_decided : (setting : Setting) (name : Labels) → (test : Bool) × ((test ≡ true) ↔ Learns setting name)
learns_decided setting name =
    let four = learns_by setting types.A name in
    let six = learns_by setting types.Aaaa name in (
      four.0 || six.0,
      (
        λ either. elim (or_cases four.0 six.0 either) [ inl e ↦ inl (four.1.0 e) | inr e ↦ inr (six.1.0 e) ],
        λ learns. elim learns [
          | inl by_four ↦ or_left four.0 six.0 (four.1.1 by_four)
          | inr by_six ↦ or_right four.0 six.0 (six.1.1 by_six)
        ],
      ),
    )
  where
    or_left : (a b : Bool) → a ≡ true → (a || b) ≡ true
    or_left a b e = ap (λ (x : Bool). x || b) e

    or_right : (a b : Bool) → b ≡ true → (a || b) ≡ true
    or_right true b e = refl
    or_right false b e = e

-- every round has its list
pub round_exists : (config : Config) (rewrites : ℕ) (followed : List Labels) → (learnt : List Labels) × IsRound config rewrites followed learnt
round_exists config rewrites followed =
    let test = λ (name : Labels). (learns_decided (following config rewrites followed) name).0 in (
      filter test (server_names config),
      record {
        test = test;
        tells = λ name among. (learns_decided (following config rewrites followed) name).1;
        are = refl;
      },
    )

-- from each list of names so many rounds lead to some list
pub rounds_exist : (config : Config) (rewrites rounds : ℕ) (begin : List Labels) → (learnt : List Labels) × AfterRounds config rewrites rounds begin learnt
rounds_exist config rewrites zero begin = (begin, refl)
rounds_exist config rewrites (suc rounds) begin =
    let before = rounds_exist config rewrites rounds begin in
    let round = round_exists config rewrites before.0 in
    (round.0, (before.0, before.1, round.1))
