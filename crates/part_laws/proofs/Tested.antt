-- Which conditions of a part some names don't meet, by computing, for worked values.
use Rattle.std.proofs.Common.{◌≡◌, ◌≢◌, ℕ, ◌-◌, Bool, true, false, List, [], ◌∷◌, ◌++◌, length, take, drop, Contains, sym, refl, ap, ap₂, subst, ◌∙◌, inl, inr, arith, take_at, length-append, true≢false}
use Rattle.std.specs.Prelude.{codes, not, ◌&&◌, ◌||◌, nat_lt}
use Rattle.std.specs.List.{list_all}
use Rattle.std.proofs.lemmas.Bool.{and_parts, or_cases, ltb-true}
use Rattle.std.proofs.lemmas.List.{drop_at}
use Rattle.dns_data.specs.Label.{IsLabel}
use Rattle.dns_data.specs.Name.{Labels, name_eq, is_among, is_prefix}
use Rattle.dns_data.specs.declared.rdata.Rdata.{Rdata}
use Rattle.dns_data.specs.declared.rdata.Rdata.TheVariants.{Ns, Cname, Dname}
use Rattle.dns_data.specs.declared.rdata.Rr.{Rr}
use Rattle.dns_data.proofs.Membership.{none_in_nil, first_or_later, from_flat_map}
use Rattle.dns_data.proofs.NameFronts.{is_prefix_told, two_fronts}
use Rattle.dns_data.proofs.Names.{name_eq_decides}
use Rattle.dns_data.proofs.Searches.{each_of_all}
use Rattle.net_model.specs.declared.config.Config.{Config}
use Rattle.net_model.specs.declared.config.Zone.{Zone}
use Rattle.net_model.specs.Nearest.{is_configured, is_top}
use Rattle.net_model.specs.Prefix.{prefixes}
use Rattle.net_model.specs.Reading.{Redirection, zones, records, redirection_of, redirections_of, ground_of}
use Rattle.net_model.specs.Zone.{exists_in}
use Rattle.net_model.proofs.Naming.{is_listed, from_listed, unnamed_all, unnamed, not_both}
use Rattle.net_model.proofs.Prefixes.{prefixes_have}
use Rattle.part_laws.specs.Part.{restricted_zone, restricted, IsLocal, HasRecord, HasShorterUnnamed, IsPart}

-- if one is true the other is
abbrev pub implies : Bool → Bool → Bool
implies a b = not a || b

-- what an implied test says
pub so : (a b : Bool) → implies a b ≡ true → a ≡ true → b ≡ true
so true b h is = h
so false b h is = absurd (true≢false (sym is))

-- the word before others, unless the test passes
abbrev unless : Bool → List ℕ → List (List ℕ) → List (List ℕ)
unless true word words = words
unless false word words = word ∷ words

passes : (test : Bool) (word : List ℕ) (words : List (List ℕ)) → unless test word words ≡ [] → (test ≡ true) × (words ≡ [])
passes true word words none = (refl, none)
passes false word words none = absurd (cc)

module _ (config : Config) (names : List Labels) where
  -- the base names of the whole
  abbrev base : List Labels
  base = (ground_of config).names

  -- what is left of the configuration
  abbrev left : Config
  left = restricted names config

  -- the name is local
  abbrev pub tests_local : Labels → Bool
  tests_local name = list_all (λ above. implies (is_among base above) (is_among names above)) (prefixes name)

  -- all names at or below this one are local
  abbrev tests_below : Labels → Bool
  tests_below name = tests_local name && list_all (λ b. implies (is_prefix name b) (is_among names b)) base

  -- tests of a record by its zone's origin, its owner and its data: of a redirection, and of a delegation
  abbrev tests_alias : Labels → Labels → Rdata → Bool
  tests_alias origin owner (Cname target) = tests_local target
  tests_alias origin owner other = true

  abbrev tests_owner : Labels → Labels → Rdata → Bool
  tests_owner origin owner (Dname target) = tests_below owner
  tests_owner origin owner other = true

  abbrev tests_target : Labels → Labels → Rdata → Bool
  tests_target origin owner (Dname target) = tests_below target
  tests_target origin owner other = true

  abbrev tests_ns : (Labels → Labels → Bool) → Labels → Labels → Rdata → Bool
  tests_ns asks origin owner (Ns ns) = name_eq owner origin || implies (asks owner ns) (tests_local ns)
  tests_ns asks origin owner other = true

  abbrev may_be_learnt : Labels → Labels → Bool
  may_be_learnt owner ns = is_configured config ns && not (is_top config ns)

  -- each record that is left passes the test
  abbrev tests_each : (Labels → Labels → Rdata → Bool) → Bool
  tests_each test = list_all (λ zone. list_all (λ rr. test zone.origin rr.owner rr.rdata) zone.rrs) (zones left)

  abbrev tests_prefixes : Bool
  tests_prefixes = list_all (λ name. list_all (is_among names) (prefixes name)) names

  abbrev tests_within : Bool
  tests_within = list_all (λ zone. list_all (λ rr. is_prefix zone.origin rr.owner) zone.rrs) (zones config)

  abbrev tests_exist : Bool
  tests_exist =
      list_all (λ zone. implies (is_among names zone.origin)
      (list_all (λ name. implies (exists_in zone name) (exists_in (restricted_zone names zone) name)) names)) (zones config)

  module _ (shorter : List ℕ) (unread : List Labels) where
    -- a base name that isn't held, directly below a held one, has a longer label than this one
    abbrev tests_label : Labels → Bool
    tests_label b =
        is_among names b || not (is_among names (take (length b - 1) b))
        || (list_all (λ label. nat_lt (length shorter) (length label)) (drop (length b - 1) b)
        && is_among unread (take (length b - 1) b ++ shorter ∷ []))

    -- the names of the conditions that aren't met, with a label, and with names that nothing reads, among which it makes
    -- one below each name that has a child left out
    abbrev pub unmet : List (List ℕ)
    unmet =
        unless (is_among names []) (codes "root")
        (unless tests_prefixes (codes "prefixes")
        (unless (list_all (is_among (ground_of left).names) names) (codes "met")
        (unless tests_within (codes "within")
        (unless tests_exist (codes "exist")
        (unless (unnamed_all (ground_of left) unread && list_all tests_label base) (codes "short")
        (unless (tests_each tests_alias) (codes "aliases")
        (unless (tests_each tests_owner) (codes "owners")
        (unless (tests_each tests_target) (codes "targets")
        (unless (tests_each (tests_ns is_prefix)) (codes "glue")
        (unless (tests_each (tests_ns may_be_learnt)) (codes "learnt") []))))))))))

  local_told : (name : Labels) → tests_local name ≡ true → IsLocal config names name
  local_told name h =
      record {
        held = λ above below e based.
            from_listed names above
            (so (is_among base above) (is_among names above)
            (each_of_all (λ x. implies (is_among base x) (is_among names x)) (prefixes name) h above (prefixes_have name above (below, e)))
            (is_listed base above based));
      }

  below_told : (name : Labels) → tests_below name ≡ true → (below : Labels) → IsLocal config names (name ++ below)
  below_told name h below =
      let both = and_parts (tests_local name) (list_all (λ b. implies (is_prefix name b) (is_among names b)) base) h in
      record {
        held = λ above rest e based. elim (two_fronts above rest name below e) [
          | inl shorter ↦ (local_told name both.0).held above shorter.0 shorter.1 based
          | inr longer ↦ from_listed names above
              (so (is_prefix name above) (is_among names above)
              (each_of_all (λ b. implies (is_prefix name b) (is_among names b)) base both.1 above based)
              (is_prefix_told name above longer))
        ];
      }

  each_told : (test : Labels → Labels → Rdata → Bool) → tests_each test ≡ true → (zone : Zone) (rr : Rr) (rdata : Rdata)
      → HasRecord left zone rr → rr.rdata ≡ rdata → test zone.origin rr.owner rdata ≡ true
  each_told test h zone rr rdata has is =
      subst (λ (d : Rdata). test zone.origin rr.owner d ≡ true) is
      (each_of_all (λ r. test zone.origin r.owner r.rdata) zone.rrs
      (each_of_all (λ z. list_all (λ r. test z.origin r.owner r.rdata) z.rrs) (zones left) h zone has.of_config) rr has.of_zone)

  -- a test that looks at the owner or the target of a redirection alone tells it of each redirection that is left
  redirection_told : (side : Redirection → Labels) (test : Labels → Labels → Rdata → Bool)
      → ((origin owner target : Labels) → test origin owner (Dname target) ≡ tests_below (side (record { owner = owner; target = target })))
      → tests_each test ≡ true → (redirection : Redirection) → Contains (redirections_of left) redirection → tests_below (side redirection) ≡ true
  redirection_told side test looks h redirection has =
      let (rr, among, is) = from_flat_map (λ (r : Rr). redirection_of r.owner r.rdata) (records left) redirection has in
      let (zone, of_config, of_zone) = from_flat_map (λ (z : Zone). z.rrs) (zones left) rr among in
      by rr.owner rr.rdata zone.origin (each_told test h zone rr rr.rdata (record { of_config = of_config; of_zone = of_zone }) refl) is
    where
      by : (owner : Labels) (rdata : Rdata) (origin : Labels) → test origin owner rdata ≡ true → Contains (redirection_of owner rdata) redirection
          → tests_below (side redirection) ≡ true
      by owner (Dname target) origin passed has =
          elim (first_or_later (record { owner = owner; target = target }) [] redirection has) [
            | inl same ↦ ap (λ (r : Redirection). tests_below (side r)) (sym same) ∙ sym (looks origin owner target) ∙ passed
            | inr later ↦ absurd (none_in_nil redirection later)
          ]
      by owner other origin passed has = absurd (none_in_nil redirection has)

  ns_told : (asks : Labels → Labels → Bool) → tests_each (tests_ns asks) ≡ true → (zone : Zone) (rr : Rr) (ns : Labels) → HasRecord left zone rr
      → rr.owner ≢ zone.origin → rr.rdata ≡ Ns ns → asks rr.owner ns ≡ true → IsLocal config names ns
  ns_told asks h zone rr ns has apart is asked =
      elim (or_cases (name_eq rr.owner zone.origin) _ (each_told (tests_ns asks) h zone rr (Ns ns) has is)) [
        | inl same ↦ absurd (apart ((name_eq_decides rr.owner zone.origin).0 same))
        | inr local ↦ local_told ns (so (asks rr.owner ns) (tests_local ns) local asked)
      ]

  module _ (shorter : List ℕ) (unread : List Labels) (is_label : IsLabel shorter) where
    short_told : unnamed_all (ground_of left) unread ≡ true → list_all (tests_label shorter unread) base ≡ true
        → (above : Labels) (label : List ℕ) → Contains names above → Contains base (above ++ label ∷ [])
        → (Contains names (above ++ label ∷ []) → ⊥) → HasShorterUnnamed (ground_of left) above (length label)
    short_told unread_are labels above label held based out =
        elim (or_cases (is_among names (above ++ label ∷ []) || not (is_among names (take (length (above ++ label ∷ []) - 1) (above ++ label ∷ [])))) _
        (each_of_all (tests_label shorter unread) base labels (above ++ label ∷ []) based)) [
          | inl early ↦ absurd (neither early)
          | inr fits ↦ (
              let parts = and_parts (list_all (λ l. nat_lt (length shorter) (length l)) (drop (length (above ++ label ∷ []) - 1) (above ++ label ∷ []))) _ fits in
              record {
                label = shorter;
                is_label = is_label;
                shorter = ltb-true (length shorter) (length label) (and_parts (nat_lt (length shorter) (length label)) true
                    (ap (list_all (λ l. nat_lt (length shorter) (length l))) (sym (drop_at above (label ∷ []) (length (above ++ label ∷ []) - 1) (sym size))) ∙ parts.0)).0;
                unnamed = λ named. unnamed (ground_of left) unread (above ++ shorter ∷ []) unread_are
                    (ap (λ (x : Labels). is_among unread (x ++ shorter ∷ [])) (sym front) ∙ parts.1) named;
              })
        ]
      where
        size : length (above ++ label ∷ []) - 1 ≡ length above
        size = omega (arith, length-append above (label ∷ []))

        front : take (length (above ++ label ∷ []) - 1) (above ++ label ∷ []) ≡ above
        front = take_at above (label ∷ []) (length (above ++ label ∷ []) - 1) (sym size)

        neither : (is_among names (above ++ label ∷ []) || not (is_among names (take (length (above ++ label ∷ []) - 1) (above ++ label ∷ [])))) ≡ true → ⊥
        neither e = elim (or_cases (is_among names (above ++ label ∷ [])) _ e) [
          | inl in_it ↦ out (from_listed names (above ++ label ∷ []) in_it)
          | inr none ↦ not_both (is_among names (take (length (above ++ label ∷ []) - 1) (above ++ label ∷ [])))
              (ap (is_among names) front ∙ is_listed names above held) none
        ]

    -- names of which no condition isn't met make a part
    pub part_told : unmet shorter unread ≡ [] → IsPart config names
    part_told none =
        let root = passes (is_among names []) _ _ none in
        let closed = passes tests_prefixes _ _ root.1 in
        let met = passes (list_all (is_among (ground_of left).names) names) _ _ closed.1 in
        let within = passes tests_within _ _ met.1 in
        let exist = passes tests_exist _ _ within.1 in
        let short = passes (unnamed_all (ground_of left) unread && list_all (tests_label shorter unread) base) _ _ exist.1 in
        let aliases = passes (tests_each tests_alias) _ _ short.1 in
        let owners = passes (tests_each tests_owner) _ _ aliases.1 in
        let targets = passes (tests_each tests_target) _ _ owners.1 in
        let glue = passes (tests_each (tests_ns is_prefix)) _ _ targets.1 in
        let learnt = passes (tests_each (tests_ns may_be_learnt)) _ _ glue.1 in
        let shorts = and_parts (unnamed_all (ground_of left) unread) _ short.0 in
        record {
          root = from_listed names [] root.0;
          prefixes = λ above below has. from_listed names above
              (each_of_all (is_among names) (prefixes (above ++ below))
              (each_of_all (λ name. list_all (is_among names) (prefixes name)) names closed.0 (above ++ below) has) above
              (prefixes_have (above ++ below) above (below, refl)));
          met = λ name has. from_listed (ground_of left).names name (each_of_all (is_among (ground_of left).names) names met.0 name has);
          within = λ zone rr has. each_of_all (λ r. is_prefix zone.origin r.owner) zone.rrs
              (each_of_all (λ z. list_all (λ r. is_prefix z.origin r.owner) z.rrs) (zones config) within.0 zone has.of_config) rr has.of_zone;
          exist = λ zone name has origin held exists. so (exists_in zone name) (exists_in (restricted_zone names zone) name)
              (each_of_all (λ n. implies (exists_in zone n) (exists_in (restricted_zone names zone) n)) names
              (so (is_among names zone.origin) _ (each_of_all _ (zones config) exist.0 zone has) (is_listed names zone.origin origin)) name held) exists;
          short = short_told shorts.0 shorts.1;
          aliases = λ zone rr target has is. local_told target (each_told tests_alias aliases.0 zone rr (Cname target) has is);
          owners = λ redirection below has. below_told redirection.owner
              (redirection_told (λ r. r.owner) tests_owner (λ origin owner target. refl) owners.0 redirection has) below;
          targets = λ redirection below has. below_told redirection.target
              (redirection_told (λ r. r.target) tests_target (λ origin owner target. refl) targets.0 redirection has) below;
          glue = λ zone rr ns has apart is inside. ns_told is_prefix glue.0 zone rr ns has apart is inside;
          learnt = λ zone rr ns has apart is configured no_top. ns_told may_be_learnt learnt.0 zone rr ns has apart is
              (ap₂ (λ (a b : Bool). a && not b) configured no_top);
        }
