-- Each fault that a member of a class shows, the class's representative shows.
use Rattle.std.proofs.Common.{◌≡◌, ◌≢◌, ℕ, ◌<◌, ◌≤◌, Bool, true, false, cond, List, [], ◌∷◌, ◌++◌, map, length, Contains, sym, refl, ap, ◌∙◌, subst, inl, inr, arith, append_assoc, append-nil, length-append, true≢false}
use Rattle.std.specs.List.{AllByRecursion}
use Rattle.std.proofs.lemmas.Bool.{cases_lt}
use Rattle.std.proofs.lemmas.List.{map-append}
use Rattle.std.proofs.lemmas.List.Elements.{Contains-append_left}
use Rattle.dns_data.specs.Name.{Labels, IsName}
use Rattle.dns_data.specs.declared.rr_type.RrType.{RrType}
use Rattle.dns_data.proofs.Membership.{none_in_nil, has_first, has_later, first_or_later}
use Rattle.dns_data.proofs.NameFronts.{Begins, two_fronts}
use Rattle.net_model.specs.declared.class.Class.{Class}
use Rattle.net_model.specs.declared.class.Class.TheVariants.{Exact, Below}
use Rattle.net_model.specs.declared.config.Config.{Config}
use Rattle.net_model.specs.declared.fault.Fault.{Fault}
use Rattle.net_model.specs.declared.fault.Fault.TheVariants as faults
use Rattle.net_model.specs.declared.place.Cut.{Cut}
use Rattle.net_model.specs.declared.place.Place.{Place}
use Rattle.net_model.specs.declared.walk.Hop.{Hop}
use Rattle.net_model.specs.declared.walk.Hop.TheVariants.{Refer}
use Rattle.net_model.specs.declared.walk.Leaf.{Leaf}
use Rattle.net_model.specs.declared.walk.Leaf.TheVariants.{Answer, NoData, NxDomain}
use Rattle.net_model.specs.declared.walk.State.{State}
use Rattle.net_model.specs.declared.walk.Walk.{Walk}
use Rattle.net_model.specs.Class.{IsClassOf, IsRepresentative, StandsBelow}
use Rattle.net_model.specs.Reading.{Ground, IsNamed, Covers, ground_of}
use Rattle.net_model.specs.Retail.{retailed_name, retailed_state, retailed_hop, retailed_hops, retail}
use Rattle.net_model.specs.Shown.{FaultSetting, with_sets, Refers, EndsBehind, LastRewriteAt, is_authoritative, MayShow, Represents, WalksShow, ShowsIn}
use Rattle.net_model.specs.Step.{following}
use Rattle.net_model.specs.Tails.{WalksAs, is_overlong}
use Rattle.net_model.specs.Walk.{IsWalk}
use Rattle.walk_laws.specs.OfWalks.{is_of_walks}
use Rattle.walk_laws.proofs.JoinedGround.{own_covers}
use Rattle.walk_laws.proofs.Represents.{represents_everywhere}
use Rattle.walk_laws.proofs.WalksAlike.ClassTails.{named_everywhere, tails_in_class}
use Rattle.walk_laws.proofs.WalksAlike.QueryWalks.{walks_as}
use Rattle.net_model.proofs.TrialOrder.{one_representative}

-- ---- what a walk with the tail replaced shows

module _ (count : ℕ) (tail : Labels) where
  -- a referral among the hops stays among them
  refer_stays : (cut : Cut) (states : List State) (hops : List Hop) → Contains hops (Refer cut) → Contains (retailed_hops count tail states hops) (Refer cut)
  refer_stays cut [] hops has = has
  refer_stays cut (state ∷ states) [] has = absurd (none_in_nil (Refer cut) has)
  refer_stays cut (state ∷ states) (hop ∷ hops) has =
      elim (first_or_later hop hops (Refer cut) has) [
        | inl same ↦ (
            let stays : retailed_hop count tail state.carried hop ≡ Refer cut = ap (retailed_hop count tail state.carried) same in
            subst (λ (h : Hop). Contains (h ∷ retailed_hops count tail states hops) (Refer cut)) (sym stays) (has_first (Refer cut) (retailed_hops count tail states hops)))
        | inr later ↦ has_later (retailed_hop count tail state.carried hop) (retailed_hops count tail states hops) (Refer cut) (refer_stays cut states hops later)
      ]

  no_hops : (states : List State) → retailed_hops count tail states [] ≡ []
  no_hops [] = refl
  no_hops (state ∷ states) = refl

  -- and one behind which the walk ends stays the last
  last_stays : (cut : Cut) (states : List State) (before : List Hop)
      → (others : List Hop) × (retailed_hops count tail states (before ++ Refer cut ∷ []) ≡ others ++ Refer cut ∷ [])
  last_stays cut [] before = (before, refl)
  last_stays cut (state ∷ states) [] = ([], ap (λ (hops : List Hop). Refer cut ∷ hops) (no_hops states))
  last_stays cut (state ∷ states) (hop ∷ before) =
      let rest = last_stays cut states before in
      (retailed_hop count tail state.carried hop ∷ rest.0, ap (λ (hops : List Hop). retailed_hop count tail state.carried hop ∷ hops) rest.1)

  behind_stays : (walk : Walk) (cut : Cut) → EndsBehind walk cut → EndsBehind (retail count tail walk) cut
  behind_stays walk cut (before, is) =
      let rest = last_stays cut walk.states before in (rest.0, ap (retailed_hops count tail walk.states) is ∙ rest.1)

  -- the place of a state's last rewrite stays
  place_stays : (state : State) → (retailed_state count tail state).last ≡ state.last
  place_stays state = by state.carried where
    by : (b : Bool) → (cond b (record state { name = retailed_name count tail state.name }) state).last ≡ state.last
    by true = refl
    by false = refl

  rewrite_stays : (walk : Walk) (place : Place) → LastRewriteAt walk place → LastRewriteAt (retail count tail walk) place
  rewrite_stays walk place is =
      record {
        before = map (retailed_state count tail) is.before;
        last = retailed_state count tail is.last;
        states = ap (map (retailed_state count tail)) is.states ∙ map-append (retailed_state count tail) is.before (is.last ∷ []);
        at_place = place_stays is.last ∙ is.at_place;
      }

-- an end that tells what a zone has for the name isn't overlong
told_not_overlong : (leaf : Leaf) → is_authoritative leaf ≡ true → is_overlong leaf ≡ false
told_not_overlong (Answer rdata) is = refl
told_not_overlong NoData is = refl
told_not_overlong NxDomain is = refl
told_not_overlong _ is = cc

-- ---- what walks of the query show, walks of the other name show

module _ (setting : FaultSetting) (above own other : Labels) (rtype : RrType) (alike : WalksAs setting.walks rtype above own other) where
  abbrev changed : Walk → Walk
  changed = retail (length own) other

  -- walks of the other name show the fault
  abbrev OthersShow : Fault → Type 0
  OthersShow fault = (walks : List Walk) × AllByRecursion (IsWalk setting.walks (above ++ other) rtype) walks × WalksShow setting walks fault

  kept : (walk : Walk) → IsWalk setting.walks (above ++ own) rtype walk → is_overlong walk.leaf ≡ false → IsWalk setting.walks (above ++ other) rtype (changed walk)
  kept walk (numbers, e) good = (numbers, alike.walks numbers walk e good)

  -- with the walk a referral on it is on a walk of the other name
  refers_kept : (walk : Walk) (cut : Cut) → IsWalk setting.walks (above ++ own) rtype walk → Refers walk cut
      → (whole : Walk) × IsWalk setting.walks (above ++ other) rtype whole × Refers whole cut
  refers_kept walk cut is refers = by (is_overlong walk.leaf) refl where
    has : Contains (changed walk).hops (Refer cut)
    has = refer_stays (length own) other cut walk.states walk.hops refers

    by : (long : Bool) → is_overlong walk.leaf ≡ long → (whole : Walk) × IsWalk setting.walks (above ++ other) rtype whole × Refers whole cut
    by false good = (changed walk, kept walk is good, has)
    by true long =
        let front = alike.overlong walk is long in (
          front.0,
          front.1,
          subst (λ (hops : List Hop). Contains hops (Refer cut)) (sym front.2.hops_are) (Contains-append_left (changed walk).hops front.2.hops (Refer cut) has),
        )

  -- the walks show what they showed but for an overlong rewrite
  pub shown : (walks : List Walk) (fault : Fault) → ((place : Place) → fault ≢ faults.Overlong place)
      → AllByRecursion (IsWalk setting.walks (above ++ own) rtype) walks → WalksShow setting walks fault → OthersShow fault
  shown (walk ∷ []) (faults.Lame cut) never are show = (
    changed walk ∷ [],
    (kept walk are.0 (ap is_overlong show.ends), tt),
    record { behind = behind_stays (length own) other walk cut show.behind; ends = show.ends },
  )
  shown (walk ∷ []) (faults.Differs cut) never are show =
      let whole = refers_kept walk cut are.0 show.refers in
      (whole.0 ∷ [], (whole.1, tt), record { refers = whole.2; zones = show.zones })
  shown (walk ∷ []) (faults.NoGlue cut) never are show =
      let whole = refers_kept walk cut are.0 show.refers in
      (whole.0 ∷ [], (whole.1, tt), record { refers = whole.2; wants = show.wants })
  shown (walk ∷ []) (faults.GlueDiffers cut) never are show =
      let whole = refers_kept walk cut are.0 show.refers in
      (whole.0 ∷ [], (whole.1, tt), record { refers = whole.2; glue = show.glue })
  shown (walk ∷ []) (faults.Cyclic cut) never are show =
      let whole = refers_kept walk cut are.0 show.refers in
      (whole.0 ∷ [], (whole.1, tt), record { refers = whole.2; depends = show.depends })
  shown (walk ∷ []) (faults.Limit place) never are show = (changed walk ∷ [], (kept walk are.0 (ap is_overlong show), tt), show)
  shown (walk ∷ []) (faults.Blackhole place) never are show = (
    changed walk ∷ [],
    (kept walk are.0 (ap is_overlong show.ends), tt),
    record { rewritten = rewrite_stays (length own) other walk place show.rewritten; ends = show.ends },
  )
  shown (one ∷ two ∷ []) (faults.Answers class shown_with) never are show = (
    changed one ∷ changed two ∷ [],
    (kept one are.0 (told_not_overlong one.leaf show.first), (kept two are.1.0 (told_not_overlong two.leaf show.second), tt)),
    record { first = show.first; second = show.second; differ = show.differ },
  )
  shown (walk ∷ []) (faults.NoAddress cut) never are show = (
    changed walk ∷ [],
    (kept walk are.0 (ap is_overlong show.ends), tt),
    record { behind = behind_stays (length own) other walk cut show.behind; ends = show.ends; not_at_most = show.not_at_most },
  )
  shown (walk ∷ []) (faults.Overlong place) never are show = absurd (never place refl)
  shown _ _ never are show = absurd show

-- what a query shows the name with another tail does, where that walks as the query does
pub shown_alike : (config : Config) (rewrites : ℕ) (above own other : Labels) (rtype : RrType)
    → ((followed : List Labels) → WalksAs (following config rewrites followed) rtype above own other) → (fault : Fault) → is_of_walks fault ≡ true
    → ShowsIn config rewrites (above ++ own) rtype fault → ShowsIn config rewrites (above ++ other) rtype fault
shown_alike config rewrites above own other rtype alike fault of_walks shows =
    let setting : FaultSetting = with_sets (following config rewrites shows.followed) in
    let found = shown setting above own other rtype (alike shows.followed) shows.shows.walks fault (no_overlong fault of_walks) shows.shows.are_walks shows.shows.show in
    record {
      followed = shows.followed;
      in_force = shows.in_force;
      shows = record { walks = found.0; by = record { may = may fault of_walks; are_walks = found.1; show = found.2 } };
    }
  where
    no_overlong : (fault : Fault) → is_of_walks fault ≡ true → (place : Place) → fault ≢ faults.Overlong place
    no_overlong fault is place same = true≢false (sym is ∙ ap is_of_walks same)

    may : (fault : Fault) → is_of_walks fault ≡ true → MayShow config (above ++ other) rtype fault
    may (faults.Answers class shown_with) is = absurd (true≢false (sym is))
    may (faults.Overlong place) is = absurd (true≢false (sym is))
    may _ is = tt

-- ---- so does the representative

-- the representative of the class of a member is in the class
pub representative_in_class : (ground : Ground) (above representative : Labels) → IsNamed ground above → StandsBelow ground above representative
    → IsClassOf ground representative (Below above)
representative_in_class ground above representative named stands = (
  λ is. stands.first.unnamed (subst (IsNamed ground) stands.extends is),
  record { below = stands.label ∷ []; prefix = stands.extends; named = named; longest = at_most },
)
  where
    at_most : (longer rest : Labels) → representative ≡ longer ++ rest → IsNamed ground longer → length longer ≤ length above
    at_most longer rest e is =
        elim (cases_lt (length above) (length longer)) [
          | inr fits ↦ fits
          | inl long ↦ absurd (by rest (sym stands.extends ∙ e) long)
        ]
      where
        by : (rest : Labels) → above ++ stands.label ∷ [] ≡ longer ++ rest → length above < length longer → ⊥
        by [] e long = stands.first.unnamed (subst (IsNamed ground) (sym (e ∙ append-nil longer)) is)
        by (label ∷ rest) e long =
            omega (arith, ap length e, length-append above (stands.label ∷ []), length-append longer (label ∷ rest))

-- of two fronts of one name the one with no more labels begins the other
shorter_begins : (a b c d : Labels) → a ++ b ≡ c ++ d → length a ≤ length c → Begins a c
shorter_begins a b c d e fits =
    elim (two_fronts a b c d e) [ inl begins ↦ begins | inr (rest, is) ↦ by rest is ]
  where
    by : (rest : Labels) → c ++ rest ≡ a → Begins a c
    by [] is = ([], append-nil a ∙ sym is ∙ append-nil c)
    by (label ∷ rest) is = absurd (omega (arith, ap length is, length-append c (label ∷ rest)))

-- under a ground that names what the configuration names
module _ (config : Config) (rewrites : ℕ) (ground : Ground) (told : (name : Labels) → IsNamed (ground_of config) name → IsNamed ground name)
    (above query representative : Labels) (is : IsName query)
    (of_class : IsClassOf ground query (Below above)) (stands : IsRepresentative ground (Below above) representative) where
  in_class : IsClassOf ground representative (Below above)
  in_class = representative_in_class ground above representative of_class.1.named stands

  -- the member and the representative are in one class of the configuration's own
  class_kept : (class : Class) → IsClassOf (ground_of config) query class → IsClassOf (ground_of config) representative class
  class_kept (Exact alone) (same, named) = absurd (of_class.0 (told query named))
  class_kept (Below top) (unnamed, longest) =
      let member = of_class.1 in
      let stood = in_class.1 in
      let begins = shorter_begins top longest.below above member.below (sym longest.prefix ∙ member.prefix)
      (member.longest top longest.below longest.prefix (told top longest.named)) in (
        λ named. in_class.0 (told representative named),
        record {
          below = begins.0 ++ stood.below;
          prefix = stood.prefix ∙ ap (λ (x : Labels). x ++ stood.below) (sym begins.1) ∙ append_assoc top begins.0 stood.below;
          named = longest.named;
          longest = λ longer rest e named.
              let front = shorter_begins longer rest above stood.below (sym e ∙ stood.prefix) (stood.longest longer rest e (told longer named)) in
              longest.longest longer (front.0 ++ member.below)
              (member.prefix ∙ ap (λ (x : Labels). x ++ member.below) (sym front.1) ∙ append_assoc longer front.0 member.below) named;
        },
      )

  -- a fault that may be shown by the member may be by the representative
  may_too : (rtype : RrType) (fault : Fault) → ((place : Place) → fault ≢ faults.Overlong place) → MayShow config query rtype fault → MayShow config representative rtype fault
  may_too rtype (faults.Answers class shown_with) never (same, of_query) = (same, class_kept class of_query)
  may_too rtype (faults.Overlong place) never may = absurd (never place refl)
  may_too rtype _ never may = tt

  carried_below : (rtype : RrType) (fault : Fault) → ((place : Place) → fault ≢ faults.Overlong place)
      → ShowsIn config rewrites query rtype fault → ShowsIn config rewrites representative rtype fault
  carried_below rtype fault never shows =
      let ends = tails_in_class config ground told above query representative is of_class stands in
      let setting : FaultSetting = with_sets (following config rewrites shows.followed) in
      let found =
      shown setting above ends.0 ends.1 rtype (walks_as setting.walks above ends.0 ends.1 ends.4 rtype) shows.shows.walks fault never
      (subst (λ (q : Labels). AllByRecursion (IsWalk setting.walks q rtype) shows.shows.walks) ends.2 shows.shows.are_walks) shows.shows.show in
      record {
        followed = shows.followed;
        in_force = shows.in_force;
        shows = record {
          walks = found.0;
          by = record {
            may = may_too rtype fault never shows.shows.may;
            are_walks = subst (λ (q : Labels). AllByRecursion (IsWalk setting.walks q rtype) found.0) (sym ends.3) found.1;
            show = found.2;
          };
        };
      }

-- each fault that a query shows, the representative of its class shows, under every ground that covers the configuration. A
-- named name is alone in its class. Of a class below a name, a member and the representative have unnamed tails
-- (ClassTails.tails_in_class), so each walk of the member that doesn't end overlong is, with the tail replaced, one of the
-- representative (QueryWalks.walks_as), and a front of one where a referral on it is all that counts. With
-- the tail replaced the walks show what they showed: the cuts, the places and the ends that no name enters stay
-- (refers_kept, rewrite_stays, shown). Answers are shown of one class, and both are in the same (class_kept). An overlong
-- fault is told of representatives under the configuration's own ground alone, and such a query represents its class under
-- this ground too (Represents.represents_everywhere); there is one (TrialOrder.one_representative), so the query is it.
pub carried_under : (config : Config) (rewrites : ℕ) (ground : Ground) → Covers ground config → (class : Class) (query representative : Labels) → IsName query
    → IsClassOf ground query class → IsRepresentative ground class representative
    → (rtype : RrType) (fault : Fault) → ShowsIn config rewrites query rtype fault → ShowsIn config rewrites representative rtype fault
carried_under config rewrites ground covers class query representative is of_class stands rtype (faults.Overlong place) shows =
    let represents : Represents config query = shows.shows.may in
    let one : query ≡ representative =
    one_representative ground class query representative (represents_everywhere config ground covers class query of_class represents) stands in
    subst (λ (q : Labels). ShowsIn config rewrites q rtype (faults.Overlong place)) one shows
carried_under config rewrites ground covers (Exact alone) query representative is of_class stands rtype fault shows =
    subst (λ (q : Labels). ShowsIn config rewrites q rtype fault) (sym (stands ∙ of_class.0)) shows
carried_under config rewrites ground covers (Below above) query representative is of_class stands rtype fault shows =
    carried_below config rewrites ground (named_everywhere config ground covers) above query representative is of_class stands rtype fault (λ place e. cc) shows

-- each fault that a query shows, the representative of its class under the configuration's own ground shows
pub carried : (config : Config) (rewrites : ℕ) (class : Class) (query representative : Labels) → IsName query
    → IsClassOf (ground_of config) query class → IsRepresentative (ground_of config) class representative
    → (rtype : RrType) (fault : Fault) → ShowsIn config rewrites query rtype fault → ShowsIn config rewrites representative rtype fault
carried config rewrites = carried_under config rewrites (ground_of config) (own_covers config)
