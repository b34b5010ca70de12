-- Referrals are the same for two names whose nearest zones are.
use Rattle.std.proofs.Common.{◌≡◌, ℕ, ◌≤◌, Bool, true, false, not, cond, List, [], ◌∷◌, length, map, Option, None, Some, refl, sym, ap, ◌∙◌, subst, inl, inr}
use Rattle.std.specs.Prelude.{◌⊎◌, Contains, option_map}
use Rattle.std.specs.List.{AllByRecursion}
use Rattle.dns_data.specs.Name.{Labels, is_prefix}
use Rattle.dns_data.proofs.Membership.{from_map, map_has}
use Rattle.dns_data.proofs.Names.{all_append}
use Rattle.net_model.specs.declared.deps.Deps.{Deps}
use Rattle.net_model.specs.Nearest.{is_configured, nearest_of}
use Rattle.net_model.specs.Step.{Setting, Branch, Go, End, delegated, may_follow, referred}
use Rattle.net_model.specs.declared.config.Config.{Config}
use Rattle.net_model.specs.declared.config.Zone.{Zone}
use Rattle.net_model.specs.declared.fault.Fault.{Fault}
use Rattle.net_model.specs.declared.place.Cut.{Cut}
use Rattle.net_model.specs.declared.walk.Hop.{Hop}
use Rattle.net_model.specs.declared.walk.Hop.TheVariants.{Refer}
use Rattle.net_model.specs.declared.walk.Leaf.{Leaf}
use Rattle.net_model.specs.declared.walk.Leaf.TheVariants as leaves
use Rattle.net_model.specs.declared.walk.State.{State}
use Rattle.walk_laws.specs.Outcome.{outcome_of}
use Rattle.zone_lookup.specs.CutTable.{cut_to}
use Rattle.straight_walks.specs.Faulty.{AreAbove, BranchShows, branch_hop, faults_at}
use Rattle.straight_walks.specs.Searching.{AreReferrals, IsSettingOf, Known, state_at, queued_state, to_servers}
use Rattle.straight_walks.specs.Straight.{FailsOrGoes}
use Rattle.straight_walks.specs.declared.faulty.Faulty.{Faulty}
use Rattle.straight_walks.specs.declared.queue.Queued.{Queued}
use Rattle.straight_walks.proofs.SameFaulty.{above_below, same_faults_below}

-- a state, and a branch, for another name
abbrev for_name : Labels → State → State
for_name name state = record state { name = name }

abbrev branch_for : Labels → Branch → Branch
branch_for name (Go hop to) = Go hop (for_name name to)
branch_for name (End hop leaf) = End hop leaf

-- one of two branches
one_of : (name : Labels) (b : Bool) (one other : Branch) → cond b (branch_for name one) (branch_for name other) ≡ branch_for name (cond b one other)
one_of name true one other = refl
one_of name false one other = refl

delegated_for : (name : Labels) (state : State) (cut : Cut) (zone : Option Zone) → delegated (for_name name state) cut zone ≡ branch_for name (delegated state cut zone)
delegated_for name state cut None = refl
delegated_for name state cut (Some zone) = one_of name (is_prefix cut.cut zone.origin) _ _

-- a referral's branch
referred_for : (setting : Setting) (state : State) (cut : Cut) (name : Labels) → nearest_of setting.config cut.ns name ≡ nearest_of setting.config cut.ns state.name
    → referred setting (for_name name state) cut ≡ branch_for name (referred setting state cut)
referred_for setting state cut name same =
    let unhosted : Branch = End (Some (Refer cut)) (leaves.Unhosted cut.ns) in
    let unknown : Branch = End (Some (Refer cut)) (leaves.NoAddress cut.ns) in
    let known = may_follow setting.config cut setting.followed in
    let hosted = is_configured setting.config cut.ns in
    let on = delegated state cut (nearest_of setting.config cut.ns state.name) in
    ap (λ (z : Option Zone). cond (not hosted) unhosted (cond (not known) unknown (delegated (for_name name state) cut z))) same
    ∙ ap (λ (b : Branch). cond (not hosted) unhosted (cond (not known) unknown b)) (delegated_for name state cut (nearest_of setting.config cut.ns state.name))
    ∙ ap (λ (b : Branch). cond (not hosted) unhosted b) (one_of name (not known) unknown on)
    ∙ one_of name (not hosted) unhosted (cond (not known) unknown on)

module _ (config : Config) (deps : Deps) (one other : Labels) (same : (server : Labels) → nearest_of config server other ≡ nearest_of config server one) where
  -- the state at a server
  state_for : (server : Labels) (above : ℕ) → state_at config other server above ≡ for_name other (state_at config one server above)
  state_for server above =
      ap (λ (z : Option Zone). for_name other (record (state_at config one server above) { zone = option_map (λ (zone : Zone). zone.origin) z })) (same server)

  queued_for : (item : Queued) → queued_state config other item ≡ for_name other (queued_state config one item)
  queued_for item = state_for item.server.now item.cut

  -- the branch fails, or goes on to one of the states of a name
  abbrev Goes : Setting → List Fault → Bool → List Queued → Labels → Branch → Type 0
  Goes setting told fails queue name branch = FailsOrGoes setting.config deps told fails (map (queued_state config name) queue) branch

  goes_for : (setting : Setting) (told : List Fault) (fails : Bool) (queue : List Queued) (branch : Branch) → Goes setting told fails queue one branch
      → Goes setting told fails queue other (branch_for other branch)
  goes_for setting told fails queue branch (inl (failing, inl ends)) = inl (failing, inl (ap (branch_for other) ends))
  goes_for setting told fails queue branch (inl (failing, inr (cut, is, inl unhosted))) = inl (failing, inr (cut, is, inl (ap (branch_for other) unhosted)))
  goes_for setting told fails queue branch (inl (failing, inr (cut, is, inr (among, lame)))) = inl (failing, inr (cut, is, inr (among, ap (branch_for other) lame)))
  goes_for setting told fails queue branch (inr (cut, to, is, goes, has)) =
      let from = from_map (queued_state config one) queue to has in
      inr (
        cut,
        for_name other to,
        is,
        ap (branch_for other) goes,
        subst (Contains (map (queued_state config other) queue)) (queued_for from.0 ∙ ap (for_name other) from.2) (map_has (queued_state config other) queue from.0 from.1),
      )

  -- a branch has the same hop for another name, and ends alike
  hop_for : (branch : Branch) → branch_hop (branch_for other branch) ≡ branch_hop branch
  hop_for (Go hop to) = refl
  hop_for (End hop leaf) = refl

  shows_for : (setting : Setting) (branch : Branch) (fault : Fault) → BranchShows setting.config deps branch fault → BranchShows setting.config deps (branch_for other branch) fault
  shows_for setting branch fault (cut, hop, inl among) = (cut, hop_for branch ∙ hop, inl among)
  shows_for setting branch fault (cut, hop, inr (is, ends)) = (cut, hop_for branch ∙ hop, inr (is, ap (branch_for other) ends))

  -- a zone cut's branches
  module _ (server : Labels) (zone : Zone) (cut : Labels) (names : List Labels) where
    abbrev branches : Labels → Setting → ℕ → List Branch
    branches name setting above = to_servers zone cut names setting (state_at config name server above)

    branches_for : (setting : Setting) (above : ℕ) → IsSettingOf config deps setting → branches other setting above ≡ map (branch_for other) (branches one setting above)
    branches_for setting above of = by names where
      here : (ns : Labels) → referred setting (state_at config other server above) (cut_to server zone cut ns)
          ≡ branch_for other (referred setting (state_at config one server above) (cut_to server zone cut ns))
      here ns =
          ap (λ (s : State). referred setting s (cut_to server zone cut ns)) (state_for server above)
          ∙ referred_for setting (state_at config one server above) (cut_to server zone cut ns) other
          (subst (λ (c : Config). nearest_of c ns other ≡ nearest_of c ns one) (sym of.config_is) (same ns))

      by : (names : List Labels) → to_servers zone cut names setting (state_at config other server above)
          ≡ map (branch_for other) (to_servers zone cut names setting (state_at config one server above))
      by [] = refl
      by (ns ∷ names) = ap (λ (b : Branch). b ∷ to_servers zone cut names setting (state_at config other server above)) (here ns)
          ∙ ap (λ (bs : List Branch). branch_for other (referred setting (state_at config one server above) (cut_to server zone cut ns)) ∷ bs) (by names)

    -- a branch among them
    among_for : (setting : Setting) (above : ℕ) → IsSettingOf config deps setting → (branch : Branch) → Contains (branches one setting above) branch
        → Contains (branches other setting above) (branch_for other branch)
    among_for setting above of branch has =
        subst (λ (all : List Branch). Contains all (branch_for other branch)) (sym (branches_for setting above of))
        (map_has (branch_for other) (branches one setting above) branch has)

    all_for : (setting : Setting) (told : List Fault) (fails : Bool) (queue : List Queued) (all : List Branch) → AllByRecursion (Goes setting told fails queue one) all
        → AllByRecursion (Goes setting told fails queue other) (map (branch_for other) all)
    all_for setting told fails queue [] each = tt
    all_for setting told fails queue (branch ∷ rest) each = (goes_for setting told fails queue branch each.0, all_for setting told fails queue rest each.1)

    -- referrals of one name are referrals of each name below it for which each server has the same nearest zone, if the
    -- zone cuts are at or above the one name that are known to show faults
    pub refers_for : is_prefix one other ≡ true → (before after : Known) → AreAbove one before.faulty
        → AreReferrals config deps one server zone cut names before after → AreReferrals config deps other server zone cut names before after
    refers_for below before after above so =
        record {
          extends = so.extends;
          still = so.still;
          keeps = (so.keeps.0, so.keeps.1, above_below one other below so.keeps.0 so.keeps.2);
          each = λ setting above of.
              subst (λ (told : List Fault). AllByRecursion (Goes setting told after.fails after.queue other) (branches other setting above)) (sym same_after)
              (subst (AllByRecursion (Goes setting (faults_at one after.faulty) after.fails after.queue other)) (sym (branches_for setting above of))
              (all_for setting (faults_at one after.faulty) after.fails after.queue (branches one setting above) (so.each setting above of)));
          leads = λ item has. leads item (so.leads item has);
          told = λ is. told (so.told is);
          shown = λ fault has. shown fault (so.shown fault (subst (λ (all : List Fault). Contains all fault) same_after has));
        }
      where
        same_before : faults_at other before.faulty ≡ faults_at one before.faulty
        same_before = same_faults_below one other below before.faulty above

        above_after : AreAbove one after.faulty
        above_after =
            subst (AreAbove one) (sym so.keeps.1) (all_append (λ (faulty : Faulty). faulty.cut ≤ length one) before.faulty so.keeps.0 above so.keeps.2)

        same_after : faults_at other after.faulty ≡ faults_at one after.faulty
        same_after = same_faults_below one other below after.faulty above_after

        leads : (item : Queued) → Contains before.queue item ⊎ ((setting : Setting) (above : ℕ) → IsSettingOf config deps setting
            → (hop : Hop) × Contains (branches one setting above) (Go hop (queued_state config one item)))
            → Contains before.queue item ⊎ ((setting : Setting) (above : ℕ) → IsSettingOf config deps setting
            → (hop : Hop) × Contains (branches other setting above) (Go hop (queued_state config other item)))
        leads item (inl early) = inl early
        leads item (inr goes) = inr (λ setting above of.
            let (hop, has) = goes setting above of in (
              hop,
              subst (λ (to : State). Contains (branches other setting above) (Go hop to)) (sym (queued_for item)) (among_for setting above of (Go hop (queued_state config one item)) has),
            ))

        told : (before.fails ≡ true) ⊎ ((setting : Setting) (above : ℕ) → IsSettingOf config deps setting
            → (hop : Option Hop) × (leaf : Leaf) × Contains (branches one setting above) (End hop leaf) × (outcome_of leaf ≡ None))
            → (before.fails ≡ true) ⊎ ((setting : Setting) (above : ℕ) → IsSettingOf config deps setting
            → (hop : Option Hop) × (leaf : Leaf) × Contains (branches other setting above) (End hop leaf) × (outcome_of leaf ≡ None))
        told (inl early) = inl early
        told (inr end) = inr (λ setting above of.
            let (hop, leaf, has, none) = end setting above of in (hop, leaf, among_for setting above of (End hop leaf) has, none))

        shown : (fault : Fault) → Contains (faults_at one before.faulty) fault ⊎ ((setting : Setting) (above : ℕ) → IsSettingOf config deps setting
            → (branch : Branch) × Contains (branches one setting above) branch × BranchShows setting.config deps branch fault)
            → Contains (faults_at other before.faulty) fault ⊎ ((setting : Setting) (above : ℕ) → IsSettingOf config deps setting
            → (branch : Branch) × Contains (branches other setting above) branch × BranchShows setting.config deps branch fault)
        shown fault (inl early) = inl (subst (λ (all : List Fault). Contains all fault) (sym same_before) early)
        shown fault (inr by) = inr (λ setting above of.
            let (branch, has, is) = by setting above of in
            (branch_for other branch, among_for setting above of branch has, shows_for setting branch fault is))
