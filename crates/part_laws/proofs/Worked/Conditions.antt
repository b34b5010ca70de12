-- What goes wrong where one condition of a part isn't met. For each there are a configuration and held names that meet all
-- others (`only_..`), and so are no part (`not_..`); and a local name that what is left treats otherwise than the whole, or
-- a foreign one that it names.
use Rattle.std.proofs.Common.{◌≡◌, ◌≢◌, refl, sym, ◌∙◌, true, false, true≢false, List, [], ◌∷◌, Some, Contains, arith, append-nil}
use Rattle.std.specs.Prelude.{codes}
use Rattle.dns_data.specs.Name.{Labels, name_eq, is_among}
use Rattle.dns_data.specs.declared.rdata.Rdata.TheVariants.{Ns, Cname, Dname, Txt}
use Rattle.dns_data.specs.declared.rr_type.RrType.TheVariants as types
use Rattle.dns_data.proofs.Membership.{has_first}
use Rattle.dns_data.proofs.Names.{name_eq_decides}
use Rattle.net_model.specs.declared.config.Config.{Config}
use Rattle.net_model.specs.declared.config.Zone.{Zone}
use Rattle.net_model.specs.declared.place.Cut.{Cut}
use Rattle.net_model.specs.declared.walk.Leaf.TheVariants as leaves
use Rattle.net_model.specs.Reading.{Ground, IsNamed, ground_of}
use Rattle.net_model.specs.Step.{following, has_glue}
use Rattle.net_model.specs.Walk.{walk_along}
use Rattle.net_model.proofs.Naming.{is_listed, from_listed, named, unnamed}
use Rattle.part_laws.specs.Part.{restricted, IsLocal, HasShorterUnnamed, IsPart}
use Rattle.part_laws.proofs.Tested.{tests_local, unmet}
use Rattle.part_laws.proofs.Words.{rr, address, zone_at, server_at, with_tops, end_of, s1, t, www, from, goal, xx_from, xx_goal, near, ns_near, far, z_t, alone}

-- a list that doesn't have the name has it not
not_held : (names : List Labels) (name : Labels) → is_among names name ≡ false → Contains names name → ⊥
not_held names name out held = true≢false (sym (is_listed names name held) ∙ out)

-- a base name that isn't held is foreign
foreign : (config : Config) (names : List Labels) (name : Labels) → is_among (ground_of config).names name ≡ true → is_among names name ≡ false
    → IsLocal config names name → ⊥
foreign config names name based out local =
    not_held names name out (local.held name [] (append-nil name) (from_listed (ground_of config).names name based))

-- names that differ
apart : (a b : Labels) → name_eq a b ≡ false → a ≢ b
apart a b differ same = true≢false (sym ((name_eq_decides a b).1 same) ∙ differ)

-- no label has fewer octets than one
no_shorter : (ground : Ground) (above : Labels) → HasShorterUnnamed ground above 1 → ⊥
no_shorter ground above shorter =
    let less = shorter.shorter in
    let some = shorter.is_label.not_empty in
    omega arith

abbrev bb : Labels
bb = codes "bb" ∷ []

abbrev bb_aa : Labels
bb_aa = codes "bb" ∷ codes "aa" ∷ []

-- ---- root: what is left names the root, as it does where no name is held

abbrev one_owner : Config
one_owner = alone (rr www address ∷ [])

only_root : unmet one_owner [] (codes "z") [] ≡ codes "root" ∷ []
only_root = refl

not_rooted : IsPart one_owner [] → ⊥
not_rooted part = not_held [] [] refl part.root

root_is_foreign : tests_local one_owner [] [] ≡ false
root_is_foreign = refl

root_is_left : IsNamed (ground_of (restricted [] one_owner)) []
root_is_left = named 0 (ground_of (restricted [] one_owner)) [] refl

-- ---- prefixes: what is left names a name of which a prefix isn't held

abbrev root_zone : Config
root_zone = with_tops (s1 ∷ []) (server_at s1 (zone_at [] (rr bb_aa address ∷ []) ∷ []) ∷ [])

abbrev without_prefix : List Labels
without_prefix = [] ∷ bb_aa ∷ []

only_prefixes : unmet root_zone without_prefix (codes "z") ((codes "z" ∷ []) ∷ []) ≡ codes "prefixes" ∷ []
only_prefixes = refl

not_closed : IsPart root_zone without_prefix → ⊥
not_closed part = not_held without_prefix bb refl (part.prefixes bb (codes "aa" ∷ []) (from_listed without_prefix bb_aa refl))

bb_aa_is_foreign : tests_local root_zone without_prefix bb_aa ≡ false
bb_aa_is_foreign = refl

bb_aa_is_left : IsNamed (ground_of (restricted without_prefix root_zone)) bb_aa
bb_aa_is_left = named 0 (ground_of (restricted without_prefix root_zone)) bb_aa refl

-- ---- met: a held name is a base name by a foreign origin alone

abbrev above_origin : Config
above_origin = with_tops (s1 ∷ []) (server_at s1 (zone_at [] [] ∷ zone_at bb_aa [] ∷ []) ∷ [])

abbrev without_origin : List Labels
without_origin = [] ∷ bb ∷ []

only_met : unmet above_origin without_origin (codes "z") ((codes "bb" ∷ codes "z" ∷ []) ∷ []) ≡ codes "met" ∷ []
only_met = refl

not_met : IsPart above_origin without_origin → ⊥
not_met part =
    not_held (ground_of (restricted without_origin above_origin)).names bb refl (part.met bb (from_listed without_origin bb refl))

bb_is_local : tests_local above_origin without_origin bb ≡ true
bb_is_local = refl

bb_is_named : IsNamed (ground_of above_origin) bb
bb_is_named = named 0 (ground_of above_origin) bb refl

bb_is_gone : IsNamed (ground_of (restricted without_origin above_origin)) bb → ⊥
bb_is_gone = unnamed (ground_of (restricted without_origin above_origin)) (bb ∷ []) bb refl refl

-- ---- within: a zone that goes has a redirection at a held owner, which isn't at or below its origin

abbrev stray : Zone
stray = zone_at (codes "aa" ∷ []) (rr bb (Dname (codes "cc" ∷ [])) ∷ [])

abbrev out_of_zone : Config
out_of_zone = with_tops (s1 ∷ []) (server_at s1 (stray ∷ zone_at bb [] ∷ zone_at (codes "cc" ∷ codes "xx" ∷ []) [] ∷ []) ∷ [])

abbrev below_bb : Labels
below_bb = codes "bb" ∷ codes "xx" ∷ []

only_within : unmet out_of_zone without_origin (codes "z") ((codes "z" ∷ []) ∷ []) ≡ codes "within" ∷ []
only_within = refl

not_within : IsPart out_of_zone without_origin → ⊥
not_within part =
    true≢false
    (sym (part.within stray (rr bb (Dname (codes "cc" ∷ []))) (record {
      of_config = has_first stray (zone_at bb [] ∷ zone_at (codes "cc" ∷ codes "xx" ∷ []) [] ∷ []);
      of_zone = has_first (rr bb (Dname (codes "cc" ∷ []))) [];
    })))

below_bb_is_local : tests_local out_of_zone without_origin below_bb ≡ true
below_bb_is_local = refl

below_bb_is_named : IsNamed (ground_of out_of_zone) below_bb
below_bb_is_named = named 1 (ground_of out_of_zone) below_bb refl

below_bb_is_gone : IsNamed (ground_of (restricted without_origin out_of_zone)) below_bb → ⊥
below_bb_is_gone = unnamed (ground_of (restricted without_origin out_of_zone)) (below_bb ∷ []) below_bb refl refl

-- ---- exist: the first server's zone has www.t. by a name below it alone, which isn't held; the second one's owns it

abbrev xx_www : Labels
xx_www = codes "t" ∷ codes "www" ∷ codes "xx" ∷ []

abbrev s2 : Labels
s2 = codes "s2" ∷ []

abbrev two_zones : Config
two_zones =
    with_tops (s1 ∷ s2 ∷ [])
    (server_at s1 (zone_at t (rr xx_www address ∷ []) ∷ []) ∷ server_at s2 (zone_at t (rr www (Txt (codes "w" ∷ [])) ∷ []) ∷ []) ∷ [])

abbrev without_below : List Labels
without_below = [] ∷ t ∷ www ∷ []

only_exist : unmet two_zones without_below (codes "z") ((codes "t" ∷ codes "www" ∷ codes "z" ∷ []) ∷ []) ≡ codes "exist" ∷ []
only_exist = refl

not_existing : IsPart two_zones without_below → ⊥
not_existing part =
    true≢false
    (sym (part.exist (zone_at t (rr xx_www address ∷ [])) www
    (has_first (zone_at t (rr xx_www address ∷ [])) (zone_at t (rr www (Txt (codes "w" ∷ [])) ∷ []) ∷ []))
    (from_listed without_below t refl) (from_listed without_below www refl) refl))

www_exists : end_of (walk_along (following two_zones 12 []) www types.Txt (0 ∷ 0 ∷ [])) ≡ Some leaves.NoData
www_exists = refl

www_is_gone : end_of (walk_along (following (restricted without_below two_zones) 12 []) www types.Txt (0 ∷ 0 ∷ [])) ≡ Some leaves.NxDomain
www_is_gone = refl

-- ---- short: a wildcard that isn't held answers for a local name

abbrev star : Labels
star = codes "t" ∷ codes "*" ∷ []

abbrev wildcard : Config
wildcard = alone (rr star (Txt (codes "w" ∷ [])) ∷ rr www (Cname far) ∷ [])

only_short : unmet wildcard without_below (codes "z") (z_t ∷ []) ≡ codes "short" ∷ []
only_short = refl

not_short : IsPart wildcard without_below → ⊥
not_short part =
    no_shorter (ground_of (restricted without_below wildcard)) t
    (part.short t (codes "*") (from_listed without_below t refl) (from_listed (ground_of wildcard).names star refl) (not_held without_below star refl))

far_is_local : tests_local wildcard without_below far ≡ true
far_is_local = refl

star_answers : end_of (walk_along (following wildcard 12 []) far types.Txt (0 ∷ 0 ∷ [])) ≡ Some (leaves.Answer (Txt (codes "w" ∷ []) ∷ []))
star_answers = refl

star_is_gone : end_of (walk_along (following (restricted without_below wildcard) 12 []) far types.Txt (0 ∷ 0 ∷ [])) ≡ Some leaves.NxDomain
star_is_gone = refl

-- ---- short: the first unnamed label of what is left makes a foreign name, so that another name stands for the class below t.

abbrev a_t : Labels
a_t = codes "t" ∷ codes "a" ∷ []

abbrev a_beside : Config
a_beside = alone (rr a_t address ∷ rr star (Txt (codes "w" ∷ [])) ∷ [])

abbrev without_a : List Labels
without_a = [] ∷ t ∷ star ∷ []

only_short_again : unmet a_beside without_a (codes "z") (z_t ∷ []) ≡ codes "short" ∷ []
only_short_again = refl

a_is_named : IsNamed (ground_of a_beside) a_t
a_is_named = named 0 (ground_of a_beside) a_t refl

a_is_gone : IsNamed (ground_of (restricted without_a a_beside)) a_t → ⊥
a_is_gone = unnamed (ground_of (restricted without_a a_beside)) (a_t ∷ []) a_t refl refl

-- ---- aliases: the target isn't held

abbrev alias : Config
alias = alone (rr www (Cname goal) ∷ rr goal address ∷ [])

only_aliases : unmet alias without_below (codes "z") (z_t ∷ []) ≡ codes "aliases" ∷ []
only_aliases = refl

not_aliased : IsPart alias without_below → ⊥
not_aliased part =
    foreign alias without_below goal refl refl
    (part.aliases (zone_at t (rr www (Cname goal) ∷ [])) (rr www (Cname goal)) goal
    (record { of_config = has_first (zone_at t (rr www (Cname goal) ∷ [])) []; of_zone = has_first (rr www (Cname goal)) [] }) refl)

goal_answers : end_of (walk_along (following alias 12 []) www types.A (0 ∷ 0 ∷ 0 ∷ [])) ≡ Some (leaves.Answer (address ∷ []))
goal_answers = refl

goal_is_gone : end_of (walk_along (following (restricted without_below alias) 12 []) www types.A (0 ∷ 0 ∷ 0 ∷ [])) ≡ Some leaves.NxDomain
goal_is_gone = refl

-- ---- owners: what is left names a foreign name below a redirection's owner

abbrev occluded : Config
occluded = alone (rr from (Dname goal) ∷ rr xx_goal address ∷ rr xx_from (Txt (codes "w" ∷ [])) ∷ [])

abbrev without_below_owner : List Labels
without_below_owner = [] ∷ t ∷ from ∷ goal ∷ xx_goal ∷ []

-- unnamed labels below the two ends of a redirection
abbrev unread : List Labels
unread = (codes "t" ∷ codes "from" ∷ codes "z" ∷ []) ∷ (codes "t" ∷ codes "goal" ∷ codes "z" ∷ []) ∷ []

only_owners : unmet occluded without_below_owner (codes "z") unread ≡ codes "owners" ∷ []
only_owners = refl

not_owned : IsPart occluded without_below_owner → ⊥
not_owned part =
    foreign occluded without_below_owner xx_from refl refl
    (part.owners (record { owner = from; target = goal }) (codes "xx" ∷ []) (has_first (record { owner = from; target = goal }) []))

xx_from_is_foreign : tests_local occluded without_below_owner xx_from ≡ false
xx_from_is_foreign = refl

xx_from_is_left : IsNamed (ground_of (restricted without_below_owner occluded)) xx_from
xx_from_is_left = named 1 (ground_of (restricted without_below_owner occluded)) xx_from refl

-- ---- targets: a name below a redirection's target isn't held

abbrev redirection : Config
redirection = alone (rr from (Dname goal) ∷ rr xx_goal address ∷ rr goal (Txt (codes "w" ∷ [])) ∷ [])

abbrev without_below_target : List Labels
without_below_target = [] ∷ t ∷ from ∷ goal ∷ []

only_targets : unmet redirection without_below_target (codes "z") unread ≡ codes "targets" ∷ []
only_targets = refl

not_targeted : IsPart redirection without_below_target → ⊥
not_targeted part =
    foreign redirection without_below_target xx_goal refl refl
    (part.targets (record { owner = from; target = goal }) (codes "xx" ∷ []) (has_first (record { owner = from; target = goal }) []))

below_answers : end_of (walk_along (following redirection 12 []) xx_from types.A (0 ∷ 0 ∷ 0 ∷ [])) ≡ Some (leaves.Answer (address ∷ []))
below_answers = refl

below_is_gone : end_of (walk_along (following (restricted without_below_target redirection) 12 []) xx_from types.A (0 ∷ 0 ∷ 0 ∷ [])) ≡ Some leaves.NxDomain
below_is_gone = refl

-- ---- glue: a name server below the zone cut isn't held

abbrev delegation : Config
delegation = alone (rr near (Ns ns_near) ∷ rr ns_near address ∷ [])

abbrev without_glue : List Labels
without_glue = [] ∷ t ∷ near ∷ []

only_glue : unmet delegation without_glue (codes "z") ((codes "t" ∷ codes "near" ∷ codes "z" ∷ []) ∷ []) ≡ codes "glue" ∷ []
only_glue = refl

not_glued : IsPart delegation without_glue → ⊥
not_glued part =
    foreign delegation without_glue ns_near refl refl
    (part.glue (zone_at t (rr near (Ns ns_near) ∷ [])) (rr near (Ns ns_near)) ns_near
    (record { of_config = has_first (zone_at t (rr near (Ns ns_near) ∷ [])) []; of_zone = has_first (rr near (Ns ns_near)) [] }) (apart near t refl) refl refl)

abbrev cut : Cut
cut = record { server = s1; zone = t; cut = near; ns = ns_near }

glue_is_there : has_glue delegation cut ≡ true
glue_is_there = refl

glue_is_gone : has_glue (restricted without_glue delegation) cut ≡ false
glue_is_gone = refl

-- ---- learnt: a configured name server beside the zone cut isn't held, and its address is asked for

abbrev beside : Labels
beside = codes "t" ∷ codes "goal" ∷ codes "ns" ∷ []

abbrev outside : Config
outside =
    with_tops (s1 ∷ [])
    (server_at s1 (zone_at t (rr near (Ns beside) ∷ rr beside address ∷ []) ∷ []) ∷ server_at beside (zone_at near (rr near (Ns beside) ∷ []) ∷ []) ∷ [])

only_learnt : unmet outside without_glue (codes "z") (z_t ∷ []) ≡ codes "learnt" ∷ []
only_learnt = refl

not_learnt : IsPart outside without_glue → ⊥
not_learnt part =
    foreign outside without_glue beside refl refl
    (part.learnt (zone_at t (rr near (Ns beside) ∷ [])) (rr near (Ns beside)) beside
    (record {
      of_config = has_first (zone_at t (rr near (Ns beside) ∷ [])) (zone_at near (rr near (Ns beside) ∷ []) ∷ []);
      of_zone = has_first (rr near (Ns beside)) [];
    }) (apart near t refl) refl refl refl)

address_is_learnt : end_of (walk_along (following outside 12 []) beside types.A (0 ∷ 0 ∷ [])) ≡ Some (leaves.Answer (address ∷ []))
address_is_learnt = refl

address_is_gone : end_of (walk_along (following (restricted without_glue outside) 12 []) beside types.A (0 ∷ 0 ∷ [])) ≡ Some leaves.NxDomain
address_is_gone = refl

-- so the local query near.t. ends at a name server without an address once no list of followed servers has it
near_is_answered : end_of (walk_along (following outside 12 (beside ∷ [])) near types.A (0 ∷ 0 ∷ 0 ∷ [])) ≡ Some leaves.NoData
near_is_answered = refl

near_is_unreached : end_of (walk_along (following (restricted without_glue outside) 12 []) near types.A (0 ∷ 0 ∷ [])) ≡ Some (leaves.NoAddress beside)
near_is_unreached = refl
