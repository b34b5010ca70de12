-- What is known of a server's name in a round, and for how long it stays so. The contracts of inner calls alone cite it.
use Rattle.std.specs.Prelude.{◌≡◌, ◌↔◌, ◌⊎◌, ℕ, Bool, true, false, ◌||◌, nat_lt, List, [], ◌∷◌, ◌++◌, length, map, Contains, if◌then◌else◌}
use Rattle.std.specs.List.{filter}
use Rattle.dns_data.specs.Name.{Labels, is_among}
use Rattle.net_model.specs.declared.config.Config.{Config}
use Rattle.net_model.specs.declared.walk.Leaf.{Leaf}
use Rattle.net_model.specs.declared.walk.Leaf.TheVariants.{NoAddress}
use Rattle.net_model.specs.declared.walk.Walk.{Walk}
use Rattle.net_model.specs.Learnt.{Learns, gives_address}
use Rattle.net_model.specs.Step.{following}
use Rattle.plain_resolver.specs.Passed.{HasTooMany}

-- the name servers of walks that end where no address is known, and whether they are all kept
pub record Waits : Type 0 where
  pub names : List Labels
  pub all : Bool

-- how many name servers are kept at most for which a name waits
abbrev pub most_waited_for : ℕ
most_waited_for = 16

-- no walk was seen
abbrev pub no_waits : Waits
no_waits = record { names = []; all = true }

-- with one name server more
abbrev pub waits_also : Waits → Labels → Waits
waits_also waits ns =
    if nat_lt (length waits.names) most_waited_for
    then record { names = waits.names ++ ns ∷ []; all = waits.all }
    else record { names = waits.names; all = false }

-- with the end of one walk more
abbrev pub waits_after : Waits → Leaf → Waits
waits_after waits (NoAddress ns) = waits_also waits ns
waits_after waits leaf = waits

-- what was seen of a name's walks: whether one gives an address, and for which name servers it waits
pub record Seen : Type 0 where
  pub gives : Bool
  pub waits : Waits

-- what was seen with one walk more
abbrev pub seen_after : Seen → Walk → Seen
seen_after seen walk = record { gives = seen.gives || gives_address walk.leaf; waits = waits_after seen.waits walk.leaf }

-- what is known of a name: whether an address of it is learnt, and for which name servers it waits
pub record Known : Type 0 where
  pub name : Labels
  pub learnt : Bool
  pub waits : Waits

-- what is known of a name by what was seen of its walks
abbrev pub known_of : Labels → Seen → Known
known_of name seen = record { name = name; learnt = seen.gives; waits = seen.waits }

-- each name of the first is one of the second
abbrev pub IsPartOf : List Labels → List Labels → Type 0
IsPartOf followed more = (name : Labels) → is_among followed name ≡ true → is_among more name ≡ true

-- none of the names is in the second list that isn't in the first
abbrev pub NoneNew : List Labels → List Labels → List Labels → Type 0
NoneNew names followed more = (ns : Labels) → Contains names ns → is_among more ns ≡ true → is_among followed ns ≡ true

-- what is known is so while these are followed, and the name hasn't too many walks
pub record IsKnown (config : Config) (rewrites most : ℕ) (followed : List Labels) (one : Known) : Type 0 where
  pub learns : (one.learnt ≡ true) ↔ Learns (following config rewrites followed) one.name
  pub few : HasTooMany config rewrites most followed one.name → ⊥

-- what is known is so while these are followed, and stays so while more are, where none of those is waited for
pub record StaysKnown (config : Config) (rewrites most : ℕ) (followed : List Labels) (one : Known) : Type 0 where
  pub is_known : IsKnown config rewrites most followed one
  pub later : (more : List Labels) → one.waits.all ≡ true → IsPartOf followed more → NoneNew one.waits.names followed more
      → IsKnown config rewrites most more one

-- the servers that are followed in a round: their names, those of them that weren't followed in the round before, and
-- whether all that were still are
pub record FollowedNow : Type 0 where
  pub names : List Labels
  pub newly : List Labels
  pub grown : Bool

-- these are followed after those that were before
pub record FollowsOn (before : List Labels) (followed : FollowedNow) : Type 0 where
  pub part : followed.grown ≡ true → IsPartOf before followed.names
  pub either : (name : Labels) → is_among followed.names name ≡ true → (is_among before name ≡ true) ⊎ (is_among followed.newly name ≡ true)

-- all that were followed before still are, all that is waited for is kept, and nothing of that is followed newly
pub record NothingNew (followed : FollowedNow) (waits : Waits) : Type 0 where
  pub grown : followed.grown ≡ true
  pub all : waits.all ≡ true
  pub none : (ns : Labels) → Contains waits.names ns → is_among followed.newly ns ≡ false

-- what was known before is so while these are followed, if nothing of what it waits for is followed newly
abbrev pub StaysUnlessNew : Config → ℕ → ℕ → FollowedNow → Known → Type 0
StaysUnlessNew config rewrites most followed one =
    NothingNew followed one.waits → StaysKnown config rewrites most followed.names one

-- the name is the first of these that has too many walks, while some servers are followed
pub record IsFirstOf (config : Config) (rewrites most : ℕ) (followed names : List Labels) (name : Labels) : Type 0 where
  pub earlier : List Labels
  pub later : List Labels
  pub splits : names ≡ earlier ++ name ∷ later
  pub none_has : (other : Labels) → Contains earlier other → HasTooMany config rewrites most followed other → ⊥
  pub has : HasTooMany config rewrites most followed name

-- the names of which something is known
abbrev pub names_known : List Known → List Labels
names_known known = map (λ one. one.name) known

-- the names of those that are known to be learnt
abbrev pub names_learnt : List Known → List Labels
names_learnt known = map (λ one. one.name) (filter (λ one. one.learnt) known)
