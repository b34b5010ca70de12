-- Parts of which each answers for some names, its own, and which names and classes it counts.
use Rattle.std.specs.Prelude.{◌≡◌, ◌↔◌, ◌≤◌, Bool, true, List, ◌++◌, length, Contains}
use Rattle.std.specs.List.{count_by}
use Rattle.dns_data.specs.Name.{Labels, IsName, AreInOrder}
use Rattle.net_model.specs.declared.class.Class.TheVariants.{Below}
use Rattle.net_model.specs.declared.config.Config.{Config}
use Rattle.net_model.specs.Class.{IsRepresentative}
use Rattle.net_model.specs.Reading.{Ground, IsNamed, ground_of}
use Rattle.part_laws.specs.Part.{IsPart}
use Rattle.part_reports.specs.PartReport.{PartReport}

-- this is the name's longest prefix that is a base name
pub record IsLongestBase (ground : Ground) (name base : Labels) : Type 0 where
  pub among : Contains ground.names base
  pub below : Labels
  pub prefix : name ≡ base ++ below
  pub longest : (longer rest : Labels) → name ≡ longer ++ rest → Contains ground.names longer → length longer ≤ length base

-- the name is one of the ground's class tree, and its longest prefix that is a base name is own
pub record IsOwnName (ground : Ground) (own : Labels → Bool) (name : Labels) : Type 0 where
  pub named : IsNamed ground name
  pub is_name : IsName name
  pub base : Labels
  pub longest : IsLongestBase ground name base
  pub is_own : own base ≡ true

-- the class below the name has a representative
abbrev pub HasClassBelow : Ground → Labels → Type 0
HasClassBelow ground above = (name : Labels) × IsRepresentative ground (Below above) name

-- the part's lists are those of the own names of the ground's class tree, and of the own names below which there is a class
-- that isn't empty, in the order of names
pub record AreOwnNames (ground : Ground) (part : PartReport) : Type 0 where
  pub tree_ordered : AreInOrder part.tree
  pub tree_all : (name : Labels) → Contains part.tree name ↔ IsOwnName ground part.own name
  pub below_ordered : AreInOrder part.below
  pub below_all : (above : Labels) → Contains part.below above ↔ (IsOwnName ground part.own above × HasClassBelow ground above)

-- The parts answer for the configuration: each is one of it, and each of its base names is own to exactly one of them,
-- which holds it.
pub record AnswerForAll (config : Config) (parts : List PartReport) : Type 0 where
  pub each : (part : PartReport) → Contains parts part → IsPart config part.names
  pub once : (name : Labels) → Contains (ground_of config).names name → count_by (λ part. part.own name) parts ≡ 1
  pub held : (part : PartReport) → Contains parts part → (name : Labels) → Contains (ground_of config).names name → part.own name ≡ true
      → Contains part.names name
