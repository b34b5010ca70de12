-- For the code alone, no public clause cites it: names of which each walk ends at the top server where it begins, or at a
-- name server that isn't configured.
use Rattle.std.specs.Prelude.{◌≡◌, ◌∷◌, [], ℕ, ◌*◌, ◌≤◌, Bool, true, false, ◌||◌, not, List, length, map, None, ◌==◌}
use Rattle.std.specs.List.{AllByRecursion, flat_map, list_any}
use Rattle.dns_data.specs.Name.{Labels}
use Rattle.dns_data.specs.declared.rdata.Rdata.{Rdata}
use Rattle.dns_data.specs.declared.rr_type.RrType.{RrType}
use Rattle.dns_data.specs.declared.rr_type.RrType.TheVariants as types
use Rattle.net_model.specs.declared.config.Config.{Config}
use Rattle.net_model.specs.declared.walk.State.{State}
use Rattle.net_model.specs.Nearest.{is_configured}
use Rattle.net_model.specs.Step.{Setting, arrived, following}
use Rattle.net_model.proofs.AllWalks.{Settled, walks_within}
use Rattle.name_ends.specs.Ends.{ends_among}
use Rattle.name_ends.specs.declared.at_once.SeenEnds.{SeenEnds}
use Rattle.name_ends.specs.declared.ends.TypeEnds.{TypeEnds}

-- how many walks begin at a top server at most that are looked at
abbrev pub most_at_once : ℕ
most_at_once = 100

-- what is told of walks without a rewrite, of which some end in each of these, if it is so
abbrev pub plain_ends : Bool → Bool → Bool → Bool → Bool → TypeEnds
plain_ends answer no_data no_name outside unhosted =
    record {
      answer = answer;
      no_data = no_data;
      no_name = no_name;
      outside = outside;
      unhosted = unhosted;
      lame = false;
      no_address = false;
      limit = false;
      overlong = false;
      rewritten = false;
    }

-- what is told of no walk
abbrev pub no_ends : TypeEnds
no_ends = plain_ends false false false false false

-- what is told of a walk that ends in these data, or in that there are none
abbrev pub data_ends : List Rdata → TypeEnds
data_ends [] = plain_ends false true false false false
data_ends (first ∷ rest) = plain_ends true false false false false

-- what is told of walks, some of which are these, and the others those
abbrev pub either_ends : TypeEnds → TypeEnds → TypeEnds
either_ends a b =
    record {
      answer = a.answer || b.answer;
      no_data = a.no_data || b.no_data;
      no_name = a.no_name || b.no_name;
      outside = a.outside || b.outside;
      unhosted = a.unhosted || b.unhosted;
      lame = a.lame || b.lame;
      no_address = a.no_address || b.no_address;
      limit = a.limit || b.limit;
      overlong = a.overlong || b.overlong;
      rewritten = a.rewritten || b.rewritten;
    }

-- the same of walks of both types
abbrev pub either_seen : SeenEnds → SeenEnds → SeenEnds
either_seen a b = record { four = either_ends a.four b.four; six = either_ends a.six b.six }

-- what is told of walks that end in the same with both types
abbrev pub seen_alike : TypeEnds → SeenEnds
seen_alike ends = record { four = ends; six = ends }

-- what is told of walks that a zone cut with these name servers ends, of which none is configured, and there aren't too
-- many
pub record RefersOutside (config : Config) (names : List Labels) (seen : SeenEnds) : Type 0 where
  pub none : list_any (is_configured config) names ≡ false
  pub few : length names ≤ most_at_once
  pub told : seen ≡ seen_alike (plain_ends false false false false (not (length names == 0)))

-- the walks with the type that begin in these states have no other state, there aren't too many, and this is told of them
pub record EndAtOnce (setting : Setting) (rtype : RrType) (states : List State) (ends : TypeEnds) : Type 0 where
  pub settled : AllByRecursion (Settled 1 setting rtype) states
  pub few : length (flat_map (walks_within 1 setting rtype) states) ≤ most_at_once * length states
  pub told : ends_among (flat_map (walks_within 1 setting rtype) states) ≡ ends

-- the same of the walks of both types that begin at these servers, whichever servers are followed
abbrev pub AreSeen : Config → Labels → List Labels → SeenEnds → Type 0
AreSeen config name servers seen =
    (rewrites : ℕ) (followed : List Labels)
    → EndAtOnce (following config rewrites followed) types.A (map (arrived config name true 0 None) servers) seen.four
    × EndAtOnce (following config rewrites followed) types.Aaaa (map (arrived config name true 0 None) servers) seen.six
