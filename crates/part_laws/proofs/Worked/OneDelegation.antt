-- A part of a zone with one of its two delegations, its alias and its redirection.
use Rattle.std.proofs.Common.{◌≡◌, refl, true, false, arith, List, [], ◌∷◌, Some}
use Rattle.std.specs.Prelude.{codes}
use Rattle.dns_data.specs.Name.{Labels}
use Rattle.dns_data.specs.declared.rr_type.RrType.TheVariants as types
use Rattle.net_model.specs.declared.walk.Leaf.TheVariants as leaves
use Rattle.net_model.specs.Step.{following}
use Rattle.net_model.specs.Walk.{walk_along}
use Rattle.part_laws.specs.Part.{restricted, IsPart}
use Rattle.part_laws.proofs.Tested.{tests_local, part_told}
use Rattle.part_laws.proofs.Words.{address, end_of, t, www, from, goal, xx_goal, xx_from, near, ns_near, ns_far, z_t, two_delegations}

abbrev names : List Labels
names = [] ∷ t ∷ near ∷ ns_near ∷ www ∷ from ∷ goal ∷ xx_goal ∷ []

-- z.t. is unnamed, and z has fewer octets than far, the one child of t. that isn't held
a_part : IsPart two_delegations names
a_part = part_told two_delegations names (codes "z") (z_t ∷ []) (record { not_empty = omega arith; short = omega arith; octets = refl }) refl

-- the names of the other delegation are foreign; a name that nothing owns is local
foreign : tests_local two_delegations names ns_far ≡ false
foreign = refl

local : tests_local two_delegations names xx_from ≡ true
local = refl

-- an alias and a redirection lead the query to its answer, in both
answers : end_of (walk_along (following two_delegations 12 []) www types.A (0 ∷ 0 ∷ 0 ∷ 0 ∷ [])) ≡ Some (leaves.Answer (address ∷ []))
answers = refl

walks_so : walk_along (following (restricted names two_delegations) 12 []) www types.A (0 ∷ 0 ∷ 0 ∷ 0 ∷ [])
    ≡ walk_along (following two_delegations 12 []) www types.A (0 ∷ 0 ∷ 0 ∷ 0 ∷ [])
walks_so = refl

-- a query behind the other delegation meets the server, which is left without a zone: in what is left it doesn't exist
is_answered : end_of (walk_along (following two_delegations 12 []) ns_far types.A (0 ∷ 0 ∷ 0 ∷ [])) ≡ Some (leaves.Answer (address ∷ []))
is_answered = refl

is_away : end_of (walk_along (following (restricted names two_delegations) 12 []) ns_far types.A (0 ∷ 0 ∷ [])) ≡ Some leaves.NxDomain
is_away = refl
