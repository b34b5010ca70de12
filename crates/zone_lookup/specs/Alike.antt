-- Sets of types that the records of a name answer alike.
use Rattle.std.specs.Prelude.{◌≡◌, Bool, true, false, List, AllPairs}
use Rattle.std.specs.List.{AllByRecursion, list_any}
use Rattle.dns_data.specs.Name.{Labels}
use Rattle.dns_data.specs.TypeSet.{has_bit}
use Rattle.dns_data.specs.declared.rr_type.RrType.{RrType}
use Rattle.net_model.specs.declared.config.Zone.{Zone}
use Rattle.net_model.specs.Lookup.{at_name}
use Rattle.net_model.specs.Step.{Setting, next}
use Rattle.net_model.specs.declared.walk.State.{State}
use Rattle.zone_lookup.specs.Reply.{IsReply}
use Rattle.zone_lookup.specs.declared.reply.Reply.{Reply}

-- the records of the name answer the types of the set alike
abbrev pub AreAlike : Zone → Labels → List Bool → Type 0
AreAlike zone owner set = (s t : RrType) → has_bit set s ≡ true → has_bit set t ≡ true → at_name zone owner s ≡ at_name zone owner t

-- where a server replies so to a state's name, walks go the same way with the types of the set
abbrev pub GoAlike : Reply → List Bool → Type 0
GoAlike reply set =
    (setting : Setting) (state : State) → IsReply setting.config state.server state.name reply
    → (s t : RrType) → has_bit set s ≡ true → has_bit set t ≡ true → next setting s state ≡ next setting t state

-- two sets have no type in common
abbrev pub IsApart : List Bool → List Bool → Type 0
IsApart some others = (rtype : RrType) → has_bit some rtype ≡ true → has_bit others rtype ≡ false

-- the set has a type
abbrev pub HasSome : List Bool → Type 0
HasSome set = (rtype : RrType) × (has_bit set rtype ≡ true)

-- each of the types is in one of the sets and in no other, no other type is, and each set has one
pub record AreSplit (among : RrType → Bool) (sets : List (List Bool)) : Type 0 where
  pub apart : AllPairs IsApart sets
  pub together : (rtype : RrType) → list_any (λ set. has_bit set rtype) sets ≡ among rtype
  pub some : AllByRecursion HasSome sets
