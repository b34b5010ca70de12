-- What is found for several types at once, of a name with an open tail.
use Rattle.std.specs.Prelude.{◌≡◌, Bool, true, false, ◌&&◌, List, ◌++◌, is_some, AllPairs}
use Rattle.std.specs.List.{list_any}
use Rattle.dns_data.specs.Name.{Labels}
use Rattle.dns_data.specs.TypeSet.{has_bit}
use Rattle.dns_data.specs.declared.rr_type.RrType.{RrType}
use Rattle.name_rules.specs.declared.sym_name.SymName.{SymName}
use Rattle.net_model.specs.declared.config.Zone.{Zone}
use Rattle.net_model.specs.declared.found.Found.{Found}
use Rattle.net_model.specs.declared.found.Found.TheVariants.{Rewrite, TooLong}
use Rattle.net_model.specs.Lookup.{found}
use Rattle.net_model.specs.OpenTail.{IsOpenTail}
use Rattle.net_model.specs.Retail.{retailed_name}
use Rattle.zone_lookup.specs.Alike.{HasSome, IsApart}
use Rattle.sym_query.specs.declared.typed_found.TypedFound.{TypedFound}

-- one of the answers is for the type
abbrev pub answers_type : List TypedFound → RrType → Bool
answers_type answers rtype = list_any (λ answer. has_bit answer.types rtype) answers

-- no type has two answers
abbrev pub AreApart : List TypedFound → Type 0
AreApart answers = AllPairs (λ a b. IsApart a.types b.types) answers

-- the answer is for some type
abbrev pub AnswersSome : TypedFound → Type 0
AnswersSome answer = HasSome answer.types

-- the answer is what the zone answers to the name and each of the answer's types
abbrev pub IsFoundFor : Zone → Labels → TypedFound → Type 0
IsFoundFor zone name answer = (rtype : RrType) → has_bit answer.types rtype ≡ true → answer.found ≡ found zone name rtype

-- a DNAME record rewrites the name
abbrev pub is_redirected : Found → Bool
is_redirected (Rewrite by_dname owner to) = by_dname
is_redirected other = false

-- the tail stays open exactly where there is one and a DNAME record rewrites the name
abbrev pub IsOpenExactly : SymName → TypedFound → Type 0
IsOpenExactly name answer = answer.open_tail ≡ (is_some name.tail && is_redirected answer.found)

-- a DNAME record would make a name of more than 255 octets
abbrev pub is_too_long : Found → Bool
is_too_long (TooLong owner) = true
is_too_long other = false

-- the answer with other labels in place of the tail, which is the last label of a name that a DNAME record rewrites
-- and of no other answer's
abbrev pub with_tail : Labels → Found → Found
with_tail tail (Rewrite true owner to) = Rewrite true owner (retailed_name 1 tail to)
with_tail tail other = other

-- with a tail the answer stands for all other open tails of the known name, where neither rewritten name is too long
abbrev pub StandsForTails : Zone → SymName → TypedFound → Type 0
StandsForTails zone name answer =
    is_some name.tail ≡ true → (rtype : RrType) → has_bit answer.types rtype ≡ true
    → (tail : Labels) → IsOpenTail zone name.known tail
    → is_too_long answer.found ≡ false → is_too_long (found zone (name.known ++ tail) rtype) ≡ false
    → found zone (name.known ++ tail) rtype ≡ with_tail tail answer.found
