-- How the sets of learnt addresses are found by computing.
use Rattle.std.proofs.Common.{◌≡◌, ◌↔◌, inl, inr, ℕ, zero, suc, Bool, true, false, not, ◌&&◌, List, [], ◌∷◌, length, filter, refl, sym, ◌∙◌, subst, arith}
use Rattle.std.proofs.lemmas.Bool.{and_parts}
use Rattle.std.specs.Prelude.{Contains, Option, Some, None}
use Rattle.dns_data.proofs.Membership.{none_in_nil}
use Rattle.dns_data.proofs.Searches.{same_truth, filter_same}
use Rattle.dns_data.specs.Name.{Labels, is_among}
use Rattle.dns_data.specs.declared.rr_type.RrType.{RrType}
use Rattle.dns_data.specs.declared.rr_type.RrType.TheVariants as types
use Rattle.net_model.specs.declared.config.Config.{Config}
use Rattle.net_model.specs.declared.walk.Walk.{Walk}
use Rattle.net_model.specs.Learnt.{gives_address, LearnsBy, Learns, IsRound, AfterRounds, IsLeast, IsGreatest, InLeast, InGreatest}
use Rattle.net_model.specs.Nearest.{server_names}
use Rattle.net_model.specs.Step.{Setting, following}
use Rattle.net_model.specs.Walk.{walk_along}
use Rattle.net_model.proofs.Naming.{not_both}
use Rattle.net_model.proofs.Showing.{all_leaves_pass, walk_passes}

-- the end of the walk with these numbers gives an address
abbrev pub walk_gives : Option Walk → Bool
walk_gives None = false
walk_gives (Some walk) = gives_address walk.leaf

-- an address is learnt by a walk of type A with these numbers
gives_by : (setting : Setting) (name : Labels) (rtype : RrType) (numbers : List ℕ) (found : Option Walk)
    → walk_along setting name rtype numbers ≡ found → walk_gives found ≡ true → LearnsBy setting name rtype
gives_by setting name rtype numbers None e h = cc
gives_by setting name rtype numbers (Some walk) e h = record { walk = walk; is_walk = (numbers, e); ends = h }

-- no walk of the name gives an address
abbrev gives_none : Setting → Labels → ℕ → Bool
gives_none setting name depth =
    all_leaves_pass (λ leaf. not (gives_address leaf)) setting name types.A depth
    && all_leaves_pass (λ leaf. not (gives_address leaf)) setting name types.Aaaa depth

gives_not : (setting : Setting) (name : Labels) (rtype : RrType) (depth : ℕ)
    → all_leaves_pass (λ leaf. not (gives_address leaf)) setting name rtype depth ≡ true → LearnsBy setting name rtype → ⊥
gives_not setting name rtype depth all learns =
    not_both (gives_address learns.walk.leaf) learns.ends
    (walk_passes (λ leaf. not (gives_address leaf)) setting name rtype depth all learns.walk learns.is_walk)

-- a server's address is learnt by the walk of type A with these numbers; or it isn't, and no walk has more states than so
-- many
pub data Learning : Type 0 where
  ByWalk : (numbers : List ℕ) → Learning
  ByNone : (depth : ℕ) → Learning

-- what is claimed of the server with this name holds
abbrev pub claims : Setting → List Labels → Labels → Learning → Bool
claims setting learnt name (ByWalk numbers) = is_among learnt name && walk_gives (walk_along setting name types.A numbers)
claims setting learnt name (ByNone depth) = not (is_among learnt name) && gives_none setting name depth

-- for each of the names what is claimed of the server holds
abbrev pub all_claims : Setting → List Labels → List Labels → List Learning → Bool
all_claims setting learnt [] [] = true
all_claims setting learnt (name ∷ names) (claim ∷ rest) = claims setting learnt name claim && all_claims setting learnt names rest
all_claims setting learnt names rest = false

-- a server is among the learnt ones exactly where its address is learnt
claimed : (setting : Setting) (learnt : List Labels) (name : Labels) (claim : Learning) → claims setting learnt name claim ≡ true
    → (is_among learnt name ≡ true) ↔ Learns setting name
claimed setting learnt name (ByWalk numbers) h = (
  λ among. inl (gives_by setting name types.A numbers (walk_along setting name types.A numbers) refl (and_parts (is_among learnt name) _ h).1),
  λ learns. (and_parts (is_among learnt name) _ h).0,
)
claimed setting learnt name (ByNone depth) h = (
  λ among. absurd (not_both (is_among learnt name) among (and_parts (not (is_among learnt name)) _ h).0),
  λ learns. absurd (elim learns [
    | inl by_a ↦ gives_not setting name types.A depth (and_parts (all_leaves_pass (λ leaf. not (gives_address leaf)) setting name types.A depth) _ (and_parts (not (is_among learnt name)) _ h).1).0 by_a
    | inr by_aaaa ↦ gives_not setting name types.Aaaa depth (and_parts (all_leaves_pass (λ leaf. not (gives_address leaf)) setting name types.A depth) _ (and_parts (not (is_among learnt name)) _ h).1).1 by_aaaa
  ]),
)

all_claimed : (setting : Setting) (learnt names : List Labels) (rest : List Learning) → all_claims setting learnt names rest ≡ true
    → (name : Labels) → Contains names name → (is_among learnt name ≡ true) ↔ Learns setting name
all_claimed setting learnt [] [] h name (k, within, is) = absurd (omega arith)
all_claimed setting learnt [] (claim ∷ rest) h name among = cc
all_claimed setting learnt (first ∷ names) [] h name among = cc
all_claimed setting learnt (first ∷ names) (claim ∷ rest) h name (zero, within, is) =
    subst (λ (n : Labels). (is_among learnt n ≡ true) ↔ Learns setting n) is
    (claimed setting learnt first claim (and_parts (claims setting learnt first claim) _ h).0)
all_claimed setting learnt (first ∷ names) (claim ∷ rest) h name (suc k, within, is) =
    all_claimed setting learnt names rest (and_parts (claims setting learnt first claim) _ h).1 name (k, omega arith, is)

-- the learnt names are those of a round, if what is claimed of each server holds and they are the servers' in their
-- order
pub is_round : (config : Config) (rewrites : ℕ) (followed learnt : List Labels) (rest : List Learning)
    → all_claims (following config rewrites followed) learnt (server_names config) rest ≡ true
    → learnt ≡ filter (is_among learnt) (server_names config) → IsRound config rewrites followed learnt
is_round config rewrites followed learnt rest h are =
    record {
      test = is_among learnt;
      tells = all_claimed (following config rewrites followed) learnt (server_names config) rest h;
      are = are;
    }

-- what is learnt in one round is one list
pub one_round : (config : Config) (rewrites : ℕ) (followed a b : List Labels) → IsRound config rewrites followed a
    → IsRound config rewrites followed b → a ≡ b
one_round config rewrites followed a b one other =
    one.are
    ∙ filter_same one.test other.test (server_names config)
    (λ name among. same_truth (one.test name) (other.test name)
    (λ h. (other.tells name among).1 ((one.tells name among).0 h))
    (λ h. (one.tells name among).1 ((other.tells name among).0 h)))
    ∙ sym other.are

-- what is learnt in so many rounds is one list
pub one_after_rounds : (config : Config) (rewrites rounds : ℕ) (begin a b : List Labels) → AfterRounds config rewrites rounds begin a
    → AfterRounds config rewrites rounds begin b → a ≡ b
one_after_rounds config rewrites zero begin a b one other = one ∙ sym other
one_after_rounds config rewrites (suc rounds) begin a b (x, before, one) (y, also, other) =
    one_round config rewrites y a b
    (subst (λ (names : List Labels). IsRound config rewrites names a) (one_after_rounds config rewrites rounds begin x y before also) one)
    other

-- a name is in the least set exactly where it is in a list of it
pub in_least : (config : Config) (rewrites : ℕ) (learnt : List Labels) → IsLeast config rewrites learnt
    → (name : Labels) → InLeast config rewrites name ↔ Contains learnt name
in_least config rewrites learnt least name = (
  λ (other, is, among). subst (λ (names : List Labels). Contains names name)
      (one_after_rounds config rewrites (length config.servers) [] other learnt is least) among,
  λ among. (learnt, least, among),
)

-- a name is in the greatest set exactly where it is in a list of it
pub in_greatest : (config : Config) (rewrites : ℕ) (learnt : List Labels) → IsGreatest config rewrites learnt
    → (name : Labels) → InGreatest config rewrites name ↔ Contains learnt name
in_greatest config rewrites learnt greatest name = (
  λ (other, is, among). subst (λ (names : List Labels). Contains names name)
      (one_after_rounds config rewrites (length config.servers) (server_names config) other learnt is greatest) among,
  λ among. (learnt, greatest, among),
)

-- a round that leads from a set to itself is every further round
pub after_same_rounds : (config : Config) (rewrites rounds : ℕ) (begin : List Labels) → IsRound config rewrites begin begin
    → AfterRounds config rewrites rounds begin begin
after_same_rounds config rewrites zero begin same = refl
after_same_rounds config rewrites (suc rounds) begin same = (begin, after_same_rounds config rewrites rounds begin same, same)

-- if the first round leads to a set from which a round leads to itself, each further round gives that set
pub after_one_round : (config : Config) (rewrites rounds : ℕ) (begin learnt : List Labels) → IsRound config rewrites begin learnt
    → IsRound config rewrites learnt learnt → AfterRounds config rewrites (suc rounds) begin learnt
after_one_round config rewrites zero begin learnt first same = (begin, refl, first)
after_one_round config rewrites (suc rounds) begin learnt first same =
    (learnt, after_one_round config rewrites rounds begin learnt first same, same)

-- where no server is learnt with none followed, no name is in the least set
pub not_in_least : (config : Config) (rewrites : ℕ) (name : Labels) → IsRound config rewrites [] [] → InLeast config rewrites name → ⊥
not_in_least config rewrites name none is =
    none_in_nil name ((in_least config rewrites [] (after_same_rounds config rewrites (length config.servers) [] none) name).0 is)
