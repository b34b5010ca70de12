-- How the walks of a name end: as the list of all walks that the resolver gives.
use Rattle.std.proofs.Common.{◌≡◌, ℕ, ◌<◌, ◌≤◌, Bool, true, false, cond, List, [], ◌∷◌, length, map, Option, Some, None, refl, ap, inl, inr, arith, ◌∙◌}
use Rattle.std.specs.Prelude.{◌||◌, nat_lt}
use Rattle.std.specs.List.{list_any}
use Rattle.std.proofs.lemmas.Bool.Decides.{nat_tests}
use Rattle.dns_data.specs.Name.{Labels}
use Rattle.dns_data.specs.declared.rr_type.RrType.{RrType}
use Rattle.dns_data.specs.declared.rr_type.RrType.TheVariants as types
use Rattle.net_model.specs.declared.walk.Walk.{Walk}
use Rattle.net_model.specs.Step.{Setting}
use Rattle.net_model.specs.Walk.{AreWalks}
use Rattle.net_model.proofs.RoundsExist.{query_settles}
use Rattle.net_model.proofs.WalkLists.{are_walks, one_walks, total}
use Rattle.plain_resolver.specs.Passed.{HasMoreWalks}
use Rattle.plain_resolver.specs.WalkEnds.{end_of}
use Rattle.plain_resolver.specs.declared.walk_end.WalkEnd.{WalkEnd}
use Rattle.plain_resolver.proofs.Resolved.{has_more, has_no_more}
use Rattle.name_ends.specs.Ends.{AreNameEnds, EndSo, ends_among, is_kind, most_walks}
use Rattle.name_ends.specs.Asked.{ends_in, kinds_of, type_ends}
use Rattle.name_ends.specs.declared.ends.NameEnds.{NameEnds}
use Rattle.name_ends.specs.declared.ends.TypeEnds.{TypeEnds}
use Rattle.name_ends.specs.declared.kinds.EndKind.{EndKind}
use Rattle.name_ends.specs.declared.kinds.EndKind.TheVariants as kinds

-- whether some end of the walks passes is whether the end of some walk does
any_end : (passes : WalkEnd → Bool) (walks : List Walk) → list_any passes (map end_of walks) ≡ list_any (λ (walk : Walk). passes (end_of walk)) walks
any_end passes [] = refl
any_end passes (walk ∷ walks) = ap (λ (b : Bool). passes (end_of walk) || b) (any_end passes walks)

-- whether some end of the walks is of the kind
kind_end : (kind : EndKind) (walks : List Walk)
    → list_any (λ (one : WalkEnd). is_kind kind one.leaf) (map end_of walks) ≡ list_any (λ (walk : Walk). is_kind kind walk.leaf) walks
kind_end kind walks = any_end (λ (one : WalkEnd). is_kind kind one.leaf) walks

-- what the ends of walks tell is what is told of the walks
pub kinds_among : (walks : List Walk) → kinds_of (map end_of walks) ≡ ends_among walks
kinds_among walks =
    rw (
      kind_end kinds.Answer walks,
      kind_end kinds.NoData walks,
      kind_end kinds.NxDomain walks,
      kind_end kinds.Outside walks,
      kind_end kinds.Unhosted walks,
      kind_end kinds.Lame walks,
      kind_end kinds.NoAddress walks,
      kind_end kinds.Limit walks,
      kind_end kinds.Overlong walks,
      any_end (λ (one : WalkEnd). one.rewritten) walks,
    ) refl

module _ (setting : Setting) (name : Labels) (rtype : RrType) where
  -- all walks of the name, in order
  abbrev all : List Walk
  all = total setting rtype (query_settles setting rtype name).0 name

  are : AreWalks setting name rtype all
  are = are_walks setting rtype (query_settles setting rtype name).0 name all refl (query_settles setting rtype name).1

  -- no more numbers of states are needed
  abbrev depth : ℕ
  depth = (query_settles setting rtype name).0

  many : nat_lt most_walks (length all) ≡ true → HasMoreWalks setting name rtype most_walks
  many e = has_more setting rtype depth name most_walks (grind (arith, nat_tests, e))

  few : nat_lt most_walks (length all) ≡ false → HasMoreWalks setting name rtype most_walks → ⊥
  few e = has_no_more setting rtype depth name most_walks (grind (arith, nat_tests, e)) (query_settles setting rtype name).1

  -- if a name has more walks with the type than are followed, its ends say so
  pub ends_many : HasMoreWalks setting name rtype most_walks → None ≡ type_ends setting name rtype
  unfolding type_ends
  ends_many more = by (nat_lt most_walks (length all)) refl where
    by : (b : Bool) → nat_lt most_walks (length all) ≡ b → None ≡ cond b None (Some (ends_among all))
    by true e = refl
    by false e = absurd (few e more)

  -- if a name has no more walks with the type than are followed, its ends are those of all its walks
  pub ends_few : (walks : List Walk) → AreWalks setting name rtype walks → (HasMoreWalks setting name rtype most_walks → ⊥)
      → Some (ends_among walks) ≡ type_ends setting name rtype
  unfolding type_ends
  ends_few walks they none = by (nat_lt most_walks (length all)) refl where
    by : (b : Bool) → nat_lt most_walks (length all) ≡ b → Some (ends_among walks) ≡ cond b None (Some (ends_among all))
    by true e = absurd (none (many e))
    by false e = ap (λ (ws : List Walk). Some (ends_among ws)) (one_walks setting name rtype walks all they are)

  -- how all walks of a name with the type end is one
  one_of_type : (ends : Option TypeEnds) → EndSo setting name rtype ends → ends ≡ type_ends setting name rtype
  one_of_type ends (inl (more, is)) = is ∙ ends_many more
  one_of_type ends (inr (none, (walks, they, is))) = is ∙ ends_few walks they none

  -- how all walks of a name with the type end is as the definition of ends says
  pub ends_so : EndSo setting name rtype (type_ends setting name rtype)
  unfolding type_ends
  ends_so = by (nat_lt most_walks (length all)) refl where
    by : (b : Bool) → nat_lt most_walks (length all) ≡ b → EndSo setting name rtype (cond b None (Some (ends_among all)))
    by true e = inl (many e, refl)
    by false e = inr (few e, (all, are, refl))

-- how the walks of a name of type A and of type AAAA end is as the definition of ends says
pub ends_are : (setting : Setting) (name : Labels) → AreNameEnds setting name (ends_in setting name)
ends_are setting name = record { four = ends_so setting name types.A; six = ends_so setting name types.Aaaa }

-- how the walks of a name of type A and of type AAAA end is one
pub one_ends : (setting : Setting) (name : Labels) (ends : NameEnds) → AreNameEnds setting name ends → ends ≡ ends_in setting name
one_ends setting name ends are =
    let four = one_of_type setting name types.A ends.four are.four in
    let six = one_of_type setting name types.Aaaa ends.six are.six in
    λ i. record { four = four i; six = six i }
