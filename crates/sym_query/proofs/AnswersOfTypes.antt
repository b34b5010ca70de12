-- Answers to sets of types, one to each.
use Rattle.std.proofs.Common.{◌≡◌, ℕ, ◌<◌, Bool, List, [], ◌∷◌, map, AllPairs, arith, refl, sym, ap, ◌∙◌, subst}
use Rattle.std.specs.Prelude.{◌||◌, get_or}
use Rattle.std.specs.List.{AllByRecursion, list_any}
use Rattle.std.proofs.lemmas.List.{get_or-map, length-map}
use Rattle.dns_data.specs.TypeSet.{has_bit}
use Rattle.dns_data.specs.declared.rr_type.RrType.{RrType}
use Rattle.name_rules.specs.SymName.{whole}
use Rattle.name_rules.specs.declared.sym_name.SymName.{SymName}
use Rattle.net_model.specs.declared.config.Zone.{Zone}
use Rattle.net_model.specs.Lookup.{Deciding}
use Rattle.zone_lookup.specs.Alike.{AreSplit, HasSome, IsApart}
use Rattle.sym_query.specs.Answers.{AnswersAsDecided, AreAnswers}
use Rattle.sym_query.specs.TypedFound.{AnswersSome, IsOpenExactly}
use Rattle.sym_query.specs.declared.typed_found.TypedFound.{TypedFound}

-- the types of an answer
abbrev pub types_of : TypedFound → List Bool
types_of answer = answer.types

-- an answer is to a type where one of the sets has it
any_of : (rtype : RrType) (answers : List TypedFound)
    → list_any (λ (answer : TypedFound). has_bit answer.types rtype) answers ≡ list_any (λ (set : List Bool). has_bit set rtype) (map types_of answers)
any_of rtype [] = refl
any_of rtype (answer ∷ answers) = ap (λ (b : Bool). has_bit answer.types rtype || b) (any_of rtype answers)

-- each answer is to some type where each set has one
each_some : (answers : List TypedFound) → AllByRecursion HasSome (map types_of answers) → AllByRecursion AnswersSome answers
each_some [] all = tt
each_some (answer ∷ answers) all = (all.0, each_some answers all.1)

-- no type has two answers where it isn't in two sets
each_apart : (answers : List TypedFound) → AllPairs IsApart (map types_of answers) → AllPairs (λ a b. IsApart a.types b.types) answers
each_apart answers pairs = λ i j d before within.
    subst (λ (set : List Bool). IsApart set (get_or answers j d).types) (get_or-map types_of answers i d (types_of d) (omega (arith, before, within)))
    (subst (IsApart (get_or (map types_of answers) i (types_of d))) (get_or-map types_of answers j d (types_of d) within)
    (pairs i j (types_of d) before (subst (λ (n : ℕ). j < n) (sym (length-map answers types_of)) within)))

-- answers to the sets into which types are split are those to the types
pub split_answered : (zone : Zone) (name : SymName) (decides : Deciding) (types : List Bool) (sets : List (List Bool)) (answers : List TypedFound)
    → map types_of answers ≡ sets → AreSplit (has_bit types) sets → AllByRecursion (AnswersAsDecided zone (whole name) decides) answers
    → AllByRecursion (IsOpenExactly name) answers → AreAnswers zone name decides types answers
split_answered zone name decides types sets answers are split found opens = record {
  together = λ rtype. any_of rtype answers ∙ ap (list_any (λ (set : List Bool). has_bit set rtype)) are ∙ split.together rtype;
  apart = each_apart answers (subst (AllPairs IsApart) (sym are) split.apart);
  some = each_some answers (subst (AllByRecursion HasSome) (sym are) split.some);
  found = found;
  open_tail = opens;
}
