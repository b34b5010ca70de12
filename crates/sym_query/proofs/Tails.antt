-- One answer stands for all open tails.
use Rattle.std.proofs.Common.{◌≡◌, ℕ, ◌-◌, Bool, true, false, cond, List, [], ◌∷◌, ◌++◌, length, take, Option, Some, None, sym, refl, ap, ◌∙◌, true≢false, arith, length-append}
use Rattle.std.specs.Prelude.{nat_le, is_some}
use Rattle.std.proofs.lemmas.List.{take-append-le, take_all}
use Rattle.dns_data.specs.Name.{Labels, wire_octets, is_prefix, swap}
use Rattle.dns_data.specs.RrType.{type_eq}
use Rattle.dns_data.specs.declared.rdata.Rdata.{Rdata}
use Rattle.dns_data.specs.declared.rr_type.RrType.{RrType}
use Rattle.dns_data.specs.declared.rr_type.RrType.TheVariants as types
use Rattle.name_rules.specs.SymName.{whole}
use Rattle.name_rules.proofs.Swaps.{swap_below}
use Rattle.net_model.specs.declared.config.Zone.{Zone}
use Rattle.net_model.specs.declared.found.Found.TheVariants.{Rewrite, TooLong}
use Rattle.net_model.specs.Lookup.{first_name, answer_of, aliased, at_name, redirected, answered, found, deciding}
use Rattle.net_model.specs.OpenTail.{IsOpenTail}
use Rattle.net_model.specs.Order.{in_order}
use Rattle.net_model.specs.Retail.{retailed_name}
use Rattle.net_model.specs.Zone.{targets_at, data_at, data_cmp}
use Rattle.zone_tree.specs.declared.decider.Decider.{Decider}
use Rattle.zone_tree.specs.declared.decider.Decider.TheVariants.{Cut, Redirection, Records, Nothing}
use Rattle.zone_tree.specs.Decider.{deciding_by}
use Rattle.zone_tree.specs.Tree.{ZoneTree, name_of}
use Rattle.sym_query.specs.Answers.{RedirectsKnown, AnswersAsDecided}
use Rattle.sym_query.specs.TypedFound.{StandsForTails, is_too_long, with_tail}
use Rattle.sym_query.specs.declared.typed_found.TypedFound.{TypedFound}

-- the answer of records has no tail
no_tail_in_data : (tail : Labels) (all : List Rdata) → with_tail tail (answer_of all) ≡ answer_of all
no_tail_in_data tail [] = refl
no_tail_in_data tail (first ∷ rest) = refl

no_tail_in_records : (zone : Zone) (owner : Labels) (rtype : RrType) (tail : Labels) → at_name zone owner rtype ≡ with_tail tail (at_name zone owner rtype)
no_tail_in_records zone owner rtype tail = by (if_alias (type_eq rtype types.Cname)) where
  if_alias : Bool → Option Labels
  if_alias b = cond b None (first_name (targets_at zone owner types.Cname))

  by : (alias : Option Labels) → aliased zone owner rtype alias ≡ with_tail tail (aliased zone owner rtype alias)
  by None = sym (no_tail_in_data tail (in_order data_cmp (data_at zone owner rtype)))
  by (Some target) = refl

-- the last label of a name replaced
last_replaced : (front tail : Labels) (label : List ℕ) → retailed_name 1 tail (front ++ label ∷ []) ≡ front ++ tail
last_replaced front tail label =
    let many : length (front ++ label ∷ []) - 1 ≡ length front = omega (arith, length-append front (label ∷ [])) in
    ap (λ (n : ℕ). take n (front ++ label ∷ []) ++ tail) many
    ∙ ap (λ (x : Labels). x ++ tail) (take-append-le (length front) front (label ∷ []) (omega arith) ∙ take_all (length front) front (omega arith))

module _ (known owner target tail : Labels) (label : List ℕ) (above : is_prefix owner known ≡ true) where
  abbrev one : Labels
  one = swap (known ++ label ∷ []) owner target

  abbrev other : Labels
  other = swap (known ++ tail) owner target

  same_front : other ≡ retailed_name 1 tail one
  same_front =
      swap_below known owner target tail above
      ∙ sym (ap (retailed_name 1 tail) (swap_below known owner target (label ∷ []) above) ∙ last_replaced (swap known owner target) tail label)

  if_short : (b c : Bool) → is_too_long (cond b (Rewrite true owner one) (TooLong owner)) ≡ false
      → is_too_long (cond c (Rewrite true owner other) (TooLong owner)) ≡ false
      → cond c (Rewrite true owner other) (TooLong owner) ≡ with_tail tail (cond b (Rewrite true owner one) (TooLong owner))
  if_short true true e f = ap (λ (to : Labels). Rewrite true owner to) same_front
  if_short true false e f = absurd (true≢false f)
  if_short false c e f = absurd (true≢false e)

  redirected_alike : is_too_long (redirected (known ++ label ∷ []) owner (Some target)) ≡ false
      → is_too_long (redirected (known ++ tail) owner (Some target)) ≡ false
      → redirected (known ++ tail) owner (Some target) ≡ with_tail tail (redirected (known ++ label ∷ []) owner (Some target))
  redirected_alike = if_short (nat_le (wire_octets one) 255) (nat_le (wire_octets other) 255)

-- the same decides at the known name with either of two open tails, so the answers differ in the tail alone
pub answered_alike : (tree : ZoneTree) (decider : Decider) (known tail : Labels) (label : List ℕ) (rtype : RrType)
    → RedirectsKnown tree decider (record { known = known; tail = Some label })
    → is_too_long (answered tree.zone (known ++ label ∷ []) rtype (deciding_by tree decider)) ≡ false
    → is_too_long (answered tree.zone (known ++ tail) rtype (deciding_by tree decider)) ≡ false
    → answered tree.zone (known ++ tail) rtype (deciding_by tree decider)
    ≡ with_tail tail (answered tree.zone (known ++ label ∷ []) rtype (deciding_by tree decider))
answered_alike tree (Cut node) known tail label rtype above e f = refl
answered_alike tree (Records node) known tail label rtype above e f = no_tail_in_records tree.zone (name_of tree node) rtype tail
answered_alike tree Nothing known tail label rtype above e f = refl
answered_alike tree (Redirection node) known tail label rtype above e f =
    by (first_name (targets_at tree.zone (name_of tree node) types.Dname)) e f where
      by : (target : Option Labels) → is_too_long (redirected (known ++ label ∷ []) (name_of tree node) target) ≡ false
          → is_too_long (redirected (known ++ tail) (name_of tree node) target) ≡ false
          → redirected (known ++ tail) (name_of tree node) target ≡ with_tail tail (redirected (known ++ label ∷ []) (name_of tree node) target)
      by None e f = refl
      by (Some target) e f = redirected_alike known (name_of tree node) target tail label above e f

-- an answer of what decides at the known name with an open tail stands for all open tails
pub stands_for_tails : (tree : ZoneTree) (decider : Decider) (known : Labels) (tail : Option (List ℕ)) (answer : TypedFound)
    → RedirectsKnown tree decider (record { known = known; tail = tail })
    → (is_some tail ≡ true → (other : Labels) → IsOpenTail tree.zone known other → deciding tree.zone (known ++ other) ≡ deciding_by tree decider)
    → AnswersAsDecided tree.zone (whole (record { known = known; tail = tail })) (deciding_by tree decider) answer
    → StandsForTails tree.zone (record { known = known; tail = tail }) answer
stands_for_tails tree decider known None answer above decides is some rtype has tail opens e f = absurd (true≢false (sym some))
stands_for_tails tree decider known (Some label) answer above decides is some rtype has tail opens e f =
    let there : found tree.zone (known ++ tail) rtype ≡ answered tree.zone (known ++ tail) rtype (deciding_by tree decider) =
    ap (answered tree.zone (known ++ tail) rtype) (decides refl tail opens) in
    there
    ∙ answered_alike tree decider known tail label rtype above (ap is_too_long (sym (is rtype has)) ∙ e) (ap is_too_long (sym there) ∙ f)
    ∙ ap (with_tail tail) (sym (is rtype has))
