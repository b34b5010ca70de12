-- The owner of a DNAME record that decides at a name with its tail is at or above the known name.
use Rattle.std.proofs.Common.{◌≡◌, ℕ, ◌<◌, ◌≤◌, true, ◌&&◌, List, [], ◌++◌, length, Option, Some, None, inl, inr, sym, ap, ◌∙◌, arith, append-nil, length-append}
use Rattle.std.specs.Prelude.{nat_lt, nat_le}
use Rattle.std.proofs.lemmas.Bool.{and_parts, ltb-true}
use Rattle.std.proofs.lemmas.List.{nil_from_length}
use Rattle.dns_data.specs.Name.{Labels, is_prefix}
use Rattle.dns_data.specs.declared.rr_type.RrType.TheVariants as types
use Rattle.dns_data.proofs.Searches.{found_there}
use Rattle.dns_data.proofs.NameFronts.{Begins, is_prefix_told, two_fronts}
use Rattle.name_rules.specs.SymName.{whole, tail_labels}
use Rattle.name_rules.specs.declared.sym_name.SymName.{SymName}
use Rattle.net_model.specs.declared.config.Zone.{Zone}
use Rattle.net_model.specs.Lookup.{zone_cut, dname_owner, deciding}
use Rattle.net_model.specs.Prefix.{prefixes}
use Rattle.net_model.specs.Zone.{owns}
use Rattle.net_model.proofs.Prefixes.{from_prefixes}
use Rattle.zone_tree.specs.declared.decider.Decider.{Decider}
use Rattle.zone_tree.specs.declared.decider.Decider.TheVariants.{Redirection}
use Rattle.zone_tree.specs.Decider.{deciding_by}
use Rattle.zone_tree.specs.Tree.{ZoneTree, name_of}
use Rattle.zone_lookup.proofs.RedirectionTargets.{owner_decides}
use Rattle.sym_query.specs.Answers.{RedirectsKnown}

-- a DNAME owner is a proper prefix of the name
owner_is_proper : (zone : Zone) (name owner : Labels) → dname_owner zone name ≡ Some owner → Begins owner name × (length owner < length name)
owner_is_proper zone name owner e =
    let found = found_there
    (λ (above : Labels). nat_le (length zone.origin) (length above) && nat_lt (length above) (length name) && owns zone above types.Dname)
    (prefixes name) owner e in (
      from_prefixes name owner found.0,
      ltb-true (length owner) (length name)
          (and_parts (nat_le (length zone.origin) (length owner)) (nat_lt (length owner) (length name))
          (and_parts (nat_le (length zone.origin) (length owner) && nat_lt (length owner) (length name)) (owns zone owner types.Dname) found.1).0).1,
    )

-- at or above the name there is at most one label less
tail_is_short : (tail : Option (List ℕ)) → length (tail_labels tail) ≤ 1
tail_is_short None = omega arith
tail_is_short (Some label) = omega arith

-- an owner that the known name with its tail begins with, and that is shorter, is at or above the known name
pub owner_of_known : (known owner : Labels) (tail : Option (List ℕ)) → Begins owner (known ++ tail_labels tail)
    → length owner < length (known ++ tail_labels tail) → is_prefix owner known ≡ true
owner_of_known known owner tail (below, e) shorter =
    elim (two_fronts owner below known (tail_labels tail) e) [
      | inl above ↦ is_prefix_told owner known above
      | inr beneath ↦ (
          let none : length beneath.0 ≡ 0 =
          omega (arith, shorter, tail_is_short tail, ap (λ (x : Labels). length x) beneath.1, length-append known beneath.0, length-append known (tail_labels tail)) in
          is_prefix_told owner known ([], append-nil owner ∙ sym (sym (append-nil known) ∙ ap (λ (x : Labels). known ++ x) (sym (nil_from_length beneath.0 none)) ∙ beneath.1)))
    ]

-- if a redirection decides, its node stands for a name at or above the known name
pub redirects_known : (tree : ZoneTree) (decider : Decider) (name : SymName) → deciding tree.zone (whole name) ≡ deciding_by tree decider
    → RedirectsKnown tree decider name
redirects_known tree (Redirection node) name e =
    let proper = owner_is_proper tree.zone (whole name) (name_of tree node)
    (owner_decides tree.zone (whole name) (name_of tree node) _ (zone_cut tree.zone (whole name)) (dname_owner tree.zone (whole name)) e) in
    owner_of_known name.known (name_of tree node) name.tail proper.0 proper.1
redirects_known tree other name e = tt
