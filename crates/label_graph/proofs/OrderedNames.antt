-- Names put in order, each once, and the table of names that have their prefixes.
use Rattle.std.proofs.Common.{◌≡◌, true, List, [], ◌∷◌, ◌++◌, Contains, sym, refl, subst, arith}
use Rattle.std.specs.Prelude.{◌↔◌}
use Rattle.std.specs.Cmp.Lexicographic.{nat_list_eq_equiv, lists_equiv, lists_ties, texts_ties}
use Rattle.dns_data.specs.Label.{label_cmp}
use Rattle.dns_data.specs.Name.{Labels, is_prefix, name_cmp, name_eq, AreInOrder}
use Rattle.dns_data.proofs.NameFronts.{is_prefix_told}
use Rattle.dns_data.proofs.NameOrder.{UpTo, names_total}
use Rattle.dns_data.proofs.Names.{name_eq_decides}
use Rattle.net_model.specs.Reading.{Ground}
use Rattle.label_graph.specs.declared.pair.Pair.{Pair}
use Rattle.label_graph.specs.LiveSet.{HavePrefixes, IsClosed}
use Rattle.label_graph.specs.Pairs.{ground_with, AreSame}
use Rattle.label_graph.specs.Sorting.{IsInOrderOf}
use Rattle.label_graph.specs.Targets.{IsRootPlace}
use Rattle.name_table.specs.Table.{name_at, IsTable}
use Rattle.name_table.proofs.Tables.{place_among, up_to_later}
use Rattle.label_graph.proofs.InOrder.{once_in_order, in_order_has, from_in_order}

-- grounds that have what a third one has have the same
pub same_then : (one between other : Ground) → AreSame one between → AreSame between other → AreSame one other
same_then one between other left right =
    record {
      names = λ name. (
        λ has. (right.names name).0 ((left.names name).0 has),
        λ has. (left.names name).1 ((right.names name).1 has),
      );
      redirections = λ redirection. (
        λ has. (right.redirections redirection).0 ((left.redirections redirection).0 has),
        λ has. (left.redirections redirection).1 ((right.redirections redirection).1 has),
      );
    }

module _ (items list : List Labels) (is : IsInOrderOf name_cmp name_eq items list) where
  -- names that were put in order stand in order
  pub names_ordered : AreInOrder list
  names_ordered = once_in_order name_cmp names_total name_eq (lists_ties label_cmp texts_ties) (lists_equiv nat_list_eq_equiv) (λ x y. (name_eq_decides x y).0) items list is

  -- names that were put in order are the same names
  pub names_same : (name : Labels) → Contains list name ↔ Contains items name
  names_same name = (
    from_in_order name_cmp names_total name_eq (lists_ties label_cmp texts_ties) (lists_equiv nat_list_eq_equiv) (λ x y. (name_eq_decides x y).0) items list is name,
    in_order_has name_cmp names_total name_eq (lists_ties label_cmp texts_ties) (lists_equiv nat_list_eq_equiv) (λ x y. (name_eq_decides x y).0) items list is name,
  )

  -- names that were put in order have their prefixes, if they had them before
  pub prefixes_ordered : HavePrefixes items → HavePrefixes list
  prefixes_ordered have =
      record {
        root = (names_same []).1 have.root;
        prefixes = λ above below has. (names_same above).1 (have.prefixes above below ((names_same (above ++ below)).0 has));
      }

  -- the ground of names that were put in order is closed, if it was before
  pub ground_ordered : (pairs : List Pair) → IsClosed (ground_with items pairs) → IsClosed (ground_with list pairs)
  ground_ordered pairs closed =
      record {
        names = prefixes_ordered closed.names;
        redirected = λ redirection among. (names_same redirection.owner).1 (closed.redirected redirection among);
      }

  -- the ground of names that were put in order is the same
  pub ground_same : (pairs : List Pair) → AreSame (ground_with list pairs) (ground_with items pairs)
  ground_same pairs = record { names = names_same; redirections = λ redirection. (λ has. has, λ has. has) }

module _ (names : List Labels) (order : AreInOrder names) (closed : HavePrefixes names) where
  -- the root stands first
  pub root_first : IsRootPlace names 0
  root_first =
      let (k, inside, at) = place_among names [] closed.root in
      (omega (arith, inside), none_before (name_at names 0) (subst (UpTo (name_at names 0)) at (up_to_later names order 0 k (omega arith) inside)))
    where
      none_before : (name : Labels) → UpTo name [] → name ≡ []
      none_before [] up_to = refl
      none_before (label ∷ name) up_to = cc

  -- the names are a table
  pub closed_table : IsTable names
  closed_table =
      record {
        ordered = order;
        some = root_first.0;
        below = λ k within.
            subst (λ (root : Labels). is_prefix root (name_at names k) ≡ true) (sym root_first.1)
            (is_prefix_told [] (name_at names k) (name_at names k, refl));
        parents = λ above label inside has. closed.prefixes above (label ∷ []) has;
      }
