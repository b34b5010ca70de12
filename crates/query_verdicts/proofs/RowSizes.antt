-- How many names a class tree has, and how many classes, from its rows.
use Rattle.std.proofs.Common.{◌≡◌, ◌∙◌, ℕ, ◌+◌, true, List, length, Contains, filter, Option, Some, None, is_some, refl, sym, ap, subst, true≢false}
use Rattle.std.specs.declared.cmp.Ordering.TheVariants.{Less}
use Rattle.std.proofs.lemmas.List.{length-map}
use Rattle.std.proofs.lemmas.List.Elements.{All-contains}
use Rattle.std.proofs.lemmas.List.Kept.{AllPairs-filter}
use Rattle.dns_data.specs.Name.{Labels, name_cmp}
use Rattle.dns_data.proofs.Membership.{filter_has, from_filter, from_map, map_has, pairs_of_images}
use Rattle.graph_form.specs.Report.{IsTreeSize}
use Rattle.net_model.specs.declared.class.Class.TheVariants.{Below}
use Rattle.net_model.specs.Class.{IsRepresentative}
use Rattle.net_model.specs.Reading.{Ground}
use Rattle.net_model.specs.Tree.{AreBelowClasses}
use Rattle.query_verdicts.specs.TreeVerdicts.{AreTreeRows, IsVerdictAt, IsVerdictBelow, TreeRow, below_count, has_below, row_names}

module _ {W C : Type 0} {ground : Ground} {above : Labels} {IsVerdictOf : Labels → C → Type 0} (rows : List (TreeRow W C)) (are : AreTreeRows ground above IsVerdictOf rows) where
  -- the rows with a class below
  abbrev with_below : List (TreeRow W C)
  with_below = filter has_below rows

  right : (row : TreeRow W C) → Contains rows row → IsVerdictAt ground IsVerdictOf row.item row.verdict
  right row has = All-contains (λ (r : TreeRow W C). IsVerdictAt ground IsVerdictOf r.item r.verdict) rows row are.verdicts has

  -- the class below a name has a representative exactly where it has a verdict
  represented : (name : Labels) (below : Option C) → IsVerdictBelow ground IsVerdictOf name below → is_some below ≡ true
      → (query : Labels) × IsRepresentative ground (Below name) query
  represented name None none some = absurd (true≢false (sym some))
  represented name (Some verdict) (query, represents, is) some = (query, represents)

  some_below : (name : Labels) (below : Option C) → IsVerdictBelow ground IsVerdictOf name below
      → (query : Labels) → IsRepresentative ground (Below name) query → is_some below ≡ true
  some_below name None none query represents = absurd (none query represents)
  some_below name (Some verdict) is query represents = refl

  there : (name : Labels) → Contains (row_names with_below) name
      → Contains (row_names rows) name × ((query : Labels) × IsRepresentative ground (Below name) query)
  there name has =
      let (row, kept, is) = from_map (λ (r : TreeRow W C). r.item) with_below name has in
      let (among, some) = from_filter has_below rows row kept in
      subst (λ (n : Labels). Contains (row_names rows) n × ((query : Labels) × IsRepresentative ground (Below n) query)) is
      (map_has (λ (r : TreeRow W C). r.item) rows row among, represented row.item row.verdict.below (right row among).below some)

  back : (name : Labels) → Contains (row_names rows) name × ((query : Labels) × IsRepresentative ground (Below name) query)
      → Contains (row_names with_below) name
  back name (has, (query, represents)) =
      let (row, among, is) = from_map (λ (r : TreeRow W C). r.item) rows name has in
      let some : has_below row ≡ true =
      some_below row.item row.verdict.below (right row among).below query (subst (λ (n : Labels). IsRepresentative ground (Below n) query) (sym is) represents) in
      subst (Contains (row_names with_below)) is (map_has (λ (r : TreeRow W C). r.item) with_below row (filter_has has_below rows row among some))

  below_classes : AreBelowClasses ground (row_names rows) (row_names with_below)
  below_classes =
      record {
        ordered = pairs_of_images (λ (r : TreeRow W C). r.item) (λ a b. name_cmp a b ≡ Less) with_below
            (AllPairs-filter (λ (a b : TreeRow W C). name_cmp a.item b.item ≡ Less) has_below rows are.ordered);
        all = λ name. (there name, back name);
      }

  -- the tree has as many names as rows, and as many classes as names and names with a class below
  pub size_of_rows : IsTreeSize ground above (length rows) (length rows + below_count rows)
  size_of_rows =
      record {
        part = row_names rows;
        below = row_names with_below;
        is_part = are.tree;
        are_below = below_classes;
        counts_names = names_counted rows;
        counts_classes = ap (λ (n : ℕ). n + below_count rows) (names_counted rows) ∙ ap (λ (n : ℕ). length (row_names rows) + n) (names_counted with_below);
      }
    where
      names_counted : (some : List (TreeRow W C)) → length some ≡ length (row_names some)
      names_counted some = sym (length-map some (λ (r : TreeRow W C). r.item))
