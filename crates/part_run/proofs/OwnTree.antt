-- The own names of a part are those of the rows whose longest held prefix is own.
use Rattle.std.proofs.Common.{◌≡◌, ◌∙◌, ℕ, ◌≤◌, ◌<◌, Bool, true, false, List, [], ◌∷◌, ◌++◌, length, take, drop, Contains, Option, None, Some, sym, refl, ap, subst, arith, append-nil}
use Rattle.std.specs.Prelude.{◌↔◌, ◌&&◌, AllPairs}
use Rattle.std.specs.Option.{option_map_or}
use Rattle.std.proofs.lemmas.Bool.{false_from_ne_true}
use Rattle.std.proofs.lemmas.List.{length-append, length-take-le, take-append-drop}
use Rattle.std.proofs.lemmas.List.Kept.{AllPairs-filter}
use Rattle.std.specs.declared.cmp.Ordering.TheVariants.{Less}
use Rattle.dns_data.specs.Name.{Labels, is_among, name_cmp}
use Rattle.dns_data.proofs.Membership.{filter_has, from_filter}
use Rattle.dns_data.proofs.NameFronts.{Begins, front_is_take, is_prefix_told}
use Rattle.net_model.specs.Prefix.{longest}
use Rattle.net_model.specs.Reading.{Ground}
use Rattle.net_model.specs.Tree.{AreBelowClasses, IsTreePart}
use Rattle.net_model.proofs.Naming.{is_listed, from_listed}
use Rattle.query_classes.specs.Rows.{tree_names, below_names}
use Rattle.query_classes.specs.declared.tree.ClassRow.{ClassRow}
use Rattle.zone_lookup.proofs.NearestZones.{longest_at}
use Rattle.part_laws.specs.Part.{with_prefixes}
use Rattle.part_laws.proofs.Fronts.{LongestFront, longest_front}
use Rattle.part_laws.proofs.WithPrefixes.{root_there, prefixes_there}
use Rattle.part_names.specs.PartNames as file
use Rattle.part_names.specs.declared.names.PartNames.{PartNames}
use Rattle.part_reports.specs.Bounds as bounds
use Rattle.part_reports.specs.Owned.{AreOwnNames, HasClassBelow, IsLongestBase, IsOwnName}
use Rattle.part_reports.specs.Reported.{Reported, report_of}
use Rattle.own_names.specs.OwnNames.{is_own_here, own_below, own_tree}

-- of two prefixes of a name the one that begins the other and isn't shorter is the other
same_front : (a b : Labels) → Begins a b → length b ≤ length a → a ≡ b
same_front a b ([], e) fits = sym (append-nil a) ∙ e
same_front a b (label ∷ below, e) fits = absurd (omega (arith, ap length e, length-append a (label ∷ below)))

-- ---- bounds

begun_same : (from : Option Labels) (name : Labels) → file.begun_at from name ≡ bounds.begun_at from name
begun_same None name = refl
begun_same (Some first) name = refl

ends_same : (to : Option Labels) (name : Labels) → file.ends_behind to name ≡ bounds.ends_behind to name
ends_same None name = refl
ends_same (Some next) name = refl

-- the names that a file tells as own are those within its bounds
pub own_same : (names : PartNames) (from to : Option Labels) → from ≡ names.from → to ≡ names.to → (name : Labels)
    → file.is_own names name ≡ bounds.is_within (record { from = from; to = to }) name
own_same names from to from_is to_is name =
    ap (λ (b : Bool). b && file.ends_behind names.to name) (ap (λ (o : Option Labels). file.begun_at o name) (sym from_is) ∙ begun_same from name)
    ∙ ap (λ (b : Bool). bounds.begun_at from name && b) (ap (λ (o : Option Labels). file.ends_behind o name) (sym to_is) ∙ ends_same to name)

-- ---- the longest held prefix

module _ (names : PartNames) where
  abbrev held : List Labels
  held = with_prefixes names.held

  -- a name has a longest prefix that is held
  pub held_front : (name : Labels) → LongestFront (is_among held) name
  held_front name =
      longest_front name (is_among held)
      (λ above below e. is_listed held above (prefixes_there names.held above below (from_listed held (above ++ below) e)))
      (is_listed held [] (root_there names.held))

  -- it is the one that is looked for
  longest_is : (name : Labels) → longest (is_among held) name ≡ Some (held_front name).above
  longest_is name =
      longest_at (is_among held) name (length front.above) fits (ap (is_among held) same ∙ front.passes) none ∙ ap Some same
    where
      front : LongestFront (is_among held) name
      front = held_front name

      same : take (length front.above) name ≡ front.above
      same = front_is_take front.above front.begins.0 name front.begins.1

      fits : length front.above ≤ length name
      fits = omega (arith, ap length front.begins.1, length-append front.above front.begins.0)

      none : (labels : ℕ) → length front.above < labels → labels ≤ length name → is_among held (take labels name) ≡ false
      none labels more within =
          false_from_ne_true (is_among held (take labels name)) (λ is.
          let begins = front.all (take labels name) (drop labels name) (take-append-drop labels name) is in
          absurd (omega (arith, more, ap length begins.1, length-append (take labels name) begins.0, length-take-le labels name within)))

  -- so a name is counted exactly if that prefix is own
  own_is : (name : Labels) → is_own_here names name ≡ file.is_own names (held_front name).above
  own_is name = ap (λ (o : Option Labels). option_map_or (file.is_own names) o false) (longest_is name)

  -- ---- the rows of a ground whose base names are the held names

  module _ (ground : Ground) (based : (name : Labels) → Contains ground.names name ↔ Contains held name) where
    front_longest : (name : Labels) → IsLongestBase ground name (held_front name).above
    front_longest name =
        let front = held_front name in
        record {
          among = (based front.above).1 (from_listed held front.above front.passes);
          below = front.begins.0;
          prefix = sym front.begins.1;
          longest = λ longer rest e has.
              let begins = front.all longer rest (sym e) (is_listed held longer ((based longer).0 has)) in
              omega (arith, ap length begins.1, length-append longer begins.0);
        }

    same_base : (name base : Labels) → IsLongestBase ground name base → base ≡ (held_front name).above
    same_base name base is =
        let front = held_front name in
        same_front base front.above (front.all base is.below (sym is.prefix) (is_listed held base ((based base).0 is.among)))
        (is.longest front.above front.begins.0 (sym front.begins.1) ((based front.above).1 (from_listed held front.above front.passes)))

    module _ (rows : List ClassRow) (tree : IsTreePart ground [] (tree_names rows)) (below : AreBelowClasses ground (tree_names rows) (below_names rows))
        (reported : Reported) (from_is : reported.written.from ≡ names.from) (to_is : reported.written.to ≡ names.to)
        (tree_is : reported.tree ≡ own_tree names rows) (below_is : reported.below ≡ own_below names rows) where
      abbrev own : Labels → Bool
      own = (report_of reported).own

      within_own : (name : Labels) → file.is_own names name ≡ own name
      within_own = own_same names reported.written.from reported.written.to from_is to_is

      -- an own name of the tree is counted, and no other
      own_named : (name : Labels) → Contains (tree_names rows) name → is_own_here names name ≡ true → IsOwnName ground own name
      own_named name has is =
          let inside = (tree.all name).0 has in
          record {
            named = inside.named;
            is_name = inside.is_name;
            base = (held_front name).above;
            longest = front_longest name;
            is_own = sym (within_own (held_front name).above) ∙ sym (own_is name) ∙ is;
          }

      in_tree : (name : Labels) → IsOwnName ground own name → Contains (tree_names rows) name
      in_tree name is = (tree.all name).1 (record { named = is.named; is_name = is.is_name; within = is_prefix_told [] name (name, refl) })

      counted : (name : Labels) → IsOwnName ground own name → is_own_here names name ≡ true
      counted name is =
          own_is name ∙ ap (file.is_own names) (sym (same_base name is.base is.longest)) ∙ within_own is.base ∙ is.is_own

      tree_all : (name : Labels) → Contains (own_tree names rows) name ↔ IsOwnName ground own name
      tree_all name = (
        λ has. (let (inside, is) = from_filter (is_own_here names) (tree_names rows) name has in own_named name inside is),
        λ is. filter_has (is_own_here names) (tree_names rows) name (in_tree name is) (counted name is),
      )

      below_all : (above : Labels) → Contains (own_below names rows) above ↔ (IsOwnName ground own above × HasClassBelow ground above)
      below_all above = (
        λ has. (
            let (inside, is) = from_filter (is_own_here names) (below_names rows) above has in
            let (there, stands) = (below.all above).0 inside in (own_named above there is, stands)),
        λ (is, stands). filter_has (is_own_here names) (below_names rows) above ((below.all above).1 (in_tree above is, stands)) (counted above is),
      )

      -- the lists are those of the part's own names
      pub own_names_are : AreOwnNames ground (report_of reported)
      own_names_are =
          record {
            tree_ordered = subst (λ (l : List Labels). AllPairs (λ a b. name_cmp a b ≡ Less) l) (sym tree_is)
                (AllPairs-filter (λ a b. name_cmp a b ≡ Less) (is_own_here names) (tree_names rows) tree.ordered);
            tree_all = λ name. subst (λ (l : List Labels). Contains l name ↔ IsOwnName ground own name) (sym tree_is) (tree_all name);
            below_ordered = subst (λ (l : List Labels). AllPairs (λ a b. name_cmp a b ≡ Less) l) (sym below_is)
                (AllPairs-filter (λ a b. name_cmp a b ≡ Less) (is_own_here names) (below_names rows) below.ordered);
            below_all = λ above. subst (λ (l : List Labels). Contains l above ↔ (IsOwnName ground own above × HasClassBelow ground above)) (sym below_is) (below_all above);
          }
