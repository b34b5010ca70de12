-- Parts that answer for the whole count its class tree together.
use Rattle.std.proofs.Common.{◌≡◌, ◌∙◌, ℕ, ◌+◌, ◌≤◌, Bool, true, List, [], ◌∷◌, map, length, filter, flat_map, Contains, sym, refl, ap, ap₂, subst, arith, length-append, append-nil}
use Rattle.std.specs.Prelude.{◌↔◌, sum_by}
use Rattle.std.proofs.lemmas.List.Sums.{length-filter, sum_by-cons}
use Rattle.std.proofs.lemmas.List.Kept.{AllPairs-filter}
use Rattle.dns_data.specs.Name.{Labels, IsName, name_cmp, AreInOrder}
use Rattle.dns_data.proofs.Membership.{filter_has, from_filter, map_has, from_map, flat_map_has, from_flat_map}
use Rattle.dns_data.proofs.NameFronts.{Begins}
use Rattle.dns_data.proofs.NameOrder.{names_total, pairs_from_rising}
use Rattle.dns_data.proofs.Names.{same_names}
use Rattle.dns_data.proofs.OrderedLists.{same_rising}
use Rattle.graph_form.specs.Report.{IsTreeSize}
use Rattle.net_model.specs.declared.class.Class.TheVariants.{Below}
use Rattle.net_model.specs.declared.config.Config.{Config}
use Rattle.std.specs.declared.cmp.Ordering.TheVariants.{Less}
use Rattle.net_model.specs.Order.{in_order}
use Rattle.net_model.specs.Reading.{Ground, IsNamed, ground_of}
use Rattle.net_model.proofs.ItemsInOrder.{from_order, order_has, order_rises}
use Rattle.net_model.proofs.Naming.{is_listed, from_listed}
use Rattle.part_laws.specs.Part.{IsLocal, IsPart, restricted}
use Rattle.part_laws.proofs.ClassesAlike.{representative_alike}
use Rattle.part_laws.proofs.Fronts.{based_front, front_local}
use Rattle.part_laws.proofs.NamesAlike.{named_whole, named_left, named_local, held_based, left_based_held}
use Rattle.part_reports.specs.Gathered.{AreParts}
use Rattle.part_reports.specs.Owned.{IsLongestBase, IsOwnName, HasClassBelow, AreOwnNames, AnswerForAll}
use Rattle.part_reports.specs.PartReport.{PartReport}
use Rattle.part_reports.proofs.Counts.{one_there, counted_once, sum_same}

-- of two prefixes of a name the one that begins the other and isn't shorter is the other
same_front : (a b : Labels) → Begins a b → length b ≤ length a → a ≡ b
same_front a b ([], e) fits = sym (append-nil a) ∙ e
same_front a b (label ∷ below, e) fits = absurd (omega (arith, ap length e, length-append a (label ∷ below)))

module _ (config : Config) (parts : List PartReport) (are : AnswerForAll config parts) where
  -- what is left of the configuration in a part
  abbrev ground_left : PartReport → Ground
  ground_left part = ground_of (restricted part.names config)

  -- the name's longest prefix that is a base name of the whole is own to the part
  abbrev own_front : PartReport → Labels → Bool
  own_front part name = part.own (based_front config name).above

  front_based : (name : Labels) → Contains (ground_of config).names (based_front config name).above
  front_based name = from_listed (ground_of config).names (based_front config name).above (based_front config name).passes

  -- a name whose longest base name is own is local
  own_local : (part : PartReport) → Contains parts part → (name : Labels) → own_front part name ≡ true → IsLocal config part.names name
  own_local part has name own =
      front_local config part.names (are.each part has).prefixes name (based_front config name)
      (are.held part has (based_front config name).above (front_based name) own)

  -- each name's longest base name is own to one part
  owner_of : (name : Labels) → (part : PartReport) × Contains parts part × (own_front part name ≡ true)
  owner_of name =
      one_there (λ (part : PartReport). own_front part name) parts
      (length-filter (λ (part : PartReport). own_front part name) parts ∙ are.once (based_front config name).above (front_based name))

  -- the part's longest base name of a local name is that of the whole
  front_left : (part : PartReport) (has : Contains parts part) (name base : Labels) → IsLocal config part.names name
      → IsLongestBase (ground_left part) name base → base ≡ (based_front config name).above
  front_left part has name base local longest =
      let is = are.each part has in
      let front = based_front config name in
      let base_of_whole = held_based config part.names is base (left_based_held config part.names is base longest.among) in
      let begins = front.all base longest.below (sym longest.prefix) (is_listed (ground_of config).names base base_of_whole) in
      let front_held = local.held front.above front.begins.0 front.begins.1 (front_based name) in
      let fits = longest.longest front.above front.begins.0 (sym front.begins.1) (is.met front.above front_held) in
      same_front base front.above begins fits

  -- and that of the whole is that of the part
  front_whole : (part : PartReport) (has : Contains parts part) (name : Labels) → IsLocal config part.names name
      → IsLongestBase (ground_left part) name (based_front config name).above
  front_whole part has name local =
      let is = are.each part has in
      let front = based_front config name in
      record {
        among = is.met front.above (local.held front.above front.begins.0 front.begins.1 (front_based name));
        below = front.begins.0;
        prefix = sym front.begins.1;
        longest = λ longer rest e among.
            let based = held_based config part.names is longer (left_based_held config part.names is longer among) in
            let begins = front.all longer rest (sym e) (is_listed (ground_of config).names longer based) in
            omega (arith, ap length begins.1, length-append longer begins.0);
      }

  -- ---- a list of own names of each part, with a property that the whole and the part share at local names

  module _ (Q : Ground → Labels → Type 0)
      (alike : (part : PartReport) → Contains parts part → (name : Labels) → IsLocal config part.names name → Q (ground_left part) name ↔ Q (ground_of config) name)
      (list : PartReport → List Labels) (ordered : (part : PartReport) → Contains parts part → AreInOrder (list part))
      (all : (part : PartReport) → Contains parts part → (name : Labels) → Contains (list part) name ↔ (IsOwnName (ground_left part) part.own name × Q (ground_left part) name)) where
    -- the names of all lists, in order
    abbrev put_together : List Labels
    put_together = in_order name_cmp (flat_map list parts)

    together_ordered : AreInOrder put_together
    together_ordered = pairs_from_rising (in_order name_cmp (flat_map list parts)) (order_rises (flat_map list parts))

    -- a name of a part's list is one of the whole's tree
    from_list : (part : PartReport) → Contains parts part → (name : Labels) → Contains (list part) name
        → IsNamed (ground_of config) name × IsName name × Q (ground_of config) name × (own_front part name ≡ true)
    from_list part has name among =
        let (own, also) = (all part has name).0 among in
        let is = are.each part has in
        let local = named_local config part.names is name own.named in (
          named_whole config part.names is name own.named,
          own.is_name,
          (alike part has name local).0 also,
          ap part.own (sym (front_left part has name own.base local own.longest)) ∙ own.is_own,
        )

    -- a name of the whole's tree is in the list of the part whose own it is
    to_list : (part : PartReport) → Contains parts part → (name : Labels) → IsNamed (ground_of config) name → IsName name → Q (ground_of config) name
        → own_front part name ≡ true → Contains (list part) name
    to_list part has name named is_name also own =
        let local = own_local part has name own in
        (all part has name).1 (
          record {
            named = named_left config part.names (are.each part has) name local named;
            is_name = is_name;
            base = (based_front config name).above;
            longest = front_whole part has name local;
            is_own = own;
          },
          (alike part has name local).1 also,
        )

    -- together they are the names of the whole's tree with the property
    together_all : (name : Labels) → Contains put_together name ↔ (IsNamed (ground_of config) name × IsName name × Q (ground_of config) name)
    together_all name = (
      λ has. (let (part, among, inside) = from_flat_map list parts name (from_order name_cmp (flat_map list parts) name has) in
          let (named, is_name, also, own) = from_list part among name inside in
          (named, is_name, also)),
      λ (named, is_name, also). (let (part, among, own) = owner_of name in
          order_has name_cmp same_names (flat_map list parts) name (flat_map_has list parts part name among (to_list part among name named is_name also own))),
    )

    -- each part's list has those of them that are own
    list_is : (part : PartReport) → Contains parts part → list part ≡ filter (own_front part) put_together
    list_is part has =
        same_rising name_cmp names_total (list part) (filter (own_front part) put_together) (ordered part has)
        (AllPairs-filter (λ a b. name_cmp a b ≡ Less) (own_front part) put_together together_ordered)
        (λ name among. (let (named, is_name, also, own) = from_list part has name among in
        filter_has (own_front part) put_together name ((together_all name).1 (named, is_name, also)) own))
        (λ name among. (let (there, own) = from_filter (own_front part) put_together name among in
        let (named, is_name, also) = (together_all name).0 there in
        to_list part has name named is_name also own))

    -- so they are as many as the lists have together
    together_count : sum_by (λ part. length (list part)) parts ≡ length put_together
    together_count =
        sum_same (λ (part : PartReport). length (list part)) (λ (part : PartReport). length (filter (own_front part) put_together)) parts
        (λ part has. ap length (list_is part has))
        ∙ counted_once own_front put_together parts
        (λ name has. length-filter (λ (part : PartReport). own_front part name) parts ∙ are.once (based_front config name).above (front_based name))

  -- ---- the size of the class tree

  module _ (own_names : (part : PartReport) → Contains parts part → AreOwnNames (ground_left part) part) where
    abbrev any_name : Ground → Labels → Type 0
    any_name ground name = Unit {0}

    tree_all_of : (part : PartReport) → Contains parts part → (name : Labels) → Contains part.tree name ↔ (IsOwnName (ground_left part) part.own name × any_name (ground_left part) name)
    tree_all_of part has name = (
      λ among. (((own_names part has).tree_all name).0 among, tt),
      λ (own, any). ((own_names part has).tree_all name).1 own,
    )

    any_alike : (part : PartReport) → Contains parts part → (name : Labels) → IsLocal config part.names name → any_name (ground_left part) name ↔ any_name (ground_of config) name
    any_alike part has name local = (λ any. any, λ any. any)

    below_alike : (part : PartReport) → Contains parts part → (name : Labels) → IsLocal config part.names name
        → HasClassBelow (ground_left part) name ↔ HasClassBelow (ground_of config) name
    below_alike part has name local = (
      λ (stands, is). (stands, (representative_alike config part.names (are.each part has) (Below name) stands local).0 is),
      λ (stands, is). (stands, (representative_alike config part.names (are.each part has) (Below name) stands local).1 is),
    )

    abbrev whole_tree : List Labels
    whole_tree = in_order name_cmp (flat_map (λ (part : PartReport). part.tree) parts)

    abbrev whole_below : List Labels
    whole_below = in_order name_cmp (flat_map (λ (part : PartReport). part.below) parts)

    whole_tree_all : (name : Labels) → Contains whole_tree name ↔ (IsNamed (ground_of config) name × IsName name × Unit {0})
    whole_tree_all =
        together_all any_name any_alike (λ (part : PartReport). part.tree) (λ part has. (own_names part has).tree_ordered) tree_all_of

    whole_below_all : (name : Labels) → Contains whole_below name ↔ (IsNamed (ground_of config) name × IsName name × HasClassBelow (ground_of config) name)
    whole_below_all =
        together_all HasClassBelow below_alike (λ (part : PartReport). part.below) (λ part has. (own_names part has).below_ordered)
        (λ part has. (own_names part has).below_all)

    sums : (ps : List PartReport) → sum_by (λ part. length part.tree + length part.below) ps
        ≡ sum_by (λ part. length part.tree) ps + sum_by (λ part. length part.below) ps
    sums [] = refl
    sums (p ∷ ps) =
        let rest = sums ps in
        sum_by-cons (λ (part : PartReport). length part.tree + length part.below) p ps
        ∙ omega (arith, sum_by-cons (λ (part : PartReport). length part.tree) p ps, sum_by-cons (λ (part : PartReport). length part.below) p ps)

    -- the parts' own names and classes, added up, are those of the whole
    pub whole_size : IsTreeSize (ground_of config) [] (sum_by (λ part. length part.tree) parts) (sum_by (λ part. length part.tree + length part.below) parts)
    whole_size =
        let trees = together_count any_name any_alike (λ (part : PartReport). part.tree) (λ part has. (own_names part has).tree_ordered) tree_all_of in
        let belows = together_count HasClassBelow below_alike (λ (part : PartReport). part.below) (λ part has. (own_names part has).below_ordered)
        (λ part has. (own_names part has).below_all) in
        record {
          part = whole_tree;
          below = whole_below;
          is_part = record {
            ordered = together_ordered any_name any_alike (λ (part : PartReport). part.tree) (λ part has. (own_names part has).tree_ordered) tree_all_of;
            all = λ name. (
              λ has. (let (named, is_name, any) = (whole_tree_all name).0 has in record { named = named; is_name = is_name; within = refl }),
              λ is. (whole_tree_all name).1 (is.named, is.is_name, tt),
            );
          };
          are_below = record {
            ordered = together_ordered HasClassBelow below_alike (λ (part : PartReport). part.below) (λ part has. (own_names part has).below_ordered)
                (λ part has. (own_names part has).below_all);
            all = λ name. (
              λ has. (let (named, is_name, stands) = (whole_below_all name).0 has in ((whole_tree_all name).1 (named, is_name, tt), stands)),
              λ (has, stands). (let (named, is_name, any) = (whole_tree_all name).0 has in (whole_below_all name).1 (named, is_name, stands)),
            );
          };
          counts_names = trees;
          counts_classes = sums parts ∙ ap₂ (λ (a b : ℕ). a + b) trees belows;
        }

  -- the parts cover the whole
  pub parts_cover : AreParts config (map (λ (part : PartReport). part.names) parts)
  parts_cover =
      record {
        each = λ names among.
            let (part, has, same) = from_map (λ (part : PartReport). part.names) parts names among in
            subst (IsPart config) same (are.each part has);
        cover = λ name based.
            let (part, has, own) = one_there (λ (part : PartReport). part.own name) parts (length-filter (λ (part : PartReport). part.own name) parts ∙ are.once name based) in
            record {
              names = part.names;
              among = map_has (λ (p : PartReport). p.names) parts part has;
              held = are.held part has name based own;
            };
      }
