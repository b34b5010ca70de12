-- Tables of what referrals show: what their rows tell of the zones that servers hold.
use Rattle.std.proofs.Common.{◌≡◌, ◌<◌, ◌≤◌, ◌+◌, ℕ, zero, suc, length, get_or, Less, Greater, is_eq, inl, inr, arith, Bool, true, false, cond, List, [], ◌∷◌, ◌++◌, map, Bor, IfSome, Option, Some, None, sym, refl, ap, ◌∙◌, subst}
use Rattle.std.specs.Prelude.{option_and_then, option_map}
use Rattle.std.specs.Slice.{IsItemAt}
use Rattle.std.specs.List.{AllByRecursion, AllZip}
use Rattle.std.specs.Cmp.{nat_cmp_is}
use Rattle.std.proofs.lemmas.Bool.{cases_lt}
use Rattle.std.proofs.lemmas.Option.{option_and_then_some}
use Rattle.dns_data.specs.Name.{Labels, name_cmp, name_eq}
use Rattle.dns_data.proofs.NameOrder.{names_total}
use Rattle.dns_data.proofs.Names.{name_eq_decides}
use Rattle.dns_data.proofs.OrderedLists.{same_rising}
use Rattle.dns_data.proofs.Searches.{found_there}
use Rattle.net_model.specs.declared.config.Config.{Config}
use Rattle.net_model.specs.declared.config.Server.{Server}
use Rattle.net_model.specs.declared.config.Zone.{Zone}
use Rattle.net_model.specs.declared.deps.Deps.{Deps}
use Rattle.net_model.specs.declared.place.Cut.{Cut}
use Rattle.net_model.specs.Nearest.{held_zone, server_named, zone_with_origin}
use Rattle.net_model.specs.Zone.{exists_in}
use Rattle.zone_tree.specs.Tree.{ZoneTree, IsNode, name_of}
use Rattle.zone_lookup.specs.CutFlags.{flags_of, is_quiet}
use Rattle.zone_lookup.specs.CutTable.{AreRowsOf, HostRow, IsHostRow, IsPut, IsTableOf, AreCutFlags, IsWholeTree, IsZoneRow, HasAllFlags, HasFlagsOf, ZoneRow, referrals_at, flags_in_zone, flags_in_host}
use Rattle.zone_lookup.specs.Hosts.{AreTreesOf}
use Rattle.zone_lookup.specs.Named.{item_named}
use Rattle.zone_lookup.specs.declared.cut_flags.CutFlags.{CutFlags}

-- what is mapped comes of an item
mapped_some : {X Y : Type 0} (f : X → Y) (some : Option X) (y : Y) → option_map f some ≡ Some y → (x : X) × (some ≡ Some x) × (f x ≡ y)
mapped_some f None y e = cc
mapped_some f (Some x) y e = (x, refl, cc)

module _ {X Y : Type 0} (R : X → Y → Type 0) (name_of_x : X → Labels) (name_of_y : Y → Labels) (same : (x : X) (y : Y) → R x y → name_of_y y ≡ name_of_x x) (name : Labels) where
  -- beside the item of a name stands the one of that name in the other list
  pub beside_named : (xs : List X) (ys : List Y) (x : X) → AllZip R xs ys → item_named name_of_x xs name ≡ Some x
      → (y : Y) × (item_named name_of_y ys name ≡ Some y) × R x y
  beside_named [] [] x beside found = cc
  beside_named [] (other ∷ ys) x beside found = absurd beside
  beside_named (first ∷ xs) [] x beside found = absurd beside
  beside_named (first ∷ xs) (other ∷ ys) x beside found = by (name_eq (name_of_x first) name) refl found (beside_named xs ys x beside.1) where
    test : name_eq (name_of_y other) name ≡ name_eq (name_of_x first) name
    test = ap (λ (n : Labels). name_eq n name) (same first other beside.0)

    by : (b : Bool) → name_eq (name_of_x first) name ≡ b → cond b (Some first) (item_named name_of_x xs name) ≡ Some x
        → (item_named name_of_x xs name ≡ Some x → (y : Y) × (item_named name_of_y ys name ≡ Some y) × R x y)
        → (y : Y) × (item_named name_of_y (other ∷ ys) name ≡ Some y) × R x y
    by true e found rest =
        let is : first ≡ x = cc in
        (other, ap (λ (b : Bool). cond b (Some other) (item_named name_of_y ys name)) (test ∙ e), subst (λ (z : X). R z other) is beside.0)
    by false e found rest =
        let later = rest found in
        (later.0, ap (λ (b : Bool). cond b (Some other) (item_named name_of_y ys name)) (test ∙ e) ∙ later.1, later.2)

-- whole trees of one zone are one
pub one_tree : (a b : ZoneTree) → IsWholeTree a → IsWholeTree b → a.zone ≡ b.zone → a ≡ b
one_tree a b whole other same =
    let names : a.names ≡ b.names =
    same_rising name_cmp names_total a.names b.names whole.once other.once
    (λ name has. (other.names name).1 (subst (λ (z : Zone). exists_in z name ≡ true) same ((whole.names name).0 has)))
    (λ name has. (whole.names name).1 (subst (λ (z : Zone). exists_in z name ≡ true) (sym same) ((other.names name).0 has))) in
    ap (λ (z : Zone). record { zone = z; names = a.names }) same ∙ ap (λ (n : List Labels). record { zone = b.zone; names = n }) names

module _ (config : Config) (deps : Deps) where
  -- rows beside the trees of a server's zones are the server's row
  pub row_of_host : (host : Server) (trees : List ZoneTree) (row : HostRow) → row.server ≡ host.name → AreTreesOf host.zones trees
      → AllZip (IsZoneRow config deps) trees row.zones → IsHostRow config deps host row
  row_of_host host trees row named are beside =
      record {
        name = named;
        flags = λ is_host tree node held whole within.
            let found = mapped_some (λ (t : ZoneTree). t.zone) (item_named (λ (t : ZoneTree). t.zone.origin) trees tree.zone.origin) tree.zone (are.firsts tree.zone.origin ∙ held) in
            let there = beside_named (IsZoneRow config deps) (λ (t : ZoneTree). t.zone.origin) (λ (z : ZoneRow). z.origin) (λ t z is. is.origin)
            tree.zone.origin trees row.zones found.0 beside found.1 in
            let one : found.0 ≡ tree = one_tree found.0 tree there.2.whole whole found.2 in
            let its : held_zone config host.name tree.zone.origin ≡ Some tree.zone =
            ap (option_and_then (λ (h : Server). zone_with_origin h tree.zone.origin)) is_host ∙ held in
            let tells : HasFlagsOf config deps host.name tree (IsNode tree) there.0.cuts =
            subst (λ (t : ZoneTree). HasAllFlags config deps t (IsNode t) there.0.cuts) one there.2.flags host.name its in
            subst (AreCutFlags config deps (referrals_at host.name tree.zone (name_of tree node)))
            (sym (ap (option_and_then (λ (z : ZoneRow). flags_in_zone z.cuts node)) there.1)) (tells node within);
      }

  -- rows of all servers are a table of the configuration
  pub table_of_rows : (rows : List HostRow) → AreRowsOf config deps rows → IsTableOf config deps rows
  table_of_rows rows are =
      record {
        each = λ server tree node held whole within.
            option_and_then_some (λ (h : Server). zone_with_origin h tree.zone.origin) (server_named config server) tree.zone held
            (λ host named in_host.
            let found = mapped_some (λ (h : Server). h) (item_named (λ (h : Server). h.name) are.hosts server) host (are.are.firsts server ∙ named) in
            let there = beside_named (IsHostRow config deps) (λ (h : Server). h.name) (λ (r : HostRow). r.server) (λ h r is. is.name)
            server are.hosts rows found.0 are.beside found.1 in
            let row : IsHostRow config deps host there.0 = subst (λ (h : Server). IsHostRow config deps h there.0) found.2 there.2 in
            let its : host.name ≡ server = (name_eq_decides host.name server).0 (found_there (λ (h : Server). name_eq h.name server) config.servers host named).1 in
            let says : AreCutFlags config deps (referrals_at server tree.zone (name_of tree node)) (flags_in_host there.0 tree.zone.origin node) =
            subst (λ (n : Labels). AreCutFlags config deps (referrals_at n tree.zone (name_of tree node)) (flags_in_host there.0 tree.zone.origin node)) its
            (row.flags (ap (server_named config) its ∙ named) tree node in_host whole within) in
            subst (AreCutFlags config deps (referrals_at server tree.zone (name_of tree node)))
            (sym (ap (option_and_then (λ (r : HostRow). flags_in_host r tree.zone.origin node)) there.1)) says);
      }

  -- referrals are quiet whose flags are
  quiet_cuts : (cuts : List Cut) → AllByRecursion (λ (one : CutFlags). is_quiet one ≡ true) (map (flags_of config deps) cuts)
      → AllByRecursion (λ (cut : Cut). is_quiet (flags_of config deps cut) ≡ true) cuts
  quiet_cuts [] all = tt
  quiet_cuts (cut ∷ cuts) all = (all.0, quiet_cuts cuts all.1)

  module _ (server : Labels) (tree : ZoneTree) where
    -- the row so far: it has the flags of the names before the place, and none of those from there on
    pub record IsRowUpTo (place : ℕ) (cuts : List (ℕ × List CutFlags)) : Type 0 where
      pub flags : HasFlagsOf config deps server tree (λ node. node < place) cuts
      pub behind : (node : ℕ) → place ≤ node → flags_in_zone cuts node ≡ None

    -- with the flags of one more name put it has those of one more
    pub flags_more : (place : ℕ) (flags : List CutFlags) (old new : List (ℕ × List CutFlags)) → IsRowUpTo place old → IsPut place flags old new
        → flags ≡ map (flags_of config deps) (referrals_at server tree.zone (name_of tree place)) → IsRowUpTo (place + 1) new
    flags_more place flags old new far put is =
        record {
          flags = λ node within. elim (cases_lt node place) [
            | inl lower ↦ subst (AreCutFlags config deps (referrals_at server tree.zone (name_of tree node)))
                (sym (put.others node (sym (ap is_eq (nat_cmp_is place node Greater lower))))) (far.flags node lower)
            | inr last ↦ (
                let same : place ≡ node = omega arith in
                subst (λ (n : ℕ). AreCutFlags config deps (referrals_at server tree.zone (name_of tree n)) (flags_in_zone new n)) same here)
          ];
          behind = λ node beyond.
              put.others node (sym (ap is_eq (nat_cmp_is place node Less (omega (arith, beyond))))) ∙ far.behind node (omega (arith, beyond));
        }
      where
        here : AreCutFlags config deps (referrals_at server tree.zone (name_of tree place)) (flags_in_zone new place)
        here =
            elim put.there [
              | inl some ↦ subst (AreCutFlags config deps (referrals_at server tree.zone (name_of tree place))) (sym some) is
              | inr quiet ↦ (
                  let none : flags_in_zone new place ≡ None = quiet.1 ∙ far.behind place (omega arith) in
                  let all : AllByRecursion (λ (cut : Cut). is_quiet (flags_of config deps cut) ≡ true) (referrals_at server tree.zone (name_of tree place)) =
                  quiet_cuts (referrals_at server tree.zone (name_of tree place)) (subst (AllByRecursion (λ (one : CutFlags). is_quiet one ≡ true)) is quiet.0) in
                  subst (AreCutFlags config deps (referrals_at server tree.zone (name_of tree place))) (sym none) all)
            ]

-- one item more beside one more
pub beside_more : {X Y : Type 0} (R : X → Y → Type 0) (xs : List X) (ys : List Y) (x : X) (y : Y) → AllZip R xs ys → R x y → AllZip R (xs ++ x ∷ []) (ys ++ y ∷ [])
beside_more R [] [] x y beside one = (one, tt)
beside_more R [] (other ∷ ys) x y beside one = absurd beside
beside_more R (first ∷ xs) [] x y beside one = absurd beside
beside_more R (first ∷ xs) (other ∷ ys) x y beside one = (beside.0, beside_more R xs ys x y beside.1 one)

-- rows beside items have the names of these
pub beside_names : {X Y : Type 0} (R : X → Y → Type 0) (name_of_x : X → Labels) (name_of_y : Y → Labels) → ((x : X) (y : Y) → R x y → name_of_y y ≡ name_of_x x)
    → (xs : List X) (ys : List Y) → AllZip R xs ys → map name_of_y ys ≡ map name_of_x xs
beside_names R name_of_x name_of_y same [] [] beside = refl
beside_names R name_of_x name_of_y same [] (other ∷ ys) beside = absurd beside
beside_names R name_of_x name_of_y same (first ∷ xs) [] beside = absurd beside
beside_names R name_of_x name_of_y same (first ∷ xs) (other ∷ ys) beside =
    let here : name_of_y other ≡ name_of_x first = same first other beside.0 in
    let later : map name_of_y ys ≡ map name_of_x xs = beside_names R name_of_x name_of_y same xs ys beside.1 in
    cc

-- beside an item stands the one at its place
beside_at : {X Y : Type 0} (R : X → Y → Type 0) (xs : List X) (ys : List Y) (place : ℕ) (d : X) (e : Y) → AllZip R xs ys → place < length xs
    → R (get_or xs place d) (get_or ys place e)
beside_at R [] ys place d e beside within = absurd (omega (arith, within))
beside_at R (x ∷ xs) [] place d e beside within = absurd beside
beside_at R (x ∷ xs) (y ∷ ys) zero d e beside within = beside.0
beside_at R (x ∷ xs) (y ∷ ys) (suc place) d e beside within = beside_at R xs ys place d e beside.1 (omega (arith, within))

-- the row at the place of one of the trees is that of each whole tree of an equal zone
pub row_at : (trees : List ZoneTree) (rows : List ZoneRow) (place : ℕ) (made : Bor ZoneTree) (tree : ZoneTree) (row : Option (Bor ZoneRow))
    → IsItemAt trees place (Some made) → IsItemAt rows place row → IsWholeTree tree → made.now.zone ≡ tree.zone
    → IfSome row (λ one. (config : Config) (deps : Deps) → AllZip (IsZoneRow config deps) trees rows → IsZoneRow config deps tree one.now)
row_at trees rows place made tree None at is whole same = tt
row_at trees rows place made tree (Some row) at is whole same = λ config deps beside.
    let of_made : IsZoneRow config deps made.now row.now =
    subst (λ (t : ZoneTree). IsZoneRow config deps t row.now) (sym at.1)
    (subst (λ (r : ZoneRow). IsZoneRow config deps (get_or trees place made.now) r) (sym is.1)
    (beside_at (IsZoneRow config deps) trees rows place made.now row.now beside at.3.0)) in
    subst (λ (t : ZoneTree). IsZoneRow config deps t row.now) (one_tree made.now tree of_made.whole whole same) of_made
