-- A walk down a class tree from the root that keeps how many names it passed, and not which.
use Rattle.std.proofs.Common.{◌≡◌, ◌∙◌, ℕ, ◌+◌, List, [], ◌∷◌, ◌++◌, length, reverse, All, Some, None, sym, ap, subst, refl, arith}
use Rattle.std.proofs.lemmas.List.{length-append, length-map}
use Rattle.std.proofs.lemmas.List.Elements.{All-nil, All-pop, All-push, All-append}
use Rattle.dns_data.specs.Name.{Labels}
use Rattle.dns_data.proofs.Names.{root_is_name}
use Rattle.net_model.specs.Reading.{Ground, IsNamed}
use Rattle.net_model.specs.Tree.{HasMoreThan, IsInPart}
use Rattle.label_graph.specs.LiveSet.{IsClosed, IsLiveSet}
use Rattle.query_classes.specs.Children.{AreChildren}
use Rattle.query_classes.specs.Rows.{tree_names}
use Rattle.query_classes.specs.declared.live_name.LiveName.{LiveName}
use Rattle.query_classes.specs.declared.tree.ClassRow.{ClassRow}
use Rattle.query_classes.proofs.TreeRows.{all_reversed, last_waits, names_of, walk_further}
use Rattle.query_classes.proofs.TreeWalk.{AreWalked, one_more, walk_begins}

-- the live name's places are its live set
abbrev pub IsLive : Ground → LiveName → Type 0
IsLive ground found = IsLiveSet ground found.name found.live

-- so many names were passed, which are those of some rows, and the other names wait, each with its live set
pub record ArePassed (ground : Ground) (count : ℕ) (waiting : List LiveName) : Type 0 where
  pub rows : List ClassRow
  pub so_many : length rows ≡ count
  pub walked : AreWalked ground [] (tree_names rows) (names_of waiting)
  pub live : All (IsLive ground) waiting

module _ (ground : Ground) (closed : IsClosed ground) where
  root_named : IsNamed ground []
  root_named = record { base = []; among = closed.names.root; reads = ([], refl) }

  -- at first the root waits
  pub none_passed : (first : LiveName) (none waiting : List LiveName) → first.name ≡ [] → IsLive ground first → none ≡ [] → waiting ≡ none ++ first ∷ []
      → ArePassed ground 0 waiting
  none_passed first none waiting root live empty waits =
      let only : waiting ≡ first ∷ [] = waits ∙ ap (λ (l : List LiveName). l ++ first ∷ []) empty in
      subst (ArePassed ground 0) (sym only) (record {
        rows = [];
        so_many = refl;
        walked = subst (λ (name : Labels). AreWalked ground [] [] (name ∷ [])) (sym root) (walk_begins ground closed [] root_named root_is_name);
        live = All-push (IsLive ground) [] first (All-nil (IsLive ground)) live;
      })

  module _ (count : ℕ) (waiting left : List LiveName) (next : LiveName) (passed : ArePassed ground count waiting) (is : waiting ≡ left ++ next ∷ []) where
    walked : AreWalked ground [] (tree_names passed.rows) (names_of left ++ next.name ∷ [])
    walked = last_waits ground [] (tree_names passed.rows) waiting left next is passed.walked

    -- the next name that waits has its live set
    pub next_is_live : IsLive ground next
    next_is_live = (All-pop (IsLive ground) waiting left (Some next) is passed.live).1

    -- where as many are passed as may be, there is one more
    pub has_more : (most : ℕ) → count ≡ most → HasMoreThan (IsInPart ground []) most
    has_more most full =
        one_more ground closed [] (tree_names passed.rows) (names_of left) next.name walked most
        (length-map passed.rows (λ (row : ClassRow). row.name) ∙ passed.so_many ∙ full)

    -- one name more is passed, and the names one label below it wait in its place
    pub one_passed : (below after : List LiveName) → AreChildren ground next.name (names_of below) → All (IsLive ground) below → after ≡ left ++ reverse below
        → ArePassed ground (count + 1) after
    one_passed below after children live now =
        let row : ClassRow = record { name = next.name; below = None } in
        subst (ArePassed ground (count + 1)) (sym now) (record {
          rows = passed.rows ++ row ∷ [];
          so_many = omega (arith, passed.so_many, length-append passed.rows (row ∷ []));
          walked = walk_further ground closed [] passed.rows left below next row refl walked children;
          live = All-append (IsLive ground) left (reverse below) (All-pop (IsLive ground) waiting left (Some next) is passed.live).0
              (all_reversed (IsLive ground) below live);
        })
