-- The first walk and the first pair of walks that show a fault, from the first paths that take a branch that shows it.
use Rattle.std.proofs.Common.{◌≡◌, ◌≢◌, ℕ, Bool, true, false, ◌&&◌, not, List, [], ◌∷◌, map, refl, sym, ap, ◌∙◌, subst, Some, None, true≢false}
use Rattle.std.specs.Prelude.{Option}
use Rattle.std.specs.Option.{option_map_or}
use Rattle.std.specs.Ordering.{nat_cmp, ordering_then}
use Rattle.std.specs.declared.cmp.Ordering.{Ordering}
use Rattle.std.specs.declared.cmp.Ordering.TheVariants.{Less, Equal, Greater}
use Rattle.std.proofs.lemmas.Bool.{and_parts, and_from}
use Rattle.std.proofs.lemmas.Map.Lookups.{exact_unsigned}
use Rattle.dns_data.specs.Name.{Labels}
use Rattle.dns_data.specs.declared.rr_type.RrType.{RrType}
use Rattle.dns_data.proofs.OrderedLists.{exact_lists}
use Rattle.net_model.specs.Shown.{is_authoritative, ShowsAnswers}
use Rattle.net_model.specs.Step.{Setting}
use Rattle.net_model.specs.Walk.{path_cmp}
use Rattle.net_model.specs.declared.class.Class.{Class}
use Rattle.net_model.specs.declared.fault.Fault.{Fault}
use Rattle.net_model.specs.declared.fault.Fault.TheVariants as faults
use Rattle.net_model.specs.declared.walk.Leaf.{Leaf}
use Rattle.net_model.specs.declared.walk.Walk.{Walk}
use Rattle.graph_form.specs.FirstPath.{IsFirstAlong, IsFirstWalk, answer_eq, branch_shows, is_new_answer, takes_along}
use Rattle.graph_form.specs.Graph.{PlainGraph, path_along}
use Rattle.graph_form.specs.GraphOf.{IsGraphOf}
use Rattle.graph_form.specs.Report.{paths_cmp}
use Rattle.graph_form.specs.Trails.{AreFirst, GraphShows, PathsTake, WalksTake}
use Rattle.graph_form.proofs.EqualAnswers.{same_answers, answer_itself}
use Rattle.graph_form.proofs.ShownBranches.{shows_takes, takes_shows, tells, walk_shows}
use Rattle.graph_form.proofs.Taking.{IsSingle, alone}
use Rattle.graph_form.proofs.TakenPaths.{takes_along_is}

-- two orders, one behind the other
not_less_then : (o p : Ordering) → o ≢ Less → (o ≡ Equal → p ≢ Less) → ordering_then o p ≢ Less
not_less_then Less p first second e = first refl
not_less_then Equal p first second e = second refl e
not_less_then Greater p first second e = cc

-- numbers that tie are the same
same_numbers : (a b : List ℕ) → path_cmp a b ≡ Equal → a ≡ b
same_numbers a b e = exact_lists nat_cmp exact_unsigned a b e

-- the paths of one walk, and of two
record OnePath (along : List ℕ → Option Walk) (paths : List (List ℕ)) (walk : Walk) : Type 0 where
  pub path : List ℕ
  pub paths_are : paths ≡ path ∷ []
  pub is : along path ≡ Some walk

one_path : (along : List ℕ → Option Walk) (paths : List (List ℕ)) (walk : Walk) → map along paths ≡ map Some (walk ∷ []) → OnePath along paths walk
one_path along [] walk e = cc
one_path along (path ∷ []) walk e = let is : along path ≡ Some walk = cc in record { path = path; paths_are = refl; is = is }
one_path along (path ∷ other ∷ paths) walk e = cc

record TwoPaths (along : List ℕ → Option Walk) (paths : List (List ℕ)) (one other : Walk) : Type 0 where
  pub first : List ℕ
  pub second : List ℕ
  pub paths_are : paths ≡ first ∷ second ∷ []
  pub is_first : along first ≡ Some one
  pub is_second : along second ≡ Some other

two_paths : (along : List ℕ → Option Walk) (paths : List (List ℕ)) (one other : Walk) → map along paths ≡ map Some (one ∷ other ∷ []) → TwoPaths along paths one other
two_paths along [] one other e = cc
two_paths along (path ∷ []) one other e = cc
two_paths along (path ∷ next ∷ []) one other e =
    let is_first : along path ≡ Some one = cc in
    let is_second : along next ≡ Some other = cc in
    record { first = path; second = next; paths_are = refl; is_first = is_first; is_second = is_second }
two_paths along (path ∷ next ∷ third ∷ paths) one other e = cc

module _ (setting : Setting) (query : Labels) (graph : PlainGraph) (rtype : RrType) (is : IsGraphOf setting query graph) where
  -- ---- paths of walks that show a fault by themselves

  same : (fault : Fault) (walks : List Walk) (numbers : List ℕ) (walk : Walk) → path_along graph rtype numbers ≡ Some walk
      → takes_along (branch_shows fault walks) graph rtype numbers ≡ walk_shows fault walks walk
  same fault walks numbers walk e =
      takes_along_is graph rtype (walk_shows fault walks) (branch_shows fault walks) (tells graph rtype setting query is fault walks) numbers
      ∙ ap (λ (one : Option Walk). option_map_or (walk_shows fault walks) one false) e

  takes : (fault : Fault) (walks : List Walk) (numbers : List ℕ) (walk : Walk) → path_along graph rtype numbers ≡ Some walk → walk_shows fault walks walk ≡ true
      → takes_along (branch_shows fault walks) graph rtype numbers ≡ true
  takes fault walks numbers walk e shows = same fault walks numbers walk e ∙ shows

  taken_by : (fault : Fault) (walks : List Walk) (numbers : List ℕ) (walk : Walk) → path_along graph rtype numbers ≡ Some walk
      → takes_along (branch_shows fault walks) graph rtype numbers ≡ true → walk_shows fault walks walk ≡ true
  taken_by fault walks numbers walk e so = sym (same fault walks numbers walk e) ∙ so

  -- numbers that take a branch that shows the fault are those of a walk
  pub whole_along : (fault : Fault) (walks : List Walk) (numbers : List ℕ) → takes_along (branch_shows fault walks) graph rtype numbers ≡ true
      → (walk : Walk) × (path_along graph rtype numbers ≡ Some walk)
  whole_along fault walks numbers so =
      by (path_along graph rtype numbers) refl
      (sym (takes_along_is graph rtype (walk_shows fault walks) (branch_shows fault walks) (tells graph rtype setting query is fault walks) numbers) ∙ so)
    where
      by : (found : Option Walk) → path_along graph rtype numbers ≡ found → option_map_or (walk_shows fault walks) found false ≡ true
          → (walk : Walk) × (path_along graph rtype numbers ≡ Some walk)
      by None is so = cc
      by (Some walk) is so = (walk, is)

  -- ---- one walk

  -- where the graph shows the fault, some path takes a branch that does
  single_shown : (fault : Fault) → IsSingle fault → GraphShows graph rtype fault
      → (numbers : List ℕ) × (takes_along (branch_shows fault []) graph rtype numbers ≡ true)
  single_shown fault single (paths, walks, shows) =
      let one = alone fault walks single shows.take in
      let path = one_path (path_along graph rtype) paths one.0 (shows.are_paths ∙ ap (map Some) one.1) in
      (path.path, takes fault [] path.path one.0 path.is (takes_shows fault one.0 single one.2))

  -- the first walk by a branch that shows a fault, other than differing answers, is the first that shows it
  pub first_single : (fault : Fault) (walk : Walk) → IsSingle fault → IsFirstWalk (branch_shows fault []) graph rtype walk
      → AreFirst graph rtype fault (walk ∷ [])
  first_single fault walk single (numbers, first, is_walk) =
      record {
        paths = numbers ∷ [];
        show = record { are_paths = ap (λ w. w ∷ []) is_walk; take = shows_takes fault walk single (taken_by fault [] numbers walk is_walk first.takes) };
        first = λ others walks shows. by others walks shows;
      }
    where
      by : (others : List (List ℕ)) (walks : List Walk) → PathsTake graph rtype fault others walks → paths_cmp others (numbers ∷ []) ≢ Less
      by others walks shows =
          let one = alone fault walks single shows.take in
          let path = one_path (path_along graph rtype) others one.0 (shows.are_paths ∙ ap (map Some) one.1) in
          subst (λ ps. paths_cmp ps (numbers ∷ []) ≢ Less) (sym path.paths_are)
          (not_less_then (path_cmp path.path numbers) Equal
          (first.first path.path (takes fault [] path.path one.0 path.is (takes_shows fault one.0 single one.2))) (λ tie e. cc))

  -- ---- a pair

  module _ (class : Class) (t : RrType) where
    abbrev differ : Fault
    differ = faults.Answers class t

    -- the leaf is one in which the walk doesn't end
    new_beside : (walk : Walk) (leaf : Leaf) → is_authoritative leaf ≡ true → walk.leaf ≢ leaf → is_new_answer (walk ∷ []) leaf ≡ true
    new_beside walk leaf told other =
        and_from (is_authoritative leaf) (not (answer_eq walk.leaf leaf) && true) told
        (and_from (not (answer_eq walk.leaf leaf)) true (by (answer_eq walk.leaf leaf) refl) refl)
      where
        by : (b : Bool) → answer_eq walk.leaf leaf ≡ b → not b ≡ true
        by true e = absurd (other (same_answers walk.leaf leaf e))
        by false e = refl

    differs : (walk : Walk) (leaf : Leaf) → is_new_answer (walk ∷ []) leaf ≡ true → walk.leaf ≢ leaf
    differs walk leaf new same =
        let parts = and_parts (is_authoritative leaf) (not (answer_eq walk.leaf leaf) && true) new in
        let fresh = (and_parts (not (answer_eq walk.leaf leaf)) true parts.1).0 in
        let equal : answer_eq walk.leaf leaf ≡ true = ap (λ (l : Leaf). answer_eq l leaf) same ∙ answer_itself leaf parts.0 in
        true≢false (sym fresh ∙ ap not equal)

    -- the walks of a pair
    record Pair (walks : List Walk) : Type 0 where
      pub one : Walk
      pub other : Walk
      pub walks_are : walks ≡ one ∷ other ∷ []
      pub shows : ShowsAnswers one other

    pair_of : (walks : List Walk) → WalksTake walks differ → Pair walks
    pair_of [] take = absurd take
    pair_of (one ∷ []) take = absurd take
    pair_of (one ∷ other ∷ []) take = record { one = one; other = other; walks_are = refl; shows = take }
    pair_of (one ∷ other ∷ third ∷ walks) take = absurd take

    told : (leaf : Leaf) → is_authoritative leaf ≡ true → is_new_answer [] leaf ≡ true
    told leaf e = and_from (is_authoritative leaf) true e refl

    -- where the graph shows differing answers, some path ends in one
    pair_shown : GraphShows graph rtype differ → (numbers : List ℕ) × (takes_along (branch_shows differ []) graph rtype numbers ≡ true)
    pair_shown (paths, walks, shows) =
        let pair = pair_of walks shows.take in
        let two = two_paths (path_along graph rtype) paths pair.one pair.other (shows.are_paths ∙ ap (map Some) pair.walks_are) in
        (two.first, takes differ [] two.first pair.one two.is_first (told pair.one.leaf pair.shows.first))

    other_by : (walk one other : Walk) (p q : List ℕ) → ShowsAnswers one other → path_along graph rtype p ≡ Some one → path_along graph rtype q ≡ Some other
        → (b : Bool) → answer_eq walk.leaf one.leaf ≡ b → (numbers : List ℕ) × (takes_along (branch_shows differ (walk ∷ [])) graph rtype numbers ≡ true)
    other_by walk one other p q shows is_one is_other false e = (
      p,
      takes differ (walk ∷ []) p one is_one
          (new_beside walk one.leaf shows.first (λ same. true≢false (sym (ap (λ (l : Leaf). answer_eq l one.leaf) same ∙ answer_itself one.leaf shows.first) ∙ e))),
    )
    other_by walk one other p q shows is_one is_other true e = (
      q,
      takes differ (walk ∷ []) q other is_other
          (new_beside walk other.leaf shows.second (λ same. shows.differ (sym (same_answers walk.leaf one.leaf e) ∙ same))),
    )

    -- if the graph shows differing answers, beside any walk some path ends in another answer
    pub other_shown : (walk : Walk) → GraphShows graph rtype differ
        → (numbers : List ℕ) × (takes_along (branch_shows differ (walk ∷ [])) graph rtype numbers ≡ true)
    other_shown walk (paths, walks, shows) =
        let pair = pair_of walks shows.take in
        let two = two_paths (path_along graph rtype) paths pair.one pair.other (shows.are_paths ∙ ap (map Some) pair.walks_are) in
        other_by walk pair.one pair.other two.first two.second pair.shows two.is_first two.is_second (answer_eq walk.leaf pair.one.leaf) refl

    module _ (one other : Walk) (numbers later : List ℕ) (first : IsFirstAlong (branch_shows differ []) graph rtype numbers)
        (second : IsFirstAlong (branch_shows differ (one ∷ [])) graph rtype later)
        (is_one : path_along graph rtype numbers ≡ Some one) (is_other : path_along graph rtype later ≡ Some other) where
      they_differ : ShowsAnswers one other
      they_differ =
          let taken : is_new_answer [] one.leaf ≡ true = taken_by differ [] numbers one is_one first.takes in
          let new : is_new_answer (one ∷ []) other.leaf ≡ true = taken_by differ (one ∷ []) later other is_other second.takes in
          record {
            first = (and_parts (is_authoritative one.leaf) true taken).0;
            second = (and_parts (is_authoritative other.leaf) (not (answer_eq one.leaf other.leaf) && true) new).0;
            differ = differs one other.leaf new;
          }

      -- where the first path of a pair is the first one, the second isn't before the second
      second_later : (a b : Walk) (p q : List ℕ) → ShowsAnswers a b → path_along graph rtype p ≡ Some a → path_along graph rtype q ≡ Some b
          → path_cmp p numbers ≡ Equal → path_cmp q later ≢ Less
      second_later a b p q shows is_a is_b tie =
          let found : path_along graph rtype numbers ≡ Some a = ap (path_along graph rtype) (sym (same_numbers p numbers tie)) ∙ is_a in
          let same : a ≡ one = cc in
          second.first q
          (takes differ (one ∷ []) q b is_b
          (new_beside one b.leaf shows.second (λ equal. shows.differ (ap (λ (w : Walk). w.leaf) same ∙ equal))))

      no_pair_before : (others : List (List ℕ)) (walks : List Walk) → PathsTake graph rtype differ others walks → paths_cmp others (numbers ∷ later ∷ []) ≢ Less
      no_pair_before others walks shows =
          let pair = pair_of walks shows.take in
          let two = two_paths (path_along graph rtype) others pair.one pair.other (shows.are_paths ∙ ap (map Some) pair.walks_are) in
          subst (λ ps. paths_cmp ps (numbers ∷ later ∷ []) ≢ Less) (sym two.paths_are)
          (not_less_then (path_cmp two.first numbers) (paths_cmp (two.second ∷ []) (later ∷ []))
          (first.first two.first (takes differ [] two.first pair.one two.is_first (told pair.one.leaf pair.shows.first)))
          (λ tie. not_less_then (path_cmp two.second later) Equal
          (second_later pair.one pair.other two.first two.second pair.shows two.is_first two.is_second tie) (λ tie_too e. cc)))

      are_first : AreFirst graph rtype differ (one ∷ other ∷ [])
      are_first =
          record {
            paths = numbers ∷ later ∷ [];
            show = record {
              are_paths = ap (λ w. w ∷ path_along graph rtype later ∷ []) is_one ∙ ap (λ w. Some one ∷ w ∷ []) is_other;
              take = they_differ;
            };
            first = no_pair_before;
          }

    -- the first walk that shows an answer, and then the first with another leaf, are the first pair that shows
    -- differing answers
    pub first_pair : (one other : Walk) → IsFirstWalk (branch_shows differ []) graph rtype one
        → IsFirstWalk (branch_shows differ (one ∷ [])) graph rtype other → AreFirst graph rtype differ (one ∷ other ∷ [])
    first_pair one other (numbers, first, is_one) (later, second, is_other) = are_first one other numbers later first second is_one is_other

  -- if the graph shows a fault, some path takes a branch that shows it
  pub some_path : (fault : Fault) → GraphShows graph rtype fault → (numbers : List ℕ) × (takes_along (branch_shows fault []) graph rtype numbers ≡ true)
  some_path (faults.Answers class t) shows = pair_shown class t shows
  some_path fault shows = single_shown fault (λ class t e. cc) shows
