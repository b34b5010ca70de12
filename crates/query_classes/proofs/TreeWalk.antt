-- A walk down the class tree from a name: the names passed, in order, and those that wait, the next one last.
use Rattle.std.proofs.Common.{◌≡◌, ◌∙◌, ℕ, ◌⊎◌, true, List, [], ◌∷◌, ◌++◌, length, reverse, get_or, Contains, AllPairs, Ordering, Less, Equal, Greater, inl, inr, sym, refl, ap, subst, append_assoc, append-nil, arith}
use Rattle.std.specs.Ordering.{ordering_then}
use Rattle.std.proofs.lemmas.List.{length-append, reverse-append}
use Rattle.std.proofs.lemmas.List.Elements.{recursion_from_All, Contains-append_left, Contains-append_right, Contains-append_cases}
use Rattle.dns_data.specs.Label.{label_cmp}
use Rattle.dns_data.specs.Name.{Labels, IsName, is_prefix, name_cmp}
use Rattle.dns_data.proofs.Membership.{none_in_nil, has_first, first_or_later, all_from_contains, pairs_first, pairs_rest}
use Rattle.dns_data.proofs.NameFronts.{Begins, begins_itself, is_prefix_tells, is_prefix_told}
use Rattle.dns_data.proofs.NameOrder.{Before, Rising, names_total, same_labels, under_label, pairs_from_rising, rising_append}
use Rattle.dns_data.proofs.Names.{prefix_is_name}
use Rattle.dns_data.proofs.OrderedLists.{never_before_itself}
use Rattle.net_model.specs.Reading.{Ground, IsNamed}
use Rattle.net_model.specs.Tree.{IsInPart, IsTreePart, HasMoreThan}
use Rattle.label_graph.specs.LiveSet.{IsClosed}
use Rattle.label_graph.proofs.LiveNames.{prefix_is_named}
use Rattle.query_classes.specs.Children.{AreChildren, IsInTree}

-- the first name stands before the second, and doesn't begin it: so does each name below the first
pub record StandsApart (a b : Labels) : Type 0 where
  pub before : Before a b
  pub apart : Begins a b → ⊥

-- a name stands before those one label below
before_below : (above : Labels) (label : List ℕ) → Before above (above ++ label ∷ [])
before_below [] label = refl
before_below (x ∷ above) label = under_label x above (above ++ label ∷ []) ∙ before_below above label

-- what is below a name that stands before another and doesn't begin it stands before that too
below_before : (a below b : Labels) → Before a b → (Begins a b → ⊥) → Before (a ++ below) b
below_before [] below b before apart = absurd (apart (b, refl))
below_before (x ∷ a) below [] before apart = cc
below_before (x ∷ a) below (y ∷ b) before apart = by (label_cmp x y) refl before (below_before a below b) where
  by : (o : Ordering) → label_cmp x y ≡ o → ordering_then o (name_cmp a b) ≡ Less → (Before a b → (Begins a b → ⊥) → Before (a ++ below) b)
      → ordering_then o (name_cmp (a ++ below) b) ≡ Less
  by Less e h rest = refl
  by Equal e h rest =
      rest h (λ (more, is). apart (more, ap (λ (l : Labels). x ∷ l) is ∙ ap (λ (l : List ℕ). l ∷ b) (same_labels x y e)))
  by Greater e h rest = cc

below_apart : (a below b : Labels) → StandsApart a b → StandsApart (a ++ below) b
below_apart a below b is =
    record {
      before = below_before a below b is.before is.apart;
      apart = λ (more, same). is.apart (below ++ more, sym (append_assoc a below more) ∙ same);
    }

-- each name of the list stands apart from those before it
abbrev Falls : List Labels → Type 0
Falls [] = Unit {0}
Falls (name ∷ names) = ((later : Labels) → Contains names later → StandsApart later name) × Falls names

falls_append : (xs ys : List Labels) → Falls xs → Falls ys
    → ((x y : Labels) → Contains xs x → Contains ys y → StandsApart y x) → Falls (xs ++ ys)
falls_append [] ys h k across = k
falls_append (x ∷ xs) ys h k across = (
  λ later has. elim (Contains-append_cases xs ys later has) [
    | inl here ↦ h.0 later here
    | inr there ↦ across x later (has_first x xs) there
  ],
  falls_append xs ys h.1 k (λ a b has there. across a b (Contains-append_right (x ∷ []) xs a has) there),
)

-- the list without its last name, and how that name stands to the others
falls_front : (xs : List Labels) (y : Labels) → Falls (xs ++ y ∷ []) → Falls xs × ((x : Labels) → Contains xs x → StandsApart y x)
falls_front [] y h = (tt, λ x has. absurd (none_in_nil x has))
falls_front (x ∷ xs) y h =
    let rest = falls_front xs y h.1 in (
      (λ later has. h.0 later (Contains-append_left xs (y ∷ []) later has), rest.0),
      λ z has. elim (first_or_later x xs z has) [
        | inl same ↦ subst (StandsApart y) same (h.0 y (Contains-append_right xs (y ∷ []) y (has_first y [])))
        | inr later ↦ rest.1 z later
      ],
    )

-- a list turned round has the same items
pub reverse_first : {X : Type 0} (x : X) (xs : List X) → reverse (x ∷ xs) ≡ reverse xs ++ x ∷ []
reverse_first x xs = reverse-append (x ∷ []) xs

reverse_has : {X : Type 0} (xs : List X) (x : X) → Contains xs x → Contains (reverse xs) x
reverse_has [] x has = absurd (none_in_nil x has)
reverse_has {X} (y ∷ xs) x has =
    subst (λ (l : List X). Contains l x) (sym (reverse_first y xs))
    (elim (first_or_later y xs x has) [
      | inl same ↦ Contains-append_right (reverse xs) (y ∷ []) x (subst (Contains (y ∷ [])) same (has_first y []))
      | inr later ↦ Contains-append_left (reverse xs) (y ∷ []) x (reverse_has xs x later)
    ])

-- a list turned round has no items but those of the list
pub from_reverse : {X : Type 0} (xs : List X) (x : X) → Contains (reverse xs) x → Contains xs x
from_reverse [] x has = absurd (none_in_nil x has)
from_reverse {X} (y ∷ xs) x has =
    elim (Contains-append_cases (reverse xs) (y ∷ []) x (subst (λ (l : List X). Contains l x) (reverse_first y xs) has)) [
      | inl later ↦ Contains-append_right (y ∷ []) xs x (from_reverse xs x later)
      | inr first ↦ Contains-append_left (y ∷ []) xs x first
    ]

-- names one label below one name, in order: turned round, each stands apart from those before it
siblings_apart : (above : Labels) (a b : List ℕ) → Before (above ++ a ∷ []) (above ++ b ∷ []) → StandsApart (above ++ a ∷ []) (above ++ b ∷ [])
siblings_apart above a b before = record { before = before; apart = λ (more, is). apart more is } where
  apart : (more : Labels) → (above ++ a ∷ []) ++ more ≡ above ++ b ∷ [] → ⊥
  apart [] is =
      never_before_itself name_cmp names_total (above ++ b ∷ [])
      (subst (λ (n : Labels). Before n (above ++ b ∷ [])) (sym (append-nil (above ++ a ∷ [])) ∙ is) before)
  apart (x ∷ more) is =
      absurd (omega (arith, ap length is, length-append (above ++ a ∷ []) (x ∷ more), length-append above (a ∷ []), length-append above (b ∷ [])))

children_fall : (above : Labels) (names : List Labels) → AllPairs Before names
    → ((name : Labels) → Contains names name → (label : List ℕ) × (name ≡ above ++ label ∷ [])) → Falls (reverse names)
children_fall above [] order one = tt
children_fall above (name ∷ names) order one =
    subst Falls (sym (reverse_first name names))
    (falls_append (reverse names) (name ∷ [])
    (children_fall above names (pairs_rest Before name names order) (λ n has. one n (Contains-append_right (name ∷ []) names n has)))
    (λ later has. absurd (none_in_nil later has), tt) across)
  where
    across : (x y : Labels) → Contains (reverse names) x → Contains (name ∷ []) y → StandsApart y x
    across x y later first =
        let among : Contains names x = from_reverse names x later in
        let (a, is) = one name (has_first name names) in
        let (b, also) = one x (Contains-append_right (name ∷ []) names x among) in
        let same : name ≡ y = elim (first_or_later name [] y first) [ inl e ↦ e | inr none ↦ absurd (none_in_nil y none) ] in
        let before : Before name x = pairs_first Before name names order x among in
        subst (λ (n : Labels). StandsApart n x) same
        (subst (λ (n : Labels). StandsApart n x) (sym is)
        (subst (StandsApart (above ++ a ∷ [])) (sym also)
        (siblings_apart above a b (subst (λ (n : Labels). Before n (above ++ b ∷ [])) is (subst (Before name) also before)))))

-- what is below a name at or below another is so too
part_below : (above name below : Labels) → is_prefix above name ≡ true → is_prefix above (name ++ below) ≡ true
part_below above name below is =
    let (rest, e) = is_prefix_tells above name is in
    is_prefix_told above (name ++ below) (rest ++ below, sym (append_assoc above rest below) ∙ ap (λ (n : Labels). n ++ below) e)

-- the names passed are in order, those that wait come behind them, and each name of the part of the tree at or below the
-- name is passed or at or below one that waits
pub record AreWalked (ground : Ground) (from : Labels) (passed waiting : List Labels) : Type 0 where
  pub in_part : (name : Labels) → Contains passed name → IsInPart ground from name
  pub waits_in_part : (name : Labels) → Contains waiting name → IsInPart ground from name
  pub order : Rising passed
  pub across : (a b : Labels) → Contains passed a → Contains waiting b → Before a b
  pub apart : Falls waiting
  pub all : (name : Labels) → IsInPart ground from name → Contains passed name ⊎ ((above : Labels) × Contains waiting above × Begins above name)

-- what a list of one item has is that item
pub only : {X : Type 0} (x y : X) → Contains (x ∷ []) y → x ≡ y
only x y has = elim (first_or_later x [] y has) [ inl same ↦ same | inr none ↦ absurd (none_in_nil y none) ]

module _ (ground : Ground) (closed : IsClosed ground) (from : Labels) where
  -- at first the name waits
  pub walk_begins : IsNamed ground from → IsName from → AreWalked ground from [] (from ∷ [])
  walk_begins named is =
      record {
        in_part = λ name has. absurd (none_in_nil name has);
        waits_in_part = λ name has. subst (IsInPart ground from) (only from name has) (record { named = named; is_name = is; within = begins_itself from });
        order = tt;
        across = λ a b has there. absurd (none_in_nil a has);
        apart = (λ later has. absurd (none_in_nil later has), tt);
        all = λ name in_part. inr (from, has_first from [], is_prefix_tells from name in_part.within);
      }

  -- at or below a name that isn't named the class tree has no name
  pub walk_of_none : (IsNamed ground from → ⊥) → AreWalked ground from [] []
  walk_of_none unnamed =
      record {
        in_part = λ name has. absurd (none_in_nil name has);
        waits_in_part = λ name has. absurd (none_in_nil name has);
        order = tt;
        across = λ a b has there. absurd (none_in_nil a has);
        apart = tt;
        all = λ name in_part.
            let (below, e) = is_prefix_tells from name in_part.within in
            absurd (unnamed (prefix_is_named ground closed from below (subst (IsNamed ground) (sym e) in_part.named)));
      }

  module _ (passed waiting : List Labels) (next : Labels) (walked : AreWalked ground from passed (waiting ++ next ∷ [])) where
    next_waits : Contains (waiting ++ next ∷ []) next
    next_waits = Contains-append_right waiting (next ∷ []) next (has_first next [])

    -- the next name that waits is in the part of the class tree
    pub next_in_part : IsInPart ground from next
    next_in_part = walked.waits_in_part next next_waits

    order_more : Rising (passed ++ next ∷ [])
    order_more =
        rising_append passed (next ∷ []) walked.order (λ later has. absurd (none_in_nil later has), tt)
        (λ a b has there. subst (Before a) (only next b there) (walked.across a next has next_waits))

    in_part_more : (name : Labels) → Contains (passed ++ next ∷ []) name → IsInPart ground from name
    in_part_more name has =
        elim (Contains-append_cases passed (next ∷ []) name has) [
          | inl old ↦ walked.in_part name old
          | inr new ↦ subst (IsInPart ground from) (only next name new) next_in_part
        ]

    -- the walk goes on with the names one label below the next name in its place
    pub walk_on : (below : List Labels) → AreChildren ground next below → AreWalked ground from (passed ++ next ∷ []) (waiting ++ reverse below)
    walk_on below children =
        record {
          in_part = in_part_more;
          waits_in_part = λ name has. elim (Contains-append_cases waiting (reverse below) name has) [
            | inl old ↦ walked.waits_in_part name (Contains-append_left waiting (next ∷ []) name old)
            | inr new ↦ (
                let (is, (label, one_below)) = (children.all name).0 (from_reverse below name new) in
                record {
                  named = is.0;
                  is_name = is.1;
                  within = subst (λ (n : Labels). is_prefix from n ≡ true) (sym one_below) (part_below from next (label ∷ []) next_in_part.within);
                })
          ];
          order = order_more;
          across = across_more;
          apart = falls_append waiting (reverse below) front.0 (children_fall next below children.ordered (λ n has. ((children.all n).0 has).1))
              (λ x y has new. (let (label, is) = one y new in subst (λ (n : Labels). StandsApart n x) (sym is) (below_apart next (label ∷ []) x (front.1 x has))));
          all = all_more;
        }
      where
        front : Falls waiting × ((x : Labels) → Contains waiting x → StandsApart next x)
        front = falls_front waiting next walked.apart

        one : (y : Labels) → Contains (reverse below) y → (label : List ℕ) × (y ≡ next ++ label ∷ [])
        one y new = ((children.all y).0 (from_reverse below y new)).1

        next_before : (b : Labels) → Contains (waiting ++ reverse below) b → Before next b
        next_before b there =
            elim (Contains-append_cases waiting (reverse below) b there) [
              | inl old ↦ (let is : StandsApart next b = front.1 b old in is.before)
              | inr new ↦ (let (label, is) = one b new in subst (Before next) (sym is) (before_below next label))
            ]

        across_more : (a b : Labels) → Contains (passed ++ next ∷ []) a → Contains (waiting ++ reverse below) b → Before a b
        across_more a b has there =
            elim (Contains-append_cases passed (next ∷ []) a has) [
              | inl old ↦ names_total.trans a next b (walked.across a next old next_waits) (next_before b there)
              | inr new ↦ subst (λ (n : Labels). Before n b) (only next a new) (next_before b there)
            ]

        at_next : (name : Labels) (more : Labels) → next ++ more ≡ name → IsInPart ground from name
            → Contains (passed ++ next ∷ []) name ⊎ ((above : Labels) × Contains (waiting ++ reverse below) above × Begins above name)
        at_next name [] is in_part =
            inl (Contains-append_right passed (next ∷ []) name (subst (Contains (next ∷ [])) (sym (append-nil next) ∙ is) (has_first next [])))
        at_next name (label ∷ rest) is in_part =
            let whole : (next ++ label ∷ []) ++ rest ≡ name = append_assoc next (label ∷ []) rest ∙ is in
            let child : IsInTree ground (next ++ label ∷ []) = (
              prefix_is_named ground closed (next ++ label ∷ []) rest (subst (IsNamed ground) (sym whole) in_part.named),
              prefix_is_name (next ++ label ∷ []) name rest whole in_part.is_name,
            ) in
            inr (
              next ++ label ∷ [],
              Contains-append_right waiting (reverse below) (next ++ label ∷ [])
                  (reverse_has below (next ++ label ∷ []) ((children.all (next ++ label ∷ [])).1 (child, (label, refl)))),
              (rest, whole),
            )

        all_more : (name : Labels) → IsInPart ground from name
            → Contains (passed ++ next ∷ []) name ⊎ ((above : Labels) × Contains (waiting ++ reverse below) above × Begins above name)
        all_more name in_part =
            elim (walked.all name in_part) [
              | inl old ↦ inl (Contains-append_left passed (next ∷ []) name old)
              | inr (above, has, begins) ↦ elim (Contains-append_cases waiting (next ∷ []) above has) [
                | inl old ↦ inr (above, Contains-append_left waiting (reverse below) above old, begins)
                | inr new ↦ at_next name begins.0 (ap (λ (n : Labels). n ++ begins.0) (only next above new) ∙ begins.1) in_part
              ]
            ]

    -- where as many names are passed as may be, there is one more
    pub one_more : (most : ℕ) → length passed ≡ most → HasMoreThan (IsInPart ground from) most
    one_more most full =
        record {
          items = passed ++ next ∷ [];
          more = omega (arith, full, length-append passed (next ∷ []));
          differ = λ i j d before within same. never_before_itself name_cmp names_total (get_or (passed ++ next ∷ []) j d)
              (subst (λ (n : Labels). Before n (get_or (passed ++ next ∷ []) j d)) same (pairs_from_rising (passed ++ next ∷ []) order_more i j d before within));
          each = recursion_from_All (IsInPart ground from) (passed ++ next ∷ []) (all_from_contains (IsInPart ground from) (passed ++ next ∷ []) in_part_more);
        }

  -- if no name waits, the names passed are the part of the class tree
  pub walk_ends : (passed : List Labels) → AreWalked ground from passed [] → IsTreePart ground from passed
  walk_ends passed walked =
      record {
        ordered = pairs_from_rising passed walked.order;
        all = λ name. (
          walked.in_part name,
          λ is. elim (walked.all name is) [ inl has ↦ has | inr (above, has, begins) ↦ absurd (none_in_nil above has) ],
        );
      }
