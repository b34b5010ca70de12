-- How named and unnamed names, and the representatives of classes, are found by computing.
use Rattle.std.proofs.Common.{◌≡◌, inl, inr, ℕ, zero, suc, ◌≤◌, Bool, true, false, not, ◌&&◌, ◌||◌, List, [], ◌∷◌, ◌++◌, length, take, drop, map, refl, sym, ◌∙◌, ap, subst}
use Rattle.std.specs.Prelude.{Contains, nat_le, if◌then◌else◌}
use Rattle.std.specs.List.{list_any, list_all}
use Rattle.std.proofs.lemmas.Bool.{and_parts, or_cases, leb-true}
use Rattle.std.proofs.lemmas.List.{drop_at, take-append-drop}
use Rattle.std.proofs.lemmas.List.Folds.{list_all-map}
use Rattle.std.proofs.lemmas.Map.Views.{Contains-from_any}
use Rattle.dns_data.specs.Name.{Labels, name_eq, is_prefix, swap, is_among}
use Rattle.dns_data.proofs.Names.{name_eq_decides}
use Rattle.dns_data.proofs.Membership.{none_in_nil}
use Rattle.dns_data.proofs.NameFronts.{is_prefix_told}
use Rattle.dns_data.proofs.Searches.{each_of_all, from_any, any_has}
use Rattle.net_model.specs.declared.class.Class.TheVariants.{Exact, Below}
use Rattle.net_model.specs.Class.{IsClassOf}
use Rattle.net_model.specs.Prefix.{prefixes}
use Rattle.net_model.specs.Reading.{Redirection, ReadsOnce, ReadsAlong, Ground, IsNamed}

-- what every item passes, a listed one passes
passed_in : (test : Labels → Bool) (names : List Labels) (name : Labels) (here : Bool) (first : Labels)
    → here ≡ name_eq name first → (here || is_among names name) ≡ true → (test first && list_all test names) ≡ true
    → (is_among names name ≡ true → test name ≡ true) → test name ≡ true
passed_in test names name true first e h all later =
    let same : name ≡ first = (name_eq_decides name first).0 (sym e) in
    subst (λ (n : Labels). test n ≡ true) (sym same) (and_parts (test first) (list_all test names) all).0
passed_in test names name false first e h all later = later h

-- a listed name passes a test that every name of the list passes
pub passed : (test : Labels → Bool) (names : List Labels) (name : Labels) → is_among names name ≡ true → list_all test names ≡ true
    → test name ≡ true
passed test [] name h all = cc
passed test (first ∷ names) name h all =
    passed_in test names name (name_eq name first) first refl h all
    (λ later. passed test names name later (and_parts (test first) (list_all test names) all).1)

-- an item of a list of names is listed
pub is_listed : (names : List Labels) (name : Labels) → Contains names name → is_among names name ≡ true
is_listed names name has = any_has (name_eq name) names name has ((name_eq_decides name name).1 refl)

-- a name that is listed is an item of the list of names
pub from_listed : (names : List Labels) (name : Labels) → is_among names name ≡ true → Contains names name
from_listed names name = Contains-from_any (λ a b. (name_eq_decides a b).0) name names

-- a test that holds is not what decides
then_branch : (test : Bool) (one other : Bool) → test ≡ true → (if test then one else other) ≡ true → one ≡ true
then_branch true one other h e = e
then_branch false one other h e = cc

-- a name is its prefix with the rest behind it
rest_of : (above name : Labels) → is_prefix above name ≡ true → name ≡ above ++ drop (length above) name
rest_of above name h =
    let front : above ≡ take (length above) name = (name_eq_decides above (take (length above) name)).0 h in
    sym (ap (λ (xs : Labels). xs ++ drop (length above) name) front ∙ take-append-drop (length above) name)

-- the names into which a name reads once are listed
abbrev reads_within : List Redirection → List Labels → Labels → Bool
reads_within redirections names name =
    list_all (λ redirection. if is_prefix redirection.owner name
    then is_among names (swap name redirection.owner redirection.target)
    else true) redirections

-- the names are closed under readings, and none is a base name
abbrev pub unnamed_all : Ground → List Labels → Bool
unnamed_all ground names =
    list_all (λ name. reads_within ground.redirections names name && not (is_among ground.names name)) names

read_once : (redirections : List Redirection) (names : List Labels) (name next : Labels) → ReadsOnce redirections name next
    → reads_within redirections names name ≡ true → is_among names next ≡ true
read_once redirections names name next step within =
    let owner : Labels = step.redirection.owner in
    let target : Labels = step.redirection.target in
    let swapped : is_among names (swap name owner target) ≡ true =
    then_branch (is_prefix owner name) (is_among names (swap name owner target)) true (is_prefix_told owner name (step.below, sym step.before))
    (each_of_all _ redirections within step.redirection step.among) in
    let same : swap name owner target ≡ next =
    ap (λ (n : Labels). target ++ drop (length owner) n) step.before
    ∙ ap (λ (n : Labels). target ++ n) (drop_at owner step.below (length owner) refl) ∙ sym step.after in
    subst (λ (n : Labels). is_among names n ≡ true) same swapped

read_along : (ground : Ground) (names : List Labels) → unnamed_all ground names ≡ true → (between : List Labels) (name last : Labels)
    → is_among names name ≡ true → ReadsAlong ground.redirections name between last → is_among names last ≡ true
read_along ground names all [] name last h is = subst (λ (n : Labels). is_among names n ≡ true) is h
read_along ground names all (next ∷ rest) name last h (once, later) =
    read_along ground names all rest next last
    (read_once ground.redirections names name next once
    (and_parts (reads_within ground.redirections names name) (not (is_among ground.names name)) (passed _ names name h all)).0)
    later

-- a test and its opposite don't both hold
pub not_both : (b : Bool) → b ≡ true → not b ≡ true → ⊥
not_both true h k = cc
not_both false h k = cc

-- a name of a list that is closed under readings, and has no base name, isn't named
pub unnamed : (ground : Ground) (names : List Labels) (name : Labels) → unnamed_all ground names ≡ true → is_among names name ≡ true
    → IsNamed ground name → ⊥
unnamed ground names name all h named =
    let last : is_among names named.base ≡ true =
    read_along ground names all named.reads.0 name named.base h named.reads.1 in
    not_both (is_among ground.names named.base) (is_listed ground.names named.base named.among)
    (and_parts (reads_within ground.redirections names named.base) (not (is_among ground.names named.base)) (passed _ names named.base last all)).1

-- the name is a base name, or so many readings at most lead from it to one
abbrev pub named_within : ℕ → Ground → Labels → Bool
named_within zero ground name = is_among ground.names name
named_within (suc depth) ground name =
    is_among ground.names name
    || list_any (λ redirection. is_prefix redirection.owner name
    && named_within depth ground (swap name redirection.owner redirection.target)) ground.redirections

named_as_base : (ground : Ground) (name : Labels) → is_among ground.names name ≡ true → IsNamed ground name
named_as_base ground name h =
    record { base = name; among = from_listed ground.names name h; reads = ([], refl) }

-- a name is named if the name that a redirection makes of it is named
pub one_reading_more : (ground : Ground) (name : Labels) (redirection : Redirection) → Contains ground.redirections redirection
    → is_prefix redirection.owner name ≡ true → IsNamed ground (swap name redirection.owner redirection.target) → IsNamed ground name
one_reading_more ground name redirection among begins named =
    record {
      base = named.base;
      among = named.among;
      reads = (
        swap name redirection.owner redirection.target ∷ named.reads.0,
        (
          record {
            redirection = redirection;
            among = among;
            below = drop (length redirection.owner) name;
            before = rest_of redirection.owner name begins;
            after = refl;
          },
          named.reads.1,
        ),
      );
    }

by_reading : (depth : ℕ) (ground : Ground) (name : Labels)
    → ((n : Labels) → named_within depth ground n ≡ true → IsNamed ground n)
    → (redirection : Redirection) × Contains ground.redirections redirection
    × ((is_prefix redirection.owner name && named_within depth ground (swap name redirection.owner redirection.target)) ≡ true)
    → IsNamed ground name
by_reading depth ground name deeper (redirection, among, h) =
    one_reading_more ground name redirection among (and_parts (is_prefix redirection.owner name) _ h).0
    (deeper _ (and_parts (is_prefix redirection.owner name) _ h).1)

-- a name from which so many readings at most lead to a base name is named
pub named : (depth : ℕ) (ground : Ground) (name : Labels) → named_within depth ground name ≡ true → IsNamed ground name
named zero ground name h = named_as_base ground name h
named (suc depth) ground name h =
    elim (or_cases (is_among ground.names name) _ h) [
      | inl base ↦ named_as_base ground name base
      | inr reads ↦ by_reading depth ground name (λ n k. named depth ground n k) (from_any _ ground.redirections reads)
    ]

-- what all prefixes of a name pass, one of them passes
prefix_passes : (test : Labels → Bool) (above below : Labels) → list_all test (prefixes (above ++ below)) ≡ true → test above ≡ true
prefix_passes test [] [] h = (and_parts (test []) true h).0
prefix_passes test [] (label ∷ below) h = (and_parts (test []) _ h).0
prefix_passes test (label ∷ above) below h =
    prefix_passes (λ (name : Labels). test (label ∷ name)) above below
    (sym (list_all-map test (λ (name : Labels). label ∷ name) (prefixes (above ++ below)))
    ∙ (and_parts (test []) (list_all test (map (λ (name : Labels). label ∷ name) (prefixes (above ++ below)))) h).1)

-- a named name is alone in its class
pub class_of_named : (depth : ℕ) (ground : Ground) (name : Labels) → named_within depth ground name ≡ true → IsClassOf ground name (Exact name)
class_of_named depth ground name h = (refl, named depth ground name h)

not_longer : (ground : Ground) (names : List Labels) (above longer : Labels) → unnamed_all ground names ≡ true
    → (nat_le (length longer) (length above) || is_among names longer) ≡ true → IsNamed ground longer → length longer ≤ length above
not_longer ground names above longer all h is_named =
    elim (or_cases (nat_le (length longer) (length above)) (is_among names longer) h) [
      | inl short ↦ leb-true (length longer) (length above) short
      | inr unread ↦ absurd (unnamed ground names longer all unread is_named)
    ]

-- the name and its prefixes longer than a named one are among unnamed names
abbrev pub longer_unnamed : Ground → List Labels → Labels → Labels → Bool
longer_unnamed ground names above name =
    unnamed_all ground names && is_among names name
    && list_all (λ prefix. nat_le (length prefix) (length above) || is_among names prefix) (prefixes name)

-- if a name and all its prefixes longer than a named one are among unnamed names, it is in the class below the named
-- one
pub class_below : (depth : ℕ) (ground : Ground) (names : List Labels) (above below : Labels) → named_within depth ground above ≡ true
    → longer_unnamed ground names above (above ++ below) ≡ true → IsClassOf ground (above ++ below) (Below above)
class_below depth ground names above below h k =
    let both : (unnamed_all ground names && is_among names (above ++ below)) ≡ true = (and_parts (unnamed_all ground names && is_among names (above ++ below)) _ k).0 in
    let all : unnamed_all ground names ≡ true = (and_parts (unnamed_all ground names) (is_among names (above ++ below)) both).0 in (
      unnamed ground names (above ++ below) all (and_parts (unnamed_all ground names) (is_among names (above ++ below)) both).1,
      record {
        below = below;
        prefix = refl;
        named = named depth ground above h;
        longest = λ longer rest e. not_longer ground names above longer all
            (prefix_passes (λ prefix. nat_le (length prefix) (length above) || is_among names prefix) longer rest
            (subst (λ (n : Labels). list_all (λ prefix. nat_le (length prefix) (length above) || is_among names prefix) (prefixes n) ≡ true) e
            (and_parts (unnamed_all ground names && is_among names (above ++ below)) _ k).1));
      },
    )

-- ---- grounds without redirections

-- without redirections a name reads on to itself alone
reads_itself : (redirections : List Redirection) → redirections ≡ [] → (name : Labels) (between : List Labels) (last : Labels)
    → ReadsAlong redirections name between last → name ≡ last
reads_itself redirections none name [] last e = e
reads_itself redirections none name (next ∷ rest) last (once, on) =
    absurd (none_in_nil once.redirection (subst (λ (rs : List Redirection). Contains rs once.redirection) none once.among))

-- the named names of a ground without redirections are its own names
pub named_among : (ground : Ground) → ground.redirections ≡ [] → (name : Labels) → IsNamed ground name → Contains ground.names name
named_among ground none name is =
    subst (Contains ground.names) (sym (reads_itself ground.redirections none name is.reads.0 is.base is.reads.1)) is.among

-- each name of a ground is named
pub among_named : (ground : Ground) (name : Labels) → Contains ground.names name → IsNamed ground name
among_named ground name has = record { base = name; among = has; reads = ([], refl) }
