-- Metadata whose rows are read one after another: what is read so far, and a turn more.
use Rattle.std.proofs.Common.{◌≡◌, ℕ, ◌+◌, ◌-◌, ◌<◌, ◌≤◌, false, cond, List, [], ◌∷◌, ◌++◌, length, Option, Some, None, Result, Ok, Err, option_map, option_and_then, ok_or, if◌then◌else◌, nat_lt, refl, sym, ap, subst, ◌∙◌, arith, codes, append-nil, Bor}
use Rattle.std.specs.Option.{option_copied}
use Rattle.std.specs.Ordering.{nat_cmp, match_ordering, is_eq}
use Rattle.std.specs.Cmp.Lexicographic.{slice_cmp}
use Rattle.std.specs.Str.{IsUtf8}
use Rattle.std.specs.declared.cmp.Ordering.{Ordering}
use Rattle.std.specs.declared.cmp.Ordering.TheVariants.{Less, Equal, Greater}
use Rattle.std.proofs.lemmas.Bool.Decides.{nat_tests}
use Rattle.std.proofs.lemmas.List.{length-append}
use Rattle.std.proofs.lemmas.Map.Lookups.{exact_bytes}
use Rattle.json.specs.Lex.{tokens}
use Rattle.json.specs.Token.{Token}
use Rattle.json.specs.Json as json
use Rattle.json.specs.Json.{Json, Parse, parse_map, after_end_array, read_key, items, members, value, if_last}
use Rattle.json.specs.Print.{print}
use Rattle.json.specs.Tree.{json_tokens, depth, HasNumbers}
use Rattle.json.proofs.Grammar.{items_end, items_more, members_end, members_more, value-begin_array, value-begin_object}
use Rattle.json.proofs.Printed.Tokens.{tokens-print}
use Rattle.json.proofs.Printed.Trees.{value-json_tokens, ArePrintable-json_tokens}
use Rattle.serde_json.specs.Data.{Data, array, object, Items, no_items, item, Members, no_members, member, put}
use Rattle.serde_json.specs.Find.{get_member, as_array}
use Rattle.serde_json.specs.Read.{of_json, of_items, of_members, read}
use Rattle.serde_json.specs.View.{view, items_of}
use Rattle.serde_json.specs.declared.value.Value.{Value}
use Rattle.dns_data.specs.Answers.{◌>>=◌}
use Rattle.meta_read.specs.Names.{each}
use Rattle.meta_read.specs.RowByRow.{ReadsValue, ReadsRows, ReadsMembers, ReadsAs, AreRows, HoldsRows, Represents, with_rows}
use Rattle.meta_read.specs.Members.{values_of}
use Rattle.meta_read.specs.Metadata.{metadata_within, metadata_in, first_unhosted, unless_unhosted}
use Rattle.meta_read.specs.Rows.{read_row, rows_of}
use Rattle.meta_read.specs.Tops.{tops_of}
use Rattle.meta_read.specs.declared.fault.MetaFault.{MetaFault}
use Rattle.meta_read.specs.declared.fault.MetaFault.TheVariants.{NotJson, Shape, TooManyRows}
use Rattle.meta_read.specs.declared.meta.MetaRow.{MetaRow}
use Rattle.meta_read.specs.declared.row_by_row.FoundMembers.{FoundMembers}
use Rattle.meta_read.proofs.Values.{value_of-read, values_of-items_of}

-- the text of a value of this depth reads as that value's data
pub read-print : (one : Json) → HasNumbers one → depth one ≤ 127 → read (print (json_tokens one)) ≡ of_json one
read-print one numbers shallow =
    ap (λ found. option_and_then of_json (option_and_then (λ p. if_last p.0 p.1) found))
    (ap (value 127) (tokens-print (json_tokens one) (ArePrintable-json_tokens one numbers) ∙ sym (append-nil (json_tokens one)))
    ∙ value-json_tokens one 127 [] shallow)

parse_map-twice : {A B D : Type 0} (f : A → B) (g : B → D) (r : Option (A × List Token)) → parse_map g (parse_map f r) ≡ parse_map (λ a. g (f a)) r
parse_map-twice f g None = refl
parse_map-twice f g (Some p) = refl

-- ---- rows

-- these values, and then those of a list
abbrev pub data_before : List Data → Items → Items
data_before [] rest = rest
data_before (value ∷ values) rest = item value (data_before values rest)

-- before no others they are the values themselves
pub data_before-none : (values : List Data) → data_before values no_items ≡ items_of values
data_before-none [] = refl
data_before-none (value ∷ values) = ap (item value) (data_before-none values)

data_before-push : (values : List Data) (datum : Data) (rest : Items)
    → data_before values (item datum rest) ≡ data_before (values ++ datum ∷ []) rest
data_before-push [] datum rest = refl
data_before-push (value ∷ values) datum rest = ap (item value) (data_before-push values datum rest)

each-push : (number : ℕ) (values : List Data) (rows : List MetaRow) (datum : Data) (row : MetaRow)
    → each read_row number values ≡ Ok rows → read_row (number + length values) datum ≡ Ok row
    → each read_row number (values ++ datum ∷ []) ≡ Ok (rows ++ row ∷ [])
each-push number [] rows datum row so last =
    let none : [] ≡ rows = cc in
    let here : read_row number datum ≡ Ok row = subst (λ n. read_row n datum ≡ Ok row) (omega arith) last in
    ap (λ said. said >>= (λ first. each read_row (number + 1) [] >>= (λ rest. Ok (first ∷ rest)))) here ∙ ap (λ done. Ok (done ++ row ∷ [])) none
each-push number (value ∷ values) rows datum row so last =
    by_first (λ more here. each-push (number + 1) values more datum row here (subst (λ n. read_row n datum ≡ Ok row) (omega arith) last)) (read_row number value) refl so
  where
    by_rest : ((more : List MetaRow) → each read_row (number + 1) values ≡ Ok more → each read_row (number + 1) (values ++ datum ∷ []) ≡ Ok (more ++ row ∷ []))
        → (first : MetaRow) (rest : Result (List MetaRow) MetaFault) → each read_row (number + 1) values ≡ rest → (rest >>= (λ more. Ok (first ∷ more))) ≡ Ok rows
        → (each read_row (number + 1) (values ++ datum ∷ []) >>= (λ more. Ok (first ∷ more))) ≡ Ok (rows ++ row ∷ [])
    by_rest behind first (Ok more) here is =
        let e : first ∷ more ≡ rows = cc in
        ap (λ said. said >>= (λ all. Ok (first ∷ all))) (behind more here) ∙ ap (λ all. Ok (all ++ row ∷ [])) e
    by_rest behind first (Err fault) here is = absurd cc

    by_first : ((more : List MetaRow) → each read_row (number + 1) values ≡ Ok more → each read_row (number + 1) (values ++ datum ∷ []) ≡ Ok (more ++ row ∷ []))
        → (first : Result MetaRow MetaFault) → read_row number value ≡ first → (first >>= (λ one. each read_row (number + 1) values >>= (λ rest. Ok (one ∷ rest)))) ≡ Ok rows
        → (read_row number value >>= (λ one. each read_row (number + 1) (values ++ datum ∷ []) >>= (λ rest. Ok (one ∷ rest)))) ≡ Ok (rows ++ row ∷ [])
    by_first behind (Ok one) here is =
        ap (λ said. said >>= (λ first. each read_row (number + 1) (values ++ datum ∷ []) >>= (λ rest. Ok (first ∷ rest)))) here
        ∙ by_rest behind one (each read_row (number + 1) values) refl is
    by_first behind (Err fault) here is = absurd cc

-- the rows so far, of a list that begins at the first tokens, and the tokens that are left
pub record RowsSoFar (start left : List Token) (number : ℕ) (rows : List MetaRow) : Type 0 where
  pub turns : ℕ
  pub list : json.Items → json.Items
  pub values : List Data
  pub enough : length left ≤ turns
  pub reads : items (value 125) (length start) start ≡ parse_map list (items (value 125) turns left)
  pub converts : (rest : json.Items) (datum : Items) → of_items rest ≡ Some datum → of_items (list rest) ≡ Some (data_before values datum)
  pub are_rows : each read_row 1 values ≡ Ok rows
  pub many : length values ≡ number

-- before the first row
pub no_row : (start : List Token) → RowsSoFar start start 0 []
no_row start = record {
  turns = length start;
  list = λ rest. rest;
  values = [];
  enough = omega arith;
  reads = by (items (value 125) (length start) start);
  converts = λ rest datum is. is;
  are_rows = refl;
  many = refl;
} where
  by : (r : Option (json.Items × List Token)) → r ≡ parse_map (λ rest. rest) r
  by None = refl
  by (Some p) = refl

-- a row more, which the next tokens are
pub one_more_row : (start left after : List Token) (number : ℕ) (rows : List MetaRow) (one : Json) (datum : Data) (row : MetaRow)
    → RowsSoFar start left number rows → after_end_array left ≡ None → value 125 left ≡ Some (one, after)
    → of_json one ≡ Some datum → read_row (number + 1) datum ≡ Ok row → length after < length left
    → RowsSoFar start after (number + 1) (rows ++ row ∷ [])
one_more_row start left after number rows one datum row so going reads is_data is_row shorter = record {
  turns = so.turns - 1;
  list = λ rest. so.list (json.item one rest);
  values = so.values ++ datum ∷ [];
  enough = omega (arith, so.enough);
  reads =
      so.reads ∙ ap (parse_map so.list) (items_more (value 125) so.turns left after one (omega (arith, so.enough)) going reads)
      ∙ parse_map-twice (json.item one) so.list (items (value 125) (so.turns - 1) after);
  converts = λ rest all is.
      so.converts (json.item one rest) (item datum all)
      (ap (option_and_then (λ first. option_map (item first) (of_items rest))) is_data ∙ ap (option_map (item datum)) is)
      ∙ ap (λ found. Some found) (data_before-push so.values datum all);
  are_rows = each-push 1 so.values rows datum row so.are_rows (subst (λ n. read_row n datum ≡ Ok row) (omega (arith, so.many)) is_row);
  many = omega (arith, so.many, length-append so.values (datum ∷ []));
}

-- the rows of a whole list
pub all_rows : (start left after : List Token) (number most : ℕ) (rows : List MetaRow) → RowsSoFar start left number rows
    → after_end_array left ≡ Some after → number ≤ most → ReadsRows most start after rows
all_rows start left after number most rows so ends few = (
  so.list json.no_items,
  so.values,
  so.reads ∙ ap (parse_map so.list) (items_end (value 125) so.turns left after so.enough ends),
  so.converts json.no_items no_items refl ∙ ap (λ found. Some found) (data_before-none so.values),
  so.are_rows,
  omega (arith, so.many, few),
)

-- a list of rows, with its first bracket
pub list_of_rows : (start after : List Token) (most : ℕ) (rows : List MetaRow) → ReadsRows most start after rows
    → (datum : Data) × ReadsValue 126 (Token.begin_array ∷ start) after datum × AreRows most rows datum
list_of_rows start after most rows so = (
  array (items_of so.1),
  (
    json.array so.0,
    value-begin_array 126 start (omega arith) ∙ ap (parse_map json.array) so.2,
    ap (option_map array) so.3,
  ),
  (so.1, refl, so.4, so.5),
)

-- ---- members

Greater≢Equal : Greater ≡ Equal → ⊥
Greater≢Equal e = absurd cc

-- what stands at a key after something was put at one
pub get-put : (key other : List ℕ) (datum : Data) (all : Members)
    → get_member key (put other datum all) ≡ cond (is_eq (slice_cmp nat_cmp key other)) (Some datum) (get_member key all)
get-put key other datum no_members = by (slice_cmp nat_cmp key other) where
  by : (order : Ordering) → match_ordering order None (Some datum) None ≡ cond (is_eq order) (Some datum) None
  by Less = refl
  by Equal = refl
  by Greater = refl
get-put key other datum (member first old all) = by (get-put key other datum all) (slice_cmp nat_cmp other first) refl where
  pick : (order : Ordering) (rest : Option Data) → match_ordering order rest (Some datum) rest ≡ cond (is_eq order) (Some datum) rest
  pick Less rest = refl
  pick Equal rest = refl
  pick Greater rest = refl

  at_first : (order : Ordering) → slice_cmp nat_cmp key first ≡ order → slice_cmp nat_cmp other first ≡ Equal
      → match_ordering order (get_member key all) (Some datum) (get_member key all)
      ≡ cond (is_eq order) (Some datum) (match_ordering order (get_member key all) (Some old) (get_member key all))
  at_first Less e same = refl
  at_first Equal e same = refl
  at_first Greater e same = refl

  behind : get_member key (put other datum all) ≡ cond (is_eq (slice_cmp nat_cmp key other)) (Some datum) (get_member key all)
      → (order : Ordering) → slice_cmp nat_cmp key first ≡ order → slice_cmp nat_cmp other first ≡ Greater
      → match_ordering order (get_member key (put other datum all)) (Some old) (get_member key (put other datum all))
      ≡ cond (is_eq (slice_cmp nat_cmp key other)) (Some datum) (match_ordering order (get_member key all) (Some old) (get_member key all))
  behind rest Less e more = rest
  behind rest Greater e more = rest
  behind rest Equal e more = by_order (slice_cmp nat_cmp key other) refl where
    by_order : (order : Ordering) → slice_cmp nat_cmp key other ≡ order → Some old ≡ cond (is_eq order) (Some datum) (Some old)
    by_order Less same = refl
    by_order Greater same = refl
    by_order Equal same = absurd (Greater≢Equal (sym more ∙ ap (λ name. slice_cmp nat_cmp name first) (sym (exact_bytes key other same)) ∙ e))

  by : get_member key (put other datum all) ≡ cond (is_eq (slice_cmp nat_cmp key other)) (Some datum) (get_member key all)
      → (order : Ordering) → slice_cmp nat_cmp other first ≡ order
      → get_member key (match_ordering order (member other datum (member first old all)) (member first datum all) (member first old (put other datum all)))
      ≡ cond (is_eq (slice_cmp nat_cmp key other)) (Some datum) (get_member key (member first old all))
  by rest Less e = pick (slice_cmp nat_cmp key other) (get_member key (member first old all))
  by rest Equal e =
      subst
      (λ name. match_ordering (slice_cmp nat_cmp key first) (get_member key all) (Some datum) (get_member key all)
      ≡ cond (is_eq (slice_cmp nat_cmp key name)) (Some datum) (match_ordering (slice_cmp nat_cmp key first) (get_member key all) (Some old) (get_member key all)))
      (sym (exact_bytes other first e)) (at_first (slice_cmp nat_cmp key first) refl e)
  by rest Greater e = behind rest (slice_cmp nat_cmp key first) refl e

-- what stands at another key stays
get-put-other : (key other : List ℕ) (datum : Data) (all : Members) → (key ≡ other → ⊥)
    → get_member key (put other datum all) ≡ get_member key all
get-put-other key other datum all apart =
    get-put key other datum all ∙ ap (λ same. cond same (Some datum) (get_member key all)) (by (slice_cmp nat_cmp key other) refl)
  where
    by : (order : Ordering) → slice_cmp nat_cmp key other ≡ order → is_eq order ≡ false
    by Less e = refl
    by Greater e = refl
    by Equal e = absurd (apart (exact_bytes key other e))

-- what is found once rows stand at `ZoneFiles`
pub rows_put : (most : ℕ) (found : FoundMembers) (rows : List MetaRow) (datum : Data) (before : Members)
    → AreRows most rows datum → Represents most found before
    → Represents most (record found { rows = Some rows }) (put (codes "ZoneFiles") datum before)
rows_put most found rows datum before are so = (
  get-put (codes "TopNameServers") (codes "ZoneFiles") datum before ∙ so.0,
  (datum, get-put (codes "ZoneFiles") (codes "ZoneFiles") datum before, are),
)

-- what is found once a value stands at `TopNameServers`
pub tops_put : (most : ℕ) (found : FoundMembers) (value : Value) (before : Members) → Represents most found before
    → Represents most (record found { tops = Some value }) (put (codes "TopNameServers") (view value) before)
tops_put most found value before so = (
  get-put (codes "TopNameServers") (codes "TopNameServers") (view value) before,
  subst (HoldsRows most found.rows) (sym (get-put (codes "ZoneFiles") (codes "TopNameServers") (view value) before)) so.1,
)

-- a value at any other key changes nothing of what is found
pub other_put : (most : ℕ) (found : FoundMembers) (key : List ℕ) (datum : Data) (before : Members)
    → (key ≡ codes "ZoneFiles" → ⊥) → (key ≡ codes "TopNameServers" → ⊥) → Represents most found before
    → Represents most found (put key datum before)
other_put most found key datum before no_rows no_tops so = (
  get-put-other (codes "TopNameServers") key datum before (λ same. no_tops (sym same)) ∙ so.0,
  subst (HoldsRows most found.rows) (sym (get-put-other (codes "ZoneFiles") key datum before (λ same. no_rows (sym same)))) so.1,
)

-- what is found so far, of members that begin at the first tokens, and the tokens that are left
pub record MembersSoFar (most : ℕ) (start left : List Token) (found : FoundMembers) : Type 0 where
  pub turns : ℕ
  pub list : json.Members → json.Members
  pub before : Members
  pub enough : length left ≤ turns
  pub reads : members (value 126) (length start) start ≡ parse_map list (members (value 126) turns left)
  pub converts : (rest : json.Members) → of_members (list rest) no_members ≡ of_members rest before
  pub represents : Represents most found before

-- before the first member
pub no_member : (most : ℕ) (start : List Token) (found : FoundMembers) → Represents most found no_members
    → MembersSoFar most start start found
no_member most start found represents = record {
  turns = length start;
  list = λ rest. rest;
  before = no_members;
  enough = omega arith;
  reads = by (members (value 126) (length start) start);
  converts = λ rest. refl;
  represents = represents;
} where
  by : (r : Option (json.Members × List Token)) → r ≡ parse_map (λ rest. rest) r
  by None = refl
  by (Some p) = refl

-- a member more, which the next tokens are
pub one_more_member : (most : ℕ) (start left behind after : List Token) (old new : FoundMembers) (key : List ℕ) (datum : Data)
    → MembersSoFar most start left old → read_key left ≡ Some (Some key, behind) → ReadsValue 126 behind after datum
    → ((before : Members) → Represents most old before → Represents most new (put key datum before))
    → length behind < length left → length after < length behind → MembersSoFar most start after new
one_more_member most start left behind after old new key datum so is_key reads represents shorter less = record {
  turns = so.turns - 1;
  list = λ rest. so.list (json.member key reads.0 rest);
  before = put key datum so.before;
  enough = omega (arith, so.enough);
  reads =
      so.reads ∙ ap (parse_map so.list) (members_more (value 126) so.turns key left behind after reads.0 (omega (arith, so.enough)) is_key reads.1)
      ∙ parse_map-twice (json.member key reads.0) so.list (members (value 126) (so.turns - 1) after);
  converts = λ rest. so.converts (json.member key reads.0 rest) ∙ ap (option_and_then (λ one. of_members rest (put key one so.before))) reads.2;
  represents = represents so.before so.represents;
}

-- the members of a whole object
pub all_members : (most : ℕ) (start left after : List Token) (found : FoundMembers) → MembersSoFar most start left found
    → read_key left ≡ Some (None, after) → ReadsMembers most start after found
all_members most start left after found so ends = (
  so.list json.no_members,
  so.before,
  so.reads ∙ ap (parse_map so.list) (members_end (value 126) so.turns left after so.enough ends),
  so.converts json.no_members,
  so.represents,
)

-- octets of which nothing is left behind the members of an object are that object's text
pub whole_object : (most : ℕ) (octets : List ℕ) (start : List Token) (found : FoundMembers) → IsUtf8 octets
    → tokens octets ≡ Token.begin_object ∷ start → ReadsMembers most start [] found → ReadsAs most octets found
whole_object most octets start found utf8 opens so = (
  so.1,
  value_of-read octets (object so.1) utf8
      (ap (λ ts. option_and_then of_json (option_and_then (λ p. if_last p.0 p.1) (value 127 ts))) opens
      ∙ ap (λ read. option_and_then of_json (option_and_then (λ p. if_last p.0 p.1) read)) (value-begin_object 127 start (omega arith) ∙ ap (parse_map json.object) so.2)
      ∙ ap (option_map object) so.3),
  so.4,
)

-- ---- the metadata

-- what a value means is the same where it is lent
pub view_copied : (lent : Option (Bor Value))
    → option_map (λ value. view value.now) lent ≡ option_map view (option_copied lent)
view_copied None = refl
view_copied (Some value) = refl

rows_read : (most : ℕ) (all : Members) (rows : List MetaRow)
    → HoldsRows most (Some rows) (get_member (codes "ZoneFiles") all) → rows_of most (object all) ≡ Ok rows
rows_read most all rows (found, at, (values, is, are, few)) =
    let check : List Data → Result (List MetaRow) MetaFault = λ list. if nat_lt most (length list) then Err TooManyRows else each read_row 1 list in
    let enough : nat_lt most (length values) ≡ false = grind (arith, nat_tests, few) in
    ap (λ one. ok_or (option_map values_of (option_and_then as_array one)) (Shape 0) >>= check) (at ∙ ap (λ one. Some one) is)
    ∙ ap check (values_of-items_of values)
    ∙ ap (λ many. if many then Err TooManyRows else each read_row 1 values) enough
    ∙ are

-- the metadata of octets in which rows are found
pub by_rows : (most : ℕ) (octets : List ℕ) (found : FoundMembers) (rows : List MetaRow) → ReadsAs most octets found
    → found.rows ≡ Some rows → metadata_within most octets ≡ with_rows rows (option_map view found.tops)
by_rows most octets found rows so is =
    ap (λ one. ok_or one NotJson >>= metadata_in most) so.1
    ∙ ap (λ said. tops_of (object so.0) >>= (λ tops. said >>= (λ rows. unless_unhosted (first_unhosted tops rows) (record { tops = tops; rows = rows }))))
    (rows_read most so.0 rows (subst (λ one. HoldsRows most one (get_member (codes "ZoneFiles") so.0)) is so.2.1))
    ∙ ap (with_rows rows) so.2.0
