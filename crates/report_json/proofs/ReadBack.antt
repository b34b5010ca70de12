-- The compact text of a plain value is read as that value, and so is what serde_json writes of it.
use Rattle.std.proofs.Common.{◌≡◌, ◌↔◌, ℕ, ◌≤◌, suc, List, [], ◌++◌, Some, option_map, option_and_then, refl, sym, ap, ◌∙◌, append-nil, false, codes}
use Rattle.std.specs.Prelude.{⊤}
use Rattle.json.specs.Lex.{tokens}
use Rattle.json.specs.Json as json
use Rattle.json.specs.Tree as tree
use Rattle.json.proofs.Printed.Decimals.{IsNumber-decimal}
use Rattle.json.proofs.Printed.Tokens.{tokens-print}
use Rattle.json.proofs.Printed.Trees.{value-json_tokens, ArePrintable-json_tokens}
use Rattle.serde_json.specs.Data.{unsigned, negative, float, Data, null, boolean, number, string, array, object, Items, no_items, item, Members, no_members, member, put, depth, items_depth, members_depth}
use Rattle.serde_json.specs.Read.{read, max_depth, of_json, of_items, of_members}
use Rattle.serde_json.specs.Written.{compact_text, outline, items_outline, members_outline, has_float, items_have_float, members_have_float}
use Rattle.serde_json.proofs.Numbers.{number_of-decimal}
use Rattle.serde_json.proofs.Texts.{print-outline}
use Rattle.report_json.specs.Plain.{NamesAreAbove, IsPlain, ArePlain, MembersPlain, IsWritten}
use Rattle.report_json.proofs.LineFeed.{tokens_before_line_feed}

-- numbers that are printed are numbers
mutual
  has_numbers : (d : Data) → IsPlain d → tree.HasNumbers (outline d)
  has_numbers null h = tt
  has_numbers (boolean b) h = tt
  has_numbers (number (unsigned n)) h = IsNumber-decimal n h
  has_numbers (number (negative z)) h = absurd h
  has_numbers (number (float x)) h = absurd h
  has_numbers (string s) h = tt
  has_numbers (array ds) h = items_have ds h
  has_numbers (object ms) h = members_have ms h

  items_have : (ds : Items) → ArePlain ds → tree.ItemsHaveNumbers (items_outline ds)
  items_have no_items h = tt
  items_have (item d ds) h = (has_numbers d h.0, items_have ds h.1)

  members_have : (ms : Members) → MembersPlain ms → tree.MembersHaveNumbers (members_outline ms)
  members_have no_members h = tt
  members_have (member k d ms) h = (has_numbers d h.1, members_have ms h.2)

-- the outline is as deep as the value
mutual
  as_deep : (d : Data) → tree.depth (outline d) ≡ depth d
  as_deep null = refl
  as_deep (boolean b) = refl
  as_deep (number n) = refl
  as_deep (string s) = refl
  as_deep (array ds) = ap suc (items_as_deep ds)
  as_deep (object ms) = ap suc (members_as_deep ms)

  items_as_deep : (ds : Items) → tree.items_depth (items_outline ds) ≡ items_depth ds
  items_as_deep no_items = refl
  items_as_deep (item d ds) = rw (as_deep d, items_as_deep ds) refl

  members_as_deep : (ms : Members) → tree.members_depth (members_outline ms) ≡ members_depth ms
  members_as_deep no_members = refl
  members_as_deep (member k d ms) = rw (as_deep d, members_as_deep ms) refl

-- ---- members go in one after another

-- members behind others
abbrev joined : Members → Members → Members
joined no_members ms = ms
joined (member k d more) ms = member k d (joined more ms)

joined_none : (ms : Members) → joined ms no_members ≡ ms
joined_none no_members = refl
joined_none (member k d ms) = ap (member k d) (joined_none ms)

joined_last : (found : Members) (k : List ℕ) (d : Data) (ms : Members) → joined (joined found (member k d no_members)) ms ≡ joined found (member k d ms)
joined_last no_members k d ms = refl
joined_last (member l e found) k d ms = ap (member l e) (joined_last found k d ms)

-- each member of the first is below all of the second
abbrev AllBelow : Members → Members → Type 0
AllBelow no_members ms = ⊤
AllBelow (member k d found) ms = NamesAreAbove k ms × AllBelow found ms

below_rest : (found : Members) (k : List ℕ) (d : Data) (ms : Members) → AllBelow found (member k d ms) → AllBelow found ms
below_rest no_members k d ms h = tt
below_rest (member l e found) k d ms h = (h.0.1, below_rest found k d ms h.1)

below_more : (found : Members) (k : List ℕ) (d : Data) (ms : Members) → AllBelow found ms → NamesAreAbove k ms → AllBelow (joined found (member k d no_members)) ms
below_more no_members k d ms h above = (above, tt)
below_more (member l e found) k d ms h above = (h.0, below_more found k d ms h.1 above)

put_behind : (found : Members) (k : List ℕ) (d : Data) (ms : Members) → AllBelow found (member k d ms) → put k d found ≡ joined found (member k d no_members)
put_behind no_members k d ms h = refl
put_behind (member l e found) k d ms h = rw h.0.0 (ap (member l e) (put_behind found k d ms h.1))

mutual
  back : (d : Data) → IsPlain d → of_json (outline d) ≡ Some d
  back null h = refl
  back (boolean b) h = refl
  back (number (unsigned n)) h = ap (option_map number) (number_of-decimal n h)
  back (number (negative z)) h = absurd h
  back (number (float x)) h = absurd h
  back (string s) h = refl
  back (array ds) h = ap (option_map array) (items_back ds h)
  back (object ms) h = ap (option_map object) (members_back ms no_members h tt)

  items_back : (ds : Items) → ArePlain ds → of_items (items_outline ds) ≡ Some ds
  items_back no_items h = refl
  items_back (item d ds) h = rw (back d h.0, items_back ds h.1) refl

  members_back : (ms found : Members) → MembersPlain ms → AllBelow found ms → of_members (members_outline ms) found ≡ Some (joined found ms)
  members_back no_members found h below = ap Some (sym (joined_none found))
  members_back (member k d ms) found h below =
      ap (option_and_then (λ e. of_members (members_outline ms) (put k e found))) (back d h.1)
      ∙ ap (of_members (members_outline ms)) (put_behind found k d ms below)
      ∙ members_back ms (joined found (member k d no_members)) h.2 (below_more found k d ms (below_rest found k d ms below) h.0)
      ∙ ap Some (joined_last found k d ms)

-- a text of the tokens of a plain value is read as that value
read_by_tokens : (value : Data) (text : List ℕ) → IsPlain value → depth value ≤ max_depth → tokens text ≡ tree.json_tokens (outline value)
    → read text ≡ Some value
read_by_tokens value text plain shallow same =
    let j = outline value in
    let whole : json.value max_depth (tokens text) ≡ Some (j, []) =
    ap (json.value max_depth) (same ∙ sym (append-nil (tree.json_tokens j))) ∙ value-json_tokens j max_depth [] (rw (as_deep value) shallow) in
    ap (λ o. option_and_then of_json (option_and_then (λ p. json.if_last p.0 p.1) o)) whole ∙ back value plain

-- the compact text of a plain value that isn't nested too deep reads as the value
pub reads_back : (value : Data) → IsPlain value → depth value ≤ max_depth → read (compact_text value) ≡ Some value
reads_back value plain shallow =
    let j = outline value in
    read_by_tokens value (compact_text value) plain shallow
    (ap tokens (sym (print-outline value)) ∙ tokens-print (tree.json_tokens j) (ArePrintable-json_tokens j (has_numbers value plain)))

-- the compact text of a plain value that isn't nested too deep, with a line feed behind it, reads as the value
pub line_reads_back : (value : Data) → IsPlain value → depth value ≤ max_depth → read (compact_text value ++ codes "\n") ≡ Some value
line_reads_back value plain shallow =
    let j = outline value in
    read_by_tokens value (compact_text value ++ codes "\n") plain shallow
    (ap (λ s. tokens (s ++ codes "\n")) (sym (print-outline value))
    ∙ tokens_before_line_feed (tree.json_tokens j) (ArePrintable-json_tokens j (has_numbers value plain)))

-- a plain value has no float
mutual
  -- a plain value has no float
  pub no_float : (d : Data) → IsPlain d → has_float d ≡ false
  no_float null h = refl
  no_float (boolean b) h = refl
  no_float (number (unsigned n)) h = refl
  no_float (number (negative z)) h = absurd h
  no_float (number (float x)) h = absurd h
  no_float (string s) h = refl
  no_float (array ds) h = items_no_float ds h
  no_float (object ms) h = members_no_float ms h

  -- a list of plain values has no float
  pub items_no_float : (ds : Items) → ArePlain ds → items_have_float ds ≡ false
  items_no_float no_items h = refl
  items_no_float (item d ds) h = rw (no_float d h.0, items_no_float ds h.1) refl

  members_no_float : (ms : Members) → MembersPlain ms → members_have_float ms ≡ false
  members_no_float no_members h = refl
  members_no_float (member k d ms) h = rw (no_float d h.1, members_no_float ms h.2) refl

-- what serde_json writes of a value is the compact text of a plain one exactly where they are one value
pub one_text : (value said : Data) (text : List ℕ) → IsPlain said → depth said ≤ max_depth → IsWritten value text
    → (text ≡ compact_text said) ↔ (value ≡ said)
one_text value said text plain shallow written = (
  (λ same. one_value (sym written.reads_back ∙ ap read same ∙ reads_back said plain shallow)),
  (λ same. written.compact (ap has_float same ∙ no_float said plain) ∙ ap compact_text same),
)
  where
    one_value : Some value ≡ Some said → value ≡ said
    one_value e = cc

-- a plain value is written as its compact text
pub plain_written : (value : Data) → IsPlain value → depth value ≤ max_depth → IsWritten value (compact_text value)
plain_written value plain shallow = record { reads_back = reads_back value plain shallow; compact = λ whole. refl }
