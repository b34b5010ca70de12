-- The text that is written of a part, piece by piece, is that of its report.
use Rattle.std.proofs.Common.{◌≡◌, ◌∙◌, ℕ, zero, suc, ◌+◌, ◌<◌, Bool, true, false, List, [], ◌∷◌, ◌++◌, length, map, take, get_or, codes, Option, refl, sym, ap, append_assoc, append-nil, arith}
use Rattle.std.specs.Prelude.{decimal}
use Rattle.std.proofs.lemmas.List.{take_more}
use Rattle.dns_data.specs.Name.{Labels}
use Rattle.graph_form.specs.declared.report.ReportEntry.{ReportEntry}
use Rattle.json.specs.Print.{escape_byte}
use Rattle.net_model.specs.declared.class.Class.{Class}
use Rattle.net_model.specs.declared.class.Class.TheVariants.{Exact, Below}
use Rattle.report_json.specs.Json.{json_items}
use Rattle.serde_json.specs.Written.{comma_if, compact_text, items_text}
use Rattle.part_form.specs.PartText.{ClassedEntry, WrittenPart, classed_value, part_text}
use Rattle.part_texts.specs.Writing.{AreOfPart, bound_text, classed_text, comma_before, entry_words, listed}
use Rattle.part_texts.specs.declared.writing.ClassedText.{ClassedText}
use Rattle.part_texts.specs.declared.writing.PartNumbers.{PartNumbers}

-- ---- entries, one after another

-- something stands before the end of the entries
abbrev stands_before : Bool → List ClassedText → Bool
stands_before later [] = later
stands_before later (entry ∷ entries) = true

before_end : (entries : List ClassedText) → stands_before true entries ≡ true
before_end [] = refl
before_end (entry ∷ entries) = refl

-- the texts of entries with one more
listed_with : (later : Bool) (entries : List ClassedText) (entry : ClassedText)
    → listed later (entries ++ entry ∷ []) ≡ listed later entries ++ (comma_if (stands_before later entries) ++ entry_words entry)
listed_with later [] entry = ap (λ (text : List ℕ). comma_if later ++ text) (append-nil (entry_words entry))
listed_with later (first ∷ entries) entry =
    ap (λ (text : List ℕ). comma_if later ++ (entry_words first ++ text))
    (listed_with true entries entry
    ∙ ap (λ (b : Bool). listed true entries ++ (comma_if b ++ entry_words entry)) (before_end entries))
    ∙ ap (λ (text : List ℕ). comma_if later ++ text) (sym (append_assoc (entry_words first) (listed true entries) (comma_if true ++ entry_words entry)))
    ∙ sym (append_assoc (comma_if later) (entry_words first ++ listed true entries) (comma_if true ++ entry_words entry))

-- what stands before a place is told by the place
comma_is : (entries : List ClassedText) (place : ℕ) → place < length entries → comma_if (stands_before false (take place entries)) ≡ comma_before place
comma_is [] place there = absurd (omega (arith, there))
comma_is (entry ∷ entries) zero there = refl
comma_is (entry ∷ entries) (suc place) there = refl

-- with the next entry the text of the entries so far goes on
pub next_listed : (before text with_comma after : List ℕ) (entries : List ClassedText) (place : ℕ) (entry : ClassedText)
    → place < length entries → entry ≡ get_or entries place entry → text ≡ before ++ (codes ",\"faults\":[" ++ listed false (take place entries))
    → with_comma ≡ text ++ comma_before place → after ≡ with_comma ++ entry_words entry
    → after ≡ before ++ (codes ",\"faults\":[" ++ listed false (take (place + 1) entries))
next_listed before text with_comma after entries place entry there is so_far comma words =
    let front = codes ",\"faults\":[" in
    let done = listed false (take place entries) in
    let next : listed false (take (place + 1) entries) ≡ done ++ (comma_before place ++ entry_words entry) =
    ap (listed false) (take_more entries place entry there ∙ ap (λ (e : ClassedText). take place entries ++ e ∷ []) (sym is))
    ∙ listed_with false (take place entries) entry
    ∙ ap (λ (c : List ℕ). done ++ (c ++ entry_words entry)) (comma_is entries place there) in
    words ∙ ap (λ (t : List ℕ). t ++ entry_words entry) (comma ∙ ap (λ (t : List ℕ). t ++ comma_before place) so_far)
    ∙ put_behind before front done (comma_before place) (entry_words entry)
    ∙ ap (λ (t : List ℕ). before ++ (front ++ t)) (sym next)
  where
    put_behind : (a b c d e : List ℕ) → ((a ++ (b ++ c)) ++ d) ++ e ≡ a ++ (b ++ (c ++ (d ++ e)))
    put_behind a b c d e = simp append_assoc

-- ---- the whole text

-- the text of an entry with its class is that of its value
entry_of : (class : Class) (entry : ReportEntry)
    → entry_words (classed_text (record { class = class; entry = entry })) ≡ compact_text (classed_value (record { class = class; entry = entry }))
unfolding escape_byte
entry_of (Exact name) entry = refl
entry_of (Below name) entry = refl

entry_written : (classed : ClassedEntry) → entry_words (classed_text classed) ≡ compact_text (classed_value classed)
entry_written classed = entry_of classed.class classed.entry

-- the texts of the entries, with the end of an array, are the text of the array's items
items_written : (later : Bool) (entries : List ClassedEntry) → listed later (map classed_text entries) ++ codes "]" ≡ items_text later (json_items (map classed_value entries))
items_written later [] = refl
items_written later (classed ∷ entries) =
    append_assoc (comma_if later) (entry_words (classed_text classed) ++ listed true (map classed_text entries)) (codes "]")
    ∙ ap (λ (text : List ℕ). comma_if later ++ text)
    (append_assoc (entry_words (classed_text classed)) (listed true (map classed_text entries)) (codes "]")
    ∙ ap (λ (text : List ℕ). text ++ (listed true (map classed_text entries) ++ codes "]")) (entry_written classed)
    ∙ ap (λ (text : List ℕ). compact_text (classed_value classed) ++ text) (items_written true entries))

-- the members of the report around the text of its entries
around : (part : WrittenPart)
    → (codes "{\"classes\":" ++ (decimal part.classes ++ (codes ",\"faults\":[" ++ (items_text false (json_items (map classed_value part.entries))
    ++ (codes ",\"from\":" ++ (bound_text part.from ++ (codes ",\"names\":" ++ (decimal part.names ++ (codes ",\"rewrites\":" ++ (decimal part.rewrites
    ++ (codes ",\"to\":" ++ (bound_text part.to ++ codes "}")))))))))))) ++ codes "\n" ≡ part_text part
unfolding escape_byte
around part = refl

-- the pieces in the order in which they are put
abbrev pub put_together : Option Labels → Option Labels → PartNumbers → List ClassedText → List ℕ
put_together from to numbers entries =
    (((((([] ++ (codes "{\"classes\":" ++ decimal numbers.classes)) ++ (codes ",\"faults\":[" ++ listed false entries)) ++ (codes "],\"from\":" ++ bound_text from))
    ++ (codes ",\"names\":" ++ decimal numbers.names)) ++ (codes ",\"rewrites\":" ++ decimal numbers.rewrites)) ++ (codes ",\"to\":" ++ bound_text to)) ++ codes "}\n"

in_order : (a b c list bracket d e f g h i j k brace feed : List ℕ)
    → (((((([] ++ (a ++ b)) ++ (c ++ list)) ++ ((bracket ++ d) ++ e)) ++ (f ++ g)) ++ (h ++ i)) ++ (j ++ k)) ++ (brace ++ feed)
    ≡ (a ++ (b ++ (c ++ ((list ++ bracket) ++ (d ++ (e ++ (f ++ (g ++ (h ++ (i ++ (j ++ (k ++ brace)))))))))))) ++ feed
in_order a b c list bracket d e f g h i j k brace feed = simp append_assoc

-- they are the text of the report
pub part_written : (from to : Option Labels) (numbers : PartNumbers) (entries : List ClassedText) (part : WrittenPart)
    → AreOfPart from to numbers entries part → put_together from to numbers entries ≡ part_text part
part_written from to numbers entries part of =
    rw (of.from_is, of.to_is, of.classes, of.names, of.rewrites, of.texts)
    (in_order (codes "{\"classes\":") (decimal part.classes) (codes ",\"faults\":[") (listed false (map classed_text part.entries)) (codes "]") (codes ",\"from\":") (bound_text part.from)
    (codes ",\"names\":") (decimal part.names) (codes ",\"rewrites\":") (decimal part.rewrites) (codes ",\"to\":") (bound_text part.to) (codes "}") (codes "\n")
    ∙ ap (λ (items : List ℕ). (codes "{\"classes\":" ++ (decimal part.classes ++ (codes ",\"faults\":[" ++ (items
    ++ (codes ",\"from\":" ++ (bound_text part.from ++ (codes ",\"names\":" ++ (decimal part.names ++ (codes ",\"rewrites\":" ++ (decimal part.rewrites
    ++ (codes ",\"to\":" ++ (bound_text part.to ++ codes "}")))))))))))) ++ codes "\n") (items_written false part.entries)
    ∙ around part)

-- what is put piece by piece is put together so
pub put_in_turn : (from to : Option Labels) (numbers : PartNumbers) (entries : List ClassedText) (t0 t1 t2 t3 t4 t5 t6 t7 : List ℕ)
    → t0 ≡ [] → t1 ≡ t0 ++ (codes "{\"classes\":" ++ decimal numbers.classes) → t2 ≡ t1 ++ (codes ",\"faults\":[" ++ listed false entries)
    → t3 ≡ t2 ++ (codes "],\"from\":" ++ bound_text from) → t4 ≡ t3 ++ (codes ",\"names\":" ++ decimal numbers.names)
    → t5 ≡ t4 ++ (codes ",\"rewrites\":" ++ decimal numbers.rewrites) → t6 ≡ t5 ++ (codes ",\"to\":" ++ bound_text to) → t7 ≡ t6 ++ codes "}\n"
    → t7 ≡ put_together from to numbers entries
put_in_turn from to numbers entries t0 t1 t2 t3 t4 t5 t6 t7 e0 e1 e2 e3 e4 e5 e6 e7 =
    e7 ∙ ap (λ (t : List ℕ). t ++ codes "}\n")
    (e6 ∙ ap (λ (t : List ℕ). t ++ (codes ",\"to\":" ++ bound_text to))
    (e5 ∙ ap (λ (t : List ℕ). t ++ (codes ",\"rewrites\":" ++ decimal numbers.rewrites))
    (e4 ∙ ap (λ (t : List ℕ). t ++ (codes ",\"names\":" ++ decimal numbers.names))
    (e3 ∙ ap (λ (t : List ℕ). t ++ (codes "],\"from\":" ++ bound_text from))
    (e2 ∙ ap (λ (t : List ℕ). t ++ (codes ",\"faults\":[" ++ listed false entries))
    (e1 ∙ ap (λ (t : List ℕ). t ++ (codes "{\"classes\":" ++ decimal numbers.classes)) e0))))))
