-- Each record entry of the files that are opened is counted once, and so is each file.
use Rattle.std.proofs.Common.{◌≡◌, ℕ, zero, suc, ◌+◌, ◌<◌, ◌≤◌, Bool, true, false, not, nat_le, List, [], ◌∷◌, ◌++◌, length, take, cond, option_to_list, refl, sym, ap, ◌∙◌, append_assoc, if◌then◌else◌, Option, Some, None, add-one, add-zero, arith}
use Rattle.std.specs.Prelude.{Result, Ok, Err}
use Rattle.std.specs.List.{flat_map}
use Rattle.std.proofs.lemmas.Bool.Decides.{nat_tests}
use Rattle.std.proofs.Math.Seq.{take-append_seam}
use Rattle.std.proofs.lemmas.List.{length-append}
use Rattle.dns_data.specs.Answers.{◌>>=◌}
use Rattle.dns_data.specs.Name.{Labels}
use Rattle.master_lex.specs.Contents.{text_entries, text_fault}
use Rattle.master_lex.specs.declared.entry.Entry.{Entry}
use Rattle.master_lex.specs.declared.fault.LexFault.{LexFault}
use Rattle.master_read.specs.Context.{under, back_at}
use Rattle.master_read.specs.Directives.{Directive, Sets, Includes, is_directive, directive_of}
use Rattle.master_read.specs.Entries.{Made, record_of}
use Rattle.master_read.specs.ZoneText.{Unread, Faulty, Asks, Progress, Effect, Leaves, Opens, Include, no_records, in_context, at, said_by, with_made, effect_of, with_effect, with_entry, with_entries, ended, with_rest, with_include, with_next_text, one_included, included, most_levels, zone_text_of, zone_text, record_entries, opened_record_entries}
use Rattle.master_read.specs.declared.context.Context.{Context}
use Rattle.master_read.specs.declared.fault.TextCause.{TextCause}
use Rattle.master_read.specs.declared.fault.TextCause.TheVariants.{TooMany, TooManyIncludes}
use Rattle.master_read.specs.declared.fault.TextFault.TheVariants.{At}
use Rattle.master_read.specs.declared.records.ReadLimits.{ReadLimits}
use Rattle.master_read.specs.declared.records.Records.{Records}
use Rattle.master_read.specs.declared.zone_text.ZoneText.{ZoneText}

-- where two steps are done, each of them is
pub both_steps : {A B F : Type 0} (first : Result A F) (next : A → Result B F) (b : B) → (first >>= next) ≡ Ok b → (a : A) × ((first ≡ Ok a) × (next a ≡ Ok b))
both_steps (Ok a) next b e = (a, (refl, e))
both_steps (Err fault) next b e = absurd cc

-- a step that fails, or the next
data Failed {A B F : Type 0} (first : Result A F) (next : A → Result B F) (fault : F) : Type 0 where
  at_first : first ≡ Err fault → Failed first next fault
  at_next : (a : A) → first ≡ Ok a → next a ≡ Err fault → Failed first next fault

which : {A B F : Type 0} (first : Result A F) (next : A → Result B F) (fault : F) → (first >>= next) ≡ Err fault → Failed first next fault
which (Ok a) next fault e = at_next a refl e
which (Err other) next fault e = at_first (let is : other ≡ fault = cc in ap Err is)

-- a step at a line that is done is done
pub at_ok : {T : Type 0} (file line : ℕ) (step : Result T TextCause) (value : T) → at file line step ≡ Ok value → step ≡ Ok value
at_ok file line (Ok other) value e = let is : other ≡ value = cc in ap Ok is
at_ok file line (Err cause) value e = absurd cc

at_asks : {T : Type 0} (file line : ℕ) (step : Result T TextCause) (name : List ℕ) → at file line step ≡ Err (Asks name) → ⊥
at_asks file line (Ok other) name e = cc
at_asks file line (Err cause) name e = cc

-- the record entries of texts
abbrev counted : List (List ℕ) → List Entry
counted texts = flat_map (λ text. record_entries (text_entries text)) texts

-- how many records an entry is
abbrev count_of : Bool → ℕ
count_of true = 0
count_of false = 1

-- What stands between two points of reading: so many record entries of files that were open before, and the files that
-- were opened. The limits hold behind them where they did before.
record Counts (limits : ReadLimits) (before : Progress) (count : ℕ) (behind : Progress) : Type 0 where
  used : List (List ℕ)
  texts : before.texts ≡ used ++ behind.texts
  included : behind.records.included ≡ before.records.included + length used
  seen : behind.records.seen ≡ before.records.seen + count + length (counted used)
  room : before.records.seen ≤ limits.room → behind.records.seen ≤ limits.room
  includes : before.records.included ≤ limits.includes → behind.records.included ≤ limits.includes

-- nothing, and one thing behind another
counts_same : (limits : ReadLimits) (p q : Progress) → q.texts ≡ p.texts → q.records.included ≡ p.records.included → q.records.seen ≡ p.records.seen → Counts limits p 0 q
counts_same limits p q texts included seen = record {
  used = [];
  texts = sym texts;
  included = omega (arith, included);
  seen = omega (arith, seen);
  room = λ h. omega (arith, seen, h);
  includes = λ h. omega (arith, included, h);
}

counted_append : (xs ys : List (List ℕ)) → length (counted (xs ++ ys)) ≡ length (counted xs) + length (counted ys)
counted_append [] ys = omega arith
counted_append (x ∷ xs) ys =
    let here = length-append (record_entries (text_entries x)) (counted (xs ++ ys)) in
    let there = length-append (record_entries (text_entries x)) (counted xs) in
    let rest = counted_append xs ys in
    omega (arith, here, there, rest)

counts_then : (limits : ReadLimits) (p q r : Progress) (m n : ℕ) → Counts limits p m q → Counts limits q n r → Counts limits p (m + n) r
counts_then limits p q r m n first second =
    let lengths = length-append first.used second.used in
    let counts = counted_append first.used second.used in
    record {
      used = first.used ++ second.used;
      texts = first.texts ∙ ap (λ (ts : List (List ℕ)). first.used ++ ts) second.texts ∙ sym (append_assoc first.used second.used r.texts);
      included = let a = first.included in let b = second.included in omega (arith, lengths, a, b);
      seen = let a = first.seen in let b = second.seen in omega (arith, counts, a, b);
      room = λ h. second.room (first.room h);
      includes = λ h. second.includes (first.includes h);
    }

-- the records with one more entry that was seen
abbrev pub one_seen : Records → Made → Records
one_seen so_far made = record so_far { context = made.context; rrs = so_far.rrs ++ option_to_list made.rr; seen = so_far.seen + 1 }

made_counts : (room : ℕ) (so_far records : Records) (made : Made) → with_made room so_far made ≡ Ok records
    → (records.seen ≡ so_far.seen + 1) × (records.included ≡ so_far.included) × (so_far.seen ≤ room → records.seen ≤ room)
made_counts room so_far records made e = by (nat_le room so_far.seen) refl e where
  by : (full : Bool) → nat_le room so_far.seen ≡ full → (if full then Err TooMany else Ok (one_seen so_far made)) ≡ Ok records
      → (records.seen ≡ so_far.seen + 1) × (records.included ≡ so_far.included) × (so_far.seen ≤ room → records.seen ≤ room)
  by true is d = absurd cc
  by false is d =
      let same : one_seen so_far made ≡ records = cc in
      let seen : so_far.seen + 1 ≡ records.seen = ap (λ (r : Records). r.seen) same in
      (sym seen, sym (ap (λ (r : Records). r.included) same), grind (arith, nat_tests))

leaves_counts : (room file : ℕ) (so_far records : Records) (entry : Entry) → effect_of room file so_far entry ≡ Ok (Leaves records)
    → (records.seen ≡ so_far.seen + count_of (is_directive entry)) × (records.included ≡ so_far.included) × (so_far.seen ≤ room → records.seen ≤ room)
unfolding effect_of
leaves_counts room file so_far records entry e = by (is_directive entry) e where
  says : (directive : Directive) → said_by so_far directive ≡ Leaves records → (records.seen ≡ so_far.seen) × (records.included ≡ so_far.included)
  says (Sets context) d =
      let same : record so_far { context = context } ≡ records = cc in
      (sym (ap (λ (r : Records). r.seen) same), sym (ap (λ (r : Records). r.included) same))
  says (Includes name origin) d = absurd cc

  by : (directive : Bool)
      → (if directive then (directive_of so_far.context entry.tokens >>= (λ directive'. Ok (said_by so_far directive')))
      else (record_of file so_far.context entry >>= (λ made. with_made room so_far made >>= (λ records'. Ok (Leaves records'))))) ≡ Ok (Leaves records)
      → (records.seen ≡ so_far.seen + count_of directive) × (records.included ≡ so_far.included) × (so_far.seen ≤ room → records.seen ≤ room)
  by true d =
      let steps = both_steps (directive_of so_far.context entry.tokens) (λ directive'. Ok (said_by so_far directive')) (Leaves records) d in
      let same = says steps.0 (let is : said_by so_far steps.0 ≡ Leaves records = cc (steps.1.1) in is) in
      let seen = same.0 in
      (omega (arith, seen), same.1, λ h. omega (arith, seen, h))
  by false d =
      let steps = both_steps (record_of file so_far.context entry) (λ made. with_made room so_far made >>= (λ records'. Ok (Leaves records'))) (Leaves records) d in
      let made = both_steps (with_made room so_far steps.0) (λ records'. Ok (Leaves records')) (Leaves records) steps.1.1 in
      let is : made.0 ≡ records = cc (made.1.1) in
      made_counts room so_far records steps.0 (made.1.0 ∙ ap Ok is)

opens_counts : (room file : ℕ) (so_far : Records) (entry : Entry) (name : List ℕ) (origin : Labels) → effect_of room file so_far entry ≡ Ok (Opens name origin) → count_of (is_directive entry) ≡ 0
unfolding effect_of
opens_counts room file so_far entry name origin e = by (is_directive entry) e where
  by : (directive : Bool)
      → (if directive then (directive_of so_far.context entry.tokens >>= (λ directive'. Ok (said_by so_far directive')))
      else (record_of file so_far.context entry >>= (λ made. with_made room so_far made >>= (λ records'. Ok (Leaves records'))))) ≡ Ok (Opens name origin) → count_of directive ≡ 0
  by true d = refl
  by false d =
      let steps = both_steps (record_of file so_far.context entry) (λ made. with_made room so_far made >>= (λ records'. Ok (Leaves records'))) (Opens name origin) d in
      let made = both_steps (with_made room so_far steps.0) (λ records'. Ok (Leaves records')) (Opens name origin) steps.1.1 in
      absurd (cc (made.1.1))

length_by : (directive : Bool) (entry : Entry) (entries : List Entry) → count_of directive + length entries ≡ length (cond (not directive) (entry ∷ entries) entries)
length_by true entry entries = omega arith
length_by false entry entries = omega arith

length_kept : (entry : Entry) (entries : List Entry) → length (record_entries (entry ∷ entries)) ≡ count_of (is_directive entry) + length (record_entries entries)
length_kept entry entries = sym (length_by (is_directive entry) entry (record_entries entries))

-- what an `$INCLUDE` makes, and where it asks for a file
abbrev IncludeCounts : ReadLimits → Include → Type 0
IncludeCounts limits include = (file line : ℕ) (name : List ℕ) (origin : Labels) (p q : Progress) → include file line name origin p ≡ Ok q → Counts limits p 0 q

abbrev IsWithin : ReadLimits → Progress → Type 0
IsWithin limits p = p.records.included + length p.texts < limits.includes

abbrev IncludeAsks : ReadLimits → Include → Type 0
IncludeAsks limits include = (file line : ℕ) (name : List ℕ) (origin : Labels) (p : Progress) (asked : List ℕ) → include file line name origin p ≡ Err (Asks asked) → IsWithin limits p

-- where it is within the limits behind, it is before
within_before : (limits : ReadLimits) (p q : Progress) (count : ℕ) → Counts limits p count q → IsWithin limits q → IsWithin limits p
within_before limits p q count counts within =
    let lengths : length p.texts ≡ length counts.used + length q.texts = ap (λ (ts : List (List ℕ)). length ts) counts.texts ∙ length-append counts.used q.texts in
    let included = counts.included in
    omega (arith, lengths, included, within)

module _ (limits : ReadLimits) (include : Include) (counts : IncludeCounts limits include) where
  effect_counts : (file line : ℕ) (so_far : Records) (texts : List (List ℕ)) (entry : Entry) (effect : Effect) (q : Progress) → effect_of limits.room file so_far entry ≡ Ok effect
      → with_effect include file line effect (record { records = so_far; texts = texts }) ≡ Ok q → Counts limits (record { records = so_far; texts = texts }) (count_of (is_directive entry)) q
  effect_counts file line so_far texts entry (Leaves records) q e d =
      let leaves = leaves_counts limits.room file so_far records entry e in
      let same : record { records = records; texts = texts } ≡ q = cc in
      rw (← same) (record {
        used = [];
        texts = refl;
        included = let i = leaves.1 in omega (arith, i);
        seen = let s = leaves.0 in omega (arith, s);
        room = leaves.2;
        includes = λ h. let i = leaves.1 in omega (arith, i, h);
      })
  effect_counts file line so_far texts entry (Opens name origin) q e d =
      rw (opens_counts limits.room file so_far entry name origin e) (counts file line name origin (record { records = so_far; texts = texts }) q d)

  entry_counts : (file : ℕ) (entry : Entry) (p q : Progress) → with_entry include limits.room file entry p ≡ Ok q → Counts limits p (count_of (is_directive entry)) q
  unfolding with_entry
  entry_counts file entry p q e =
      let steps = both_steps (at file entry.line (effect_of limits.room file p.records entry)) (λ effect. with_effect include file entry.line effect p) q e in
      effect_counts file entry.line p.records p.texts entry steps.0 q (at_ok file entry.line (effect_of limits.room file p.records entry) steps.0 steps.1.0) steps.1.1

  entries_count : (file : ℕ) (entries : List Entry) (p q : Progress) → with_entries include limits.room file entries p ≡ Ok q → Counts limits p (length (record_entries entries)) q
  unfolding with_entries
  entries_count file [] p q e = let same : p ≡ q = cc in counts_same limits p q (sym (ap (λ (r : Progress). r.texts) same)) (sym (ap (λ (r : Progress). r.records.included) same)) (sym (ap (λ (r : Progress). r.records.seen) same))
  entries_count file (entry ∷ entries) p q e =
      let steps = both_steps (with_entry include limits.room file entry p) (with_entries include limits.room file entries) q e in
      rw (length_kept entry entries)
      (counts_then limits p steps.0 q (count_of (is_directive entry)) (length (record_entries entries)) (entry_counts file entry p steps.0 steps.1.0) (entries_count file entries steps.0 q steps.1.1))

  end_counts : (file : ℕ) (before : Context) (fault : Option LexFault) (p q : Progress) → ended file before fault p ≡ Ok q → Counts limits p 0 q
  end_counts file before None p q e =
      let same : in_context p (back_at before p.records.context) ≡ q = cc in
      counts_same limits p q (sym (ap (λ (r : Progress). r.texts) same)) (sym (ap (λ (r : Progress). r.records.included) same)) (sym (ap (λ (r : Progress). r.records.seen) same))
  end_counts file before (Some fault) p q e = absurd cc

  rest_counts : (file : ℕ) (before : Context) (entries : List Entry) (fault : Option LexFault) (p q : Progress) → with_rest include limits.room file before entries fault p ≡ Ok q
      → Counts limits p (length (record_entries entries)) q
  unfolding with_rest
  rest_counts file before entries fault p q e =
      let steps = both_steps (with_entries include limits.room file entries p) (ended file before fault) q e in
      rw (← add-zero (length (record_entries entries)))
      (counts_then limits p steps.0 q (length (record_entries entries)) 0 (entries_count file entries p steps.0 steps.1.0) (end_counts file before fault steps.0 q steps.1.1))

  -- a file, behind any context
  file_counts : (origin : Labels) (text : List ℕ) (p q : Progress) → with_include include limits.room origin text p ≡ Ok q → Counts limits p (length (record_entries (text_entries text))) q
  file_counts origin text p q e =
      let start : Progress = in_context p (under origin p.records.context) in
      let rest = rest_counts p.records.included p.records.context (text_entries text) (text_fault text) start q e in
      record { used = rest.used; texts = rest.texts; included = rest.included; seen = rest.seen; room = rest.room; includes = rest.includes }

  module _ (asks : IncludeAsks limits include) where
    entry_asks : (file : ℕ) (entry : Entry) (p : Progress) (asked : List ℕ) → with_entry include limits.room file entry p ≡ Err (Asks asked) → IsWithin limits p
    unfolding with_entry
    entry_asks file entry p asked e = by (which (at file entry.line (effect_of limits.room file p.records entry)) (λ effect. with_effect include file entry.line effect p) (Asks asked) e) where
      by : Failed (at file entry.line (effect_of limits.room file p.records entry)) (λ effect. with_effect include file entry.line effect p) (Asks asked) → IsWithin limits p
      by (at_first d) = absurd (at_asks file entry.line (effect_of limits.room file p.records entry) asked d)
      by (at_next (Leaves records) is d) = absurd cc
      by (at_next (Opens name origin) is d) = asks file entry.line name origin p asked d

    entries_ask : (file : ℕ) (entries : List Entry) (p : Progress) (asked : List ℕ) → with_entries include limits.room file entries p ≡ Err (Asks asked) → IsWithin limits p
    unfolding with_entries
    entries_ask file [] p asked e = absurd cc
    entries_ask file (entry ∷ entries) p asked e =
        by (which (with_entry include limits.room file entry p) (with_entries include limits.room file entries) (Asks asked) e) (λ q d. entries_ask file entries q asked d) where
          by : Failed (with_entry include limits.room file entry p) (with_entries include limits.room file entries) (Asks asked)
              → ((q : Progress) → with_entries include limits.room file entries q ≡ Err (Asks asked) → IsWithin limits q) → IsWithin limits p
          by (at_first d) rest = entry_asks file entry p asked d
          by (at_next q is d) rest = within_before limits p q (count_of (is_directive entry)) (entry_counts file entry p q is) (rest q d)

    file_asks : (origin : Labels) (text : List ℕ) (p : Progress) (asked : List ℕ) → with_include include limits.room origin text p ≡ Err (Asks asked) → IsWithin limits p
    unfolding with_rest
    file_asks origin text p asked e =
        by (which (with_entries include limits.room p.records.included (text_entries text) (in_context p (under origin p.records.context))) (ended p.records.included p.records.context (text_fault text)) (Asks asked) e) where
          none : (fault : Option LexFault) (q : Progress) → ended p.records.included p.records.context fault q ≡ Err (Asks asked) → ⊥
          none None q d = cc
          none (Some fault) q d = cc

          by : Failed (with_entries include limits.room p.records.included (text_entries text) (in_context p (under origin p.records.context))) (ended p.records.included p.records.context (text_fault text)) (Asks asked)
              → IsWithin limits p
          by (at_first d) = entries_ask p.records.included (text_entries text) (in_context p (under origin p.records.context)) asked d
          by (at_next q is d) = absurd (none (text_fault text) q d)

-- ---- an `$INCLUDE`, at each level

-- the text of the file that is included, in front of the others
next_counts : (limits : ReadLimits) (p q : Progress) (text : List ℕ) (texts : List (List ℕ)) → p.texts ≡ text ∷ texts → p.records.included < limits.includes
    → Counts limits (record (one_included p) { texts = texts }) (length (record_entries (text_entries text))) q → Counts limits p 0 q
next_counts limits p q text texts is less rest =
    let lengths = length-append (record_entries (text_entries text)) (counted rest.used) in
    let included = rest.included in
    let seen = rest.seen in
    record {
      used = text ∷ rest.used;
      texts = is ∙ ap (λ (ts : List (List ℕ)). text ∷ ts) rest.texts;
      included = omega (arith, included);
      seen = omega (arith, seen, lengths);
      room = rest.room;
      includes = λ h. rest.includes (omega (arith, less));
    }

next_text_counts : (limits : ReadLimits) (include : Include) → IncludeCounts limits include → (name : List ℕ) (origin : Labels) (p q : Progress) (texts : List (List ℕ)) → p.texts ≡ texts
    → p.records.included < limits.includes → with_next_text name (with_include include limits.room origin) (one_included p) texts ≡ Ok q → Counts limits p 0 q
next_text_counts limits include counts name origin p q [] is less e = absurd cc
next_text_counts limits include counts name origin p q (text ∷ texts) is less e =
    next_counts limits p q text texts is less (file_counts limits include counts origin text (record (one_included p) { texts = texts }) q e)

next_text_asks : (limits : ReadLimits) (include : Include) → IncludeCounts limits include → IncludeAsks limits include → (name : List ℕ) (origin : Labels) (p : Progress) (asked : List ℕ) (texts : List (List ℕ))
    → p.texts ≡ texts → p.records.included < limits.includes → with_next_text name (with_include include limits.room origin) (one_included p) texts ≡ Err (Asks asked) → IsWithin limits p
next_text_asks limits include counts asks name origin p asked [] is less e = let none : length p.texts ≡ 0 = ap (λ (ts : List (List ℕ)). length ts) is in omega (arith, none, less)
next_text_asks limits include counts asks name origin p asked (text ∷ texts) is less e =
    let one : length p.texts ≡ length texts + 1 = ap (λ (ts : List (List ℕ)). length ts) is ∙ sym (add-one (length texts)) in
    let within = file_asks limits include counts asks origin text (record (one_included p) { texts = texts }) asked e in
    omega (arith, one, within)

included_counts : (limits : ReadLimits) (levels : ℕ) → IncludeCounts limits (included limits levels)
unfolding included
included_counts limits zero file line name origin p q e = absurd cc
included_counts limits (suc levels) file line name origin p q e =
    by (nat_le limits.includes p.records.included) refl e (next_text_counts limits (included limits levels) (included_counts limits levels) name origin p q p.texts refl) where
      by : (full : Bool) → nat_le limits.includes p.records.included ≡ full
          → cond full (Err (Faulty (At file line TooManyIncludes))) (with_next_text name (with_include (included limits levels) limits.room origin) (one_included p) p.texts) ≡ Ok q
          → (p.records.included < limits.includes → with_next_text name (with_include (included limits levels) limits.room origin) (one_included p) p.texts ≡ Ok q → Counts limits p 0 q) → Counts limits p 0 q
      by true is d next = absurd cc
      by false is d next = next (grind (arith, nat_tests)) d

included_asks : (limits : ReadLimits) (levels : ℕ) → IncludeAsks limits (included limits levels)
unfolding included
included_asks limits zero file line name origin p asked e = absurd cc
included_asks limits (suc levels) file line name origin p asked e =
    by (nat_le limits.includes p.records.included) refl e
    (next_text_asks limits (included limits levels) (included_counts limits levels) (included_asks limits levels) name origin p asked p.texts refl) where
      by : (full : Bool) → nat_le limits.includes p.records.included ≡ full
          → cond full (Err (Faulty (At file line TooManyIncludes))) (with_next_text name (with_include (included limits levels) limits.room origin) (one_included p) p.texts) ≡ Err (Asks asked)
          → (p.records.included < limits.includes → with_next_text name (with_include (included limits levels) limits.room origin) (one_included p) p.texts ≡ Err (Asks asked) → IsWithin limits p) → IsWithin limits p
      by true is d next = absurd cc
      by false is d next = next (grind (arith, nat_tests)) d

-- ---- texts

-- where texts give records, so many were seen as the opened files have record entries, and no more than there is room for,
-- and no more files were included than may be
pub texts_count : (origin : Labels) (room includes : ℕ) (texts : List (List ℕ)) (given : ZoneText) → zone_text origin room includes texts ≡ Ok given
    → (given.seen ≡ length (opened_record_entries given.included texts)) × (given.seen ≤ room) × (given.included ≤ includes)
unfolding zone_text
texts_count origin room includes [] given e =
    let same : zone_text_of no_records ≡ given = cc in
    rw (← same) (refl, omega arith, omega arith)
texts_count origin room includes (text ∷ later) given e =
    let limits : ReadLimits = record { room = room; includes = includes } in
    let include : Include = included limits most_levels in
    let start : Progress = record { records = no_records; texts = later } in
    let steps = both_steps (with_include include room origin text start) (λ progress. Ok (zone_text_of progress.records)) given e in
    let counts = file_counts limits include (included_counts limits most_levels) origin text start steps.0 steps.1.0 in
    let same : zone_text_of steps.0.records ≡ given = cc (steps.1.1) in
    let included : steps.0.records.included ≡ length counts.used = let i = counts.included in omega (arith, i) in
    let opened : take (steps.0.records.included + 1) (text ∷ later) ≡ text ∷ counts.used
    = ap (λ n. take n (text ∷ later)) (ap (λ n. n + 1) included ∙ add-one (length counts.used))
    ∙ ap (λ (ts : List (List ℕ)). text ∷ take (length counts.used) ts) counts.texts
    ∙ ap (λ (ts : List (List ℕ)). text ∷ ts) (take-append_seam counts.used steps.0.texts) in
    let lengths = length-append (record_entries (text_entries text)) (counted counts.used) in
    let seen = counts.seen in
    rw (← same) (
      let all : steps.0.records.seen ≡ length (counted (text ∷ counts.used)) = omega (arith, seen, lengths) in all ∙ ap (λ (ts : List (List ℕ)). length (counted ts)) (sym opened),
      counts.room (omega arith),
      counts.includes (omega arith),
    )

-- where a file more is asked for, there are at most as many texts as files may be included
pub texts_ask : (origin : Labels) (room includes : ℕ) (texts : List (List ℕ)) (file : List ℕ) → zone_text origin room includes texts ≡ Err (Asks file) → length texts ≤ includes
unfolding zone_text
texts_ask origin room includes [] file e = absurd cc
texts_ask origin room includes (text ∷ later) file e =
    let limits : ReadLimits = record { room = room; includes = includes } in
    let include : Include = included limits most_levels in
    let start : Progress = record { records = no_records; texts = later } in
    rw (← add-one (length later)) (by (with_include include room origin text start) e (file_asks limits include (included_counts limits most_levels) (included_asks limits most_levels) origin text start file)) where
      by : (said : Result Progress Unread) → (said >>= (λ progress. Ok (zone_text_of progress.records))) ≡ Err (Asks file) → (said ≡ Err (Asks file) → 0 + length later < includes) → length later + 1 ≤ includes
      by (Ok progress) d within = absurd cc
      by (Err unread) d within = let is : unread ≡ Asks file = cc in let h = within (ap Err is) in omega (arith, h)
