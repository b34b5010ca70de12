-- Texts that are read with other limits: the same is read where all that was read fits these, and so it is of the first of
-- the texts.
use Rattle.std.proofs.Common.{◌≡◌, ℕ, zero, suc, ◌+◌, ◌≤◌, Bool, true, false, cond, nat_le, List, [], ◌∷◌, ◌++◌, Option, Some, None, Result, Ok, Err, if◌then◌else◌, refl, sym, ap, ◌∙◌, subst, arith}
use Rattle.std.proofs.lemmas.Bool.Decides.{nat_tests}
use Rattle.dns_data.specs.Answers.{◌>>=◌}
use Rattle.dns_data.specs.Name.{Labels}
use Rattle.master_read.specs.Contents.{text_entries, text_fault}
use Rattle.master_read.specs.Context.{under, back_at}
use Rattle.master_read.specs.Directives.{Directive, Sets, Includes, is_directive, directive_of}
use Rattle.master_read.specs.Entries.{Made, record_of}
use Rattle.master_read.specs.ZoneText.{Unread, Faulty, Asks, Progress, Effect, Leaves, Opens, Include, no_records, in_context, at, said_by, with_made, effect_of, with_effect, with_entry, with_entries, ended, with_rest, with_include, with_next_text, one_included, included, most_levels, zone_text_of, as_zone_text, zone_text}
use Rattle.master_read.specs.declared.context.Context.{Context}
use Rattle.master_read.specs.declared.fault.TextCause.{TextCause}
use Rattle.master_read.specs.declared.fault.TextCause.TheVariants.{TooMany, TooManyIncludes}
use Rattle.master_read.specs.declared.fault.TextFault.TheVariants.{At}
use Rattle.master_read.specs.declared.records.ReadLimits.{ReadLimits}
use Rattle.master_read.specs.declared.records.Records.{Records}
use Rattle.master_read.specs.declared.zone_text.ZoneText.{ZoneText}
use Rattle.master_read.proofs.Counts.{both_steps, at_ok, one_seen}

-- a step of reading, by the limits
abbrev Step : Type 0
Step = ReadLimits → Progress → Result Progress Unread

-- what was read fits the limits
abbrev Fits : ReadLimits → Progress → Type 0
Fits limits read = (read.records.seen ≤ limits.room) × (read.records.included ≤ limits.includes)

-- a step that is given the first texts alone reads the same, or asks for a text more
abbrev IsPart : List (List ℕ) → Progress → Result Progress Unread → Type 0
IsPart more read (Ok part) = read ≡ record { records = part.records; texts = part.texts ++ more }
IsPart more read (Err (Asks name)) = Unit {0}
IsPart more read (Err (Faulty fault)) = ⊥

-- Behind these records the step counts on, and with other limits that fit what it reads it does the same, also where it
-- is given the first texts alone.
record KeepsAt (step : Step) (records : Records) : Type 0 where
  grows : (limits : ReadLimits) (texts : List (List ℕ)) (read : Progress) → step limits (record { records = records; texts = texts }) ≡ Ok read
      → (records.seen ≤ read.records.seen) × (records.included ≤ read.records.included)
  again : (limits other : ReadLimits) (more texts : List (List ℕ)) (read : Progress) → step limits (record { records = records; texts = texts ++ more }) ≡ Ok read → Fits other read
      → (step other (record { records = records; texts = texts }) ≡ step limits (record { records = records; texts = texts }))
      × IsPart more read (step limits (record { records = records; texts = texts }))

-- and so behind any records
abbrev Keeps : Step → Type 0
Keeps step = (records : Records) → KeepsAt step records

-- two steps, one after the other
keeps_then : (first second : Step) (records : Records) → KeepsAt first records → Keeps second → KeepsAt (λ limits so_far. first limits so_far >>= second limits) records
keeps_then first second records a b = record {
  grows = λ limits texts read e.
      let steps = both_steps (first limits (record { records = records; texts = texts })) (second limits) read e in
      let one = a.grows limits texts steps.0 steps.1.0 in
      let two = (b steps.0.records).grows limits steps.0.texts read steps.1.1 in
      (omega (arith, one.0, two.0), omega (arith, one.1, two.1));
  again = λ limits other more texts read e fits.
      let steps = both_steps (first limits (record { records = records; texts = texts ++ more })) (second limits) read e in
      let grown = (b steps.0.records).grows limits steps.0.texts read steps.1.1 in
      let one = a.again limits other more texts steps.0 steps.1.0 (omega (arith, grown.0, fits.0), omega (arith, grown.1, fits.1)) in
      let two = behind limits other more read steps.0 steps.1.1 fits (first limits (record { records = records; texts = texts })) one.1 in
      (ap (λ (said : Result Progress Unread). said >>= second other) one.0 ∙ two.0, two.1);
}
  where
    behind : (limits other : ReadLimits) (more : List (List ℕ)) (read between : Progress) → second limits between ≡ Ok read → Fits other read → (said : Result Progress Unread) → IsPart more between said
        → ((said >>= second other) ≡ (said >>= second limits)) × IsPart more read (said >>= second limits)
    behind limits other more read between e fits (Ok part) is =
        (b part.records).again limits other more part.texts read (ap (second limits) (sym is) ∙ e) fits
    behind limits other more read between e fits (Err (Asks name)) is = (refl, tt)
    behind limits other more read between e fits (Err (Faulty fault)) is = absurd is

-- ---- entries

made_again : (room other : ℕ) (so_far records : Records) (made : Made) → with_made room so_far made ≡ Ok records
    → (so_far.seen ≤ records.seen) × (so_far.included ≤ records.included) × (records.seen ≤ other → with_made other so_far made ≡ Ok records)
made_again room other so_far records made e = by (nat_le room so_far.seen) e where
  on : one_seen so_far made ≡ records → records.seen ≤ other → (full : Bool) → nat_le other so_far.seen ≡ full → (if full then Err TooMany else Ok (one_seen so_far made)) ≡ Ok records
  on same fits true is =
      let seen : so_far.seen + 1 ≡ records.seen = ap (λ (r : Records). r.seen) same in
      absurd (grind (arith, nat_tests))
  on same fits false is = ap Ok same

  by : (full : Bool) → (if full then Err TooMany else Ok (one_seen so_far made)) ≡ Ok records
      → (so_far.seen ≤ records.seen) × (so_far.included ≤ records.included) × (records.seen ≤ other → with_made other so_far made ≡ Ok records)
  by true d = absurd cc
  by false d =
      let same : one_seen so_far made ≡ records = cc in
      let seen : so_far.seen + 1 ≡ records.seen = ap (λ (r : Records). r.seen) same in
      let included : so_far.included ≡ records.included = ap (λ (r : Records). r.included) same in
      (omega (arith, seen), omega (arith, included), λ fits. on same fits (nat_le other so_far.seen) refl)

-- an entry that leaves records
leaves_again : (room other file : ℕ) (so_far records : Records) (entry : _) → effect_of room file so_far entry ≡ Ok (Leaves records)
    → (so_far.seen ≤ records.seen) × (so_far.included ≤ records.included) × (records.seen ≤ other → effect_of other file so_far entry ≡ Ok (Leaves records))
unfolding effect_of
leaves_again room other file so_far records entry e = by (is_directive entry) e where
  directive_makes : Result Effect TextCause
  directive_makes = directive_of so_far.context entry.tokens >>= (λ directive. Ok (said_by so_far directive))

  record_makes : ℕ → Result Effect TextCause
  record_makes room = record_of file so_far.context entry >>= (λ made. with_made room so_far made >>= (λ records. Ok (Leaves records)))

  says : (directive : Directive) → said_by so_far directive ≡ Leaves records → (so_far.seen ≡ records.seen) × (so_far.included ≡ records.included)
  says (Sets context) d =
      let same : record so_far { context = context } ≡ records = cc in
      (ap (λ (r : Records). r.seen) same, ap (λ (r : Records). r.included) same)
  says (Includes name origin) d = absurd cc

  by : (directive : Bool) → (if directive then directive_makes else record_makes room) ≡ Ok (Leaves records)
      → (so_far.seen ≤ records.seen) × (so_far.included ≤ records.included) × (records.seen ≤ other → (if directive then directive_makes else record_makes other) ≡ Ok (Leaves records))
  by true d =
      let steps = both_steps (directive_of so_far.context entry.tokens) (λ directive. Ok (said_by so_far directive)) (Leaves records) d in
      let same = says steps.0 (let is : said_by so_far steps.0 ≡ Leaves records = cc (steps.1.1) in is) in
      let seen = same.0 in
      let included = same.1 in
      (omega (arith, seen), omega (arith, included), λ fits. d)
  by false d =
      let steps = both_steps (record_of file so_far.context entry) (λ made. with_made room so_far made >>= (λ records. Ok (Leaves records))) (Leaves records) d in
      let made = both_steps (with_made room so_far steps.0) (λ records. Ok (Leaves records)) (Leaves records) steps.1.1 in
      let is : made.0 ≡ records = cc (made.1.1) in
      let again = made_again room other so_far records steps.0 (made.1.0 ∙ ap Ok is) in (
        again.0,
        again.1,
        λ fits.
            ap (λ (said : Result Made TextCause). said >>= (λ made. with_made other so_far made >>= (λ records. Ok (Leaves records)))) steps.1.0
            ∙ ap (λ (said : Result Records TextCause). said >>= (λ records. Ok (Leaves records))) (again.2 fits),
      )

-- an entry that opens a file
opens_again : (room other file : ℕ) (so_far : Records) (entry : _) (name : List ℕ) (origin : Labels) → effect_of room file so_far entry ≡ Ok (Opens name origin)
    → effect_of other file so_far entry ≡ Ok (Opens name origin)
unfolding effect_of
opens_again room other file so_far entry name origin e = by (is_directive entry) e where
  directive_makes : Result Effect TextCause
  directive_makes = directive_of so_far.context entry.tokens >>= (λ directive. Ok (said_by so_far directive))

  record_makes : ℕ → Result Effect TextCause
  record_makes room = record_of file so_far.context entry >>= (λ made. with_made room so_far made >>= (λ records. Ok (Leaves records)))

  by : (directive : Bool) → (if directive then directive_makes else record_makes room) ≡ Ok (Opens name origin) → (if directive then directive_makes else record_makes other) ≡ Ok (Opens name origin)
  by true d = d
  by false d =
      let steps = both_steps (record_of file so_far.context entry) (λ made. with_made room so_far made >>= (λ records. Ok (Leaves records))) (Opens name origin) d in
      let made = both_steps (with_made room so_far steps.0) (λ records. Ok (Leaves records)) (Opens name origin) steps.1.1 in
      absurd (cc (made.1.1))

-- what an `$INCLUDE` makes, by the limits
abbrev IncludeKeeps : (ReadLimits → Include) → Type 0
IncludeKeeps include = (file line : ℕ) (name : List ℕ) (origin : Labels) → Keeps (λ limits so_far. include limits file line name origin so_far)

module _ (include : ReadLimits → Include) (keeps : IncludeKeeps include) where
  entry_keeps : (file : ℕ) (entry : _) → Keeps (λ limits so_far. with_entry (include limits) limits.room file entry so_far)
  unfolding with_entry
  entry_keeps file entry records = record {
    grows = λ limits texts read e.
        let start : Progress = record { records = records; texts = texts } in
        let steps = both_steps (at file entry.line (effect_of limits.room file records entry)) (λ effect. with_effect (include limits) file entry.line effect start) read e in
        grown limits texts read steps.0 (at_ok file entry.line (effect_of limits.room file records entry) steps.0 steps.1.0) steps.1.1;
    again = λ limits other more texts read e fits.
        let start : Progress = record { records = records; texts = texts ++ more } in
        let steps = both_steps (at file entry.line (effect_of limits.room file records entry)) (λ effect. with_effect (include limits) file entry.line effect start) read e in
        same limits other more texts read fits steps.0 (at_ok file entry.line (effect_of limits.room file records entry) steps.0 steps.1.0) steps.1.1;
  }
    where
      grown : (limits : ReadLimits) (texts : List (List ℕ)) (read : Progress) (effect : Effect) → effect_of limits.room file records entry ≡ Ok effect
          → with_effect (include limits) file entry.line effect (record { records = records; texts = texts }) ≡ Ok read
          → (records.seen ≤ read.records.seen) × (records.included ≤ read.records.included)
      grown limits texts read (Leaves made) is d =
          let leaves = leaves_again limits.room 0 file records made entry is in
          let last : record { records = made; texts = texts } ≡ read = cc in
          let seen : made.seen ≡ read.records.seen = ap (λ (r : Progress). r.records.seen) last in
          let included : made.included ≡ read.records.included = ap (λ (r : Progress). r.records.included) last in
          (omega (arith, leaves.0, seen), omega (arith, leaves.1, included))
      grown limits texts read (Opens name origin) is d = (keeps file entry.line name origin records).grows limits texts read d

      step : ReadLimits → List (List ℕ) → Result Effect TextCause → Result Progress Unread
      step limits texts said = at file entry.line said >>= (λ effect. with_effect (include limits) file entry.line effect (record { records = records; texts = texts }))

      same : (limits other : ReadLimits) (more texts : List (List ℕ)) (read : Progress) → Fits other read → (effect : Effect) → effect_of limits.room file records entry ≡ Ok effect
          → with_effect (include limits) file entry.line effect (record { records = records; texts = texts ++ more }) ≡ Ok read
          → (step other texts (effect_of other.room file records entry) ≡ step limits texts (effect_of limits.room file records entry))
          × IsPart more read (step limits texts (effect_of limits.room file records entry))
      same limits other more texts read fits (Leaves made) is d =
          let leaves = leaves_again limits.room other.room file records made entry is in
          let last : record { records = made; texts = texts ++ more } ≡ read = cc in
          let seen : made.seen ≡ read.records.seen = ap (λ (r : Progress). r.records.seen) last in
          let fit : made.seen ≤ other.room = omega (arith, seen, fits.0) in (
            ap (step other texts) (leaves.2 fit) ∙ sym (ap (step limits texts) is),
            subst (IsPart more read) (sym (ap (step limits texts) is)) (sym last),
          )
      same limits other more texts read fits (Opens name origin) is d =
          let opened = (keeps file entry.line name origin records).again limits other more texts read d fits in (
            ap (step other texts) (opens_again limits.room other.room file records entry name origin is) ∙ opened.0 ∙ sym (ap (step limits texts) is),
            subst (IsPart more read) (sym (ap (step limits texts) is)) opened.1,
          )

  entries_keep : (file : ℕ) (entries : List _) → Keeps (λ limits so_far. with_entries (include limits) limits.room file entries so_far)
  unfolding with_entries
  entries_keep file [] records = record {
    grows = λ limits texts read e.
        let last : record { records = records; texts = texts } ≡ read = cc in
        let seen : records.seen ≡ read.records.seen = ap (λ (r : Progress). r.records.seen) last in
        let included : records.included ≡ read.records.included = ap (λ (r : Progress). r.records.included) last in
        (omega (arith, seen), omega (arith, included));
    again = λ limits other more texts read e fits.
        let last : record { records = records; texts = texts ++ more } ≡ read = cc in
        (refl, sym last);
  }
  entries_keep file (entry ∷ entries) records =
      keeps_then (λ limits so_far. with_entry (include limits) limits.room file entry so_far) (λ limits so_far. with_entries (include limits) limits.room file entries so_far) records
      (entry_keeps file entry records) (entries_keep file entries)

  end_keeps : (file : ℕ) (before : Context) (fault : Option _) → Keeps (λ limits so_far. ended file before fault so_far)
  end_keeps file before None records = record {
    grows = λ limits texts read e.
        let last : in_context (record { records = records; texts = texts }) (back_at before records.context) ≡ read = cc in
        let seen : records.seen ≡ read.records.seen = ap (λ (r : Progress). r.records.seen) last in
        let included : records.included ≡ read.records.included = ap (λ (r : Progress). r.records.included) last in
        (omega (arith, seen), omega (arith, included));
    again = λ limits other more texts read e fits.
        let last : in_context (record { records = records; texts = texts ++ more }) (back_at before records.context) ≡ read = cc in
        (refl, sym last);
  }
  end_keeps file before (Some fault) records = record { grows = λ limits texts read e. absurd cc; again = λ limits other more texts read e fits. absurd cc }

  rest_keeps : (file : ℕ) (before : Context) (entries : List _) (fault : Option _) → Keeps (λ limits so_far. with_rest (include limits) limits.room file before entries fault so_far)
  unfolding with_rest
  rest_keeps file before entries fault records =
      keeps_then (λ limits so_far. with_entries (include limits) limits.room file entries so_far) (λ limits so_far. ended file before fault so_far) records
      (entries_keep file entries records) (end_keeps file before fault)

  file_keeps : (origin : Labels) (text : List ℕ) → Keeps (λ limits so_far. with_include (include limits) limits.room origin text so_far)
  file_keeps origin text records =
      let rest = rest_keeps records.included records.context (text_entries text) (text_fault text) (record records { context = under origin records.context }) in
      record { grows = rest.grows; again = rest.again }

  -- an `$INCLUDE` of the files that may be included
  next_keeps : (file line : ℕ) (name : List ℕ) (origin : Labels)
      → Keeps (λ limits so_far. cond (nat_le limits.includes so_far.records.included) (Err (Faulty (At file line TooManyIncludes)))
      (with_next_text name (with_include (include limits) limits.room origin) (one_included so_far) so_far.texts))
  next_keeps file line name origin records = record {
    grows = λ limits texts read e.
        let less = opened limits texts texts read (below (nat_le limits.includes records.included) (next limits texts texts) read e) in
        (less.0, omega (arith, less.1));
    again = λ limits other more texts read e fits.
        by limits other more texts read fits (nat_le limits.includes records.included) e (nat_le other.includes records.included) refl;
  }
    where
      one : Records
      one = record records { included = records.included + 1 }

      next : ReadLimits → List (List ℕ) → List (List ℕ) → Result Progress Unread
      next limits all texts = with_next_text name (with_include (include limits) limits.room origin) (one_included (record { records = records; texts = all })) texts

      below : (full : Bool) (said : Result Progress Unread) (read : Progress) → cond full (Err (Faulty (At file line TooManyIncludes))) said ≡ Ok read → said ≡ Ok read
      below true said read e = absurd cc
      below false said read e = e

      opened : (limits : ReadLimits) (all texts : List (List ℕ)) (read : Progress) → next limits all texts ≡ Ok read → (records.seen ≤ read.records.seen) × (records.included + 1 ≤ read.records.included)
      opened limits all [] read e = absurd cc
      opened limits all (text ∷ texts) read e = (file_keeps origin text one).grows limits texts read e

      on : (limits other : ReadLimits) (all part more texts : List (List ℕ)) (read : Progress) → Fits other read → next limits all (texts ++ more) ≡ Ok read
          → (next other part texts ≡ next limits part texts) × IsPart more read (next limits part texts)
      on limits other all part more [] read fits e = (refl, tt)
      on limits other all part more (text ∷ texts) read fits e = (file_keeps origin text one).again limits other more texts read e fits

      by : (limits other : ReadLimits) (more texts : List (List ℕ)) (read : Progress) → Fits other read → (full : Bool)
          → cond full (Err (Faulty (At file line TooManyIncludes))) (next limits (texts ++ more) (texts ++ more)) ≡ Ok read
          → (also : Bool) → nat_le other.includes records.included ≡ also
          → (cond also (Err (Faulty (At file line TooManyIncludes))) (next other texts texts) ≡ cond full (Err (Faulty (At file line TooManyIncludes))) (next limits texts texts))
          × IsPart more read (cond full (Err (Faulty (At file line TooManyIncludes))) (next limits texts texts))
      by limits other more texts read fits true e also is = absurd cc
      by limits other more texts read fits false e true is =
          let less = (opened limits (texts ++ more) (texts ++ more) read e).1 in
          let fit = fits.1 in
          absurd (grind (arith, nat_tests))
      by limits other more texts read fits false e false is = on limits other (texts ++ more) texts more texts read fits e

-- whatever may be included below a file
included_keeps : (levels : ℕ) → IncludeKeeps (λ limits. included limits levels)
unfolding included
included_keeps zero file line name origin records = record { grows = λ limits texts read e. absurd cc; again = λ limits other more texts read e fits. absurd cc }
included_keeps (suc levels) file line name origin records =
    let next = next_keeps (λ limits. included limits levels) (included_keeps levels) file line name origin records in
    record { grows = next.grows; again = next.again }

-- texts that give records, with other limits that these fit: the first of the texts give the same as before
pub texts_again : (origin : Labels) (room includes room' includes' : ℕ) (texts more : List (List ℕ)) (given : ZoneText) → zone_text origin room includes (texts ++ more) ≡ Ok given
    → given.seen ≤ room' → given.included ≤ includes' → zone_text origin room' includes' texts ≡ zone_text origin room includes texts
unfolding zone_text
texts_again origin room includes room' includes' [] more given e seen included' = refl
texts_again origin room includes room' includes' (text ∷ texts) more given e seen included' =
    let limits : ReadLimits = record { room = room; includes = includes } in
    let other : ReadLimits = record { room = room'; includes = includes' } in
    let start : Progress = record { records = no_records; texts = texts ++ more } in
    let steps = both_steps (with_include (included limits most_levels) room origin text start) (λ progress. Ok (zone_text_of progress.records)) given e in
    let same : zone_text_of steps.0.records ≡ given = cc (steps.1.1) in
    let many : steps.0.records.seen ≡ given.seen = ap (λ (t : ZoneText). t.seen) same in
    let files : steps.0.records.included ≡ given.included = ap (λ (t : ZoneText). t.included) same in
    let keeps = file_keeps (λ limits. included limits most_levels) (included_keeps most_levels) origin text no_records in
    ap as_zone_text (keeps.again limits other more texts steps.0 steps.1.0 (omega (arith, many, seen), omega (arith, files, included'))).0
