-- The entries that are left of files, read one after another.
use Rattle.std.proofs.Common.{◌≡◌, ℕ, zero, suc, ◌+◌, ◌<◌, ◌≤◌, Bool, true, false, nat_le, cond, List, [], ◌∷◌, ◌++◌, length, refl, sym, ap, ◌∙◌, inl, inr, append_assoc, add-one, arith, Option, Some, None}
use Rattle.std.specs.Prelude.{◌≢◌, Result, Ok, Err}
use Rattle.std.proofs.lemmas.Bool.Decides.{nat_tests}
use Rattle.std.proofs.lemmas.List.{append-nil}
use Rattle.dns_data.specs.Answers.{AnswersOr, ◌>>=◌, with_fault}
use Rattle.dns_data.specs.Name.{Labels}
use Rattle.master_lex.specs.Contents.{text_entries, text_fault}
use Rattle.master_lex.specs.declared.entry.Entry.{Entry}
use Rattle.master_lex.specs.declared.entry.Token.{Token}
use Rattle.master_lex.specs.declared.fault.LexFault.{LexFault}
use Rattle.master_lex.specs.declared.line.PlainLine.{PlainLine}
use Rattle.master_lex.specs.Lexer.{Lexing, IsLexerOf}
use Rattle.master_lex.specs.Lines.{line_entries}
use Rattle.master_lex.proofs.Values.{taken_first}
use Rattle.master_read.specs.Context.{under, back_at}
use Rattle.master_read.specs.Reader.{Held, rest_of, rest_around, texts_give, IsSettled}
use Rattle.master_read.specs.Steps.{fault_at, IsFaultOf, OpensFile, IsPausing, MayOpen, entry_makes}
use Rattle.master_read.specs.ZoneText.{Unread, Faulty, Asks, Progress, Effect, Leaves, Opens, Include, at, effect_of, with_effect, with_entry, with_entries, ended, with_rest, with_include, with_next_text, one_included, included, as_zone_text, zone_text_of}
use Rattle.master_read.specs.declared.fault.EntryFault.{EntryFault}
use Rattle.master_read.specs.declared.fault.EntryFault.TheVariants.{Cause, NoMemory as WantsMemory}
use Rattle.master_read.specs.declared.fault.TextCause.{TextCause}
use Rattle.master_read.specs.declared.fault.TextCause.TheVariants.{Lex, IncludeDepth, TooManyIncludes}
use Rattle.master_read.specs.declared.fault.TextFault.{TextFault}
use Rattle.master_read.specs.declared.fault.TextFault.TheVariants.{At, NoMemory}
use Rattle.master_read.specs.declared.file.File.{File}
use Rattle.master_read.specs.declared.records.ReadLimits.{ReadLimits}
use Rattle.master_read.specs.declared.records.Records.{Records}

-- an entry that leaves records is read before the others
pub first_read : (include : Include) (room file : ℕ) (entry : Entry) (entries : List Entry) (records more : Records) (texts : List (List ℕ))
    → effect_of room file records entry ≡ Ok (Leaves more)
    → with_entries include room file (entry ∷ entries) (record { records = records; texts = texts })
    ≡ with_entries include room file entries (record { records = more; texts = texts })
unfolding with_entries with_entry
first_read include room file entry entries records more texts e =
    ap (λ (said : Result Effect TextCause). (at file entry.line said >>= (λ effect. with_effect include file entry.line effect (record { records = records; texts = texts })))
    >>= with_entries include room file entries) e

-- the first entry has a fault
pub entry_fault : (include : Include) (room file : ℕ) (entry : Entry) (records : Records) (texts : List (List ℕ)) (fault : EntryFault)
    → AnswersOr WantsMemory (Err fault) (with_fault Cause (effect_of room file records entry))
    → IsFaultOf (fault_at file entry.line fault) (with_entry include room file entry (record { records = records; texts = texts }))
unfolding with_entry
entry_fault include room file entry records texts WantsMemory h = inl refl
entry_fault include room file entry records texts (Cause cause) (inl free) = absurd cc
entry_fault include room file entry records texts (Cause cause) (inr same) = by (effect_of room file records entry) same where
  by : (said : Result Effect TextCause) → with_fault Cause said ≡ Err (Cause cause)
      → IsFaultOf (At file entry.line cause) (at file entry.line said >>= (λ effect. with_effect include file entry.line effect (record { records = records; texts = texts })))
  by (Ok effect) e = absurd cc
  by (Err other) e = let is : other ≡ cause = cc in inr (ap (λ (c : TextCause). Err (Faulty (At file entry.line c))) is)

-- a fault of the first entry is the fault of the entries
pub fault_of_entries : (include : Include) (room file : ℕ) (entry : Entry) (entries : List Entry) (progress : Progress) (fault : TextFault)
    → IsFaultOf fault (with_entry include room file entry progress) → IsFaultOf fault (with_entries include room file (entry ∷ entries) progress)
unfolding with_entries
fault_of_entries include room file entry entries progress fault (inl free) = inl free
fault_of_entries include room file entry entries progress fault (inr same) =
    inr (ap (λ (r : Result Progress Unread). r >>= with_entries include room file entries) same)

-- a line with a token has an entry
pub line_entry : (line : PlainLine) (tokens : List Token) → 0 < length tokens → line_entries line tokens ≡ record { line = line.line; blank_start = line.blank_start; tokens = tokens } ∷ []
line_entry line [] some = absurd (omega arith)
line_entry line (token ∷ tokens) some = refl

-- what the first entry may not do is the fault of the entries, at its file and its line
pub first_fault : (include : Include) (room file : ℕ) (entry : Entry) (entries : List Entry) (records : Records) (texts : List (List ℕ)) (fault : EntryFault)
    → AnswersOr WantsMemory (Err fault) (with_fault Cause (effect_of room file records entry))
    → IsFaultOf (fault_at file entry.line fault) (with_entries include room file (entry ∷ entries) (record { records = records; texts = texts }))
first_fault include room file entry entries records texts fault h =
    fault_of_entries include room file entry entries (record { records = records; texts = texts }) (fault_at file entry.line fault)
    (entry_fault include room file entry records texts fault h)

-- what is left of a file is what its entries give, and then its end
pub same_rest : (limits : ReadLimits) (file : File) (xs ys : List Entry) (fault : Option LexFault) (p q : Progress)
    → with_entries (included limits file.levels) limits.room file.number xs p ≡ with_entries (included limits file.levels) limits.room file.number ys q
    → rest_of limits file xs fault p ≡ rest_of limits file ys fault q
unfolding with_rest
same_rest limits file xs ys fault p q e = ap (λ (r : Result Progress Unread). r >>= ended file.number file.before fault) e

-- where the entries that are left of a file end in a fault, or ask for a file, the steps behind them change nothing
pub unread_rest : (limits : ReadLimits) (file : File) (xs : List Entry) (fault : Option LexFault) (p : Progress) (unread : Unread) (next : Progress → Result Progress Unread)
    → with_entries (included limits file.levels) limits.room file.number xs p ≡ Err unread
    → as_zone_text (rest_of limits file xs fault p >>= next) ≡ Err unread
unfolding with_rest
unread_rest limits file xs fault p unread next e =
    ap (λ (r : Result Progress Unread). as_zone_text ((r >>= ended file.number file.before fault) >>= next)) e

-- ---- steps one behind another

-- a step behind which nothing is done is the step alone
pub behind_ok : {T E : Type 0} (said : Result T E) → (said >>= Ok) ≡ said
behind_ok (Ok value) = refl
behind_ok (Err fault) = refl

regroup : {A B C E : Type 0} (said : Result A E) (f : A → Result B E) (g : B → Result C E) → ((said >>= f) >>= g) ≡ (said >>= (λ a. f a >>= g))
regroup (Ok a) f g = refl
regroup (Err fault) f g = refl

same_next : {A B E : Type 0} (said : Result A E) (f g : A → Result B E) → ((a : A) → f a ≡ g a) → (said >>= f) ≡ (said >>= g)
same_next (Ok a) f g same = same a
same_next (Err fault) f g same = refl

-- ---- the file that is open

-- what was taken of the file that is open, was read but these entries
abbrev pub Reads : ReadLimits → File → List File → Records → List Entry → Labels → List (List ℕ) → List Entry → Type 0
Reads limits file around records entries origin ended taken =
    (text : List ℕ) (others : List Entry) (later : List (List ℕ)) → text_entries text ≡ taken ++ others
    → texts_give limits origin (ended ++ text ∷ later)
    ≡ as_zone_text (rest_of limits file (entries ++ others) (text_fault text) (record { records = records; texts = later }) >>= rest_around limits around)

-- the records go on by these entries as by those
abbrev pub ReadsOn : ℕ → ℕ → Records → List Entry → Records → List Entry → Type 0
ReadsOn room file records entries records' entries' =
    (include : Include) (behind : List Entry) (texts : List (List ℕ))
    → with_entries include room file (entries ++ behind) (record { records = records; texts = texts })
    ≡ with_entries include room file (entries' ++ behind) (record { records = records'; texts = texts })

-- the entries have a fault
abbrev pub HasFault : ℕ → ℕ → Records → List Entry → TextFault → Type 0
HasFault room file records entries fault =
    (include : Include) (behind : List Entry) (texts : List (List ℕ))
    → IsFaultOf fault (with_entries include room file (entries ++ behind) (record { records = records; texts = texts }))

module _ (limits : ReadLimits) (file : File) (around : List File) (origin : Labels) where
  -- entries that are taken of an open file are put behind those that wait to be read
  pub takes : (records : Records) (entries waiting : List Entry) (ended : List (List ℕ)) (taken more : List Entry) → waiting ≡ entries ++ more
      → Reads limits file around records entries origin ended taken → Reads limits file around records waiting origin ended (taken ++ more)
  takes records entries waiting ended taken more whole reads text others later all =
      reads text (more ++ others) later (all ∙ append_assoc taken more others)
      ∙ ap (λ (es : List Entry). as_zone_text (rest_of limits file es (text_fault text) (record { records = records; texts = later }) >>= rest_around limits around))
      (sym (append_assoc entries more others) ∙ ap (λ (w : List Entry). w ++ others) (sym whole))

  -- entries of an open file that are read leave the others, with the records that they make
  pub reads_on : (records records' : Records) (entries entries' : List Entry) (ended : List (List ℕ)) (taken : List Entry) → ReadsOn limits.room file.number records entries records' entries'
      → Reads limits file around records entries origin ended taken → Reads limits file around records' entries' origin ended taken
  reads_on records records' entries entries' ended taken on reads text others later all =
      reads text others later all
      ∙ ap (λ (r : Result Progress Unread). as_zone_text (r >>= rest_around limits around))
      (same_rest limits file (entries ++ others) (entries' ++ others) (text_fault text) (record { records = records; texts = later })
      (record { records = records'; texts = later }) (on (included limits file.levels) others later))

  -- a fault that the entries of an open file have is settled
  pub settles : (records : Records) (entries : List Entry) (ended : List (List ℕ)) (taken : List Entry) (lexer : Lexing) (text : List ℕ) (fault : TextFault)
      → HasFault limits.room file.number records entries fault → fault ≢ NoMemory → lexer.finished ≡ false → IsLexerOf lexer text taken
      → Reads limits file around records entries origin ended taken → IsSettled fault limits origin ended text
  settles records entries ended taken lexer text fault has named unended stands reads more later =
      let first = taken_first lexer text taken stands more (λ e. absurd cc) in
      by first.0 (has (included limits file.levels) first.0 later) (reads (text ++ more) first.0 later first.1) where
        by : (others : List Entry) → IsFaultOf fault (with_entries (included limits file.levels) limits.room file.number (entries ++ others) (record { records = records; texts = later }))
            → texts_give limits origin (ended ++ (text ++ more) ∷ later)
            ≡ as_zone_text (rest_of limits file (entries ++ others) (text_fault (text ++ more)) (record { records = records; texts = later }) >>= rest_around limits around)
            → texts_give limits origin (ended ++ (text ++ more) ∷ later) ≡ Err (Faulty fault)
        by others (inl free) e = absurd (named free)
        by others (inr same) e =
            e ∙ unread_rest limits file (entries ++ others) (text_fault (text ++ more)) (record { records = records; texts = later }) (Faulty fault) (rest_around limits around) same

  -- ---- files that have ended

  -- these entries and this fault are left of the inmost file
  abbrev pub Pauses : Records → List Entry → Option LexFault → List (List ℕ) → Type 0
  Pauses records entries fault texts =
      (later : List (List ℕ)) → texts_give limits origin (texts ++ later)
      ≡ as_zone_text (rest_of limits file entries fault (record { records = records; texts = later }) >>= rest_around limits around)

  -- if all was taken of the open file, the reading pauses at the entries that are left of it
  pub pauses : (records : Records) (entries waiting : List Entry) (ended : List (List ℕ)) (taken more : List Entry) (text : List ℕ) (fault : Option LexFault) → waiting ≡ entries ++ more
      → text_entries text ≡ taken ++ more → fault ≡ text_fault text → Reads limits file around records entries origin ended taken → Pauses records waiting fault (ended ++ text ∷ [])
  pauses records entries waiting ended taken more text fault whole all is reads later =
      ap (texts_give limits origin) (append_assoc ended (text ∷ []) later)
      ∙ reads text more later all
      ∙ ap (λ (es : List Entry). as_zone_text (rest_of limits file es (text_fault text) (record { records = records; texts = later }) >>= rest_around limits around)) (sym whole)
      ∙ ap (λ (f : Option LexFault). as_zone_text (rest_of limits file waiting f (record { records = records; texts = later }) >>= rest_around limits around)) (sym is)

  -- entries that are read on from where a file pauses leave it to pause behind them
  pub pause_reads : (records records' : Records) (entries entries' : List Entry) (fault : Option LexFault) (texts : List (List ℕ)) → ReadsOn limits.room file.number records entries records' entries'
      → Pauses records entries fault texts → Pauses records' entries' fault texts
  pause_reads records records' entries entries' fault texts on before later =
      let include : Include = included limits file.levels in
      let e = on include [] later in
      before later
      ∙ ap (λ (r : Result Progress Unread). as_zone_text (r >>= rest_around limits around))
      (same_rest limits file entries entries' fault (record { records = records; texts = later }) (record { records = records'; texts = later })
      (ap (λ (es : List Entry). with_entries include limits.room file.number es (record { records = records; texts = later })) (sym (append-nil entries))
      ∙ e ∙ ap (λ (es : List Entry). with_entries include limits.room file.number es (record { records = records'; texts = later })) (append-nil entries')))

  -- where a file pauses, the texts give what its entries and the files around it give
  pub now : (records : Records) (entries : List Entry) (fault : Option LexFault) (texts : List (List ℕ)) → Pauses records entries fault texts
      → texts_give limits origin texts ≡ as_zone_text (rest_of limits file entries fault (record { records = records; texts = [] }) >>= rest_around limits around)
  now records entries fault texts before = ap (texts_give limits origin) (sym (append-nil texts)) ∙ before []

  -- a fault of the entries at which a file pauses is what the texts give, unless memory ran out
  pub pause_fault : (records : Records) (entries : List Entry) (end : Option LexFault) (texts : List (List ℕ)) (fault : TextFault) → HasFault limits.room file.number records entries fault
      → Pauses records entries end texts → fault ≢ NoMemory → texts_give limits origin texts ≡ Err (Faulty fault)
  pause_fault records entries end texts fault has before named = by (has (included limits file.levels) [] []) where
    by : IsFaultOf fault (with_entries (included limits file.levels) limits.room file.number (entries ++ []) (record { records = records; texts = [] })) → texts_give limits origin texts ≡ Err (Faulty fault)
    by (inl free) = absurd (named free)
    by (inr same) =
        now records entries end texts before
        ∙ unread_rest limits file entries end (record { records = records; texts = [] }) (Faulty fault) (rest_around limits around)
        (ap (λ (es : List Entry). with_entries (included limits file.levels) limits.room file.number es (record { records = records; texts = [] })) (sym (append-nil entries)) ∙ same)

  -- if no entry is left of a file and its spelling has a fault, the texts give that fault
  pub left_fault : (records : Records) (fault : LexFault) (texts : List (List ℕ)) → Pauses records [] (Some fault) texts
      → texts_give limits origin texts ≡ Err (Faulty (At file.number fault.line (Lex fault.kind)))
  unfolding with_rest with_entries
  left_fault records fault texts before = now records [] (Some fault) texts before

-- if no entry is left of a file and no file lies around it, the texts give what was read
pub left_all : (limits : ReadLimits) (file : File) (origin : Labels) (records : Records) (texts : List (List ℕ)) → Pauses limits file [] origin records [] None texts
    → texts_give limits origin texts ≡ Ok (zone_text_of records)
unfolding with_rest with_entries
left_all limits file origin records texts before = now limits file [] origin records [] None texts before

-- the rest of files around others begins with that of the inmost one
pub rest_inmost : (limits : ReadLimits) (files : List File) (file : File) (progress : Progress)
    → rest_around limits (files ++ file ∷ []) progress ≡ (rest_of limits file file.entries.items file.fault progress >>= rest_around limits files)
rest_inmost limits [] file progress = sym (behind_ok (rest_of limits file file.entries.items file.fault progress))
rest_inmost limits (outer ∷ files) file progress =
    ap (λ (r : Result Progress Unread). r >>= rest_of limits outer outer.entries.items outer.fault) (rest_inmost limits files file progress)
    ∙ regroup (rest_of limits file file.entries.items file.fault progress) (rest_around limits files) (rest_of limits outer outer.entries.items outer.fault)

-- if no entry is left of an included file, the file around it goes on
pub left_file : (limits : ReadLimits) (file outer : File) (around files : List File) (origin : Labels) (records : Records) (texts : List (List ℕ)) → around ≡ files ++ outer ∷ []
    → Pauses limits file around origin records [] None texts
    → Pauses limits outer files origin (record records { context = back_at file.before records.context }) outer.entries.items outer.fault texts
unfolding with_rest with_entries
left_file limits file outer around files origin records texts last before later =
    before later
    ∙ ap (λ (fs : List File). as_zone_text (rest_around limits fs (record { records = record records { context = back_at file.before records.context }; texts = later }))) last
    ∙ ap as_zone_text (rest_inmost limits files outer (record { records = record records { context = back_at file.before records.context }; texts = later }))

-- ---- an `$INCLUDE`

rest_first : (limits : ReadLimits) (file : File) (entry : Entry) (entries : List Entry) (fault : Option LexFault) (progress : Progress)
    → rest_of limits file (entry ∷ entries) fault progress
    ≡ (with_entry (included limits file.levels) limits.room file.number entry progress >>= rest_of limits file entries fault)
unfolding with_rest with_entries
rest_first limits file entry entries fault progress =
    regroup (with_entry (included limits file.levels) limits.room file.number entry progress)
    (with_entries (included limits file.levels) limits.room file.number entries) (ended file.number file.before fault)

-- what it makes, where the file may be opened
opens : (limits : ReadLimits) (levels room file line : ℕ) (name : List ℕ) (origin : Labels) (progress : Progress) → progress.records.included < limits.includes
    → included limits (suc levels) file line name origin progress
    ≡ with_next_text name (with_include (included limits levels) limits.room origin) (one_included progress) progress.texts
unfolding included
opens limits levels room file line name origin progress less = by (nat_le limits.includes progress.records.included) refl where
  by : (full : Bool) → nat_le limits.includes progress.records.included ≡ full
      → cond full (Err (Faulty (At file line TooManyIncludes))) (with_next_text name (with_include (included limits levels) limits.room origin) (one_included progress) progress.texts)
      ≡ with_next_text name (with_include (included limits levels) limits.room origin) (one_included progress) progress.texts
  by true e = absurd (grind (arith, nat_tests))
  by false e = refl

-- the first entry asks for a file
entry_opens : (include : Include) (room file : ℕ) (entry : Entry) (records : Records) (texts : List (List ℕ)) (name : List ℕ) (origin : Labels)
    → effect_of room file records entry ≡ Ok (Opens name origin)
    → with_entry include room file entry (record { records = records; texts = texts }) ≡ include file entry.line name origin (record { records = records; texts = texts })
unfolding with_entry
entry_opens include room file entry records texts name origin e =
    ap (λ (said : Result Effect TextCause). at file entry.line said >>= (λ effect. with_effect include file entry.line effect (record { records = records; texts = texts }))) e

too_deep : (limits : ReadLimits) (levels file line : ℕ) (name : List ℕ) (origin : Labels) (progress : Progress) → levels ≡ 0
    → included limits levels file line name origin progress ≡ Err (Faulty (At file line IncludeDepth))
unfolding included
too_deep limits zero file line name origin progress e = refl
too_deep limits (suc levels) file line name origin progress e = absurd (omega arith)

too_many : (limits : ReadLimits) (levels file line : ℕ) (name : List ℕ) (origin : Labels) (progress : Progress) → 0 < levels → limits.includes ≤ progress.records.included
    → included limits levels file line name origin progress ≡ Err (Faulty (At file line TooManyIncludes))
unfolding included
too_many limits zero file line name origin progress deep less = absurd (omega arith)
too_many limits (suc levels) file line name origin progress deep less = by (nat_le limits.includes progress.records.included) refl where
  by : (full : Bool) → nat_le limits.includes progress.records.included ≡ full
      → cond full (Err (Faulty (At file line TooManyIncludes))) (with_next_text name (with_include (included limits levels) limits.room origin) (one_included progress) progress.texts)
      ≡ Err (Faulty (At file line TooManyIncludes))
  by true e = refl
  by false e = absurd (grind (arith, nat_tests))

-- an `$INCLUDE` in a file below which none may be included has the fault of its depth
pub made_too_deep : (held : Held) (entry : Entry) (texts : List (List ℕ)) (name : List ℕ) (origin : Labels) → effect_of held.limits.room held.file.number held.records entry ≡ Ok (Opens name origin)
    → held.file.levels ≡ 0 → IsFaultOf (At held.file.number entry.line IncludeDepth) (entry_makes held entry texts)
made_too_deep held entry texts name origin e none =
    inr (entry_opens (included held.limits held.file.levels) held.limits.room held.file.number entry held.records texts name origin e
    ∙ too_deep held.limits held.file.levels held.file.number entry.line name origin (record { records = held.records; texts = texts }) none)

-- an entry that asks for a file more than may be included has this fault, at its file and its line
pub made_too_many : (held : Held) (entry : Entry) (texts : List (List ℕ)) (name : List ℕ) (origin : Labels) → effect_of held.limits.room held.file.number held.records entry ≡ Ok (Opens name origin)
    → 0 < held.file.levels → held.limits.includes ≤ held.records.included → IsFaultOf (At held.file.number entry.line TooManyIncludes) (entry_makes held entry texts)
made_too_many held entry texts name origin e deep less =
    inr (entry_opens (included held.limits held.file.levels) held.limits.room held.file.number entry held.records texts name origin e
    ∙ too_many held.limits held.file.levels held.file.number entry.line name origin (record { records = held.records; texts = texts }) deep less)

-- ---- a file that is included is opened

module _ (held new : Held) (entry : Entry) (name : List ℕ) (below : Labels) (may : MayOpen held entry name below) (opened : OpensFile below held new) where
  makes : (texts : List (List ℕ)) → entry_makes held entry texts
      ≡ with_next_text name (with_include (included held.limits new.file.levels) held.limits.room below) (one_included (record { records = held.records; texts = texts })) texts
  makes texts =
      let progress : Progress = record { records = held.records; texts = texts } in
      let deep : held.file.levels ≡ suc new.file.levels = sym opened.levels ∙ add-one new.file.levels in
      entry_opens (included held.limits held.file.levels) held.limits.room held.file.number entry held.records texts name below may.effect
      ∙ ap (λ (levels : ℕ). included held.limits levels held.file.number entry.line name below progress) deep
      ∙ opens held.limits new.file.levels held.limits.room held.file.number entry.line name below progress may.includes

  -- if an entry asks for a file that may be included, the texts so far ask for that file
  pub asks : (origin : Labels) (texts : List (List ℕ)) → IsPausing held origin texts (entry ∷ held.file.entries.items) → texts_give held.limits origin texts ≡ Err (Asks name)
  asks origin texts before =
      now held.limits held.file held.around origin held.records (entry ∷ held.file.entries.items) held.file.fault texts before
      ∙ ap (λ (r : Result Progress Unread). as_zone_text (r >>= rest_around held.limits held.around))
      (rest_first held.limits held.file entry held.file.entries.items held.file.fault (record { records = held.records; texts = [] })
      ∙ ap (λ (r : Result Progress Unread). r >>= rest_of held.limits held.file held.file.entries.items held.file.fault) (makes []))

  -- with the text of the file that is asked for, the texts so far give what that text and the rest of the files around it
  -- give
  pub goes_on_in : (origin : Labels) (texts : List (List ℕ)) → IsPausing held origin texts (entry ∷ held.file.entries.items)
      → Reads held.limits new.file (held.around ++ held.file ∷ []) new.records new.file.entries.items origin texts []
  unfolding with_rest
  goes_on_in origin texts before text others later all =
      let within : Result Progress Unread = with_include (included held.limits new.file.levels) held.limits.room below text (record (one_included (record { records = held.records; texts = text ∷ later })) { texts = later }) in
      let rest : Progress → Result Progress Unread = rest_of held.limits held.file held.file.entries.items held.file.fault in
      before (text ∷ later)
      ∙ ap (λ (r : Result Progress Unread). as_zone_text (r >>= rest_around held.limits held.around))
      (rest_first held.limits held.file entry held.file.entries.items held.file.fault (record { records = held.records; texts = text ∷ later })
      ∙ ap (λ (r : Result Progress Unread). r >>= rest) (makes (text ∷ later)))
      ∙ ap as_zone_text (regroup within rest (rest_around held.limits held.around)
      ∙ same_next within (λ p. rest p >>= rest_around held.limits held.around) (rest_around held.limits (held.around ++ held.file ∷ []))
      (λ p. sym (rest_inmost held.limits held.around held.file p))
      ∙ ap (λ (r : Result Progress Unread). r >>= rest_around held.limits (held.around ++ held.file ∷ []))
      (rw (opened.number, opened.before, opened.entries, opened.records)
      (ap (λ (es : List Entry). with_rest (included held.limits new.file.levels) held.limits.room (held.records.included + 1) held.records.context es (text_fault text)
      (record { records = record held.records { context = under below held.records.context; included = held.records.included + 1 }; texts = later })) all)))

-- ---- its fault

-- a fault that the first entry makes where all was taken is what the texts give, unless memory ran out
pub pause_makes : (held : Held) (entry : Entry) (fault : TextFault) (origin : Labels) (texts : List (List ℕ)) → IsFaultOf fault (entry_makes held entry [])
    → IsPausing held origin texts (entry ∷ held.file.entries.items) → fault ≢ NoMemory → texts_give held.limits origin texts ≡ Err (Faulty fault)
pause_makes held entry fault origin texts (inl free) before named = absurd (named free)
pause_makes held entry fault origin texts (inr same) before named =
    now held.limits held.file held.around origin held.records (entry ∷ held.file.entries.items) held.file.fault texts before
    ∙ ap (λ (r : Result Progress Unread). as_zone_text (r >>= rest_around held.limits held.around))
    (rest_first held.limits held.file entry held.file.entries.items held.file.fault (record { records = held.records; texts = [] })
    ∙ ap (λ (r : Result Progress Unread). r >>= rest_of held.limits held.file held.file.entries.items held.file.fault) same)
