-- A zone's files that are read once more, where all that they told is told still: the same zone.
use Rattle.std.proofs.Common.{◌≡◌, ◌≢◌, ℕ, zero, suc, ◌+◌, ◌-◌, ◌≤◌, ◌⊎◌, Bool, true, false, List, [], ◌∷◌, ◌++◌, length, unwrap_or, Option, Result, Ok, Err, if◌then◌else◌, nat_le, refl, sym, ap, ◌∙◌, inl, inr, append_assoc, arith}
use Rattle.std.specs.Option.{option_map_or}
use Rattle.std.specs.Prelude.{min}
use Rattle.std.proofs.lemmas.List.{append-nil, length-append}
use Rattle.dns_data.specs.Name.{Labels}
use Rattle.io_edges.specs.Files.{FilesTold, Told, Untold, NotHeld, Holds, StaysTold}
use Rattle.master_read.proofs.Counts.{texts_ask, texts_count}
use Rattle.master_read.specs.ZoneText.{Unread, Faulty, Asks, zone_text}
use Rattle.master_read.specs.declared.zone_text.ZoneText.{ZoneText}
use Rattle.meta_read.specs.declared.meta.MetaRow.{MetaRow}
use Rattle.net_model.specs.declared.config.Zone.{Zone}
use Rattle.zone_rules.specs.ZoneOf.{zone_of}
use Rattle.config_load.specs.Conf.{settled, files_behind, row_skips, zone_files, zone_read, zone_skipped, zone_unless, left_behind}
use Rattle.config_load.specs.Faults.{of_rule}
use Rattle.config_load.specs.Follows.{ByTold, StopsEarly, Follows}
use Rattle.config_load.specs.Joined.{joined}
use Rattle.config_load.specs.Limits.{largest_octets}
use Rattle.config_load.specs.Load.{IsSteady}
use Rattle.config_load.specs.Reading.{Reading, Reads, Refuses, Unknown, ◌>>=◌, unless_refused, file_octets, told_octets}
use Rattle.config_load.specs.Sources.{HasAnswered}
use Rattle.config_load.specs.declared.fault.LoadFault.{LoadFault}
use Rattle.config_load.specs.declared.fault.LoadFault.TheVariants.{TooLong}
use Rattle.config_load.specs.declared.limits.Limits.{Limits}
use Rattle.config_load.specs.declared.zone.ReadZone.{ReadZone}
use Rattle.config_load.specs.declared.zone_files.ZoneFiles.{ZoneFiles}
use Rattle.config_load.proofs.OpenedFiles.{files_behind-asks, files_behind-gives}
use Rattle.config_load.proofs.RowsRead.{read_on}
use Rattle.config_load.proofs.SmallerLimits.{texts_again}
use Rattle.config_load.proofs.Sources.{HasAnswered-looked}
use Rattle.config_load.proofs.Steady.{reads_later, unless_is_steady}

-- ---- what is read by what is told is read by all that tells no other

-- what two tell of a name, where the first tells something
abbrev both_at : Told → Told → Told
both_at Untold other = Untold
both_at NotHeld other = other
both_at (Holds octets) other = other

-- what two tell of each name of which the first tells something
abbrev both_tell : FilesTold → FilesTold → FilesTold
both_tell told other name = both_at (told name) (other name)

both-first : (here there : Told) → (here ≡ Untold) ⊎ ((there ≡ here) ⊎ (there ≡ Untold)) → (both_at here there ≡ Untold) ⊎ (here ≡ both_at here there)
both-first Untold there case = inl refl
both-first NotHeld there (inl none) = absurd cc
both-first NotHeld there (inr (inl same)) = inr (sym same)
both-first NotHeld there (inr (inr none)) = inl none
both-first (Holds octets) there (inl none) = absurd cc
both-first (Holds octets) there (inr (inl same)) = inr (sym same)
both-first (Holds octets) there (inr (inr none)) = inl none

both-second : (here there : Told) → (both_at here there ≡ Untold) ⊎ (there ≡ both_at here there)
both-second Untold there = inl refl
both-second NotHeld there = inr refl
both-second (Holds octets) there = inr refl

both-told : (here there : Told) → here ≢ Untold → both_at here there ≡ there
both-told Untold there some = absurd (some refl)
both-told NotHeld there some = refl
both-told (Holds octets) there some = refl

module _ {A : Type 0} where
  -- what a steady reading reads by what is told is an answer to the reading
  pub Follows-read : (reading : ByTold A) → IsSteady reading → (told : FilesTold) (value : A) → reading told ≡ Reads value → Follows told reading (λ _. Reads value)
  Follows-read reading steady told value is other no_other = by (steady between told to_told) (steady between other to_other) where
    between : FilesTold
    between = both_tell told other

    to_told : StaysTold between told
    to_told name = both-first (told name) (other name) (no_other name)

    to_other : StaysTold between other
    to_other name = both-second (told name) (other name)

    same_name : {a b : List ℕ} → (let one : Reading A = Unknown a in one ≡ Unknown b) → a ≡ b
    same_name e = cc

    by : (reading told ≡ reading between) ⊎ StopsEarly told between (reading between) → (reading other ≡ reading between) ⊎ StopsEarly other between (reading between)
        → (reading other ≡ Reads value) ⊎ StopsEarly told other (reading other)
    by (inl same) rest = inl (reads_later steady between other value to_other (sym same ∙ is))
    by (inr (name, stopped, none, some)) (inl same) =
        inr (name, same ∙ stopped, sym (both-told (told name) (other name) some) ∙ none, some)
    by (inr (name, stopped, none, some)) (inr (late, stopped', none', some')) =
        let here : late ≡ name = same_name (sym stopped' ∙ stopped) in
        absurd (some' (ap other here ∙ sym (both-told (told name) (other name) some) ∙ none))

-- a row's zone that is read by what is told, or skipped, answers the reading of the row's zone, without a file being read
pub HasAnswered-again : (skips : MetaRow → Bool) (meta : List ℕ) (row : MetaRow) (left : Limits) (told : FilesTold) (counts : List ℕ → ℕ) (read : ReadZone) → zone_unless skips meta row left told ≡ Reads read
    → (let answer : Result ReadZone LoadFault = Ok read in HasAnswered told told counts counts (zone_unless skips meta row left) answer)
HasAnswered-again skips meta row left told counts read is =
    let answer : Result ReadZone LoadFault = Ok read in
    HasAnswered-looked told counts (zone_unless skips meta row left) answer tt (Follows-read (zone_unless skips meta row left) (unless_is_steady skips meta row left) told read is)

-- ---- with other limits

-- the octets of a file, where as many are allowed
octets_again : (left other : Limits) (name : List ℕ) (told : FilesTold) → other.octets ≡ left.octets → file_octets other name told ≡ file_octets left name told
octets_again left other name told as_long = by (told name) where
  by : (here : Told) → told_octets other name here ≡ told_octets left name here
  by Untold = refl
  by NotHeld = refl
  by (Holds octets) = ap (λ (most : ℕ). let read : Reading (List ℕ) = if nat_le (length octets) (min most largest_octets) then Reads octets else Refuses (TooLong name) in read) as_long

module _ (meta : List ℕ) (origin : Labels) (left other : Limits) (as_long : other.octets ≡ left.octets) (told : FilesTold) where
  -- The files were read: their texts are these and more, and they are read again with the other limits, where these are no
  -- less than what was read.
  record WereRead (names texts : List (List ℕ)) (files : ZoneFiles) : Type 0 where
    more : List (List ℕ)
    given : zone_text origin left.records left.includes (texts ++ more) ≡ Ok files.text
    again : files.text.seen ≤ other.records → files.text.included ≤ other.includes → (times : ℕ) → times + length texts ≡ other.includes + 1
        → files_behind meta origin other times names texts told ≡ Reads files

  -- files whose texts give records
  read_whole : (names texts : List (List ℕ)) (files : ZoneFiles) (text : ZoneText) → zone_text origin left.records left.includes texts ≡ Ok text → record { names = names; text = text } ≡ files → WereRead names texts files
  read_whole names texts files text is same =
      let whole : zone_text origin left.records left.includes (texts ++ []) ≡ Ok files.text =
      ap (zone_text origin left.records left.includes) (append-nil texts) ∙ is ∙ ap (λ (f : ZoneFiles). Ok f.text) same in
      record {
        more = [];
        given = whole;
        again = λ seen included times count.
            files_behind-gives meta origin other times names texts text told
            (texts_again origin left.records left.includes other.records other.includes texts [] files.text whole seen included ∙ is)
            ∙ ap Reads same;
      }

  files_again : (times : ℕ) (names texts : List (List ℕ)) (files : ZoneFiles) → files_behind meta origin left times names texts told ≡ Reads files → WereRead names texts files
  unfolding files_behind
  files_again zero names texts files e = by (zone_text origin left.records left.includes texts) refl e where
    by : (said : Result ZoneText Unread) → zone_text origin left.records left.includes texts ≡ said → settled names (λ file. Unknown (joined meta file)) said ≡ Reads files → WereRead names texts files
    by (Ok text) is d = read_whole names texts files text is (let same : record { names = names; text = text } ≡ files = cc in same)
    by (Err (Faulty fault)) is d = absurd cc
    by (Err (Asks file)) is d = absurd cc
  files_again (suc times) names texts files e =
      by (zone_text origin left.records left.includes texts) refl e (λ file text. files_again times (names ++ joined meta file ∷ []) (texts ++ text ∷ []) files)
    where
      on : (file octets : List ℕ) → zone_text origin left.records left.includes texts ≡ Err (Asks file) → file_octets left (joined meta file) told ≡ Reads octets
          → WereRead (names ++ joined meta file ∷ []) (texts ++ octets ∷ []) files → WereRead names texts files
      on file octets asks here rest = record { more = octets ∷ rest.more; given = whole; again = again }
        where
          whole : zone_text origin left.records left.includes (texts ++ octets ∷ rest.more) ≡ Ok files.text
          whole = ap (zone_text origin left.records left.includes) (sym (append_assoc texts (octets ∷ []) rest.more)) ∙ rest.given

          again : files.text.seen ≤ other.records → files.text.included ≤ other.includes → (times : ℕ) → times + length texts ≡ other.includes + 1
              → files_behind meta origin other times names texts told ≡ Reads files
          again seen included times count = at times count where
            also : zone_text origin other.records other.includes texts ≡ Err (Asks file)
            also = texts_again origin left.records left.includes other.records other.includes texts (octets ∷ rest.more) files.text whole seen included ∙ asks

            at : (times : ℕ) → times + length texts ≡ other.includes + 1 → files_behind meta origin other times names texts told ≡ Reads files
            at zero count = let few = texts_ask origin other.records other.includes texts file also in absurd (omega (arith, few, count))
            at (suc times) count =
                files_behind-asks meta origin other times names texts file told also
                ∙ ap (λ (read : Reading (List ℕ)). read >>= λ text. files_behind meta origin other times (names ++ joined meta file ∷ []) (texts ++ text ∷ []) told)
                (octets_again left other (joined meta file) told as_long ∙ here)
                ∙ rest.again seen included times (omega (arith, count, length-append texts (octets ∷ [])))

      by : (said : Result ZoneText Unread) → zone_text origin left.records left.includes texts ≡ said
          → settled names (λ file. file_octets left (joined meta file) told >>= λ text. files_behind meta origin left times (names ++ joined meta file ∷ []) (texts ++ text ∷ []) told) said ≡ Reads files
          → ((file text : List ℕ) → files_behind meta origin left times (names ++ joined meta file ∷ []) (texts ++ text ∷ []) told ≡ Reads files → WereRead (names ++ joined meta file ∷ []) (texts ++ text ∷ []) files)
          → WereRead names texts files
      by (Ok text) is d rest = read_whole names texts files text is (let same : record { names = names; text = text } ≡ files = cc in same)
      by (Err (Faulty fault)) is d rest = absurd cc
      by (Err (Asks file)) is d rest =
          let octets = read_on (file_octets left (joined meta file) told) (λ text. files_behind meta origin left times (names ++ joined meta file ∷ []) (texts ++ text ∷ []) told) files d in
          on file octets.0 is octets.1 (rest file octets.0 octets.2)

-- what is left behind so many record entries and included files
abbrev pub left_by : Limits → ℕ → ℕ → Limits
left_by left records includes = record left { records = left.records - records; includes = left.includes - includes }

-- A zone that was read is read again for a row of the same file and origin, with other limits that are no less than what
-- was read: the same zone and names of files, and as much less is left.
pub zone_again : (meta : List ℕ) (row later : MetaRow) (left other : Limits) (told : FilesTold) (read : ReadZone) → zone_read meta row left told ≡ Reads read
    → row.file ≡ later.file → row.origin ≡ later.origin → other.octets ≡ left.octets → left.records - read.left.records ≤ other.records → left.includes - read.left.includes ≤ other.includes
    → zone_read meta later other told ≡ Reads (record { zone = read.zone; names = read.names; left = left_by other (left.records - read.left.records) (left.includes - read.left.includes) })
unfolding zone_read zone_files
zone_again meta row later left other told read e file origin as_long records includes =
    let name : List ℕ = joined meta row.file in
    let below : Labels = unwrap_or row.origin [] in
    let files = read_on (zone_files meta row left told) (λ (files : ZoneFiles). unless_refused (of_rule files.names) (zone_of row.origin files.text.rrs) >>= behind left files) read e in
    let zone = read_on (unless_refused (of_rule files.0.names) (zone_of row.origin files.0.text.rrs)) (behind left files.0) read files.2 in
    let octets = read_on (file_octets left name told) (λ text. files_behind meta below left left.includes (name ∷ []) (text ∷ []) told) files.0 files.1 in
    let again = files_again meta below left other as_long told left.includes (name ∷ []) (octets.0 ∷ []) files.0 octets.2 in
    let last : record { zone = zone.0; names = files.0.names; left = left_behind left files.0.text } ≡ read = cc (zone.2) in
    let counts = texts_count below left.records left.includes ((octets.0 ∷ []) ++ again.more) files.0.text again.given in
    let few : files.0.text.seen ≤ left.records = counts.1 in
    let fewer : files.0.text.included ≤ left.includes = counts.2 in
    let left_records : left.records - files.0.text.seen ≡ read.left.records = ap (λ (r : ReadZone). r.left.records) last in
    let left_includes : left.includes - files.0.text.included ≡ read.left.includes = ap (λ (r : ReadZone). r.left.includes) last in
    let seen : files.0.text.seen ≡ left.records - read.left.records = omega (arith, few, left_records) in
    let included : files.0.text.included ≡ left.includes - read.left.includes = omega (arith, fewer, left_includes) in
    (λ i. zone_read meta (record { file = sym file i; server = later.server; origin = sym origin i }) other told)
    ∙ ap (λ (r : Reading (List ℕ)). r >>= (λ text. files_behind meta below other other.includes (name ∷ []) (text ∷ []) told) >>= (λ files. unless_refused (of_rule files.names) (zone_of row.origin files.text.rrs) >>= behind other files))
    (octets_again left other name told as_long ∙ octets.1)
    ∙ ap (λ (r : Reading ZoneFiles). r >>= (λ files. unless_refused (of_rule files.names) (zone_of row.origin files.text.rrs) >>= behind other files))
    (again.again (omega (arith, seen, records)) (omega (arith, included, includes)) other.includes (omega arith))
    ∙ ap (λ (r : Reading Zone). r >>= behind other files.0) zone.1
    ∙ (λ i. Reads (record { zone = (last i).zone; names = (last i).names; left = left_by other (seen i) (included i) }))
  where
    behind : Limits → ZoneFiles → Zone → Reading ReadZone
    behind left files zone = Reads (record { zone = zone; names = files.names; left = left_behind left files.text })

-- so is one that may be skipped: then nothing was read
pub unless_again : (skips : Labels → Bool) (meta : List ℕ) (row later : MetaRow) (left other : Limits) (told : FilesTold) (read : ReadZone)
    → zone_unless (row_skips skips) meta row left told ≡ Reads read → row.file ≡ later.file → row.origin ≡ later.origin → other.octets ≡ left.octets
    → left.records - read.left.records ≤ other.records → left.includes - read.left.includes ≤ other.includes
    → zone_unless (row_skips skips) meta later other told
    ≡ Reads (record { zone = read.zone; names = read.names; left = left_by other (left.records - read.left.records) (left.includes - read.left.includes) })
unless_again skips meta row later left other told read e file origin as_long records includes =
    by (row_skips skips row) (ap (λ (given : Option Labels). option_map_or skips given false) origin) e
  where
    again : Reading ReadZone
    again = Reads (record { zone = read.zone; names = read.names; left = left_by other (left.records - read.left.records) (left.includes - read.left.includes) })

    by : (skip : Bool) → skip ≡ row_skips skips later → (if skip then Reads (zone_skipped row left) else zone_read meta row left told) ≡ Reads read
        → zone_unless (row_skips skips) meta later other told ≡ again
    by true same is =
        let read_is : zone_skipped row left ≡ read = cc in
        let origin_is : unwrap_or row.origin [] ≡ unwrap_or later.origin [] = ap (λ (given : Option Labels). unwrap_or given []) origin in
        let none_read : left.records - read.left.records ≡ 0 = ap (λ (r : ReadZone). left.records - r.left.records) (sym read_is) ∙ omega arith in
        let none_included : left.includes - read.left.includes ≡ 0 = ap (λ (r : ReadZone). left.includes - r.left.includes) (sym read_is) ∙ omega arith in
        let all_records : other.records ≡ other.records - 0 = omega arith in
        let all_includes : other.includes ≡ other.includes - 0 = omega arith in
        ap (λ (b : Bool). if b then Reads (zone_skipped later other) else zone_read meta later other told) (sym same)
        ∙ (λ i. Reads (record { zone = record { origin = sym origin_is i; rrs = [] }; names = []; left = record other { records = all_records i; includes = all_includes i } }))
        ∙ (λ i. Reads (record { zone = (read_is i).zone; names = (read_is i).names; left = left_by other (sym none_read i) (sym none_included i) }))
    by false same is =
        ap (λ (b : Bool). if b then Reads (zone_skipped later other) else zone_read meta later other told) (sym same)
        ∙ zone_again meta row later left other told read is file origin as_long records includes
