-- The files of a zone, one after the other.
use Rattle.std.proofs.Common.{◌≡◌, ℕ, zero, suc, ◌+◌, ◌-◌, ◌<◌, ◌≤◌, true, false, ◌||◌, List, [], ◌∷◌, ◌++◌, length, length-append, unwrap_or, Result, Ok, Err, IsErrAnd, refl, subst, sym, ap, ◌∙◌, inl, inr, arith}
use Rattle.std.specs.Result.{IfErr}
use Rattle.dns_data.specs.Answers.{AnswersOr, with_fault}
use Rattle.dns_data.specs.Name.{Labels}
use Rattle.io_edges.specs.Files.{FilesTold, StaysTold}
use Rattle.master_read.proofs.Counts.{texts_ask}
use Rattle.master_read.specs.Reader.{Held, IsReaderOf, GoesOn, HasEnded, asked_by, is_over, is_no_memory}
use Rattle.master_read.specs.ZoneText.{Unread, Faulty, Asks, zone_text}
use Rattle.master_read.specs.declared.asked.AfterFile.{AfterFile}
use Rattle.master_read.specs.declared.asked.AfterFile.TheVariants.{Include, Done}
use Rattle.master_read.specs.declared.fault.TextFault.{TextFault}
use Rattle.master_read.specs.declared.fault.TextFault.TheVariants as text_faults
use Rattle.master_read.specs.declared.zone_text.ZoneText.{ZoneText}
use Rattle.meta_read.specs.declared.meta.MetaRow.{MetaRow}
use Rattle.config_load.specs.Conf.{settled, files_behind, zone_files}
use Rattle.config_load.specs.Faults.{of_text, FailedAt}
use Rattle.config_load.specs.Fed.{HasFed, FailsToRead}
use Rattle.config_load.specs.Follows.{ByTold, Follows, Answers}
use Rattle.config_load.specs.Joined.{joined}
use Rattle.config_load.specs.ReadFiles.{read_files}
use Rattle.config_load.specs.Reading.{Reads, Refuses, Unknown, ◌>>=◌, file_octets}
use Rattle.config_load.specs.Sources.{ReadsOnly, ReadsFor, HasAnswered}
use Rattle.config_load.specs.declared.fault.LoadFault.{LoadFault}
use Rattle.config_load.specs.declared.limits.Limits.{Limits}
use Rattle.config_load.specs.declared.zone_files.ZoneFiles.{ZoneFiles}
use Rattle.config_load.proofs.Follows.{Follows-same, Follows-then, Follows-bind, Answers-then, Answers-passed}
use Rattle.config_load.proofs.Sources.{FailedAt-then, FailedAt-no_read, FailedAt-passed, ReadsFor-file, ReadsFor-then, ReadsFor-bind}
use Rattle.config_load.proofs.Steps.{IsNoRead}

-- the reading that goes on with the file of this name, behind those with these names and texts
abbrev pub next_file : List ℕ → Labels → Limits → ℕ → List (List ℕ) → List (List ℕ) → List ℕ → ByTold ZoneFiles
next_file meta origin left times names texts name told =
    file_octets left name told >>= λ text. files_behind meta origin left times (names ++ name ∷ []) (texts ++ text ∷ []) told

-- the reading of a row's files begins with the row's file
zone_files-first : (meta : List ℕ) (row : MetaRow) (left : Limits) (told : FilesTold) → zone_files meta row left told ≡ next_file meta (unwrap_or row.origin []) left left.includes [] [] (joined meta row.file) told
unfolding zone_files
zone_files-first meta row left told = refl

-- the texts ask for what is asked
asks-asked : (said : Result ZoneText Unread) (file : List ℕ) → Include file ≡ asked_by said → said ≡ Err (Asks file)
asks-asked (Ok text) file is = absurd cc
asks-asked (Err (Faulty fault)) file is = absurd cc
asks-asked (Err (Asks name)) file is = let same : file ≡ name = cc in ap (λ n. Err (Asks n)) (sym same)

-- what asks for no file has ended
pub is_done : (asked : AfterFile) → ((file : List ℕ) → asked ≡ Include file → ⊥) → asked ≡ Done
is_done (Include file) never = absurd (never file refl)
is_done Done never = refl

-- texts that ask for a file go on with it
pub files_behind-asks : (meta : List ℕ) (origin : Labels) (left : Limits) (times : ℕ) (names texts : List (List ℕ)) (file : List ℕ) (told : FilesTold) → zone_text origin left.records left.includes texts ≡ Err (Asks file) → files_behind meta origin left (suc times) names texts told ≡ next_file meta origin left times names texts (joined meta file) told
unfolding files_behind
files_behind-asks meta origin left times names texts file told asks =
    ap (settled names (λ file. file_octets left (joined meta file) told >>= λ text. files_behind meta origin left times (names ++ joined meta file ∷ []) (texts ++ text ∷ []) told)) asks

-- texts that give records are all
pub files_behind-gives : (meta : List ℕ) (origin : Labels) (left : Limits) (times : ℕ) (names texts : List (List ℕ)) (text : ZoneText) (told : FilesTold) → zone_text origin left.records left.includes texts ≡ Ok text → files_behind meta origin left times names texts told ≡ Reads (record { names = names; text = text })
unfolding files_behind
files_behind-gives meta origin left zero names texts text told gives = ap (settled names (λ file. Unknown (joined meta file))) gives
files_behind-gives meta origin left (suc times) names texts text told gives =
    ap (settled names (λ file. file_octets left (joined meta file) told >>= λ text. files_behind meta origin left times (names ++ joined meta file ∷ []) (texts ++ text ∷ []) told)) gives

files_behind-faulty : (meta : List ℕ) (origin : Labels) (left : Limits) (times : ℕ) (names texts : List (List ℕ)) (fault : TextFault) (told : FilesTold) → zone_text origin left.records left.includes texts ≡ Err (Faulty fault) → files_behind meta origin left times names texts told ≡ Refuses (of_text names fault)
unfolding files_behind
files_behind-faulty meta origin left zero names texts fault told faulty = ap (settled names (λ file. Unknown (joined meta file))) faulty
files_behind-faulty meta origin left (suc times) names texts fault told faulty =
    ap (settled names (λ file. file_octets left (joined meta file) told >>= λ text. files_behind meta origin left times (names ++ joined meta file ∷ []) (texts ++ text ∷ []) told)) faulty

-- no read fails where texts are told
read_files-no_read : (names : List (List ℕ)) (given : Result ZoneText TextFault) → IfErr (read_files names given) IsNoRead
read_files-no_read names (Ok text) = tt
read_files-no_read names (Err (text_faults.At file line cause)) = tt
read_files-no_read names (Err text_faults.NoMemory) = tt

-- what texts give that have ended
Answers-ended : (meta : List ℕ) (origin : Labels) (left : Limits) (times : ℕ) (names texts : List (List ℕ)) (told : FilesTold) (given : Result ZoneText TextFault) → AnswersOr (Faulty text_faults.NoMemory) (with_fault Faulty given) (zone_text origin left.records left.includes texts) → Answers told (files_behind meta origin left times names texts) (read_files names given)
Answers-ended meta origin left times names texts told (Ok text) gives =
    Follows-same told (files_behind meta origin left times names texts) (λ _. Reads (record { names = names; text = text })) (λ other. files_behind-gives meta origin left times names texts text other gives)
Answers-ended meta origin left times names texts told (Err (text_faults.At file line cause)) (inl none) = absurd cc
Answers-ended meta origin left times names texts told (Err (text_faults.At file line cause)) (inr faulty) =
    Follows-same told (files_behind meta origin left times names texts) (λ _. Refuses (of_text names (text_faults.At file line cause))) (λ other. files_behind-faulty meta origin left times names texts (text_faults.At file line cause) other faulty)
Answers-ended meta origin left times names texts told (Err text_faults.NoMemory) answered = tt

-- a file that was read, behind those before
Follows-read : (first : ByTold ZoneFiles) (old new : FilesTold) (meta : List ℕ) (origin : Labels) (left : Limits) (times : ℕ) (names texts : List (List ℕ)) (name octets : List ℕ) → StaysTold old new → Follows old first (next_file meta origin left times names texts name) → Follows new (file_octets left name) (λ _. Reads octets) → Follows new first (files_behind meta origin left times (names ++ name ∷ []) (texts ++ octets ∷ []))
Follows-read first old new meta origin left times names texts name octets stays so_far whole =
    Follows-then old new first (next_file meta origin left times names texts name) _ stays so_far
    (Follows-bind new (file_octets left name) (λ _. Reads octets) (λ told text. files_behind meta origin left times (names ++ name ∷ []) (texts ++ text ∷ []) told) whole)

-- The files of a row's zone that were fed to a reader, in the order in which they were opened: these are their names, and
-- this is asked behind them.
pub record HasFedFiles (meta : List ℕ) (row : MetaRow) (left : Limits) (told : FilesTold) (names : List (List ℕ)) (asked : AfterFile) (reader : Held) : Type 0 where
  pub texts : List (List ℕ)
  pub times : ℕ
  pub few : times + length names ≡ left.includes + 1
  pub as_many : length texts ≡ length names
  pub asks : asked ≡ asked_by (zone_text (unwrap_or row.origin []) left.records left.includes texts)
  pub goes_on : GoesOn asked reader (unwrap_or row.origin []) left.records left.includes texts
  pub so_far : Follows told (zone_files meta row left) (files_behind meta (unwrap_or row.origin []) left times names texts)

-- Behind the files with these names the file of this name is open, and the reader was fed nothing of it.
pub record HasOpened (meta : List ℕ) (row : MetaRow) (left : Limits) (told : FilesTold) (names : List (List ℕ)) (name : List ℕ) (reader : Held) : Type 0 where
  pub texts : List (List ℕ)
  pub times : ℕ
  pub few : times + length names ≡ left.includes
  pub as_many : length texts ≡ length names
  pub still_open : reader.ended ≡ false
  pub none : reader.fed ≡ 0
  pub stands : IsReaderOf reader (unwrap_or row.origin []) left.records left.includes texts []
  pub so_far : Follows told (zone_files meta row left) (next_file meta (unwrap_or row.origin []) left times names texts name)

module _ (meta : List ℕ) (row : MetaRow) (left : Limits) where
  -- the first file of a row that is opened is the row's zone file
  pub HasOpened-first : (told : FilesTold) (names : List (List ℕ)) (name : List ℕ) (reader : Held) → names ≡ [] → name ≡ joined meta row.file → reader.ended ≡ false → reader.fed ≡ 0 → IsReaderOf reader (unwrap_or row.origin []) left.records left.includes [] [] → HasOpened meta row left told names name reader
  HasOpened-first told names name reader empty is still_open none stands = subst (λ (names : List (List ℕ)). HasOpened meta row left told names name reader) (sym empty) (record {
    texts = [];
    times = left.includes;
    few = omega arith;
    as_many = refl;
    still_open = still_open;
    none = none;
    stands = stands;
    so_far = Follows-same told (zone_files meta row left) (next_file meta (unwrap_or row.origin []) left left.includes [] [] name)
        (λ other. zone_files-first meta row left other ∙ ap (λ n. next_file meta (unwrap_or row.origin []) left left.includes [] [] n other) (sym is));
  })

  module _ (told : FilesTold) (names : List (List ℕ)) (reader : Held) where
    opened-behind : (file name : List ℕ) → HasFedFiles meta row left told names (Include file) reader → name ≡ joined meta file → HasOpened meta row left told names name reader
    opened-behind file name fed is = by_times fed.times fed.few fed.so_far where
      asks : zone_text (unwrap_or row.origin []) left.records left.includes fed.texts ≡ Err (Asks file)
      asks = asks-asked _ file fed.asks

      within : length fed.texts ≤ left.includes
      within = texts_ask (unwrap_or row.origin []) left.records left.includes fed.texts file asks

      by_times : (times : ℕ) → times + length names ≡ left.includes + 1 → Follows told (zone_files meta row left) (files_behind meta (unwrap_or row.origin []) left times names fed.texts) → HasOpened meta row left told names name reader
      by_times zero few so_far = absurd (omega (arith, few, within, fed.as_many))
      by_times (suc times) few so_far = record {
        texts = fed.texts;
        times = times;
        few = omega (arith, few);
        as_many = fed.as_many;
        still_open = fed.goes_on.0;
        none = fed.goes_on.1;
        stands = fed.goes_on.2;
        so_far = Follows-then told told (zone_files meta row left) (files_behind meta (unwrap_or row.origin []) left (suc times) names fed.texts) (next_file meta (unwrap_or row.origin []) left times names fed.texts name) (λ _. inr refl) so_far
            (Follows-same told _ (next_file meta (unwrap_or row.origin []) left times names fed.texts name)
            (λ other. files_behind-asks meta (unwrap_or row.origin []) left times names fed.texts file other asks
            ∙ ap (λ n. next_file meta (unwrap_or row.origin []) left times names fed.texts n other) (sym is)));
      }

    -- the file that the reader asks for is the one that is open behind those before
    pub HasOpened-asked : (asked : AfterFile) (file name : List ℕ) → asked ≡ Include file → HasFedFiles meta row left told names asked reader → name ≡ joined meta file → HasOpened meta row left told names name reader
    HasOpened-asked asked file name include fed is =
        opened-behind file name (subst (λ (a : AfterFile). HasFedFiles meta row left told names a reader) include fed) is

    -- behind the open file fewer may be opened
    pub fewer-left : (name : List ℕ) (more : List (List ℕ)) → HasOpened meta row left told names name reader → more ≡ names ++ name ∷ [] → left.includes + 1 - length more < left.includes + 1 - length names
    fewer-left name more opened is =
        let longer : length more ≡ length names + 1 = ap length is ∙ length-append names (name ∷ []) in
        omega (arith, opened.few, longer)

    -- if no more file is asked for, the reader is over
    pub HasFedFiles-over : HasFedFiles meta row left told names Done reader → is_over reader ≡ true
    HasFedFiles-over fed = ap (λ ended. ended || is_no_memory reader.fault) fed.goes_on.0

    -- what the reader answers behind the last file is answered
    Answers-finished : (given : Result ZoneText TextFault) → HasFedFiles meta row left told names Done reader → ((origin : Labels) (room includes : ℕ) (texts : List (List ℕ)) → HasEnded reader origin room includes texts → AnswersOr (Faulty text_faults.NoMemory) (with_fault Faulty given) (zone_text origin room includes texts)) → Answers told (zone_files meta row left) (read_files names given)
    Answers-finished given fed finished =
        Answers-then told told (zone_files meta row left) (files_behind meta (unwrap_or row.origin []) left fed.times names fed.texts) (read_files names given) (λ _. inr refl) fed.so_far
        (Answers-ended meta (unwrap_or row.origin []) left fed.times names fed.texts told given
        (finished (unwrap_or row.origin []) left.records left.includes fed.texts fed.goes_on.1))

    -- when nothing more is asked for, reading the zone's files has answered with what the reader gives of its text
    pub HasAnswered-finished : {before : FilesTold} {counts counts' : List ℕ → ℕ} (given : Result ZoneText TextFault) (result : Result ZoneFiles LoadFault) → ReadsFor before told counts counts' (zone_files meta row left) → HasFedFiles meta row left told names Done reader → ((origin : Labels) (room includes : ℕ) (texts : List (List ℕ)) → HasEnded reader origin room includes texts → AnswersOr (Faulty text_faults.NoMemory) (with_fault Faulty given) (zone_text origin room includes texts)) → result ≡ read_files names given → HasAnswered before told counts counts' (zone_files meta row left) result
    HasAnswered-finished {counts = counts} {counts' = counts'} given result source fed finished is = record {
      answers = subst (λ (r : Result ZoneFiles LoadFault). Answers told (zone_files meta row left) r) (sym is) (Answers-finished given fed finished);
      cause = FailedAt-no_read counts counts' result (subst (λ (r : Result ZoneFiles LoadFault). IfErr r IsNoRead) (sym is) (read_files-no_read names given));
      source = source;
    }

  module _ (old new : FilesTold) (names : List (List ℕ)) (name : List ℕ) (reader : Held) where
    -- the open file is fed whole
    pub HasFedFiles-more : (asked : AfterFile) (after : Held) → StaysTold old new → HasOpened meta row left old names name reader → HasFed left new name reader asked after → HasFedFiles meta row left new (names ++ name ∷ []) asked after
    HasFedFiles-more asked after stays opened fed =
        let ended = fed.ended (unwrap_or row.origin []) left.records left.includes opened.texts opened.stands in
        record {
          texts = opened.texts ++ fed.octets ∷ [];
          times = opened.times;
          few = omega (arith, opened.few, length-append names (name ∷ []));
          as_many = omega (arith, opened.as_many, length-append opened.texts (fed.octets ∷ []), length-append names (name ∷ []));
          asks = ended.0;
          goes_on = ended.1;
          so_far = Follows-read (zone_files meta row left) old new meta (unwrap_or row.origin []) left opened.times names opened.texts name fed.octets stays opened.so_far fed.whole;
        }

    -- the open file alone is read behind those before
    pub HasOpened-source : {before : FilesTold} {counts counts' counts'' : List ℕ → ℕ} → ReadsFor before old counts counts' (zone_files meta row left) → HasOpened meta row left old names name reader → ReadsOnly name old new counts' counts'' → ReadsFor before new counts counts'' (zone_files meta row left)
    HasOpened-source source opened only =
        ReadsFor-then {whole = zone_files meta row left} {rest = next_file meta (unwrap_or row.origin []) left opened.times names opened.texts name} opened.so_far source
        (ReadsFor-bind (file_octets left name) (λ told text. files_behind meta (unwrap_or row.origin []) left opened.times (names ++ name ∷ []) (opened.texts ++ text ∷ []) told) (ReadsFor-file left only))

    -- an open file that isn't read answers the reading of the row's files with its fault
    pub HasAnswered-unread : {before : FilesTold} {counts counts' counts'' : List ℕ → ℕ} (fault : LoadFault) (result : Result ZoneFiles LoadFault) → ReadsFor before old counts counts' (zone_files meta row left) → HasOpened meta row left old names name reader → ReadsOnly name old new counts' counts'' → FailsToRead left new name fault → (let answer : Result AfterFile LoadFault = Err fault in FailedAt counts' counts'' answer) → IsErrAnd result (λ passed. passed ≡ fault) → HasAnswered before new counts counts'' (zone_files meta row left) result
    HasAnswered-unread {counts = counts} {counts' = counts'} {counts'' = counts''} fault result source opened only fails failed is = record {
      answers = Answers-then old new (zone_files meta row left) (next_file meta (unwrap_or row.origin []) left opened.times names opened.texts name) result only.stays opened.so_far
          (Answers-passed new (file_octets left name) (λ told text. files_behind meta (unwrap_or row.origin []) left opened.times (names ++ name ∷ []) (opened.texts ++ text ∷ []) told) fault result is fails);
      cause = FailedAt-then counts counts' counts'' result source.never_fall (FailedAt-passed AfterFile counts' counts'' fault result is failed);
      source = HasOpened-source source opened only;
    }
