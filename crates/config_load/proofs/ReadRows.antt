-- Zones, rows and the configuration, step by step.
use Rattle.std.proofs.Common.{◌≡◌, ℕ, ◌+◌, Bool, List, ◌∷◌, Result, Ok, Err, IsErrAnd, refl, sym, ap, subst, inl, inr}
use Rattle.dns_data.proofs.Answers.{if_err_answered, if_err_either}
use Rattle.dns_data.specs.Answers.{AnswersOr, with_fault}
use Rattle.dns_data.specs.Name.{Labels}
use Rattle.io_edges.specs.Files.{FilesTold}
use Rattle.meta_read.specs.Metadata.{metadata_within}
use Rattle.meta_read.specs.declared.meta.Meta.{Meta as Metadata}
use Rattle.meta_read.specs.declared.meta.MetaRow.{MetaRow}
use Rattle.net_model.specs.declared.config.Config.{Config}
use Rattle.net_model.specs.declared.config.Server.{Server}
use Rattle.net_model.specs.declared.config.Zone.{Zone}
use Rattle.zone_rules.specs.ZoneOf.{zone_of}
use Rattle.config_load.specs.Conf.{conf_unless, loaded_unless, metadata, no_rows, with_row_unless, with_rows_unless, zone_files, zone_read, zone_unless, left_behind}
use Rattle.config_load.specs.Faults.{of_metadata, of_rule}
use Rattle.config_load.specs.Follows.{ByTold, Follows}
use Rattle.config_load.specs.Reading.{Reading, Reads, Refuses, Misses, Unknown, ◌>>=◌, unless_refused, file_octets}
use Rattle.config_load.specs.RowRead.{with_servers, if_given, row_read}
use Rattle.config_load.specs.Servers.{given, has_zone}
use Rattle.config_load.specs.Sources.{ReadsFor, HasAnswered}
use Rattle.config_load.specs.declared.fault.LoadFault.{LoadFault}
use Rattle.config_load.specs.declared.fault.LoadFault.TheVariants.{NoMemory}
use Rattle.config_load.specs.declared.limits.Limits.{Limits}
use Rattle.config_load.specs.declared.loaded.Loaded.{Loaded}
use Rattle.config_load.specs.declared.rows.ReadRows.{ReadRows}
use Rattle.config_load.specs.declared.zone.ReadZone.{ReadZone}
use Rattle.config_load.specs.declared.zone_files.ZoneFiles.{ZoneFiles}
use Rattle.config_load.proofs.Follows.{Follows-same, Follows-bind}
use Rattle.config_load.proofs.Sources.{ReadsFor-bind, HasAnswered-looked, HasAnswered-told, HasAnswered-wanting, HasAnswered-passed, HasAnswered-next}
use Rattle.config_load.proofs.Steps.{IsNoRead, IsNoRead-of_metadata, IsNoRead-of_rule, Answers-given}

module _ {A : Type 0} where
  -- what was read is answered
  reads : (told : FilesTold) (counts : List ℕ → ℕ) (value : A) → (let answer : Result A LoadFault = Ok value in HasAnswered told told counts counts (λ _. Reads value) answer)
  reads told counts value =
      let answer : Result A LoadFault = Ok value in
      HasAnswered-looked told counts (λ _. Reads value) answer tt (Follows-same told (λ _. Reads value) (λ _. Reads value) (λ other. refl))

-- whether a zone is given to its server, or why not, is answered without reading a file
pub HasAnswered-given : (told : FilesTold) (counts : List ℕ → ℕ) (number : ℕ) (name : Labels) (zone : Zone) (servers : List Server) (result : Result (List Server) LoadFault) → AnswersOr NoMemory result (given number name zone servers) → HasAnswered told told counts counts (λ _. unless_refused (λ fault. fault) (given number name zone servers)) result
HasAnswered-given told counts number name zone servers result answered =
    HasAnswered-looked told counts (λ _. unless_refused (λ fault. fault) (given number name zone servers)) result
    (if_err_answered IsNoRead NoMemory result (given number name zone servers) answered tt (if_err_either IsNoRead (has_zone name zone.origin servers) _ _ tt tt))
    (Answers-given told number name zone servers result answered)

module _ {T E : Type 0} where
  -- answers are one where their values are
  ok_same : {a b : T} → (let one : Result T E = Ok a in one ≡ Ok b) → a ≡ b
  ok_same e = cc

  err_same : {a b : E} → (let one : Result T E = Err a in one ≡ Err b) → a ≡ b
  err_same e = cc

-- how the reading of a zone goes on behind its files
abbrev behind_files : MetaRow → Limits → FilesTold → ZoneFiles → Reading ReadZone
behind_files row left told files =
    unless_refused (of_rule files.names) (zone_of row.origin files.text.rrs) >>= λ zone. Reads (record { zone = zone; names = files.names; left = left_behind left files.text })

module _ (meta : List ℕ) (row : MetaRow) (left : Limits) where
  -- the fault of a row's files answers the reading of the row's zone
  pub HasAnswered-no_files : {told told' : FilesTold} {counts counts' : List ℕ → ℕ} (fault : LoadFault) (result : Result ReadZone LoadFault) → IsErrAnd result (λ passed. passed ≡ fault) → (let answer : Result ZoneFiles LoadFault = Err fault in HasAnswered told told' counts counts' (zone_files meta row left) answer) → HasAnswered told told' counts counts' (zone_read meta row left) result
  unfolding zone_read
  HasAnswered-no_files fault result is read = HasAnswered-passed (zone_files meta row left) (behind_files row left) fault result is read

  -- records of a row's files that break a rule answer the reading of the row's zone with that fault
  pub HasAnswered-no_zone : {told told' : FilesTold} {counts counts' : List ℕ → ℕ} (read : ZoneFiles) (fault : LoadFault) (result : Result ReadZone LoadFault) → IsErrAnd result (λ passed. passed ≡ fault) → (let answer : Result ZoneFiles LoadFault = Ok read in HasAnswered told told' counts counts' (zone_files meta row left) answer) → (let answer : Result Zone LoadFault = Err fault in AnswersOr NoMemory answer (with_fault (of_rule read.names) (zone_of row.origin read.text.rrs))) → HasAnswered told told' counts counts' (zone_read meta row left) result
  unfolding zone_read
  HasAnswered-no_zone {told' = told'} {counts' = counts'} read fault result is whole answered =
      let refused : Result Zone LoadFault = Err fault in
      HasAnswered-next (zone_files meta row left) read (behind_files row left) result whole
      (HasAnswered-passed (λ _. unless_refused (of_rule read.names) (zone_of row.origin read.text.rrs)) (λ _ zone. Reads (record { zone = zone; names = read.names; left = left_behind left read.text })) fault result is
      (HasAnswered-told told' counts' (of_rule read.names) (zone_of row.origin read.text.rrs) refused (IsNoRead-of_rule read.names) answered))

  -- a zone that the texts of a row's files give answers the reading of the row's zone
  pub HasAnswered-zone : {told told' : FilesTold} {counts counts' : List ℕ → ℕ} (read : ZoneFiles) (zone : Zone) (behind : Limits) → behind ≡ left_behind left read.text → (let answer : Result ZoneFiles LoadFault = Ok read in HasAnswered told told' counts counts' (zone_files meta row left) answer) → (let answer : Result Zone LoadFault = Ok zone in AnswersOr NoMemory answer (with_fault (of_rule read.names) (zone_of row.origin read.text.rrs))) → (let answer : Result ReadZone LoadFault = Ok (record { zone = zone; names = read.names; left = behind }) in HasAnswered told told' counts counts' (zone_read meta row left) answer)
  unfolding zone_read
  HasAnswered-zone {told' = told'} {counts' = counts'} read zone behind is whole answered =
      let given : Result Zone LoadFault = Ok zone in
      let answer : Result ReadZone LoadFault = Ok (record { zone = zone; names = read.names; left = behind }) in
      HasAnswered-next (zone_files meta row left) read (behind_files row left) answer whole
      (HasAnswered-next (λ _. unless_refused (of_rule read.names) (zone_of row.origin read.text.rrs)) zone (λ _ zone. Reads (record { zone = zone; names = read.names; left = left_behind left read.text })) answer
      (HasAnswered-told told' counts' (of_rule read.names) (zone_of row.origin read.text.rrs) given (IsNoRead-of_rule read.names) answered)
      (HasAnswered-looked told' counts' (λ _. Reads (record { zone = zone; names = read.names; left = left_behind left read.text })) answer tt
      (Follows-same told' (λ _. Reads (record { zone = zone; names = read.names; left = left_behind left read.text })) (λ _. Reads (record { zone = zone; names = read.names; left = behind })) (λ other. ap (λ (l : Limits). Reads (record { zone = zone; names = read.names; left = l })) (sym is)))))

-- how the reading of a row goes on behind its zone
abbrev behind_zone : ℕ → MetaRow → ReadRows → FilesTold → ReadZone → Reading ReadRows
behind_zone number row rows told read =
    unless_refused (λ fault. fault) (given number row.server read.zone rows.servers) >>= λ servers. Reads (with_servers row.server read rows servers)

module _ (skips : MetaRow → Bool) (meta : List ℕ) (number : ℕ) (row : MetaRow) (rows : ReadRows) where
  -- the fault of a row's zone answers the reading of the row
  pub HasAnswered-no_row : {told told' : FilesTold} {counts counts' : List ℕ → ℕ} (fault : LoadFault) (result : Result ReadRows LoadFault) → IsErrAnd result (λ passed. passed ≡ fault) → (let answer : Result ReadZone LoadFault = Err fault in HasAnswered told told' counts counts' (zone_unless skips meta row rows.left) answer) → HasAnswered told told' counts counts' (with_row_unless skips meta number row rows) result
  unfolding with_row_unless
  HasAnswered-no_row fault result is read = HasAnswered-passed (zone_unless skips meta row rows.left) (behind_zone number row rows) fault result is read

  -- if memory runs out behind a row's zone, `NoMemory` answers the reading of the row
  pub HasAnswered-row_wanting : {told told' : FilesTold} {counts counts' : List ℕ → ℕ} (read : ReadZone) (result : Result ReadRows LoadFault) → IsErrAnd result (λ fault. fault ≡ NoMemory) → (let answer : Result ReadZone LoadFault = Ok read in HasAnswered told told' counts counts' (zone_unless skips meta row rows.left) answer) → HasAnswered told told' counts counts' (with_row_unless skips meta number row rows) result
  unfolding with_row_unless
  HasAnswered-row_wanting read result wants whole =
      HasAnswered-wanting result (ReadsFor-bind (zone_unless skips meta row rows.left) (behind_zone number row rows) whole.source) wants

  -- a row whose server already has the zone is answered with that fault
  pub HasAnswered-not_given : {told told' : FilesTold} {counts counts' : List ℕ → ℕ} (read : ReadZone) (fault : LoadFault) (result : Result ReadRows LoadFault) → IsErrAnd result (λ passed. passed ≡ fault) → (let answer : Result ReadZone LoadFault = Ok read in HasAnswered told told' counts counts' (zone_unless skips meta row rows.left) answer) → (let answer : Result (List Server) LoadFault = Err fault in AnswersOr NoMemory answer (given number row.server read.zone rows.servers)) → HasAnswered told told' counts counts' (with_row_unless skips meta number row rows) result
  unfolding with_row_unless
  HasAnswered-not_given {told' = told'} {counts' = counts'} read fault result is whole answered =
      let refused : Result (List Server) LoadFault = Err fault in
      HasAnswered-next (zone_unless skips meta row rows.left) read (behind_zone number row rows) result whole
      (HasAnswered-passed (λ _. unless_refused (λ fault. fault) (given number row.server read.zone rows.servers)) (λ _ servers. Reads (with_servers row.server read rows servers)) fault result is
      (HasAnswered-given told' counts' number row.server read.zone rows.servers refused answered))

  -- a zone that its server doesn't have yet answers the reading of the row
  pub HasAnswered-row : {told told' : FilesTold} {counts counts' : List ℕ → ℕ} (read : ReadZone) (servers : List Server) → (let answer : Result ReadZone LoadFault = Ok read in HasAnswered told told' counts counts' (zone_unless skips meta row rows.left) answer) → (let answer : Result (List Server) LoadFault = Ok servers in AnswersOr NoMemory answer (given number row.server read.zone rows.servers)) → (let answer : Result ReadRows LoadFault = Ok (with_servers row.server read rows servers) in HasAnswered told told' counts counts' (with_row_unless skips meta number row rows) answer)
  unfolding with_row_unless
  HasAnswered-row {told' = told'} {counts' = counts'} read servers whole answered =
      let more : Result (List Server) LoadFault = Ok servers in
      let answer : Result ReadRows LoadFault = Ok (with_servers row.server read rows servers) in
      HasAnswered-next (zone_unless skips meta row rows.left) read (behind_zone number row rows) answer whole
      (HasAnswered-next (λ _. unless_refused (λ fault. fault) (given number row.server read.zone rows.servers)) servers (λ _ servers. Reads (with_servers row.server read rows servers)) answer
      (HasAnswered-given told' counts' number row.server read.zone rows.servers more answered)
      (reads told' counts' (with_servers row.server read rows servers)))

  -- a row whose zone was read is answered by whether its server is given the zone
  pub HasAnswered-read : {told told' : FilesTold} {counts counts' : List ℕ → ℕ} (read : ReadZone) (result : Result ReadRows LoadFault) → (let answer : Result ReadZone LoadFault = Ok read in HasAnswered told told' counts counts' (zone_unless skips meta row rows.left) answer) → AnswersOr NoMemory result (row_read number row.server read rows) → HasAnswered told told' counts counts' (with_row_unless skips meta number row rows) result
  HasAnswered-read {told} {told'} {counts} {counts'} read result whole answered = by (given number row.server read.zone rows.servers) refl result answered where
    goal_of : Result ReadRows LoadFault → Type 0
    goal_of r = HasAnswered told told' counts counts' (with_row_unless skips meta number row rows) r

    by : (said : Result (List Server) LoadFault) → given number row.server read.zone rows.servers ≡ said → (r : Result ReadRows LoadFault)
        → AnswersOr NoMemory r (if_given row.server read rows said) → goal_of r
    by (Ok servers) is (Ok all) same =
        subst (λ (a : ReadRows). goal_of (Ok a)) (ok_same same) (HasAnswered-row read servers whole is)
    by (Ok servers) is (Err fault) (inl free) = HasAnswered-row_wanting read (Err fault) free whole
    by (Ok servers) is (Err fault) (inr same) = absurd cc
    by (Err refused) is (Ok all) same = absurd cc
    by (Err refused) is (Err fault) (inl free) = HasAnswered-row_wanting read (Err fault) free whole
    by (Err refused) is (Err fault) (inr same) = HasAnswered-not_given read refused (Err fault) (sym (err_same same)) whole (inr is)

module _ (skips : MetaRow → Bool) (meta : List ℕ) (number : ℕ) (row : MetaRow) (others : List MetaRow) (rows : ReadRows) where
  -- the fault of a row answers the reading of it and the rows behind it
  pub HasAnswered-first_row : {told told' : FilesTold} {counts counts' : List ℕ → ℕ} (fault : LoadFault) (result : Result ReadRows LoadFault) → IsErrAnd result (λ passed. passed ≡ fault) → (let answer : Result ReadRows LoadFault = Err fault in HasAnswered told told' counts counts' (with_row_unless skips meta number row rows) answer) → HasAnswered told told' counts counts' (with_rows_unless skips meta number (row ∷ others) rows) result
  unfolding with_rows_unless
  HasAnswered-first_row fault result is read = HasAnswered-passed (with_row_unless skips meta number row rows) (λ t rows. with_rows_unless skips meta (number + 1) others rows t) fault result is read

  -- files that are read for a row are read for it and the rows behind it
  pub ReadsFor-first_row : {told told' : FilesTold} {counts counts' : List ℕ → ℕ} → ReadsFor told told' counts counts' (with_row_unless skips meta number row rows) → ReadsFor told told' counts counts' (with_rows_unless skips meta number (row ∷ others) rows)
  unfolding with_rows_unless
  ReadsFor-first_row source = ReadsFor-bind (with_row_unless skips meta number row rows) (λ t rows. with_rows_unless skips meta (number + 1) others rows t) source

  -- if a row is read, the reading of it and the rows behind it goes on with those rows
  pub Follows-first_row : (told : FilesTold) (more : ReadRows) → Follows told (with_row_unless skips meta number row rows) (λ _. Reads more) → Follows told (with_rows_unless skips meta number (row ∷ others) rows) (with_rows_unless skips meta (number + 1) others more)
  unfolding with_rows_unless
  Follows-first_row told more whole =
      Follows-bind told (with_row_unless skips meta number row rows) (λ _. Reads more) (λ t rows. with_rows_unless skips meta (number + 1) others rows t) whole

-- the configuration of metadata and rows, with the rows
abbrev loaded_of : Metadata → ReadRows → Loaded
loaded_of found rows = record { config = record { tops = found.tops; servers = rows.servers }; rows = rows.rows }

-- how the reading of a configuration goes on behind the metadata
abbrev behind_metadata : (MetaRow → Bool) → Limits → List ℕ → FilesTold → Metadata → Reading Loaded
behind_metadata skips limits meta told found = with_rows_unless skips meta 1 found.rows (no_rows limits) told >>= λ rows. Reads (loaded_of found rows)

module _ (limits : Limits) (meta : List ℕ) where
  -- the fault of a metadata file that isn't read answers the reading of the metadata
  pub HasAnswered-no_octets : {told told' : FilesTold} {counts counts' : List ℕ → ℕ} (fault : LoadFault) (result : Result Metadata LoadFault) → IsErrAnd result (λ passed. passed ≡ fault) → (let answer : Result (List ℕ) LoadFault = Err fault in HasAnswered told told' counts counts' (file_octets limits meta) answer) → HasAnswered told told' counts counts' (metadata limits meta) result
  unfolding metadata
  HasAnswered-no_octets fault result is read = HasAnswered-passed (file_octets limits meta) (λ _ octets. unless_refused of_metadata (metadata_within limits.rows octets)) fault result is read

  -- what a metadata file's octets read as answers the reading of the metadata
  pub HasAnswered-octets : {told told' : FilesTold} {counts counts' : List ℕ → ℕ} (octets : List ℕ) (result : Result Metadata LoadFault) → (let answer : Result (List ℕ) LoadFault = Ok octets in HasAnswered told told' counts counts' (file_octets limits meta) answer) → AnswersOr NoMemory result (with_fault of_metadata (metadata_within limits.rows octets)) → HasAnswered told told' counts counts' (metadata limits meta) result
  unfolding metadata
  HasAnswered-octets {told' = told'} {counts' = counts'} octets result whole answered =
      HasAnswered-next (file_octets limits meta) octets (λ _ octets. unless_refused of_metadata (metadata_within limits.rows octets)) result whole
      (HasAnswered-told told' counts' of_metadata (metadata_within limits.rows octets) result IsNoRead-of_metadata answered)

module _ (skips : MetaRow → Bool) (limits : Limits) (meta : List ℕ) where
  -- the fault of metadata that don't read answers the reading of the configuration
  pub HasAnswered-no_metadata : {told told' : FilesTold} {counts counts' : List ℕ → ℕ} (fault : LoadFault) (result : Result Loaded LoadFault) → IsErrAnd result (λ passed. passed ≡ fault) → (let answer : Result Metadata LoadFault = Err fault in HasAnswered told told' counts counts' (metadata limits meta) answer) → HasAnswered told told' counts counts' (loaded_unless skips limits meta) result
  unfolding loaded_unless
  HasAnswered-no_metadata fault result is read = HasAnswered-passed (metadata limits meta) (behind_metadata skips limits meta) fault result is read

  -- the fault of rows that don't read answers the reading of the configuration
  pub HasAnswered-no_rows : {before between after : FilesTold} {counts counts' counts'' : List ℕ → ℕ} (found : Metadata) (fault : LoadFault) (result : Result Loaded LoadFault) → IsErrAnd result (λ passed. passed ≡ fault) → (let answer : Result Metadata LoadFault = Ok found in HasAnswered before between counts counts' (metadata limits meta) answer) → (let answer : Result ReadRows LoadFault = Err fault in HasAnswered between after counts' counts'' (with_rows_unless skips meta 1 found.rows (no_rows limits)) answer) → HasAnswered before after counts counts'' (loaded_unless skips limits meta) result
  unfolding loaded_unless
  HasAnswered-no_rows found fault result is whole read =
      HasAnswered-next (metadata limits meta) found (behind_metadata skips limits meta) result whole
      (HasAnswered-passed (with_rows_unless skips meta 1 found.rows (no_rows limits)) (λ _ rows. Reads (loaded_of found rows)) fault result is read)

  -- the metadata and the rows answer the reading of the configuration, with the rows
  pub HasAnswered-loaded : {before between after : FilesTold} {counts counts' counts'' : List ℕ → ℕ} (found : Metadata) (rows : ReadRows) → (let answer : Result Metadata LoadFault = Ok found in HasAnswered before between counts counts' (metadata limits meta) answer) → (let answer : Result ReadRows LoadFault = Ok rows in HasAnswered between after counts' counts'' (with_rows_unless skips meta 1 found.rows (no_rows limits)) answer) → (let answer : Result Loaded LoadFault = Ok (loaded_of found rows) in HasAnswered before after counts counts'' (loaded_unless skips limits meta) answer)
  unfolding loaded_unless
  HasAnswered-loaded {after = after} {counts'' = counts''} found rows whole all =
      let answer : Result Loaded LoadFault = Ok (loaded_of found rows) in
      HasAnswered-next (metadata limits meta) found (behind_metadata skips limits meta) answer whole
      (HasAnswered-next (with_rows_unless skips meta 1 found.rows (no_rows limits)) rows (λ _ rows. Reads (loaded_of found rows)) answer all
      (reads after counts'' (loaded_of found rows)))

  -- the configuration that is read is that of the configuration with its rows
  pub conf-loaded : (told : FilesTold) → conf_unless skips limits meta told ≡ (loaded_unless skips limits meta told >>= λ all. Reads all.config)
  unfolding conf_unless loaded_unless
  conf-loaded told = by (metadata limits meta told) where
    on : (found : Metadata) → (read : Reading ReadRows)
        → (read >>= λ rows. Reads (record { tops = found.tops; servers = rows.servers })) ≡ ((read >>= λ rows. Reads (loaded_of found rows)) >>= λ all. Reads all.config)
    on found (Reads rows) = refl
    on found (Refuses fault) = refl
    on found (Misses file) = refl
    on found (Unknown file) = refl

    by : (read : Reading Metadata)
        → (read >>= λ found. with_rows_unless skips meta 1 found.rows (no_rows limits) told >>= λ rows. Reads (record { tops = found.tops; servers = rows.servers }))
        ≡ ((read >>= behind_metadata skips limits meta told) >>= λ all. Reads all.config)
    by (Reads found) = on found (with_rows_unless skips meta 1 found.rows (no_rows limits) told)
    by (Refuses fault) = refl
    by (Misses file) = refl
    by (Unknown file) = refl

  -- the fault of the configuration with its rows answers the reading of the configuration
  pub HasAnswered-no_config : {told told' : FilesTold} {counts counts' : List ℕ → ℕ} (fault : LoadFault) (result : Result Config LoadFault) → IsErrAnd result (λ passed. passed ≡ fault) → (let answer : Result Loaded LoadFault = Err fault in HasAnswered told told' counts counts' (loaded_unless skips limits meta) answer) → HasAnswered told told' counts counts' (conf_unless skips limits meta) result
  HasAnswered-no_config {told} {told'} {counts} {counts'} fault result is read =
      subst (λ (reading : ByTold Config). HasAnswered told told' counts counts' reading result) (λ i t. sym (conf-loaded t) i)
      (HasAnswered-passed (loaded_unless skips limits meta) (λ _ all. Reads all.config) fault result is read)

  -- what answers the reading of the configuration with the rows answers that of the configuration alone
  pub HasAnswered-config : {told told' : FilesTold} {counts counts' : List ℕ → ℕ} (all : Loaded) → (let answer : Result Loaded LoadFault = Ok all in HasAnswered told told' counts counts' (loaded_unless skips limits meta) answer) → (let answer : Result Config LoadFault = Ok all.config in HasAnswered told told' counts counts' (conf_unless skips limits meta) answer)
  HasAnswered-config {told} {told'} {counts} {counts'} all read =
      let answer : Result Config LoadFault = Ok all.config in
      subst (λ (reading : ByTold Config). HasAnswered told told' counts counts' reading answer) (λ i t. sym (conf-loaded t) i)
      (HasAnswered-next (loaded_unless skips limits meta) all (λ _ all. Reads all.config) answer read (reads told' counts' all.config))
