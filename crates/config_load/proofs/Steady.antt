-- What a reading gives by what is told it gives by whatever tells more; and what follows for two readings, one after the
-- other.
use Rattle.std.proofs.Common.{◌≡◌, ℕ, zero, suc, ◌+◌, ◌⊎◌, Bool, List, [], ◌∷◌, ◌++◌, Result, Ok, Err, if◌then◌else◌, refl, sym, ap, ◌∙◌, subst, inl, inr, true, false, nat_eq}
use Rattle.std.specs.Prelude.{unwrap_or}
use lib.Pointwise.{pointwise}
use Rattle.dns_data.specs.Name.{Labels}
use Rattle.io_edges.specs.Files.{FilesTold, Told, Untold, NotHeld, Holds, StaysTold}
use Rattle.master_read.specs.ZoneText.{Unread, Faulty, Asks, zone_text}
use Rattle.master_read.specs.declared.zone_text.ZoneText.{ZoneText}
use Rattle.meta_read.specs.Metadata.{metadata_within}
use Rattle.meta_read.specs.declared.meta.MetaRow.{MetaRow}
use Rattle.zone_rules.specs.ZoneOf.{zone_of}
use Rattle.config_load.specs.Conf.{settled, files_behind, zone_files, zone_read, zone_skipped, zone_unless, left_behind, row_files, with_row_unless, with_rows_unless, no_rows, no_row, metadata, conf_within, conf_unless, loaded_within, loaded_unless}
use Rattle.config_load.specs.Faults.{of_metadata, of_rule}
use Rattle.config_load.specs.Follows.{ByTold, StopsEarly}
use Rattle.config_load.specs.Joined.{joined}
use Rattle.config_load.specs.Load.{without, ComesToFile, IsSteady, Gives, OpensNoOther}
use Rattle.config_load.specs.Reading.{Reading, Reads, Refuses, Misses, Unknown, ◌>>=◌, both, unless_refused, file_octets, told_octets}
use Rattle.config_load.specs.Servers.{given}
use Rattle.config_load.specs.declared.fault.LoadFault.{LoadFault}
use Rattle.config_load.specs.declared.fault.LoadFault.TheVariants as faults
use Rattle.config_load.specs.declared.limits.Limits.{Limits}
use Rattle.config_load.specs.declared.rows.ReadRows.{ReadRows}
use Rattle.config_load.specs.declared.zone_files.ZoneFiles.{ZoneFiles}
use Rattle.config_load.proofs.Answered.{without-here, without-only}

-- ---- each reading is steady

-- the reading of a file is steady
pub file_is_steady : (limits : Limits) (name : List ℕ) → IsSteady (file_octets limits name)
file_is_steady limits name told later stays = by (stays name) where
  on : told name ≡ Untold → (is : Told) → later name ≡ is → (file_octets limits name later ≡ file_octets limits name told) ⊎ StopsEarly later told (file_octets limits name told)
  on untold Untold here = inl (ap (told_octets limits name) (here ∙ sym untold))
  on untold NotHeld here = inr (name, ap (told_octets limits name) untold, untold, λ gone. let no : NotHeld ≡ Untold = sym here ∙ gone in absurd cc)
  on untold (Holds octets) here = inr (name, ap (told_octets limits name) untold, untold, λ gone. let no : Holds octets ≡ Untold = sym here ∙ gone in absurd cc)

  by : (told name ≡ Untold) ⊎ (later name ≡ told name) → (file_octets limits name later ≡ file_octets limits name told) ⊎ StopsEarly later told (file_octets limits name told)
  by (inl untold) = on untold (later name) refl
  by (inr same) = inl (ap (told_octets limits name) same)

module _ {A : Type 0} where
  -- a reading that reads no file is steady
  pub known_is_steady : (reading : Reading A) → IsSteady (λ told. reading)
  known_is_steady reading told later stays = inl refl

module _ {A B : Type 0} where
  -- two steady steps, one after the other, are steady
  pub bind_is_steady : (first : ByTold A) (next : FilesTold → A → Reading B) → IsSteady first → ((value : A) → IsSteady (λ told. next told value)) → IsSteady (λ told. first told >>= next told)
  bind_is_steady first next steady each told later stays = by (steady told later stays) where
    on : (read : Reading A) → (read >>= next later ≡ read >>= next told) ⊎ StopsEarly later told (read >>= next told)
    on (Reads value) = each value told later stays
    on (Refuses fault) = inl refl
    on (Misses file) = inl refl
    on (Unknown file) = inl refl

    by : (first later ≡ first told) ⊎ StopsEarly later told (first told) → (first later >>= next later ≡ first told >>= next told) ⊎ StopsEarly later told (first told >>= next told)
    by (inl same) = subst (λ read. (read >>= next later ≡ first told >>= next told) ⊎ StopsEarly later told (first told >>= next told)) (sym same) (on (first told))
    by (inr (name, is, untold, some)) = inr (name, ap (λ read. read >>= next told) is, untold, some)

-- the texts of files, and what follows with the file that they ask for
settled_is_steady : (names : List (List ℕ)) (next : FilesTold → List ℕ → Reading ZoneFiles) → ((file : List ℕ) → IsSteady (λ told. next told file)) → (given : Result ZoneText Unread) → IsSteady (λ told. settled names (next told) given)
settled_is_steady names next each (Ok text) = known_is_steady _
settled_is_steady names next each (Err (Faulty fault)) = known_is_steady _
settled_is_steady names next each (Err (Asks file)) = each file

files_are_steady : (meta : List ℕ) (origin : Labels) (left : Limits) (times : ℕ) (names texts : List (List ℕ)) → IsSteady (files_behind meta origin left times names texts)
unfolding files_behind
files_are_steady meta origin left zero names texts = λ told later stays. inl refl
files_are_steady meta origin left (suc times) names texts =
    settled_is_steady names (λ told file. file_octets left (joined meta file) told >>= λ text. files_behind meta origin left times (names ++ joined meta file ∷ []) (texts ++ text ∷ []) told)
    (λ file. bind_is_steady (file_octets left (joined meta file)) (λ told text. files_behind meta origin left times (names ++ joined meta file ∷ []) (texts ++ text ∷ []) told)
    (file_is_steady left (joined meta file)) (λ text. files_are_steady meta origin left times (names ++ joined meta file ∷ []) (texts ++ text ∷ [])))
    (zone_text origin left.records left.includes texts)

zone_files_are_steady : (meta : List ℕ) (row : MetaRow) (left : Limits) → IsSteady (zone_files meta row left)
unfolding zone_files
zone_files_are_steady meta row left =
    bind_is_steady (file_octets left (joined meta row.file)) (λ told text. files_behind meta (unwrap_or row.origin []) left left.includes (joined meta row.file ∷ []) (text ∷ []) told)
    (file_is_steady left (joined meta row.file)) (λ text. files_are_steady meta (unwrap_or row.origin []) left left.includes (joined meta row.file ∷ []) (text ∷ []))

-- the reading of a row's zone is steady
pub zone_is_steady : (meta : List ℕ) (row : MetaRow) (left : Limits) → IsSteady (zone_read meta row left)
unfolding zone_read
zone_is_steady meta row left =
    bind_is_steady (zone_files meta row left)
    (λ told files. unless_refused (of_rule files.names) (zone_of row.origin files.text.rrs) >>= λ zone. Reads (record { zone = zone; names = files.names; left = left_behind left files.text }))
    (zone_files_are_steady meta row left) (λ files. known_is_steady _)

-- so is it if the row may be skipped
pub unless_is_steady : (skips : MetaRow → Bool) (meta : List ℕ) (row : MetaRow) (left : Limits) → IsSteady (zone_unless skips meta row left)
unless_is_steady skips meta row left = by (skips row) where
  by : (skip : Bool) → IsSteady (λ told. if skip then Reads (zone_skipped row left) else zone_read meta row left told)
  by true = λ told later stays. inl refl
  by false = zone_is_steady meta row left

row_is_steady : (skips : MetaRow → Bool) (meta : List ℕ) (number : ℕ) (row : MetaRow) (rows : ReadRows) → IsSteady (with_row_unless skips meta number row rows)
unfolding with_row_unless
row_is_steady skips meta number row rows =
    bind_is_steady (zone_unless skips meta row rows.left)
    (λ told read. unless_refused (λ fault. fault) (given number row.server read.zone rows.servers) >>= λ servers. Reads (record { left = read.left; servers = servers; rows = rows.rows ++ row_files row.server read ∷ [] }))
    (unless_is_steady skips meta row rows.left) (λ read. known_is_steady _)

rows_are_steady : (skips : MetaRow → Bool) (meta : List ℕ) (number : ℕ) (more : List MetaRow) (rows : ReadRows) → IsSteady (with_rows_unless skips meta number more rows)
unfolding with_rows_unless
rows_are_steady skips meta number [] rows = λ told later stays. inl refl
rows_are_steady skips meta number (row ∷ more) rows =
    bind_is_steady (with_row_unless skips meta number row rows) (λ told rows. with_rows_unless skips meta (number + 1) more rows told)
    (row_is_steady skips meta number row rows) (λ rows. rows_are_steady skips meta (number + 1) more rows)

metadata_are_steady : (limits : Limits) (meta : List ℕ) → IsSteady (metadata limits meta)
unfolding metadata
metadata_are_steady limits meta =
    bind_is_steady (file_octets limits meta) (λ told octets. unless_refused of_metadata (metadata_within limits.rows octets)) (file_is_steady limits meta) (λ octets. known_is_steady _)

-- the reading of the configuration of a metadata file is steady, whatever rows are skipped
pub conf_unless_is_steady : (skips : MetaRow → Bool) (limits : Limits) (meta : List ℕ) → IsSteady (conf_unless skips limits meta)
unfolding conf_unless
conf_unless_is_steady skips limits meta =
    bind_is_steady (metadata limits meta) (λ told found. with_rows_unless skips meta 1 found.rows (no_rows limits) told >>= λ rows. Reads (record { tops = found.tops; servers = rows.servers }))
    (metadata_are_steady limits meta)
    (λ found. bind_is_steady (with_rows_unless skips meta 1 found.rows (no_rows limits)) (λ told rows. Reads (record { tops = found.tops; servers = rows.servers }))
    (rows_are_steady skips meta 1 found.rows (no_rows limits)) (λ rows. known_is_steady _))

-- so it is where none is skipped
pub conf_is_steady : (limits : Limits) (meta : List ℕ) → IsSteady (conf_within limits meta)
conf_is_steady = conf_unless_is_steady no_row

-- the reading of the configuration of a metadata file, with the names of its files, is steady
pub loaded_is_steady : (limits : Limits) (meta : List ℕ) → IsSteady (loaded_within limits meta)
unfolding loaded_unless
loaded_is_steady limits meta =
    bind_is_steady (metadata limits meta) (λ told found. with_rows_unless no_row meta 1 found.rows (no_rows limits) told >>= λ rows. Reads (record { config = record { tops = found.tops; servers = rows.servers }; rows = rows.rows }))
    (metadata_are_steady limits meta)
    (λ found. bind_is_steady (with_rows_unless no_row meta 1 found.rows (no_rows limits)) (λ told rows. Reads (record { config = record { tops = found.tops; servers = rows.servers }; rows = rows.rows }))
    (rows_are_steady no_row meta 1 found.rows (no_rows limits)) (λ rows. known_is_steady _))

-- ---- by what tells more

-- something is told of no name without which it is told
StaysTold-without : (told : FilesTold) (file : List ℕ) → StaysTold (without file told) told
StaysTold-without told file name =
    elim (pointwise nat_eq name file) as (λ b. ((if b then Untold else told name) ≡ Untold) ⊎ (told name ≡ (if b then Untold else told name)))
    [ true ↦ inl refl | false ↦ inr refl ]

-- what stays told stays so without a file
StaysTold-both : (told later : FilesTold) (file : List ℕ) → StaysTold told later → StaysTold (without file told) (without file later)
StaysTold-both told later file stays name =
    elim (pointwise nat_eq name file) as (λ b. ((if b then Untold else told name) ≡ Untold) ⊎ ((if b then Untold else later name) ≡ (if b then Untold else told name)))
    [ true ↦ inl refl | false ↦ stays name ]

module _ {A : Type 0} {reading : ByTold A} (steady : IsSteady reading) where
  -- what a steady reading reads it reads also by what is told later
  pub reads_later : (told later : FilesTold) (value : A) → StaysTold told later → reading told ≡ Reads value → reading later ≡ Reads value
  reads_later told later value stays is = by (steady told later stays) where
    by : (reading later ≡ reading told) ⊎ StopsEarly later told (reading told) → reading later ≡ Reads value
    by (inl same) = same ∙ is
    by (inr (name, stopped, untold, some)) = let no : Unknown name ≡ Reads value = sym stopped ∙ is in absurd cc

  -- what the reading refuses it refuses also by what is told later
  pub refuses_later : (told later : FilesTold) (fault : LoadFault) → StaysTold told later → reading told ≡ Refuses fault → reading later ≡ Refuses fault
  refuses_later told later fault stays is = by (steady told later stays) where
    by : (reading later ≡ reading told) ⊎ StopsEarly later told (reading told) → reading later ≡ Refuses fault
    by (inl same) = same ∙ is
    by (inr (name, stopped, untold, some)) = let no : Unknown name ≡ Refuses fault = sym stopped ∙ is in absurd cc

  -- what a call answers of a steady reading is its answer also by what is told later
  pub Gives-later : (told later : FilesTold) (result : Result A LoadFault) → StaysTold told later → Gives (reading told) result → Gives (reading later) result
  Gives-later told later (Ok value) stays gives = reads_later told later value stays gives
  Gives-later told later (Err (faults.Read file)) stays gives = tt
  Gives-later told later (Err faults.NoMemory) stays gives = tt
  Gives-later told later (Err (faults.TooLong file)) stays gives = refuses_later told later (faults.TooLong file) stays gives
  Gives-later told later (Err (faults.Meta fault)) stays gives = refuses_later told later (faults.Meta fault) stays gives
  Gives-later told later (Err (faults.Text file line cause)) stays gives = refuses_later told later (faults.Text file line cause) stays gives
  Gives-later told later (Err (faults.Rule file line cause)) stays gives = refuses_later told later (faults.Rule file line cause) stays gives
  Gives-later told later (Err (faults.ZoneTwice row)) stays gives = refuses_later told later (faults.ZoneTwice row) stays gives

  -- a steady reading comes to a file also by what is told later
  pub comes_later : (told later : FilesTold) (file : List ℕ) → StaysTold told later → ComesToFile reading told file → ComesToFile reading later file
  comes_later told later file stays comes = by (steady (without file told) (without file later) (StaysTold-both told later file stays)) where
    by : (reading (without file later) ≡ reading (without file told)) ⊎ StopsEarly (without file later) (without file told) (reading (without file told)) → ComesToFile reading later file
    by (inl same) = same ∙ comes
    by (inr (name, stopped, untold, some)) =
        let here : name ≡ file = same_Unknown (sym stopped ∙ comes) in
        absurd (some (subst (λ n. without file later n ≡ Untold) (sym here) (without-here later file)))
      where
        same_Unknown : {a b : List ℕ} → (let one : Reading A = Unknown a in one ≡ Unknown b) → a ≡ b
        same_Unknown e = cc

  -- without a file to which it may come, it gives what it gave, or comes to the file
  gives_without : (told : FilesTold) (file : List ℕ) → (reading (without file told) ≡ reading told) ⊎ ComesToFile reading told file
  gives_without told file = by (steady (without file told) told (StaysTold-without told file)) where
    by : (reading told ≡ reading (without file told)) ⊎ StopsEarly told (without file told) (reading (without file told)) → (reading (without file told) ≡ reading told) ⊎ ComesToFile reading told file
    by (inl same) = inl (sym same)
    by (inr (name, stopped, untold, some)) = inr (stopped ∙ ap Unknown (without-only told file name untold some))

-- ---- a reading behind another

module _ {A B : Type 0} (first : ByTold A) (next : FilesTold → A → Reading B) where
  -- the first reading, and what follows
  abbrev all : ByTold B
  all told = first told >>= next told

  -- they come to each file to which the first comes
  pub comes_first : (told : FilesTold) (file : List ℕ) → ComesToFile first told file → ComesToFile all told file
  comes_first told file comes = ap (λ (read : Reading A). read >>= next (without file told)) comes

  -- they come to each file to which what follows comes, if the first was read
  pub comes_behind : IsSteady first → (told : FilesTold) (value : A) (file : List ℕ) → first told ≡ Reads value → ComesToFile (λ told. next told value) told file → ComesToFile all told file
  comes_behind steady told value file is comes = by (gives_without steady told file) where
    by : (first (without file told) ≡ first told) ⊎ ComesToFile first told file → ComesToFile all told file
    by (inl same) = ap (λ (read : Reading A). read >>= next (without file told)) (same ∙ is) ∙ comes
    by (inr earlier) = comes_first told file earlier

  -- they open no file but those to which they come
  pub opens_behind : IsSteady first → (before between after : FilesTold) (value : A) → StaysTold between after → first between ≡ Reads value
      → OpensNoOther first before between → OpensNoOther (λ told. next told value) between after → OpensNoOther all before after
  opens_behind steady before between after value stays is a b file = by (a file) (b file) where
    by : (between file ≡ before file) ⊎ ComesToFile first between file → (after file ≡ between file) ⊎ ComesToFile (λ told. next told value) after file → (after file ≡ before file) ⊎ ComesToFile all after file
    by (inl kept) (inl same) = inl (same ∙ kept)
    by (inr comes) (inl same) = inr (comes_first after file (comes_later steady between after file stays comes))
    by earlier (inr comes) = inr (comes_behind steady after value file (reads_later steady between after value stays is) comes)

  -- if the first gives nothing, no file is opened but those to which it comes
  pub opens_first : (before after : FilesTold) → OpensNoOther first before after → OpensNoOther all before after
  opens_first before after a file = by (a file) where
    by : (after file ≡ before file) ⊎ ComesToFile first after file → (after file ≡ before file) ⊎ ComesToFile all after file
    by (inl same) = inl same
    by (inr comes) = inr (comes_first after file comes)

-- ---- two readings, one after the other

module _ {A B : Type 0} (first : ByTold A) (second : ByTold B) where
  -- the second reading, behind what the first gave
  abbrev pub second_behind : FilesTold → A → Reading (A × B)
  second_behind told one = second told >>= λ other. Reads (one, other)

  -- they come to each file to which the second comes, if the first was read
  pub comes_second : IsSteady first → (told : FilesTold) (value : A) (file : List ℕ) → first told ≡ Reads value → ComesToFile second told file → ComesToFile (both first second) told file
  comes_second steady told value file is comes =
      comes_behind first second_behind steady told value file is (comes_first second (λ told other. Reads (value, other)) told file comes)

  -- they open no file but those to which they come
  pub opens_both : IsSteady first → (before between after : FilesTold) (value : A) → StaysTold between after → first between ≡ Reads value
      → OpensNoOther first before between → OpensNoOther second between after → OpensNoOther (both first second) before after
  opens_both steady before between after value stays is a b =
      opens_behind first second_behind steady before between after value stays is a (opens_first second (λ told other. Reads (value, other)) between after b)
