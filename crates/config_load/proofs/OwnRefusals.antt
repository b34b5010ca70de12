-- Files are refused for what they say, never for a failed read or because memory ran out.
use Rattle.std.proofs.Common.{◌≢◌, ℕ, zero, suc, ◌+◌, Bool, true, false, cond, nat_le, List, [], ◌∷◌, ◌++◌, length, unwrap_or, Result, Ok, Err, refl, subst}
use Rattle.std.specs.Result.{IfErr}
use Rattle.dns_data.proofs.Answers.{if_err_either}
use Rattle.dns_data.specs.Name.{Labels}
use Rattle.io_edges.specs.Files.{FilesTold, Told, Untold, NotHeld, Holds}
use Rattle.master_read.specs.ZoneText.{Unread, Faulty, Asks, zone_text}
use Rattle.master_read.specs.declared.fault.TextFault.{TextFault}
use Rattle.master_read.specs.declared.fault.TextFault.TheVariants as text_faults
use Rattle.master_read.specs.declared.zone_text.ZoneText.{ZoneText}
use Rattle.master_read.proofs.EntryFaults.{IsTextFault, IsUnread, texts_told}
use Rattle.meta_read.specs.Metadata.{metadata_within}
use Rattle.meta_read.specs.declared.fault.MetaFault.{MetaFault}
use Rattle.meta_read.specs.declared.fault.MetaFault.TheVariants as meta_faults
use Rattle.meta_read.specs.declared.meta.MetaRow.{MetaRow}
use Rattle.meta_read.proofs.OwnFaults.{IsOwn as IsMetadataFault, metadata_own}
use Rattle.net_model.specs.declared.config.Server.{Server}
use Rattle.net_model.specs.declared.config.Zone.{Zone}
use Rattle.zone_rules.specs.ZoneOf.{zone_of}
use Rattle.zone_rules.specs.declared.fault.RuleFault.{RuleFault}
use Rattle.zone_rules.specs.declared.fault.RuleFault.TheVariants as rule_faults
use Rattle.zone_rules.proofs.OwnFaults.{IsOwn as IsRuleFault, zone_own}
use Rattle.config_load.specs.Conf.{settled, files_behind, zone_files, zone_read, with_row, with_row_unless, with_rows, with_rows_unless, no_rows, metadata, conf_unless, conf_within}
use Rattle.config_load.specs.Faults.{of_metadata, of_text, of_rule}
use Rattle.config_load.specs.Joined.{joined}
use Rattle.config_load.specs.Limits.{most_octets}
use Rattle.config_load.specs.Reading.{Reading, Reads, Refuses, Misses, Unknown, ◌>>=◌, unless_refused, told_octets, file_octets}
use Rattle.config_load.specs.Servers.{given, has_zone}
use Rattle.config_load.specs.declared.fault.LoadFault.{LoadFault}
use Rattle.config_load.specs.declared.fault.LoadFault.TheVariants.{Read, TooLong, NoMemory}
use Rattle.config_load.specs.declared.limits.Limits.{Limits}
use Rattle.config_load.specs.declared.rows.ReadRows.{ReadRows}
use Rattle.config_load.specs.declared.zone_files.ZoneFiles.{ZoneFiles}

-- the refusal says something of the files
abbrev pub IsOwn : LoadFault → Type 0
IsOwn (Read file) = ⊥
IsOwn NoMemory = ⊥
IsOwn fault = Unit {0}

-- the refusal of a reading, if it refuses, says something of the files
abbrev pub RefusesOwn : {A : Type 0} → Reading A → Type 0
RefusesOwn (Refuses fault) = IsOwn fault
RefusesOwn reading = Unit {0}

-- a step of the reading, and the next
own_then : {A B : Type 0} (reading : Reading A) (next : A → Reading B) → RefusesOwn reading → ((value : A) → RefusesOwn (next value)) → RefusesOwn (reading >>= next)
own_then (Reads value) next first others = others value
own_then (Refuses fault) next first others = first
own_then (Misses file) next first others = tt
own_then (Unknown file) next first others = tt

-- what a definition says of what was read
own_unless : {T E : Type 0} (P : E → Type 0) (told : E → LoadFault) (said : Result T E) → IfErr said P → ((fault : E) → P fault → IsOwn (told fault)) → RefusesOwn (unless_refused told said)
own_unless P told (Ok value) own tells = tt
own_unless P told (Err fault) own tells = tells fault own

-- the octets of a file
octets_own : (limits : Limits) (name : List ℕ) (told : Told) → RefusesOwn (told_octets limits name told)
octets_own limits name Untold = tt
octets_own limits name NotHeld = tt
octets_own limits name (Holds octets) = by (nat_le (length octets) (most_octets limits)) where
  by : (b : Bool) → RefusesOwn (cond b (Reads octets) (Refuses (TooLong name)))
  by true = tt
  by false = tt

-- the texts of a zone's files
text_own : (names : List (List ℕ)) (fault : TextFault) → IsTextFault fault → IsOwn (of_text names fault)
text_own names (text_faults.At number line cause) told = tt
text_own names text_faults.NoMemory told = told.own refl

settled_own : (names : List (List ℕ)) (next : List ℕ → Reading ZoneFiles) (said : Result ZoneText Unread) → IfErr said IsUnread → ((file : List ℕ) → RefusesOwn (next file)) → RefusesOwn (settled names next said)
settled_own names next (Ok text) told others = tt
settled_own names next (Err (Faulty fault)) told others = text_own names fault told
settled_own names next (Err (Asks file)) told others = others file

files_own : (meta : List ℕ) (origin : Labels) (left : Limits) (times : ℕ) (names texts : List (List ℕ)) (told : FilesTold) → RefusesOwn (files_behind meta origin left times names texts told)
unfolding files_behind
files_own meta origin left zero names texts told =
    settled_own names _ (zone_text origin left.records left.includes texts) (texts_told origin left.records left.includes texts) (λ file. tt)
files_own meta origin left (suc times) names texts told =
    settled_own names _ (zone_text origin left.records left.includes texts) (texts_told origin left.records left.includes texts)
    (λ file. own_then (file_octets left (joined meta file) told) _ (octets_own left (joined meta file) (told (joined meta file)))
    (λ text. files_own meta origin left times (names ++ joined meta file ∷ []) (texts ++ text ∷ []) told))

zone_files_own : (meta : List ℕ) (row : MetaRow) (left : Limits) (told : FilesTold) → RefusesOwn (zone_files meta row left told)
unfolding zone_files
zone_files_own meta row left told =
    own_then (file_octets left (joined meta row.file) told) _ (octets_own left (joined meta row.file) (told (joined meta row.file)))
    (λ text. files_own meta (unwrap_or row.origin []) left left.includes (joined meta row.file ∷ []) (text ∷ []) told)

-- a zone by its rules
rule_own : (names : List (List ℕ)) (fault : RuleFault) → IsRuleFault fault → IsOwn (of_rule names fault)
rule_own names (rule_faults.At number line cause) own = tt
rule_own names rule_faults.NoMemory own = own

zone_read_own : (meta : List ℕ) (row : MetaRow) (left : Limits) (told : FilesTold) → RefusesOwn (zone_read meta row left told)
unfolding zone_read
zone_read_own meta row left told =
    own_then (zone_files meta row left told) _ (zone_files_own meta row left told)
    (λ files. own_then (unless_refused (of_rule files.names) (zone_of row.origin files.text.rrs)) _
    (own_unless IsRuleFault (of_rule files.names) (zone_of row.origin files.text.rrs) (zone_own row.origin files.text.rrs) (rule_own files.names))
    (λ zone. tt))

-- rows
given_own : (number : ℕ) (name : Labels) (zone : Zone) (servers : List Server) → IfErr (given number name zone servers) IsOwn
given_own number name zone servers = if_err_either IsOwn (has_zone name zone.origin servers) _ _ tt tt

row_own : (meta : List ℕ) (number : ℕ) (row : MetaRow) (rows : ReadRows) (told : FilesTold) → RefusesOwn (with_row meta number row rows told)
unfolding with_row_unless
row_own meta number row rows told =
    own_then (zone_read meta row rows.left told) _ (zone_read_own meta row rows.left told)
    (λ read. own_then (unless_refused (λ fault. fault) (given number row.server read.zone rows.servers)) _
    (own_unless IsOwn (λ fault. fault) (given number row.server read.zone rows.servers) (given_own number row.server read.zone rows.servers) (λ fault own. own))
    (λ servers. tt))

rows_own : (meta : List ℕ) (number : ℕ) (more : List MetaRow) (rows : ReadRows) (told : FilesTold) → RefusesOwn (with_rows meta number more rows told)
unfolding with_rows_unless
rows_own meta number [] rows told = tt
rows_own meta number (row ∷ more) rows told =
    own_then (with_row meta number row rows told) _ (row_own meta number row rows told) (λ next. rows_own meta (number + 1) more next told)

-- the metadata
meta_own : (fault : MetaFault) → IsMetadataFault fault → IsOwn (of_metadata fault)
meta_own meta_faults.NotJson own = tt
meta_own (meta_faults.Shape row) own = tt
meta_own (meta_faults.BadName row) own = tt
meta_own (meta_faults.TopUnhosted top) own = tt
meta_own meta_faults.NoTops own = tt
meta_own meta_faults.TooManyRows own = tt
meta_own meta_faults.NoMemory own = own

metadata_read_own : (limits : Limits) (meta : List ℕ) (told : FilesTold) → RefusesOwn (metadata limits meta told)
unfolding metadata
metadata_read_own limits meta told =
    own_then (file_octets limits meta told) _ (octets_own limits meta (told meta))
    (λ octets. own_unless IsMetadataFault of_metadata (metadata_within limits.rows octets) (metadata_own limits.rows octets) meta_own)

-- the refusal of a configuration's files says something of them
pub conf_own : (limits : Limits) (meta : List ℕ) (told : FilesTold) → RefusesOwn (conf_within limits meta told)
unfolding conf_unless
conf_own limits meta told =
    own_then (metadata limits meta told) _ (metadata_read_own limits meta told)
    (λ found. own_then (with_rows meta 1 found.rows (no_rows limits) told) _ (rows_own meta 1 found.rows (no_rows limits) told) (λ rows. tt))

-- a refusal that says something of the files is no failed read, nor `NoMemory`
pub not-refused : {A : Type 0} (reading : Reading A) (fault : LoadFault) → RefusesOwn reading → (IsOwn fault → ⊥) → reading ≢ Refuses fault
not-refused {A} reading fault own never e =
    let refuses : Reading A → Type 0 = RefusesOwn in
    never (subst refuses e own)
