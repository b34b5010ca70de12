-- The format never speaks of `NoMemory`.
use Rattle.std.proofs.Common.{◌≡◌, ℕ, List, [], ◌∷◌, length, leb, ltb, ◌&&◌, not, Result, Ok, Err, inl, inr}
use Rattle.std.specs.List.{list_all}
use Rattle.std.proofs.lemmas.Result.{IfErr-at_err}
use Rattle.std.specs.Result.{IfErr}
use Rattle.dns_data.proofs.Answers.{if_err_then, if_err_told, if_err_or, if_err_either}
use Rattle.dns_data.proofs.NameFaults.{IsTold, name_told}
use Rattle.dns_data.specs.Answers.{AnswersOr, ◌>>=◌}
use Rattle.dns_data.specs.Name.{Labels}
use Rattle.dns_data.specs.Spelling.{name_of_text}
use Rattle.dns_data.specs.declared.fault.NameFault.{NameFault}
use Rattle.dns_data.specs.declared.fault.NameFault.TheVariants as name_fault
use Rattle.dns_data.specs.declared.rdata.Rdata.TheVariants as data_of
use Rattle.dns_data.specs.declared.rr_type.RrType.{RrType}
use Rattle.dns_data.specs.declared.rr_type.RrType.TheVariants as types
use Rattle.master_lex.specs.declared.entry.Token.{Token}
use Rattle.rdata_forms.specs.Addresses.{ipv4_in, ipv4_of, ipv6_in, ipv6_of}
use Rattle.rdata_forms.specs.Forms.{name_in, one_name, strings_of, a_of, aaaa_of, soa_of, hinfo_of, mx_of, txt_of, srv_of, caa_of, fields_of, written, is_generic, is_generic_form, rdata_of, other_of}
use Rattle.dns_data.specs.Number.{number_up_to}
use Rattle.rdata_forms.specs.Numbers.{number_in}
use Rattle.rdata_forms.specs.Texts.{resolved, is_tag_octet, string_of, tag_of}
use Rattle.rdata_forms.specs.Times.{time_in, time_of}
use Rattle.rdata_forms.specs.declared.fault.RdataFault.{RdataFault}
use Rattle.rdata_forms.specs.declared.fault.RdataFault.TheVariants.{FieldCount, BadNumber, BadAddress, BadName, TextTooLong, NoMemory}

-- the fault says something of the tokens: it is no `NoMemory`, nor does one stand in it
pub record IsSaid (fault : RdataFault) : Type 0 where
  pub own : fault ≡ NoMemory → ⊥
  pub named : fault ≡ BadName name_fault.NoMemory → ⊥

-- no step of the reading wants memory
abbrev pub Reads : {T : Type 0} → Result T RdataFault → Type 0
Reads said = IfErr said IsSaid

-- each kind of field reads
reads-name : (origin : Labels) (text : List ℕ) → Reads (name_in origin text)
reads-name origin text = if_err_told IsSaid BadName (name_of_text text origin) (named (name_of_text text origin) (name_told text origin)) where
  named : (said : Result Labels NameFault) → IfErr said IsTold → IfErr said (λ fault. IsSaid (BadName fault))
  named (Ok name) told = tt
  named (Err fault) told = record { own = λ h. cc; named = λ h. told cc }

reads-count : IsSaid FieldCount
reads-count = record { own = λ h. cc; named = λ h. cc }

reads-long : IsSaid TextTooLong
reads-long = record { own = λ h. cc; named = λ h. cc }

reads-bad : IsSaid BadNumber
reads-bad = record { own = λ h. cc; named = λ h. cc }

reads-address : IsSaid BadAddress
reads-address = record { own = λ h. cc; named = λ h. cc }

reads-number : (most : ℕ) (text : List ℕ) → Reads (number_in most text)
reads-number most text = if_err_or IsSaid (number_up_to 10 most text) BadNumber reads-bad

reads-time : (text : List ℕ) → Reads (time_in text)
reads-time text = if_err_or IsSaid (time_of text) BadNumber reads-bad

reads-string : (most : ℕ) (text : List ℕ) → Reads (string_of most text)
reads-string most text = if_err_either IsSaid (ltb most (length (resolved text))) _ _ reads-long tt

reads-tag : (text : List ℕ) → Reads (tag_of text)
reads-tag text =
    if_err_either IsSaid (ltb 255 (length text)) _ _ reads-long (if_err_either IsSaid (leb 1 (length text) && list_all is_tag_octet text) _ _ tt reads-bad)

reads-one_name : (origin : Labels) (fields : List (List ℕ)) → Reads (one_name origin fields)
reads-one_name origin [] = reads-count
reads-one_name origin (field ∷ []) = reads-name origin field
reads-one_name origin (field ∷ next ∷ fields) = reads-count

-- each type of data reads
reads-a : (fields : List (List ℕ)) → Reads (a_of fields)
reads-a [] = reads-count
reads-a (field ∷ []) = if_err_then IsSaid (ipv4_in field) _ (if_err_or IsSaid (ipv4_of field) BadAddress reads-address) (λ address. tt)
reads-a (field ∷ next ∷ fields) = reads-count

reads-aaaa : (fields : List (List ℕ)) → Reads (aaaa_of fields)
reads-aaaa [] = reads-count
reads-aaaa (field ∷ []) = if_err_then IsSaid (ipv6_in field) _ (if_err_or IsSaid (ipv6_of field) BadAddress reads-address) (λ address. tt)
reads-aaaa (field ∷ next ∷ fields) = reads-count

reads-soa : (origin : Labels) (fields : List (List ℕ)) → Reads (soa_of origin fields)
reads-soa origin (a ∷ b ∷ c ∷ d ∷ e ∷ f ∷ g ∷ []) =
    if_err_then IsSaid (name_in origin a) _ (reads-name origin a) (λ mname.
    if_err_then IsSaid (name_in origin b) _ (reads-name origin b) (λ rname.
    if_err_then IsSaid (number_in 4294967295 c) _ (reads-number 4294967295 c) (λ serial.
    if_err_then IsSaid (time_in d) _ (reads-time d) (λ refresh.
    if_err_then IsSaid (time_in e) _ (reads-time e) (λ retry.
    if_err_then IsSaid (time_in f) _ (reads-time f) (λ expire.
    if_err_then IsSaid (time_in g) _ (reads-time g) (λ minimum. tt)))))))
reads-soa origin fields = reads-count

reads-hinfo : (fields : List (List ℕ)) → Reads (hinfo_of fields)
reads-hinfo (a ∷ b ∷ []) =
    if_err_then IsSaid (string_of 255 a) _ (reads-string 255 a) (λ cpu. if_err_then IsSaid (string_of 255 b) _ (reads-string 255 b) (λ os. tt))
reads-hinfo fields = reads-count

reads-mx : (origin : Labels) (fields : List (List ℕ)) → Reads (mx_of origin fields)
reads-mx origin (a ∷ b ∷ []) =
    if_err_then IsSaid (number_in 65535 a) _ (reads-number 65535 a) (λ preference. if_err_then IsSaid (name_in origin b) _ (reads-name origin b) (λ exchange. tt))
reads-mx origin fields = reads-count

reads-strings : (fields : List (List ℕ)) → Reads (strings_of fields)
reads-strings [] = tt
reads-strings (field ∷ fields) =
    if_err_then IsSaid (string_of 255 field) _ (reads-string 255 field) (λ text. if_err_then IsSaid (strings_of fields) _ (reads-strings fields) (λ texts. tt))

reads-txt : (fields : List (List ℕ)) → Reads (txt_of fields)
reads-txt [] = reads-count
reads-txt (field ∷ fields) = if_err_then IsSaid (strings_of (field ∷ fields)) _ (reads-strings (field ∷ fields)) (λ texts. tt)

reads-srv : (origin : Labels) (fields : List (List ℕ)) → Reads (srv_of origin fields)
reads-srv origin (a ∷ b ∷ c ∷ d ∷ []) =
    if_err_then IsSaid (number_in 65535 a) _ (reads-number 65535 a) (λ priority.
    if_err_then IsSaid (number_in 65535 b) _ (reads-number 65535 b) (λ weight.
    if_err_then IsSaid (number_in 65535 c) _ (reads-number 65535 c) (λ port.
    if_err_then IsSaid (name_in origin d) _ (reads-name origin d) (λ target. tt))))
reads-srv origin fields = reads-count

reads-caa : (fields : List (List ℕ)) → Reads (caa_of fields)
reads-caa (a ∷ b ∷ c ∷ []) =
    if_err_then IsSaid (number_in 255 a) _ (reads-number 255 a) (λ flags.
    if_err_then IsSaid (tag_of b) _ (reads-tag b) (λ tag.
    if_err_then IsSaid (string_of 1024 c) _ (reads-string 1024 c) (λ value. tt)))
reads-caa fields = reads-count

reads-target : {T : Type 0} (origin : Labels) (fields : List (List ℕ)) (put : Labels → T) → Reads (one_name origin fields >>= λ target. Ok (put target))
reads-target origin fields put = if_err_then IsSaid (one_name origin fields) _ (reads-one_name origin fields) (λ target. tt)

-- where the fields of a type give no data, the fault is one that the format speaks of
pub reads-fields : (rtype : RrType) (fields : List (List ℕ)) (origin : Labels) → Reads (fields_of rtype fields origin)
reads-fields types.A fields origin = reads-a fields
reads-fields types.Ns fields origin = reads-target origin fields data_of.Ns
reads-fields types.Cname fields origin = reads-target origin fields data_of.Cname
reads-fields types.Soa fields origin = reads-soa origin fields
reads-fields types.Ptr fields origin = reads-target origin fields data_of.Ptr
reads-fields types.Hinfo fields origin = reads-hinfo fields
reads-fields types.Mx fields origin = reads-mx origin fields
reads-fields types.Txt fields origin = reads-txt fields
reads-fields types.Aaaa fields origin = reads-aaaa fields
reads-fields types.Srv fields origin = reads-srv origin fields
reads-fields types.Dname fields origin = reads-target origin fields data_of.Dname
reads-fields types.Caa fields origin = reads-caa fields

-- the fault of data says something of the tokens
pub reads-data : (rtype : RrType) (tokens : List Token) (origin : Labels) → Reads (rdata_of rtype tokens origin)
reads-data rtype tokens origin = if_err_either IsSaid (is_generic tokens) _ _ (record { own = λ h. cc; named = λ h. cc }) (reads-fields rtype (written tokens) origin)

-- the fault of data of another type says something of the tokens
pub reads-other : (word : List ℕ) (tokens : List Token) → Reads (other_of word tokens)
reads-other word tokens = if_err_either IsSaid (is_generic tokens && not (is_generic_form (written tokens))) _ _ (record { own = λ h. cc; named = λ h. cc }) tt

-- a call that answers what reads isn't refused because memory ran out for a name either
pub answers-named : {T : Type 0} (result said : Result T RdataFault) → AnswersOr NoMemory result said → Reads said → result ≡ Err (BadName name_fault.NoMemory) → ⊥
answers-named (Ok value) said answered reads e = cc
answers-named (Err fault) said (inl free) reads e = cc
answers-named (Err fault) said (inr same) reads e =
    let at : IsSaid fault = IfErr-at_err IsSaid same reads in
    at.named cc
