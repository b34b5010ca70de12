-- Words, and what they ask for.
use Rattle.std.specs.Prelude.{◌≡◌, refl, List, ℕ, [], ◌∷◌, codes, Result, Ok, Err}
use Rattle.dns_data.specs.declared.rr_type.RrType.TheVariants as types
use Rattle.groot_line.specs.Job.{job_asked, job_of}
use Rattle.groot_line.specs.declared.fault.LineFault.{LineFault}
use Rattle.groot_line.specs.declared.fault.LineFault.TheVariants.{Usage}
use Rattle.groot_line.specs.declared.job.Job.{Job}
use Rattle.groot_line.specs.declared.job.Job.TheVariants.{OfConfig, Drill, Recheck, Same, Scopes}
use Rattle.groot_line.specs.declared.job.Task.TheVariants.{Check, Ask, Classes, Site, Scope}
use Rattle.groot_line.specs.declared.program.Program.TheVariants.{GrootLarge}

-- the job of a command and the words behind it
abbrev said : List ℕ → List (List ℕ) → Result Job LineFault
said command words = job_of (command ∷ words)

abbrev check : List (List ℕ) → Result Job LineFault
check words = said (codes "check") (codes "m.json" ∷ words)

-- without options the numbers are those of the format
plain_check : check [] ≡ Ok (OfConfig (codes "m.json") (Check 4 100000 12))
plain_check = refl

plain_classes : said (codes "classes") (codes "m.json" ∷ []) ≡ Ok (OfConfig (codes "m.json") (Classes 100000))
plain_classes = refl

-- a value in the next word, and one behind an equals sign, before and behind the metadata file
options : said (codes "check") (codes "--classes=1000000" ∷ codes "m.json" ∷ codes "--rewrites" ∷ codes "64" ∷ codes "--workers=0000001" ∷ [])
    ≡ Ok (OfConfig (codes "m.json") (Check 1 1000000 64))
options = refl

-- a name without its last dot, and a type in any case
query : said (codes "ask") (codes "m.json" ∷ codes "A.t" ∷ codes "aAaA" ∷ []) ≡ Ok (OfConfig (codes "m.json") (Ask (codes "t" ∷ codes "a" ∷ []) types.Aaaa))
query = refl

-- no words, and no metadata file
no_words : job_of [] ≡ Err Usage
no_words = refl

no_meta : said (codes "check") [] ≡ Err Usage
no_meta = refl

empty_meta : said (codes "classes") ([] ∷ []) ≡ Err Usage
empty_meta = refl

two_metas : check (codes "n.json" ∷ []) ≡ Err Usage
two_metas = refl

-- numbers out of range, of too many digits, and other texts
no_workers : check (codes "--workers" ∷ codes "0" ∷ []) ≡ Err Usage
no_workers = refl

too_many_workers : check (codes "--workers=65" ∷ []) ≡ Err Usage
too_many_workers = refl

eight_digits : check (codes "--workers=00000001" ∷ []) ≡ Err Usage
eight_digits = refl

no_digits : check (codes "--workers=" ∷ []) ≡ Err Usage
no_digits = refl

signed : check (codes "--workers=+2" ∷ []) ≡ Err Usage
signed = refl

-- an option twice, one whose value is missing or another option, one of another command, and one of none
twice : check (codes "--workers" ∷ codes "2" ∷ codes "--workers" ∷ codes "3" ∷ []) ≡ Err Usage
twice = refl

no_value : check (codes "--workers" ∷ []) ≡ Err Usage
no_value = refl

option_for_a_value : check (codes "--workers" ∷ codes "--classes" ∷ codes "3" ∷ []) ≡ Err Usage
option_for_a_value = refl

other_command : said (codes "classes") (codes "m.json" ∷ codes "--workers=2" ∷ []) ≡ Err Usage
other_command = refl

help : check (codes "--help" ∷ []) ≡ Err Usage
help = refl

one_dash : said (codes "check") (codes "-" ∷ []) ≡ Err Usage
one_dash = refl

no_name_of_an_option : check (codes "--=5" ∷ []) ≡ Err Usage
no_name_of_an_option = refl

short : check (codes "-w" ∷ codes "3" ∷ []) ≡ Err Usage
short = refl

two_dashes : said (codes "check") (codes "--" ∷ codes "m.json" ∷ []) ≡ Err Usage
two_dashes = refl

-- a type that is none of the twelve, and a text that is no name
other_type : said (codes "ask") (codes "m.json" ∷ codes "t." ∷ codes "ANY" ∷ []) ≡ Err Usage
other_type = refl

no_name : said (codes "ask") (codes "m.json" ∷ codes "a..t" ∷ codes "A" ∷ []) ≡ Err Usage
no_name = refl

-- a drill of so many zones: one at least, 5000 at most
plain_drill : said (codes "drill") (codes "200" ∷ []) ≡ Ok (Drill 200 4)
plain_drill = refl

largest_drill : said (codes "drill") (codes "--workers" ∷ codes "64" ∷ codes "5000" ∷ []) ≡ Ok (Drill 5000 64)
largest_drill = refl

no_zones : said (codes "drill") (codes "0" ∷ []) ≡ Err Usage
no_zones = refl

too_many_zones : said (codes "drill") (codes "5001" ∷ []) ≡ Err Usage
too_many_zones = refl

no_number_of_zones : said (codes "drill") [] ≡ Err Usage
no_number_of_zones = refl

-- the checks of sites take a metadata file and no option
plain_site : said (codes "site") (codes "m.json" ∷ []) ≡ Ok (OfConfig (codes "m.json") Site)
plain_site = refl

site_without_meta : said (codes "site") [] ≡ Err Usage
site_without_meta = refl

workers_of_a_site : said (codes "site") (codes "m.json" ∷ codes "--workers=2" ∷ []) ≡ Err Usage
workers_of_a_site = refl

-- a report is checked with the metadata file before it; neither word is empty
plain_recheck : said (codes "recheck") (codes "m.json" ∷ codes "r.json" ∷ []) ≡ Ok (Recheck (codes "m.json") (codes "r.json"))
plain_recheck = refl

same_file_twice : said (codes "recheck") (codes "m.json" ∷ codes "m.json" ∷ []) ≡ Ok (Recheck (codes "m.json") (codes "m.json"))
same_file_twice = refl

no_report : said (codes "recheck") (codes "m.json" ∷ []) ≡ Err Usage
no_report = refl

empty_report : said (codes "recheck") (codes "m.json" ∷ [] ∷ []) ≡ Err Usage
empty_report = refl

report_without_meta : said (codes "recheck") ([] ∷ codes "r.json" ∷ []) ≡ Err Usage
report_without_meta = refl

two_reports : said (codes "recheck") (codes "m.json" ∷ codes "r.json" ∷ codes "s.json" ∷ []) ≡ Err Usage
two_reports = refl

rewrites_of_a_recheck : said (codes "recheck") (codes "m.json" ∷ codes "r.json" ∷ codes "--rewrites=12" ∷ []) ≡ Err Usage
rewrites_of_a_recheck = refl

-- two configurations are compared by their metadata files, in order; neither word is empty
plain_same : said (codes "same") (codes "m.json" ∷ codes "m2.json" ∷ []) ≡ Ok (Same (codes "m.json") (codes "m2.json"))
plain_same = refl

same_as_itself : said (codes "same") (codes "m.json" ∷ codes "m.json" ∷ []) ≡ Ok (Same (codes "m.json") (codes "m.json"))
same_as_itself = refl

same_of_one : said (codes "same") (codes "m.json" ∷ []) ≡ Err Usage
same_of_one = refl

same_of_three : said (codes "same") (codes "m.json" ∷ codes "m2.json" ∷ codes "m3.json" ∷ []) ≡ Err Usage
same_of_three = refl

same_without_first : said (codes "same") ([] ∷ codes "m2.json" ∷ []) ≡ Err Usage
same_without_first = refl

same_without_second : said (codes "same") (codes "m.json" ∷ [] ∷ []) ≡ Err Usage
same_without_second = refl

workers_of_a_comparison : said (codes "same") (codes "m.json" ∷ codes "m2.json" ∷ codes "--workers=2" ∷ []) ≡ Err Usage
workers_of_a_comparison = refl

-- a scope has a metadata file and a name, which is read as that of a query
plain_scope : said (codes "scope") (codes "m.json" ∷ codes "b.T." ∷ []) ≡ Ok (OfConfig (codes "m.json") (Scope (codes "t" ∷ codes "b" ∷ [])))
plain_scope = refl

scope_of_the_root : said (codes "scope") (codes "m.json" ∷ codes "." ∷ []) ≡ Ok (OfConfig (codes "m.json") (Scope []))
scope_of_the_root = refl

scope_without_name : said (codes "scope") (codes "m.json" ∷ []) ≡ Err Usage
scope_without_name = refl

scope_of_no_name : said (codes "scope") (codes "m.json" ∷ codes "a.." ∷ []) ≡ Err Usage
scope_of_no_name = refl

scope_with_a_type : said (codes "scope") (codes "m.json" ∷ codes "a." ∷ codes "A" ∷ []) ≡ Err Usage
scope_with_a_type = refl

classes_of_a_scope : said (codes "scope") (codes "m.json" ∷ codes "." ∷ codes "--classes=5" ∷ []) ≡ Err Usage
classes_of_a_scope = refl

-- `groot` has no scopes of a file's names
scopes_of_groot : said (codes "scopes") (codes "m.json" ∷ codes "names" ∷ []) ≡ Err Usage
scopes_of_groot = refl

-- a command in another case
upper_case : said (codes "CHECK") (codes "m.json" ∷ []) ≡ Err Usage
upper_case = refl

-- what the same words ask of `groot-large`: more names, and no more of anything else
large : List (List ℕ) → Result Job LineFault
large words = job_asked GrootLarge (codes "check" ∷ codes "m.json" ∷ words)

as_many_names_as_there_may_be : large [] ≡ Ok (OfConfig (codes "m.json") (Check 4 2147483647 12))
unfolding large
as_many_names_as_there_may_be = refl

ten_digits : large (codes "--classes=2147483647" ∷ codes "--workers=0000000064" ∷ []) ≡ Ok (OfConfig (codes "m.json") (Check 64 2147483647 12))
unfolding large
ten_digits = refl

one_name_more : large (codes "--classes=2147483648" ∷ []) ≡ Err Usage
unfolding large
one_name_more = refl

sixty_five_workers : large (codes "--workers=65" ∷ []) ≡ Err Usage
unfolding large
sixty_five_workers = refl

-- `groot-large` has them, with a metadata file and the file of names; neither word is empty, and there is no option
large_scopes : List (List ℕ) → Result Job LineFault
large_scopes words = job_asked GrootLarge (codes "scopes" ∷ codes "m.json" ∷ words)

plain_scopes : large_scopes (codes "names" ∷ []) ≡ Ok (Scopes (codes "m.json") (codes "names"))
unfolding large_scopes
plain_scopes = refl

scopes_without_names : large_scopes [] ≡ Err Usage
unfolding large_scopes
scopes_without_names = refl

scopes_of_an_empty_word : large_scopes ([] ∷ []) ≡ Err Usage
unfolding large_scopes
scopes_of_an_empty_word = refl

workers_of_scopes : large_scopes (codes "names" ∷ codes "--workers=2" ∷ []) ≡ Err Usage
unfolding large_scopes
workers_of_scopes = refl

-- `groot` has no more than a million names
a_name_past_the_million : check (codes "--classes=1000001" ∷ []) ≡ Err Usage
a_name_past_the_million = refl
