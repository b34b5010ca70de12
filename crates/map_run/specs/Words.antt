-- What the words of the command line ask for.
use Rattle.std.specs.Prelude.{ℕ, nat_eq, Bool, ◌&&◌, not, List, [], ◌∷◌, codes, length, if◌then◌else◌, ◌==◌, Option, None, option_map}
use Rattle.std.specs.List.{find, starts_with}
use Rattle.dns_data.specs.Rdata.{octets_eq}
use Rattle.map_run.specs.declared.words.MapView.{MapView}
use Rattle.map_run.specs.declared.words.MapView.TheVariants.{Records, Reached, Targets, Delegations, Copies, Servers, Aliases, Chain}
use Rattle.map_run.specs.declared.words.MapJob.{MapJob}

-- the word of what may be asked for
abbrev pub asked_word : MapView → List ℕ
asked_word Records = codes "records"
asked_word Reached = codes "reached"
asked_word Targets = codes "targets"
asked_word Delegations = codes "delegations"
asked_word Copies = codes "copies"
asked_word Servers = codes "servers"
asked_word Aliases = codes "aliases"
asked_word Chain = codes "chain"

-- what may be asked for
abbrev pub all_asked : List MapView
all_asked = Records ∷ Reached ∷ Targets ∷ Delegations ∷ Copies ∷ Servers ∷ Aliases ∷ Chain ∷ []

-- what a word asks for, which is compared as written
abbrev pub asked_by_word : List ℕ → Option MapView
asked_by_word word = find (λ asked. octets_eq word (asked_word asked)) all_asked

-- the word names a metadata file: it isn't empty and doesn't begin with a dash
abbrev pub is_file : List ℕ → Bool
is_file word = not (length word == 0) && not (starts_with nat_eq word (codes "-"))

-- the job of a word over this metadata file
abbrev pub job_over : List ℕ → Option MapView → Option MapJob
job_over meta asked = option_map (λ asked. record { asked = asked; meta = meta }) asked

-- the job that the words ask for
abbrev pub job_of : List (List ℕ) → Option MapJob
job_of (word ∷ meta ∷ []) = if is_file meta then job_over meta (asked_by_word word) else None
job_of words = None

-- the line on err where the words are no job
abbrev pub usage_line : List ℕ
usage_line = codes "usage: groot-map records META | reached META | targets META | delegations META | copies META | servers META | aliases META | chain META\n"
