-- What the words of the command line ask for.
use Rattle.std.specs.Prelude.{ℕ, nat_eq, Bool, ◌&&◌, not, List, codes, length, if◌then◌else◌, ◌==◌, [], ◌∷◌, Option, Some, None, Result, Ok}
use Rattle.std.specs.List.{list_all, starts_with}
use Rattle.dns_data.specs.Rdata.{octets_eq}
use Rattle.groot_line.specs.Job.{job_asked}
use Rattle.groot_line.specs.declared.fault.LineFault.{LineFault}
use Rattle.groot_line.specs.declared.job.Job.{Job}
use Rattle.groot_line.specs.declared.job.Job.TheVariants.{OfConfig}
use Rattle.groot_line.specs.declared.job.Task.TheVariants.{Check}
use Rattle.groot_line.specs.declared.program.Program.TheVariants.{GrootLarge}
use Rattle.parts_run.specs.declared.words.PartsJob.{PartsJob}
use Rattle.parts_run.specs.declared.words.PartsJob.TheVariants.{Merge, Part}

-- the word names a file: it isn't empty and doesn't begin with a dash
abbrev pub is_file : List ℕ → Bool
is_file word = not (length word == 0) && not (starts_with nat_eq word (codes "-"))

-- this word, with these behind it, asks that the reports of some files be merged
abbrev pub asks_merge : List ℕ → List (List ℕ) → Bool
asks_merge word files = octets_eq word (codes "merge") && (not (length files == 0) && list_all is_file files)

-- the report of the part that has the names in this file, if the job is a check
abbrev pub part_by : List ℕ → Result Job LineFault → Option PartsJob
part_by names (Ok (OfConfig meta (Check workers classes rewrites))) =
    Some (Part meta names (record { workers = workers; classes = classes; rewrites = rewrites }))
part_by names job = None

-- the report of a part, if the words behind `part` ask for one: a metadata file, the file of the part's names, and the
-- options of a check of `groot-large`
abbrev pub part_asked : List (List ℕ) → Option PartsJob
part_asked (meta ∷ names ∷ options) = if is_file names then part_by names (job_asked GrootLarge (codes "check" ∷ meta ∷ options)) else None
part_asked words = None

-- what the words ask for
abbrev pub job_of : List (List ℕ) → Option PartsJob
job_of [] = None
job_of (word ∷ words) =
    if asks_merge word words then Some (Merge words) else (if octets_eq word (codes "part") then part_asked words else None)

-- the line on err where the words ask for nothing
abbrev pub usage_line : List ℕ
usage_line = codes "usage: groot-parts part META NAMES [--workers N] [--classes N] [--rewrites K] | merge REPORT ..\n"
