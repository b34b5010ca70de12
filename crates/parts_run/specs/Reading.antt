-- What files give as the reports of parts, by what is told of them.
use Rattle.std.specs.Prelude.{ℕ, List, [], ◌∷◌, ◌++◌, Option, Some, None, Result, Ok, Err}
use Rattle.io_edges.specs.Files.{FilesTold}
use Rattle.config_load.specs.Limits.{largest_limits}
use Rattle.config_load.specs.Reading.{Reading, Reads, ◌>>=◌, file_octets}
use Rattle.part_form.specs.Stated.{PartStated, part_in}

-- the report, or the file that holds none
abbrev pub report_or : List ℕ → Option PartStated → Result PartStated (List ℕ)
report_or file (Some part) = Ok part
report_or file None = Err file

-- what a file gives: the report of a part, or that it holds none
abbrev pub report_read : List ℕ → FilesTold → Reading (Result PartStated (List ℕ))
report_read file told = file_octets largest_limits file told >>= λ octets. Reads (report_or file (part_in octets))

-- what the reports so far give with the next, and with what follows; a file without a report is the last that is read
abbrev pub with_report : List PartStated → (List PartStated → Reading (Result (List PartStated) (List ℕ))) → Result PartStated (List ℕ)
    → Reading (Result (List PartStated) (List ℕ))
with_report parts next (Ok part) = next (parts ++ part ∷ [])
with_report parts next (Err file) = Reads (Err file)

-- what files give behind these reports: the reports of all, in order, or the first that holds none
abbrev pub reports_read : List PartStated → List (List ℕ) → FilesTold → Reading (Result (List PartStated) (List ℕ))
reports_read parts [] told = Reads (Ok parts)
reports_read parts (file ∷ files) told = report_read file told >>= with_report parts (λ parts. reports_read parts files told)
