-- The numbers that words ask for are such as a check may have.
use Rattle.std.proofs.Common.{◌≡◌, ℕ, Bool, true, false, List, [], ◌∷◌, codes, Option, None, Some, Result, Ok, Err, refl, subst}
use Rattle.std.specs.Prelude.{if◌then◌else◌}
use Rattle.dns_data.specs.Rdata.{octets_eq}
use Rattle.groot_line.proofs.StatedNumbers.{job_in_range}
use Rattle.groot_line.specs.Job.{job_asked}
use Rattle.groot_line.specs.declared.fault.LineFault.{LineFault}
use Rattle.groot_line.specs.declared.job.Job.{Job}
use Rattle.groot_line.specs.declared.job.Job.TheVariants.{OfConfig, Drill, Recheck, Same, Scopes}
use Rattle.groot_line.specs.declared.job.Task.TheVariants.{Check, Ask, Classes, Site, Scope}
use Rattle.groot_line.specs.declared.program.Program.TheVariants.{GrootLarge}
use Rattle.report_run.specs.Judged.{AreLimits}
use Rattle.report_run.specs.declared.judging.CheckLimits.{CheckLimits}
use Rattle.parts_run.specs.Words.{asks_merge, is_file, job_of, part_asked, part_by}
use Rattle.parts_run.specs.declared.words.PartsJob.{PartsJob}
use Rattle.parts_run.specs.declared.words.PartsJob.TheVariants.{Merge, Part}

module _ (meta names : List ℕ) (limits : CheckLimits) where
  -- what was asked is this part
  abbrev Asked : Option PartsJob → Type 0
  Asked job = job ≡ Some (Part meta names limits)

  by_check : (file : List ℕ) (line : List (List ℕ)) (job : Result Job LineFault) → job_asked GrootLarge line ≡ job → Asked (part_by file job) → AreLimits limits
  by_check file line (Ok (OfConfig other (Check workers classes rewrites))) is asked =
      let range = job_in_range GrootLarge line (OfConfig other (Check workers classes rewrites)) is in
      let same : record { workers = workers; classes = classes; rewrites = rewrites } ≡ limits = cc in
      subst AreLimits same (record { workers = range.0.0; classes = range.1.0; classes_most = range.1.1; rewrites = range.2.0 })
  by_check file line (Ok (OfConfig other (Ask name rtype))) is asked = cc
  by_check file line (Ok (OfConfig other (Classes classes))) is asked = cc
  by_check file line (Ok (OfConfig other Site)) is asked = cc
  by_check file line (Ok (OfConfig other (Scope name))) is asked = cc
  by_check file line (Ok (Drill n workers)) is asked = cc
  by_check file line (Ok (Recheck other report)) is asked = cc
  by_check file line (Ok (Same first second)) is asked = cc
  by_check file line (Ok (Scopes other list)) is asked = cc
  by_check file line (Err fault) is asked = cc

  by_part : (words : List (List ℕ)) → Asked (part_asked words) → AreLimits limits
  by_part [] asked = cc
  by_part (one ∷ []) asked = cc
  by_part (other ∷ file ∷ options) asked = by (is_file file) asked where
    line : List (List ℕ)
    line = codes "check" ∷ other ∷ options

    by : (b : Bool) → Asked (if b then part_by file (job_asked GrootLarge line) else None) → AreLimits limits
    by true so = by_check file line (job_asked GrootLarge line) refl so
    by false so = cc

  -- so its numbers are such as a check may have
  pub limits_asked : (words : List (List ℕ)) → Asked (job_of words) → AreLimits limits
  limits_asked [] asked = cc
  limits_asked (word ∷ words) asked = by (asks_merge word words) asked where
    of_part : (b : Bool) → Asked (if b then part_asked words else None) → AreLimits limits
    of_part true so = by_part words so
    of_part false so = cc

    by : (b : Bool) → Asked (if b then Some (Merge words) else (if octets_eq word (codes "part") then part_asked words else None)) → AreLimits limits
    by true so = cc
    by false so = of_part (octets_eq word (codes "part")) so
