use Rattle.std.proofs.Common.{◌≡◌, ◌∙◌, ◌∷◌, ℕ, Bool, true, false, List, Bor, Option, Some, None, map, length, codes, refl, subst, sym, ap, ap₂}
use Rattle.std.specs.Prelude.{◌&&◌, ◌==◌, not, if◌then◌else◌, IfOk}
use Rattle.std.specs.List.{list_all}
use Rattle.std.proofs.lemmas.List.{length-map}
use Rattle.std.proofs.lemmas.List.Folds.{list_all-map}
use Rattle.dns_data.specs.Rdata.{octets_eq}
use Rattle.parts_run.specs.Words.{asks_merge, is_file, job_of, part_asked}
use Rattle.parts_run.specs.declared.words.PartsJob.{PartsJob}
use Rattle.parts_run.specs.declared.words.PartsJob.TheVariants.{Merge}
use Rattle.parts_run.proofs.words.read_words.Goals as goal

-- the octets of words
abbrev texts : List (Bor (List ℕ)) → List (List ℕ)
texts words = map (λ (word : Bor (List ℕ)). word.now) words

-- whether words that are handed over ask that reports be merged
asked : (word : List ℕ) (files : List (Bor (List ℕ)))
    → asks_merge word (texts files) ≡ (octets_eq word (codes "merge") && (not (length files == 0) && list_all (λ file. is_file file.now) files))
asked word files =
    ap₂ (λ (n : ℕ) (all : Bool). octets_eq word (codes "merge") && (not (n == 0) && all)) (length-map files (λ file. file.now))
    (list_all-map is_file (λ (file : Bor (List ℕ)). file.now) files)

-- the job of words, by what the first asks
job_by : (words : List (Bor (List ℕ))) (word : Bor (List ℕ)) (rest : List (Bor (List ℕ))) (merge part : Bool) → words ≡ word ∷ rest
    → (octets_eq word.now (codes "merge") && (not (length rest == 0) && list_all (λ file. is_file file.now) rest)) ≡ merge → octets_eq word.now (codes "part") ≡ part
    → job_of (texts words) ≡ (if merge then Some (Merge (texts rest)) else (if part then part_asked (texts rest) else None))
job_by words word rest merge part same asks is_part =
    ap (λ (all : List (Bor (List ℕ))). job_of (texts all)) same
    ∙ ap (λ (b : Bool). if b then Some (Merge (texts rest)) else (if octets_eq word.now (codes "part") then part_asked (texts rest) else None)) (asked word.now rest ∙ asks)
    ∙ ap (λ (b : Bool). if merge then Some (Merge (texts rest)) else (if b then part_asked (texts rest) else None)) is_part

pub returns-then-asks_merge : goal.returns-then-asks_merge
returns-then-asks_merge c =
    ap (λ (files : List (List ℕ)). Some (Merge files)) c.in_ok-files.ensures
    ∙ sym (job_by c.args.words.now c.in-Some.word.now c.in-Some.rest.now true _ c.in-Some.ensures.cases.0 (sym c.asks_merge.ensures ∙ c.if-asks_merge.true) refl)

pub returns-then-asks_part : goal.returns-then-asks_part
returns-then-asks_part c =
    subst (λ (told : Option PartsJob). IfOk c.part_asked.result (λ job. job ≡ told))
    (sym (job_by c.args.words.now c.in-Some.word.now c.in-Some.rest.now false true c.in-Some.ensures.cases.0 (sym c.asks_merge.ensures ∙ c.if-asks_merge.false)
    (sym c.asks_part.ensures ∙ c.if-asks_part.true))) c.part_asked.ensures

pub returns : goal.returns
returns c =
    sym (job_by c.args.words.now c.in-Some.word.now c.in-Some.rest.now false false c.in-Some.ensures.cases.0 (sym c.asks_merge.ensures ∙ c.if-asks_merge.false)
    (sym c.asks_part.ensures ∙ c.if-asks_part.false))
