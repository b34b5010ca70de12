-- To each configuration and octets there is one answer beside `NoMemory`.
use Rattle.std.proofs.Common.{◌≡◌, ◌≢◌, ℕ, zero, suc, ◌+◌, List, [], ◌∷◌, ◌++◌, length, Some, None, Result, Ok, Err, refl, sym, ap, ◌∙◌, subst, inl, inr}
use Rattle.std.specs.Prelude.{◌⊎◌}
use Rattle.std.specs.List.{AllByRecursion}
use Rattle.net_model.specs.declared.config.Config.{Config}
use Rattle.serde_json.specs.Data.{Data}
use Rattle.report_check.specs.Checked.{IsChecked, IsConfirmed, IsFirst, IsWrong, LearningPasses, OfEntries, OfReport, PassesWalks}
use Rattle.report_check.specs.Entries.{EntriesComeTo}
use Rattle.report_check.specs.ReportIn.{StatedReport, report_in}
use Rattle.report_check.specs.declared.answer.Checked.{Checked}
use Rattle.report_check.specs.declared.answer.Checked.TheVariants.{Right, Wrong}
use Rattle.report_check.specs.declared.answer.CheckFault.{CheckFault}
use Rattle.report_check.specs.declared.answer.CheckFault.TheVariants.{NotReport, Walks, NoMemory}

module _ (config : Config) (rewrites : ℕ) where
  -- no entry that is so is confirmed
  abbrev Refutes : (Data → Type 0) → Type 0
  Refutes so = (value : Data) → so value → IsConfirmed config rewrites value → ⊥

  wrong_refutes : Refutes (IsWrong config rewrites)
  wrong_refutes value wrong confirmed = wrong.0 confirmed.0

  passing_refutes : Refutes (PassesWalks config rewrites)
  passing_refutes value passes confirmed = confirmed.1 passes

  -- one in the middle
  middle : (before : List Data) (value : Data) (after : List Data) → AllByRecursion (IsConfirmed config rewrites) (before ++ value ∷ after) → IsConfirmed config rewrites value
  middle [] value after each = each.0
  middle (other ∷ before) value after each = middle before value after each.1

  -- where all are confirmed there is no first that isn't
  none_first : (so : Data → Type 0) → Refutes so → (all : List Data) (number : ℕ) → AllByRecursion (IsConfirmed config rewrites) all → IsFirst config rewrites so all number → ⊥
  none_first so refutes all number each first =
      refutes first.entry first.is_so
      (middle first.before first.entry first.after (subst (AllByRecursion (IsConfirmed config rewrites)) first.splits each))

  -- two firsts stand in one place
  one_place : (before others : List Data) (one other : Data) (after rest : List Data) → before ++ one ∷ after ≡ others ++ other ∷ rest
      → AllByRecursion (IsConfirmed config rewrites) before → AllByRecursion (IsConfirmed config rewrites) others
      → (IsConfirmed config rewrites one → ⊥) → (IsConfirmed config rewrites other → ⊥) → (length before ≡ length others) × (one ≡ other)
  one_place [] [] one other after rest e each also not nor =
      let same : one ≡ other = cc in
      (refl, same)
  one_place [] (value ∷ others) one other after rest e each also not nor =
      let same : value ≡ one = cc in
      absurd (not (subst (IsConfirmed config rewrites) same also.0))
  one_place (value ∷ before) [] one other after rest e each also not nor =
      let same : value ≡ other = cc in
      absurd (nor (subst (IsConfirmed config rewrites) same each.0))
  one_place (value ∷ before) (first ∷ others) one other after rest e each also not nor =
      let later : before ++ one ∷ after ≡ others ++ other ∷ rest = cc in
      let place = one_place before others one other after rest later each.1 also.1 not nor in
      (ap suc place.0, place.1)

  firsts_agree : (so such : Data → Type 0) → Refutes so → Refutes such → (all : List Data) (one other : ℕ) → (first : IsFirst config rewrites so all one)
      → (also : IsFirst config rewrites such all other) → (one ≡ other) × (first.entry ≡ also.entry)
  firsts_agree so such refutes too all one other first also =
      let place = one_place first.before also.before first.entry also.entry first.after also.after (sym first.splits ∙ also.splits) first.confirmed also.confirmed
      (refutes first.entry first.is_so) (too also.entry also.is_so) in
      (first.counted ∙ ap (λ n. n + 1) place.0 ∙ sym also.counted, place.1)

  -- a wrong entry hasn't too many walks
  not_both : (all : List Data) (one other : ℕ) → IsFirst config rewrites (IsWrong config rewrites) all one → IsFirst config rewrites (PassesWalks config rewrites) all other → ⊥
  not_both all one other wrong passes =
      let same = firsts_agree (IsWrong config rewrites) (PassesWalks config rewrites) wrong_refutes passing_refutes all one other wrong passes in
      wrong.is_so.1 (subst (PassesWalks config rewrites) (sym same.1) passes.is_so)

  -- entries come to one answer
  one_end : (all : List Data) (one other : Result Checked CheckFault) → EntriesComeTo config rewrites all one → EntriesComeTo config rewrites all other
      → one ≢ Err NoMemory → other ≢ Err NoMemory → one ≡ other
  one_end all (Ok (Right n)) (Ok (Right m)) is also some more =
      let same : n ≡ m = is.1 ∙ sym also.1 in
      cc
  one_end all (Ok (Right n)) (Ok (Wrong m)) is also some more = absurd (none_first (IsWrong config rewrites) wrong_refutes all m is.0 also)
  one_end all (Ok (Right n)) (Err (Walks m)) is also some more = absurd (none_first (PassesWalks config rewrites) passing_refutes all m is.0 also)
  one_end all (Ok (Wrong n)) (Ok (Right m)) is also some more = absurd (none_first (IsWrong config rewrites) wrong_refutes all n also.0 is)
  one_end all (Ok (Wrong n)) (Ok (Wrong m)) is also some more =
      let same : n ≡ m = (firsts_agree (IsWrong config rewrites) (IsWrong config rewrites) wrong_refutes wrong_refutes all n m is also).0 in
      cc
  one_end all (Ok (Wrong n)) (Err (Walks m)) is also some more = absurd (not_both all n m is also)
  one_end all (Err (Walks n)) (Ok (Right m)) is also some more = absurd (none_first (PassesWalks config rewrites) passing_refutes all n also.0 is)
  one_end all (Err (Walks n)) (Ok (Wrong m)) is also some more = absurd (not_both all m n also is)
  one_end all (Err (Walks n)) (Err (Walks m)) is also some more =
      let same : n ≡ m = (firsts_agree (PassesWalks config rewrites) (PassesWalks config rewrites) passing_refutes passing_refutes all n m is also).0 in
      cc
  one_end all (Err NotReport) other is also some more = absurd is
  one_end all (Err NoMemory) other is also some more = absurd (some refl)
  one_end all one (Err NotReport) is also some more = absurd also
  one_end all one (Err NoMemory) is also some more = absurd (more refl)

module _ (config : Config) (octets : List ℕ) where
  -- in which of three ways an answer comes
  abbrev IsNone : Result Checked CheckFault → Type 0
  IsNone answer = (answer ≡ Err NotReport) × (report_in octets ≡ None)

  abbrev IsUnlearnt : Result Checked CheckFault → Type 0
  IsUnlearnt answer = (answer ≡ Err (Walks 0)) × OfReport octets (λ report. LearningPasses config report.rewrites)

  abbrev IsOfEntries : Result Checked CheckFault → Type 0
  IsOfEntries answer = OfEntries config octets (λ rewrites all. EntriesComeTo config rewrites all answer)

  way_of : (answer : Result Checked CheckFault) → IsChecked config octets answer → answer ≢ Err NoMemory → IsNone answer ⊎ (IsUnlearnt answer ⊎ IsOfEntries answer)
  way_of (Ok (Right n)) is some = inr (inr is)
  way_of (Ok (Wrong n)) is some = inr (inr is)
  way_of (Err NotReport) is some = inl (refl, is)
  way_of (Err (Walks zero)) is some = inr (inl (refl, is))
  way_of (Err (Walks (suc before))) is some = inr (inr is)
  way_of (Err NoMemory) is some = absurd (some refl)

  -- the octets are one report
  one_report : (one other : StatedReport) → report_in octets ≡ Some one → report_in octets ≡ Some other → one ≡ other
  one_report one other is also = cc

  no_report : (report : StatedReport) → report_in octets ≡ None → report_in octets ≡ Some report → ⊥
  no_report report none is = cc

  of_ways : (one other : Result Checked CheckFault) → one ≢ Err NoMemory → other ≢ Err NoMemory → IsNone one ⊎ (IsUnlearnt one ⊎ IsOfEntries one)
      → IsNone other ⊎ (IsUnlearnt other ⊎ IsOfEntries other) → one ≡ other
  of_ways one other some more (inl is) (inl also) = is.0 ∙ sym also.0
  of_ways one other some more (inl is) (inr (inl also)) = absurd (no_report also.1.0 is.1 also.1.1)
  of_ways one other some more (inl is) (inr (inr also)) = absurd (no_report also.0 is.1 also.1)
  of_ways one other some more (inr (inl is)) (inl also) = absurd (no_report is.1.0 also.1 is.1.1)
  of_ways one other some more (inr (inl is)) (inr (inl also)) = is.0 ∙ sym also.0
  of_ways one other some more (inr (inl is)) (inr (inr also)) =
      absurd (also.2.0 (subst (λ (r : StatedReport). LearningPasses config r.rewrites) (one_report is.1.0 also.0 is.1.1 also.1) is.1.2))
  of_ways one other some more (inr (inr is)) (inl also) = absurd (no_report is.0 also.1 is.1)
  of_ways one other some more (inr (inr is)) (inr (inl also)) =
      absurd (is.2.0 (subst (λ (r : StatedReport). LearningPasses config r.rewrites) (one_report also.1.0 is.0 also.1.1 is.1) also.1.2))
  of_ways one other some more (inr (inr is)) (inr (inr also)) =
      one_end config is.0.rewrites is.0.entries one other is.2.1
      (subst (λ (r : StatedReport). EntriesComeTo config r.rewrites r.entries other) (one_report also.0 is.0 also.1 is.1) also.2.1) some more

-- two answers to a configuration and octets are equal, if neither is `NoMemory`
pub only_answer : (config : Config) (octets : List ℕ) (one other : Result Checked CheckFault) → IsChecked config octets one → IsChecked config octets other
    → one ≢ Err NoMemory → other ≢ Err NoMemory → one ≡ other
only_answer config octets one other is also some more =
    of_ways config octets one other some more (way_of config octets one is some) (way_of config octets other also more)
