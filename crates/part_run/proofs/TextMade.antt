-- The text that is made of what is kept is that of a part.
use Rattle.std.proofs.Common.{◌≡◌, ℕ, ◌<◌, List, map, Result, Ok, Err, refl, subst}
use Rattle.std.specs.Prelude.{◌^◌, IfOk, Option}
use Rattle.std.specs.List.{AllZip}
use Rattle.std.specs.Str.{IsUtf8}
use Rattle.dns_data.specs.Name.{Labels}
use Rattle.graph_form.specs.declared.report.ReportEntry.{ReportEntry}
use Rattle.net_model.specs.Reading.{Ground}
use Rattle.own_names.specs.declared.counts.OwnCounts.{OwnCounts}
use Rattle.part_form.specs.PartText.{WrittenPart, part_text}
use Rattle.part_form.specs.Written.{IsNamedBound}
use Rattle.part_names.specs.declared.names.PartNames.{PartNames}
use Rattle.part_texts.specs.Writing.{AreOfPart}
use Rattle.part_texts.specs.declared.writing.ClassedText.{ClassedText}
use Rattle.part_run.specs.KeptEntry.{IsClassedText, kept_entry}
use Rattle.part_run.specs.PartWritten.{AreCountsOf, IsTextOf}
use Rattle.part_run.specs.declared.entry.KeptEntry.{KeptEntry}
use Rattle.part_run.proofs.EntriesClassed.{classed_by_texts}

module _ (ground : Ground) (names : PartNames) (rewrites : ℕ) (counts : OwnCounts) (kept : List KeptEntry) (texts : List ClassedText)
    (zips : AllZip (IsClassedText ground) kept texts) (from_named : IsNamedBound names.from) (to_named : IsNamedBound names.to)
    (few_names : counts.names < 2 ^ 64) (few_classes : counts.classes < 2 ^ 64) (few_rewrites : rewrites < 2 ^ 64) where
  -- what the text is, if it is one of each part with these bounds, numbers and texts
  pub text_made : {E : Type 0} (from to : Option Labels) → from ≡ names.from → to ≡ names.to → (result : Result (List ℕ) E)
      → IfOk result (λ text. (part : WrittenPart) → AreOfPart from to (record { classes = counts.classes; names = counts.names; rewrites = rewrites }) texts part → text ≡ part_text part)
      → IfOk result IsUtf8
      → IfOk result (λ text. (entries : List ReportEntry) → kept ≡ map kept_entry entries → AreCountsOf ground names counts → IsTextOf ground names rewrites entries text)
  text_made from to from_is to_is (Ok text) is utf8 = λ entries are counted.
      let classed = classed_by_texts ground entries texts (subst (λ (ks : List KeptEntry). AllZip (IsClassedText ground) ks texts) are zips) in
      let written : WrittenPart =
      record { from = names.from; to = names.to; classes = counts.classes; names = counts.names; rewrites = rewrites; entries = classed.classed } in
      let same : text ≡ part_text written =
      is written (record { from_is = from_is; to_is = to_is; classes = refl; names = refl; rewrites = refl; texts = classed.texts_are }) in
      record {
        written = written;
        counts = counts;
        are_counts = counted;
        from_is = refl;
        to_is = refl;
        names_are = refl;
        classes_are = refl;
        limit = refl;
        entries_are = classed.entries_are;
        classes = classed.classes;
        readable = record {
          from = from_named;
          to = to_named;
          classes = few_classes;
          names = few_names;
          rewrites = few_rewrites;
          entries = classed.named;
          utf8 = subst IsUtf8 same utf8;
        };
        text_is = same;
      }
  text_made from to from_is to_is (Err fault) is utf8 = tt
