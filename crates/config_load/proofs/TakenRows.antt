-- Rows that are read and taken one by one, step by step.
use Rattle.std.proofs.Common.{◌≡◌, ℕ, ◌+◌, ◌≤◌, Bool, List, [], ◌∷◌, ◌++◌, length, drop, slice_get, Some, Result, Ok, Err, IsErrAnd, refl, sym, ap, ◌∙◌, subst}
use Rattle.dns_data.specs.Answers.{AnswersOr}
use Rattle.io_edges.specs.Files.{FilesTold}
use Rattle.meta_read.specs.declared.meta.MetaRow.{MetaRow}
use Rattle.net_model.specs.declared.config.Zone.{Zone}
use Rattle.config_load.specs.Conf.{no_rows, with_row_unless, with_rows_unless, zone_unless}
use Rattle.config_load.specs.Earlier.{HasPutAtMost}
use Rattle.config_load.specs.Follows.{Follows}
use Rattle.config_load.specs.Left.{HasLeft, read_left, rows_left, zones_in}
use Rattle.config_load.specs.Reading.{Reading, Reads}
use Rattle.config_load.specs.RowRead.{row_read}
use Rattle.config_load.specs.Sources.{HasAnswered, ReadsFor}
use Rattle.config_load.specs.Taken.{AreTaken}
use Rattle.config_load.specs.declared.earlier.EarlierRows.{EarlierRows}
use Rattle.config_load.specs.declared.fault.LoadFault.{LoadFault}
use Rattle.config_load.specs.declared.fault.LoadFault.TheVariants.{NoMemory}
use Rattle.config_load.specs.declared.limits.Limits.{Limits}
use Rattle.config_load.specs.declared.rows.ReadRows.{ReadRows}
use Rattle.config_load.specs.declared.zone.ReadZone.{ReadZone}
use Rattle.config_load.proofs.Answered.{Gives-answers}
use Rattle.config_load.proofs.Follows.{Follows-same, Follows-then}
use Rattle.config_load.proofs.KnownRows.{earlier_more, rows_count}
use Rattle.config_load.proofs.LeftRows.{HasLeft-row, StandSoFar, left_fault, left_wanting, of_fault, of_value}
use Rattle.config_load.proofs.ReadRows.{HasAnswered-first_row, HasAnswered-no_row, Follows-first_row, ReadsFor-first_row}
use Rattle.config_load.proofs.Sources.{HasAnswered-looked, HasAnswered-then, ReadsFor-then}
use Rattle.config_load.proofs.Steps.{with_rows-end}

module _ (skips : MetaRow → Bool) (meta : List ℕ) (all : List MetaRow) (limits : Limits) (told told' : FilesTold) (counts counts' : List ℕ → ℕ) (left : Zone → Zone) (took : List Zone → Type 0)
    (i : ℕ) (rows : ReadRows) (earlier : EarlierRows) (stand : StandSoFar skips meta all limits told told' counts counts' left took i rows earlier) where
  -- what was left of the limits
  pub same_left : stand.whole.left ≡ rows.left
  same_left = ap (λ (r : ReadRows). r.left) (sym stand.is)

  -- all rows were read
  pub all_taken : length all ≤ i → HasLeft told told' counts counts' (with_rows_unless skips meta 1 all (no_rows limits)) (rows_left left) (λ (r : ReadRows). AreTaken took (zones_in r.servers)) (Ok rows)
  all_taken past =
      let answer : Result ReadRows LoadFault = Ok stand.whole in record {
        whole = answer;
        answered =
            HasAnswered-then {whole = with_rows_unless skips meta 1 all (no_rows limits)} {rest = with_rows_unless skips meta (i + 1) (drop i all) stand.whole} stand.so_far stand.source
            (HasAnswered-looked told' counts' (with_rows_unless skips meta (i + 1) (drop i all) stand.whole) answer tt
            (Follows-same told' (with_rows_unless skips meta (i + 1) (drop i all) stand.whole) (λ _. Reads stand.whole) (λ other. with_rows-end skips meta all i stand.whole other past)));
        is = (stand.whole, refl, stand.is, stand.taken);
      }

  module _ (row : MetaRow) (rest : drop i all ≡ row ∷ drop (i + 1) all) (told'' : FilesTold) (counts'' : List ℕ → ℕ) where
    -- the rows behind those so far
    abbrev behind : List MetaRow → FilesTold → Reading ReadRows
    behind more = with_rows_unless skips meta (i + 1) more stand.whole

    -- the fault of the next row answers the reading of all
    pub row_fails : {L : ReadRows → ReadRows} {Taken : ReadRows → Type 0} (fault : LoadFault) (result : Result ReadRows LoadFault) → IsErrAnd result (λ passed. passed ≡ fault)
        → (let answer : Result ReadRows LoadFault = Err fault in HasAnswered told' told'' counts' counts'' (with_row_unless skips meta (i + 1) row stand.whole) answer)
        → HasLeft told told'' counts counts'' (with_rows_unless skips meta 1 all (no_rows limits)) L Taken result
    row_fails fault result is answered =
        left_fault result fault is
        (HasAnswered-then {whole = with_rows_unless skips meta 1 all (no_rows limits)} {rest = with_rows_unless skips meta (i + 1) (drop i all) stand.whole} stand.so_far stand.source
        (subst (λ (more : List MetaRow). HasAnswered told' told'' counts' counts'' (behind more) result) (sym rest)
        (HasAnswered-first_row skips meta (i + 1) row (drop (i + 1) all) stand.whole fault result is answered)))

    -- so does the fault of its zone
    pub zone_fails : {L : ReadRows → ReadRows} {Taken : ReadRows → Type 0} {l : ReadZone → ReadZone} {T : ReadZone → Type 0} (fault : LoadFault) (result : Result ReadRows LoadFault) → IsErrAnd result (λ passed. passed ≡ fault)
        → (let answer : Result ReadZone LoadFault = Err fault in HasLeft told' told'' counts' counts'' (zone_unless skips meta row rows.left) l T answer)
        → HasLeft told told'' counts counts'' (with_rows_unless skips meta 1 all (no_rows limits)) L Taken result
    zone_fails fault result is has =
        let answer : Result ReadRows LoadFault = Err fault in
        let zone_answer : Result ReadZone LoadFault = Err fault in
        row_fails fault result is
        (HasAnswered-no_row skips meta (i + 1) row stand.whole fault answer refl
        (subst (λ (l : Limits). HasAnswered told' told'' counts' counts'' (zone_unless skips meta row l) zone_answer) (sym same_left) (of_fault fault has)))

    module _ (took' : List Zone → Type 0) (origin_is : (zone : Zone) → (left zone).origin ≡ zone.origin) (kept : ReadZone)
        (has : let answer : Result ReadZone LoadFault = Ok kept in HasLeft told' told'' counts' counts'' (zone_unless skips meta row rows.left) (read_left left) (λ (read : ReadZone). AreTaken took' (zones_in stand.whole.servers ++ read.zone ∷ [])) answer) where
      -- what is answered to the row behind its zone
      pub row_has : (result : Result ReadRows LoadFault) → AnswersOr NoMemory result (row_read (i + 1) row.server kept rows)
          → HasLeft told' told'' counts' counts'' (with_row_unless skips meta (i + 1) row stand.whole) (rows_left left) (λ (r : ReadRows). AreTaken took' (zones_in r.servers)) result
      row_has result said =
          let (read, answered, kept_is, taken) = of_value kept has in
          let answer : Result ReadZone LoadFault = Ok read in
          HasLeft-row skips meta (i + 1) row stand.whole read left took' origin_is taken result
          (subst (λ (l : Limits). HasAnswered told' told'' counts' counts'' (zone_unless skips meta row l) answer) (sym same_left) answered)
          (subst (λ (r : ReadRows). AnswersOr NoMemory result (row_read (i + 1) row.server (read_left left read) r)) stand.is
          (subst (λ (z : ReadZone). AnswersOr NoMemory result (row_read (i + 1) row.server z rows)) kept_is said))

      -- the fault of the row behind its zone answers the reading of all
      pub given_fails : {L : ReadRows → ReadRows} {Taken : ReadRows → Type 0} (fault : LoadFault) (result : Result ReadRows LoadFault) → IsErrAnd result (λ passed. passed ≡ fault)
          → (let answer : Result ReadRows LoadFault = Err fault in AnswersOr NoMemory answer (row_read (i + 1) row.server kept rows))
          → HasLeft told told'' counts counts'' (with_rows_unless skips meta 1 all (no_rows limits)) L Taken result
      given_fails fault result is said =
          let answer : Result ReadRows LoadFault = Err fault in
          row_fails fault result is (of_fault fault (row_has answer said))

      module _ (after : ReadRows) (said : let answer : Result ReadRows LoadFault = Ok after in AnswersOr NoMemory answer (row_read (i + 1) row.server kept rows)) where
        -- the rows with this one
        next : (whole : ReadRows) × (let answer : Result ReadRows LoadFault = Ok whole in HasAnswered told' told'' counts' counts'' (with_row_unless skips meta (i + 1) row stand.whole) answer)
            × (after ≡ rows_left left whole) × AreTaken took' (zones_in whole.servers)
        next = let answer : Result ReadRows LoadFault = Ok after in of_value after (row_has answer said)

        source_then : ReadsFor told told'' counts counts'' (with_rows_unless skips meta 1 all (no_rows limits))
        source_then =
            ReadsFor-then {whole = with_rows_unless skips meta 1 all (no_rows limits)} {rest = with_rows_unless skips meta (i + 1) (drop i all) stand.whole} stand.so_far stand.source
            (subst (λ (more : List MetaRow). ReadsFor told' told'' counts' counts'' (behind more)) (sym rest)
            (ReadsFor-first_row skips meta (i + 1) row (drop (i + 1) all) stand.whole next.1.source))

        -- if memory runs out behind it, `NoMemory` answers the reading of all
        pub behind_fails : {L : ReadRows → ReadRows} {Taken : ReadRows → Type 0} (result : Result ReadRows LoadFault) → IsErrAnd result (λ fault. fault ≡ NoMemory)
            → HasLeft told told'' counts counts'' (with_rows_unless skips meta 1 all (no_rows limits)) L Taken result
        behind_fails result wants = left_wanting result source_then wants

        -- the rows stand so with this one
        pub stands_then : slice_get all i ≡ Some row → (earlier' : EarlierRows) → HasPutAtMost i rows.left after.left earlier earlier'
            → StandSoFar skips meta all limits told told'' counts counts'' left took' (i + 1) after earlier'
        stands_then there earlier' put =
            let (whole, answered, is, taken) = next in
            let answer : Result ReadRows LoadFault = Ok whole in
            let reads : with_row_unless skips meta (i + 1) row stand.whole told'' ≡ Reads whole = Gives-answers told'' (with_row_unless skips meta (i + 1) row stand.whole) answer answered.answers in
            record {
              whole = whole;
              so_far = Follows-then told' told'' (with_rows_unless skips meta 1 all (no_rows limits)) (with_rows_unless skips meta (i + 1) (drop i all) stand.whole) (with_rows_unless skips meta (i + 1 + 1) (drop (i + 1) all) whole) answered.source.stays stand.so_far
                  (subst (λ (more : List MetaRow). Follows told'' (behind more) (with_rows_unless skips meta (i + 1 + 1) (drop (i + 1) all) whole)) (sym rest)
                  (Follows-first_row skips meta (i + 1) row (drop (i + 1) all) stand.whole told'' whole answered.answers));
              source = source_then;
              earlier_are =
                  earlier_more skips meta all told' told'' (i + 1) i row stand.whole whole earlier earlier' answered.source.stays stand.earlier_are stand.count there reads
                  (subst (λ (l : Limits). HasPutAtMost i l whole.left earlier earlier') (sym same_left)
                  (subst (λ (r : ReadRows). HasPutAtMost i rows.left r.left earlier earlier') is put));
              count = rows_count skips meta told'' (i + 1) row stand.whole whole reads ∙ ap (λ (n : ℕ). n + 1) stand.count;
              is = is;
              taken = taken;
            }
