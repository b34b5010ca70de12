use Rattle.std.proofs.Common.{◌≡◌, ◌+◌, ◌<◌, length, Some, sym, subst, arith}
use Rattle.json.specs.Json.{value}
use Rattle.meta_read.proofs.RowByRow.{RowsSoFar, no_row, one_more_row, all_rows}
use Rattle.meta_read.proofs.row_by_row.rows_up_to_end.Goals as goal

pub loop-alloc-init : goal.loop-alloc-init
loop-alloc-init c =
    let start = c.args.reader.now in
    (subst (RowsSoFar start start 0) (sym c.new-rows.ensures) (no_row start), omega arith, omega arith)

pub loop-alloc-preserved : goal.loop-alloc-preserved
loop-alloc-preserved c =
    let start = c.args.reader.now in
    let left = c.loop-alloc.reader in
    let after = c.next_row.new.reader in
    let number = c.loop-alloc.number in
    let going = c.loop-alloc-test.ensures.0 in
    let same = c.loop-alloc-test.ensures.1 in
    let row = c.in_ok-row.row in
    let reads = c.in_ok-row.ensures.reads in
    let shorter = subst (λ tokens. length after < length tokens) same c.in_ok-row.ensures.shorter in
    let first = subst (λ tokens. value 125 tokens ≡ Some (reads.1.0, after)) same reads.1.1 in (
      subst (RowsSoFar start after (number + 1)) (sym c.in-Ok.ensures.ok)
          (one_more_row start left after number c.loop-alloc.rows reads.1.0 reads.0 row c.loop-alloc.invariant.0 going first reads.1.2 reads.2 shorter),
      grind (arith, c.if-number-most.false, c.loop-alloc.invariant.1),
      omega (arith, shorter, c.loop-alloc.invariant.2),
    )

pub returns-clause-reads : goal.returns-clause-reads
returns-clause-reads c =
    all_rows c.args.reader.now c.loop-alloc.reader c.take_end_array.new.self c.loop-alloc.number c.args.most c.loop-alloc.rows c.loop-alloc.invariant.0 c.loop-alloc-test.ensures c.loop-alloc.invariant.1
