use Rattle.std.proofs.Common.{Some, codes, sym, subst}
use Rattle.std.specs.Cmp.Lexicographic.{same_text, other_text}
use Rattle.serde_json.specs.Data.{put}
use Rattle.serde_json.specs.View.{view}
use Rattle.meta_read.specs.RowByRow.{Represents}
use Rattle.meta_read.proofs.RowByRow.{rows_put, tops_put, other_put}
use Rattle.meta_read.proofs.row_by_row.next_member.Goals as goal

pub returns-then-eq-clause-reads : goal.returns-then-eq-clause-reads
returns-then-eq-clause-reads c =
    let most = c.args.most in
    let found = c.args.found.now in
    let rows = c.in_ok-rows.rows in
    let reads = c.in_ok-rows.ensures.reads in (
      reads.0,
      reads.1,
      λ before so.
          subst (λ key. Represents most (record found { rows = Some rows }) (put key reads.0 before)) (sym (same_text c.args.key.now (codes "ZoneFiles") c.if-eq.ensures))
          (rows_put most found rows reads.0 before reads.2 so),
    )

pub returns-then-eq-2-clause-reads : goal.returns-then-eq-2-clause-reads
returns-then-eq-2-clause-reads c =
    let most = c.args.most in
    let found = c.args.found.now in
    let value = c.in_ok-value.value in (
      view value,
      c.in_ok-value.ensures.reads,
      λ before so.
          subst (λ key. Represents most (record found { tops = Some value }) (put key (view value) before)) (sym (same_text c.args.key.now (codes "TopNameServers") c.if-eq-2.ensures))
          (tops_put most found value before so),
    )

pub returns-else-eq-2-clause-reads : goal.returns-else-eq-2-clause-reads
returns-else-eq-2-clause-reads c =
    let key = c.args.key.now in
    let value = c.in_ok-value.value in (
      view value,
      c.in_ok-value.ensures.reads,
      λ before so.
          other_put c.args.most c.args.found.now key (view value) before (other_text key (codes "ZoneFiles") c.if-eq.ensures)
          (other_text key (codes "TopNameServers") c.if-eq-2.ensures) so,
    )
