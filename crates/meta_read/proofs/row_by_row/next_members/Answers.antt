use Rattle.std.proofs.Common.{◌∙◌, ap, Some}
use Rattle.std.specs.Option.{option_map}
use Rattle.json.proofs.Grammar.{read_key-shorter}
use Rattle.meta_read.proofs.RowByRow.{no_member, one_more_member, all_members}
use Rattle.meta_read.proofs.row_by_row.next_members.Goals as goal

pub loop-key-init : goal.loop-key-init
loop-key-init c = no_member c.args.most c.args.reader.now c.args.found.now c.requires

pub loop-key-preserved : goal.loop-key-preserved
loop-key-preserved c =
    let left = c.loop-key.reader in
    let behind = c.next_key.new.self in
    let key = c.in-Some.key.now in
    let is_key = c.in_ok-key.ensures.value ∙ ap (λ found. Some (option_map (λ text. text.now) found, behind)) c.in-Some.is in
    let reads = c.in_ok-next_member.ensures.reads in
    one_more_member c.args.most c.args.reader.now left behind c.next_member.new.reader c.loop-key.found c.next_member.new.found key reads.0 c.loop-key.invariant is_key reads.1 reads.2
    (read_key-shorter left (Some key) behind is_key) c.in_ok-next_member.ensures.shorter

pub returns : goal.returns
returns c =
    let after = c.next_key.new.self in
    let ends = c.in_ok-key.ensures.value ∙ ap (λ found. Some (option_map (λ text. text.now) found, after)) c.in_default.is in
    all_members c.args.most c.args.reader.now c.loop-key.reader after c.loop-key.found c.loop-key.invariant ends
