use Rattle.std.proofs.Common.{◌≡◌, List, ◌++◌, length, ap, ◌∙◌, arith}
use Rattle.std.proofs.lemmas.List.{length-append}
use Rattle.zone_tree.specs.OwnedLists.{part_of}
use Rattle.zone_tree.proofs.OwnedLists.{part_behind}
use Rattle.zone_tree.proofs.owned_lists.put_behind.Goals as goal

pub returns-clause-items : goal.returns-clause-items
returns-clause-items g c = c.in_ok-append.ensures.items

pub returns-clause-within : goal.returns-clause-within
returns-clause-within g c =
    let start : c.len-start.result ≡ length c.args.items.now.items = c.len-start.ensures ∙ c.args.items.now.ok.0 in
    let end : c.len.result ≡ length c.append.new.self.items = c.len.ensures ∙ c.append.new.self.ok.0 in
    record {
      ordered = omega (arith, start, end, ap (λ (xs : List _). length xs) c.in_ok-append.ensures.items, length-append c.args.items.now.items c.args.more.items);
      within = omega (arith, end);
    }

pub returns-clause-part : goal.returns-clause-part
returns-clause-part g c =
    let old = c.args.items.now.items in
    let more = c.args.more.items in
    let start : c.len-start.result ≡ length old = c.len-start.ensures ∙ c.args.items.now.ok.0 in
    let end : c.len.result ≡ length (old ++ more) = c.len.ensures ∙ c.append.new.self.ok.0 ∙ ap (λ (xs : List _). length xs) c.in_ok-append.ensures.items in
    ap (λ (xs : List _). part_of xs (record { start = c.len-start.result; end = c.len.result })) c.in_ok-append.ensures.items
    ∙ part_behind old more (record { start = c.len-start.result; end = c.len.result }) start end
