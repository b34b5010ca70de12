use Rattle.std.proofs.Common.{◌≡◌, ◌+◌, ◌++◌, ℕ, List, length, drop, replicate, ap, ◌∙◌, arith}
use Rattle.std.proofs.lemmas.List.{take_rest}
use Rattle.rdata_forms.proofs.Groups.{zeros_between}
use Rattle.rdata_forms.proofs.ipv6.with_zeros.Goals as goal

pub returns : goal.returns
returns c =
    let front = c.args.front.items in
    let back = c.args.back.now.items in
    let written : c.len.result + c.len-2.result ≡ length front + length back = omega (arith, c.len.ensures.value, c.len-2.ensures.value) in
    let middle = c.in_ok-push_all.ensures.some ∙ ap (λ (l : List ℕ). front ++ l) (take_rest (replicate 16 0) (c.len.result + c.len-2.result)) ∙ ap (λ (n : ℕ). front ++ drop n (replicate 16 0)) written in
    let end = c.in_ok-push_all-2.ensures.some ∙ ap (λ (l : List ℕ). c.push_all.new.octets.items ++ l) c.as_slice.ensures.value in
    c.whole.ensures ∙ zeros_between front c.push_all.new.octets.items c.push_all-2.new.octets.items back (omega arith) middle end
