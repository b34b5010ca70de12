use Rattle.std.proofs.Common.{◌∙◌, arith}
use Rattle.dns_data.specs.Name.{name_cmp}
use Rattle.dns_data.proofs.CommonLabels.{differs_in}
use Rattle.dns_data.proofs.labels.Labels.compare.Goals as goal

pub bounds-left-common : goal.bounds-left-common
bounds-left-common c =
    let past = c.past_common-common.ensures.past in
    (differs_in _ _ _ past.left past.right past.begin (omega arith) (c.past_common-common.ensures.within (omega arith))).left

pub bounds-right-common : goal.bounds-right-common
bounds-right-common c =
    let past = c.past_common-common.ensures.past in
    (differs_in _ _ _ past.left past.right past.begin (omega arith) (c.past_common-common.ensures.within (omega arith))).right

pub returns-then-common-gt0 : goal.returns-then-common-gt0
returns-then-common-gt0 c =
    let past = c.past_common-common.ensures.past in
    c.cmp.ensures
    ∙ (differs_in _ _ _ past.left past.right past.begin (omega arith) (c.past_common-common.ensures.within (omega arith))).order
    ∙ past.order ∙ (λ i. name_cmp (c.self.view_is i) (c.others.view_is i))
