use Rattle.std.proofs.Common.{refl, arith, ◌∙◌}
use Rattle.std.proofs.lemmas.Result.{err_from_is_err_and, IfOk-weaker, IfErr-weaker}
use Rattle.dns_data.proofs.Spellings.{spelling_start, spelling_more, spelling_last, spelling_end, spelling_fault, done_ok, done_fault}
use Rattle.dns_data.proofs.spelling.spell.Goals as goal

pub loop-rest-init : goal.loop-rest-init
loop-rest-init c = spelling_start _ _ _ refl

pub returns-in_err-above-clause-fault : goal.returns-in_err-above-clause-fault
returns-in_err-above-clause-fault c most =
    let p = err_from_is_err_and c.from_residual.result c.from_residual.ensures.1 in
    rw (p.1, p.2) (λ origin. spelling_fault _ _ _ _ _ c.loop-rest.invariant _ c.in_err-above.ensures.fault origin)

pub loop-rest-preserved : goal.loop-rest-preserved
loop-rest-preserved c =
    let put = c.in_ok-above.ensures.ok in
    let first = rw c.in-Some.is at put.first in
    spelling_more _ _ _ _ _ _ _ _ _ c.loop-rest.invariant first put.is put.put (c.put_first.auto.out ∙ c.loop-rest.invariant.room)

pub returns-in-None-clause-ok : goal.returns-in-None-clause-ok
returns-in-None-clause-ok c =
    let put = c.in_ok-above.ensures.ok in
    let first = rw c.in-None.is at put.first in
    let done = spelling_last _ _ _ _ _ _ _ _ c.loop-rest.invariant first put.is put.put (c.put_first.auto.out ∙ c.loop-rest.invariant.room) in
    IfOk-weaker c.finished.result _ _ (λ said e. done_ok _ _ _ _ _ done said.0 said.1 e) c.finished.ensures.ok

pub returns-in-None-clause-fault : goal.returns-in-None-clause-fault
returns-in-None-clause-fault c most =
    let put = c.in_ok-above.ensures.ok in
    let first = rw c.in-None.is at put.first in
    let done = spelling_last _ _ _ _ _ _ _ _ c.loop-rest.invariant first put.is put.put (c.put_first.auto.out ∙ c.loop-rest.invariant.room) in
    IfErr-weaker c.finished.result _ _ (λ fault e. done_fault _ _ _ _ _ done fault e most) c.finished.ensures.fault

pub returns-clause-ok : goal.returns-clause-ok
returns-clause-ok c =
    let done = spelling_end _ _ _ _ _ c.loop-rest.invariant (grind arith) in
    IfOk-weaker c.finished-2.result _ _ (λ said e. done_ok _ _ _ _ _ done said.0 said.1 e) c.finished-2.ensures.ok

pub returns-clause-fault : goal.returns-clause-fault
returns-clause-fault c most =
    let done = spelling_end _ _ _ _ _ c.loop-rest.invariant (grind arith) in
    IfErr-weaker c.finished-2.result _ _ (λ fault e. done_fault _ _ _ _ _ done fault e most) c.finished-2.ensures.fault
