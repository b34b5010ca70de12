use Rattle.std.proofs.Common.{ℕ, ◌+◌, ◌*◌, ◌≤◌, List, length, Option, refl, sym, ◌∙◌, subst, arith}
use Rattle.std.specs.Prelude.{IfSome}
use Rattle.std.proofs.lemmas.Option.{slice_get_read}
use Rattle.dns_data.specs.Name.{Labels}
use Rattle.net_model.specs.declared.deps.Deps.{Deps}
use Rattle.zone_lookup.specs.Reply.{IsReply}
use Rattle.std.specs.List.{AllByRecursion}
use Rattle.straight_walks.specs.Nowhere.{HasLimit}
use Rattle.straight_walks.specs.Searching.{AreEndsFor}
use Rattle.straight_walks.specs.declared.lent_place.AliasFault.{AliasFault}
use Rattle.straight_walks.specs.declared.ends.StraightEnds.{StraightEnds}
use Rattle.straight_walks.specs.declared.queue.Queued.{Queued}
use Rattle.zone_lookup.specs.declared.reply.Reply.TheVariants as reply
use Rattle.straight_walks.proofs.NamesBelow.{PassesFor, answer_for, ending_for, one_passed_for, outside_for, same_told}
use Rattle.straight_walks.proofs.StraightSearch.{all_passed}
use Rattle.straight_walks.proofs.referring.next_referral.Goals as goal
use Rattle.straight_walks.proofs.referring.next_referral.Goals.{in-Outside, in_default+in-Ok, in-Refers+else-not-all_end_outside}

pub returns-then-not-all_end_outside : goal.returns-then-not-all_end_outside
returns-then-not-all_end_outside c =
    let queue = c.args.queue.now in (
      c.loop-passed.invariant.later,
      c.loop-passed-test.true,
      subst (λ (found : Option Queued). IfSome found (λ one. IsReply c.args.asked.hosts.now one.server.now c.args.asked.name.now (reply.Refers c.in-Refers.tree c.in-Refers.cut)))
          (sym (slice_get_read queue (length queue) c.loop-passed.passed c.index-queue-passed.result refl c.loop-passed-test.true c.index-queue-passed.is)) c.in-Refers.ensures,
      c.loop-passed.invariant.searched,
    )

pub loop-passed-preserved : goal.loop-passed-preserved
loop-passed-preserved c =
    let config = c.args.asked.hosts.now in
    let query = c.args.asked.name.now in
    let queue = c.args.queue.now in
    let passed = c.loop-passed.passed in
    let ends = c.loop-passed.ends in
    let one = c.index-queue-passed.result in
    let server = one.server.now in
    let after = c.match-reply_near.ends in
    let passes : (deps : Deps) (name : Labels) (found : StraightEnds) → AreEndsFor config query after name found → PassesFor config deps query server queue ends after name found =
    λ deps. elim c.match-reply_near.branch [
      | in-Outside w ↦
          subst (λ (e : StraightEnds). (name : Labels) (found : StraightEnds) → AreEndsFor config query e name found → PassesFor config deps query server queue ends e name found)
          (sym (w.ends-is ∙ w.put_failing.ensures))
          (outside_for config deps query server queue ends w.in-Outside.ensures)
      | in-Refers+else-not-all_end_outside w ↦
          subst (λ (e : StraightEnds). (name : Labels) (found : StraightEnds) → AreEndsFor config query e name found → PassesFor config deps query server queue ends e name found)
          (sym (w.ends-is ∙ w.put_failing-in-Refers.ensures))
          (ending_for config deps query server queue ends w.in-Refers.tree w.in-Refers.cut w.in-Refers.ensures (w.all_end_outside.ensures w.if-not-all_end_outside.false))
      | in_default+in-Ok w ↦
          subst (λ (e : StraightEnds). (name : Labels) (found : StraightEnds) → AreEndsFor config query e name found → PassesFor config deps query server queue ends e name found)
          (sym w.ends-is)
          (answer_for config deps query server queue ends w.put_answer.new.ends (w.in-Ok.ensures (sym w.passes-is ∙ c.if-not-passes.false)))
    ] in
    record {
      later = omega (arith, c.loop-passed.invariant.later);
      searched = λ deps so. one_passed_for config deps query queue passed ends after one c.loop-passed-test.true c.index-queue-passed.is (c.loop-passed.invariant.searched deps so) (passes deps);
    }

pub returns : goal.returns
returns c = λ deps so rewrites most fewer limits few name found of.
    let ends = c.loop-passed.ends in
    let same = same_told c.args.asked.hosts.now deps c.args.asked.name.now ends name found of in
    all_passed c.args.asked.hosts.now deps name c.args.queue.now c.loop-passed.passed rewrites most found (c.loop-passed.invariant.searched deps so name found of)
    (omega (arith, c.loop-passed-test.false)) (omega (arith, same.0, fewer))
    (subst (λ (all : List AliasFault). AllByRecursion (HasLimit rewrites) all) (sym same.1) limits)
    (subst (λ (n : ℕ). length c.args.queue.now * (n + 1) ≤ most) (sym same.0) few)
