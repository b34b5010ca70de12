use Rattle.std.proofs.Common.{◌∙◌, ◌-◌, ℕ, false, [], take, sym, ap, arith, true≢false}
use Rattle.dns_data.specs.Name.{is_among}
use Rattle.net_model.proofs.Naming.{is_listed}
use Rattle.part_laws.proofs.WithPrefixes.{root_there}
use Rattle.part_laws.specs.Part.{with_prefixes}
use Rattle.part_names.specs.PartNames.{is_own}
use Rattle.part_names.specs.declared.names.PartNames.{PartNames}
use Rattle.own_names.proofs.LongestHeld.{found_here, none_yet, one_more, root_fails}
use Rattle.own_names.proofs.held.HeldNames.is_own_here.Goals as goal

pub loop-passed-init : goal.loop-passed-init
loop-passed-init c = none_yet (is_among (with_prefixes c.args.self.now.held)) c.args.name.now

pub returns-then-has : goal.returns-then-has
returns-then-has c =
    let name = c.args.name.now in
    let passed = c.loop-passed.passed in
    c.is_own.ensures ∙ ap (λ (names : PartNames). is_own names c.in_ok-front.front) c.self.view_is
    ∙ found_here (is_among (with_prefixes c.args.self.now.held)) name passed c.loop-passed.invariant c.in_ok-front.front
    (omega (arith, c.loop-passed-test.true, c.loop-passed.auto.passed-end, c.len-labels.ensures.value))
    (c.in_ok-front.ensures ∙ ap (λ (n : ℕ). take (n - passed) name) c.len-labels.ensures.value)
    (is_own c.args.self.now) false (sym c.has.ensures ∙ c.if-has.true)

pub loop-passed-preserved : goal.loop-passed-preserved
loop-passed-preserved c =
    let name = c.args.name.now in
    let passed = c.loop-passed.passed in
    one_more (is_among (with_prefixes c.args.self.now.held)) name passed c.loop-passed.invariant c.in_ok-front.front
    (omega (arith, c.loop-passed-test.true, c.loop-passed.auto.passed-end, c.len-labels.ensures.value))
    (c.in_ok-front.ensures ∙ ap (λ (n : ℕ). take (n - passed) name) c.len-labels.ensures.value)
    (sym c.has.ensures ∙ c.if-has.false)

pub returns : goal.returns
returns c =
    let names = with_prefixes c.args.self.now.held in
    absurd (true≢false (sym (is_listed names [] (root_there c.args.self.now.held))
    ∙ root_fails (is_among names) c.args.name.now c.loop-passed.passed c.loop-passed.invariant
    (omega (arith, c.loop-passed-test.false, c.loop-passed.auto.passed-end, c.len-labels.ensures.value))))
