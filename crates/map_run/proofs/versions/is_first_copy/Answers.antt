use Rattle.std.proofs.Common.{Option, Some, sym, subst, refl, ◌∙◌}
use Rattle.std.proofs.lemmas.Result.{IfOk-weaker, on_ok_weaker}
use Rattle.std.specs.BTreeMap as map
use Rattle.dns_data.specs.Name.{Labels, name_cmp}
use Rattle.map_run.specs.FirstCopies.{LikeAlone, alone_after}
use Rattle.map_run.proofs.FirstCopies.{copy_by_keys, first_is_new, known_with_copy, known_with_first, known_with_like, like_is_copy}
use Rattle.map_run.proofs.versions.is_first_copy.Goals as goal

pub returns-then-is_like_alone-clause-first : goal.returns-then-is_like_alone-clause-first
returns-then-is_like_alone-clause-first c = λ before knows.
    let row = c.args.row.now in
    like_is_copy c.args.hosts.now before row c.args.known.now knows
    (subst (λ (found : Option (Option Labels)). LikeAlone c.args.hosts.now found row) c.in_ok-before.ensures (c.is_like_alone.ensures c.if-is_like_alone.true))

pub returns-then-is_like_alone-clause-known : goal.returns-then-is_like_alone-clause-known
returns-then-is_like_alone-clause-known c = λ before knows.
    let row = c.args.row.now in
    known_with_like c.args.hosts.now before row c.args.known.now knows
    (subst (λ (found : Option (Option Labels)). LikeAlone c.args.hosts.now found row) c.in_ok-before.ensures (c.is_like_alone.ensures c.if-is_like_alone.true))

pub returns-in-Some-clause-first : goal.returns-in-Some-clause-first
returns-in-Some-clause-first c = λ before knows.
    let known = c.args.known.now in
    IfOk-weaker c.keep_version.result _ _
    (λ new is.
    is ∙ copy_by_keys c.args.hosts.now before c.args.row.now known knows c.in-Some.alone c.keep_alone.new.keys (sym c.in_ok-before.ensures ∙ c.in-Some.is) c.in_ok-keep_alone-in-Some.ensures)
    c.keep_version.ensures.new

pub returns-in-Some-clause-known : goal.returns-in-Some-clause-known
returns-in-Some-clause-known c = λ before knows.
    let known = c.args.known.now in
    let row = c.args.row.now in
    let updates : map.Updates name_cmp known.alone c.put_origin.new.alone row.origin (Some (alone_after row.server (map.get name_cmp known.alone row.origin))) =
    subst (λ (found : Option (Option Labels)). map.Updates name_cmp known.alone c.put_origin.new.alone row.origin (Some (alone_after row.server found)))
    c.in_ok-before.ensures c.in_ok-put_origin.ensures in
    on_ok_weaker c.keep_version.result
    (λ last.
    known_with_copy c.args.hosts.now before row known knows (record { alone = c.put_origin.new.alone; keys = c.keep_version.new.keys }) updates
    c.in-Some.alone c.keep_alone.new.keys (sym c.in_ok-before.ensures ∙ c.in-Some.is) c.in_ok-keep_alone-in-Some.ensures last)
    c.keep_version.ensures.keys

pub returns-clause-first : goal.returns-clause-first
returns-clause-first c = λ before knows.
    first_is_new c.args.hosts.now before c.args.row.now c.args.known.now knows (sym c.in_ok-before.ensures ∙ c.in-None.is)

pub returns-clause-known : goal.returns-clause-known
returns-clause-known c = λ before knows.
    let known = c.args.known.now in
    let row = c.args.row.now in
    known_with_first c.args.hosts.now before row known knows (record { alone = c.put_origin.new.alone; keys = known.keys })
    (subst (λ (found : Option (Option Labels)). map.Updates name_cmp known.alone c.put_origin.new.alone row.origin (Some (alone_after row.server found)))
    c.in_ok-before.ensures c.in_ok-put_origin.ensures)
    (sym c.in_ok-before.ensures ∙ c.in-None.is) refl
