use Rattle.std.proofs.Common.{List, Result, Err, inl, inr, ap, ◌∙◌}
use Rattle.dns_data.specs.Name.{Labels}
use Rattle.net_model.specs.Step.{following}
use Rattle.plain_resolver.specs.Passed.{most_walks_followed}
use Rattle.plain_resolver.specs.declared.fault.LearntFault.{LearntFault}
use Rattle.plain_resolver.proofs.FromNone.{few_from_none, first_from_none, least_from_none}
use Rattle.run_endings.specs.Endings.{too_many_to_learn}
use Rattle.alias_ends.specs.Known.{walks_in}
use Rattle.map_run.specs.Rewrites.{most_rewrites}
use Rattle.alias_ends.proofs.AliasWords.{all_walks_so}
use Rattle.map_run.proofs.aliases.aliases_by_trees.Goals as goal

pub returns-in-Ok : goal.returns-in-Ok
returns-in-Ok c =
    elim c.aliases_while.ensures [
      | inl is ↦ inl (inr (record {
        followed = c.items.result.now;
        in_force = least_from_none c.args.hosts.now most_rewrites c.new-none.result c.new-none.ensures c.items.result.now _ c.items.ensures c.in-Ok.ensures.rounds;
        few = few_from_none c.args.hosts.now most_rewrites c.new-none.result c.new-none.ensures most_walks_followed c.in-Ok.ensures.few;
        walks = walks_in (following c.args.hosts.now most_rewrites c.items.result.now);
        are = all_walks_so (following c.args.hosts.now most_rewrites c.items.result.now);
        as_lines = is;
      }))
      | inr ran_out ↦ inr ran_out
    ]

pub returns-in-Err-WalksPassed : goal.returns-in-Err-WalksPassed
returns-in-Err-WalksPassed c =
    elim c.too_many_to_learn.ensures [
      | inl is ↦ inl (inl (
        c.in-Err-WalksPassed.server,
        first_from_none c.args.hosts.now most_rewrites c.new-none.result c.new-none.ensures most_walks_followed c.in-Err-WalksPassed.server
            (c.in-Err-WalksPassed.ensures.passed c.in-Err-WalksPassed.server
            (ap {B = Result (List Labels) LearntFault} (λ (fault : LearntFault). Err fault) c.in-Err-WalksPassed.field-0-is)),
        is ∙ ap (too_many_to_learn most_walks_followed) c.in-Err-WalksPassed.server-is,
      ))
      | inr ran_out ↦ inr ran_out
    ]
