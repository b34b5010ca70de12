use Rattle.std.proofs.Common.{inl, inr}
use Rattle.query_classes.specs.ClassList.{classes_of_rows}
use Rattle.groot_run.proofs.SiteViews.{no_server, told, ended}
use Rattle.groot_run.proofs.site.find_by.Goals as goal

pub unreachable-requires : goal.unreachable-requires
unreachable-requires g c =
    no_server c.args.graphs.now c.requires.limits (classes_of_rows c.args.rows.now) c.requires.listed c.in-Ok.ensures.ok.none_passes c.in-Err-sets.field-0.now
    c.in-Err-sets.ensures.passed

pub returns-in-Ok-sets : goal.returns-in-Ok-sets
returns-in-Ok-sets g c =
    elim (c.written.ensures _ c.text_of.ensures) [
      | inl is ↦ inl (told c.args.graphs.now c.requires.limits (classes_of_rows c.args.rows.now) c.requires.listed _ _ c.in-Ok.ensures.ok c.in-Ok-sets.ensures.sets.none_passes c.written.result is)
      | inr ran_out ↦ inr ran_out
    ]

pub returns-in-Err : goal.returns-in-Err
returns-in-Err g c =
    ended c.args.graphs.now c.requires.limits (classes_of_rows c.args.rows.now) c.requires.listed _ c.in-Err.ending c.in-Err.ensures.err
