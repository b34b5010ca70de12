use Rattle.std.proofs.Common.{◌≡◌, ◌++◌, take}
use Rattle.dns_data.specs.declared.rr_type.RrType.TheVariants as types
use Rattle.graph_form.specs.Branches.{with_type}
use Rattle.straight_walks.specs.Faulty.{faults_at}
use Rattle.straight_walks.specs.Nowhere.{told_with}
use Rattle.straight_walks.specs.Straight.{told_of}
use Rattle.straight_walks.proofs.ends.StraightEnds.shown.Given as goal

-- what is told of rewrites is put, and the faults of the referrals so far
abbrev pub invariant-loop-one : goal.invariant-loop-one
invariant-loop-one l = l.seen ≡ with_type types.A (told_with (told_of l.self) types.A ++ faults_at l.query (take l.one-index l.one-items))
