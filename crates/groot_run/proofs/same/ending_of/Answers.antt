use Rattle.std.proofs.Common.{◌++◌, codes, decimal}
use Rattle.dns_data.specs.RrType.{word_of}
use Rattle.dns_data.specs.Spelling.{name_text}
use Rattle.same_answers.specs.declared.sameness.Sameness.TheVariants.{Same, Apart}
use Rattle.groot_run.proofs.ComparedTrees.{sameness_so}
use Rattle.groot_run.proofs.same.ending_of.Goals as goal

pub returns-in-Same : goal.returns-in-Same
returns-in-Same c =
    sameness_so c.args.sameness.now (Same c.in-Same.classes c.in-Same.names) c.written.result c.in-Same.is
    (c.written.ensures (codes "same: classes " ++ decimal c.in-Same.classes ++ codes ", names " ++ decimal c.in-Same.names ++ codes "\n") c.same_line.ensures)

pub returns-in-Apart : goal.returns-in-Apart
returns-in-Apart c =
    sameness_so c.args.sameness.now (Apart c.in-Apart.query c.in-Apart.rtype) c.written-in-Apart.result c.in-Apart.is
    (c.written-in-Apart.ensures (codes "differ: " ++ name_text c.in-Apart.query ++ codes " " ++ word_of c.in-Apart.rtype ++ codes "\n") c.differ_line.ensures)
