use Rattle.std.proofs.Common.{◌≡◌, length, sym, ◌∙◌, arith}
use Rattle.std.proofs.lemmas.List.{take_all}
use Rattle.dns_data.specs.Name.{Labels}
use Rattle.zone_tree.specs.Tree.{name_of}
use Rattle.zone_tree.proofs.enclosers.encloser_behind.Goals as goal

pub returns-then-is_encloser-clause-name : goal.returns-then-is_encloser-clause-name
returns-then-is_encloser-clause-name c =
    let found = c.args.preceding.now in
    let before : Labels = name_of c.args.tree.now found.node in
    let all : length before ≡ found.shared = c.is_encloser.ensures.0 c.if-is_encloser.true in
    sym (take_all found.shared before (omega (arith, all))) ∙ c.requires.both

pub returns-clause-name : goal.returns-clause-name
returns-clause-name c = c.in-Some.ensures.name ∙ c.front.ensures
