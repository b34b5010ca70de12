use Rattle.std.proofs.Common.{sym, ap, ◌∙◌, arith}
use Rattle.zone_tree.specs.OwnedData.{written_out}
use Rattle.zone_tree.specs.Records.{OwnedRecords}
use Rattle.zone_tree.specs.declared.owned_data.OwnedForm.{OwnedForm}
use Rattle.zone_tree.proofs.owned_data.servers_part.Goals as goal

pub returns-in-Nothing-clause-within : goal.returns-in-Nothing-clause-within
returns-in-Nothing-clause-within c = record { ordered = omega arith; within = omega arith }

pub returns-in-Nothing-clause-servers : goal.returns-in-Nothing-clause-servers
returns-in-Nothing-clause-servers c = sym (ap (λ (form : OwnedForm). (written_out c.args.lists.now form).servers) c.in-Nothing.is)

pub returns-in-OneDatum-clause-within : goal.returns-in-OneDatum-clause-within
returns-in-OneDatum-clause-within c = record { ordered = omega arith; within = omega arith }

pub returns-in-OneDatum-clause-servers : goal.returns-in-OneDatum-clause-servers
returns-in-OneDatum-clause-servers c = sym (ap (λ (form : OwnedForm). (written_out c.args.lists.now form).servers) c.in-OneDatum.is)

pub returns-in-Whole-clause-within : goal.returns-in-Whole-clause-within
returns-in-Whole-clause-within c = c.parts_at.ensures.within.servers

pub returns-in-Whole-clause-servers : goal.returns-in-Whole-clause-servers
returns-in-Whole-clause-servers c =
    ap (λ (records : OwnedRecords). records.servers) (c.parts_at.ensures.owned ∙ sym (ap (written_out c.args.lists.now) c.in-Whole.is))
