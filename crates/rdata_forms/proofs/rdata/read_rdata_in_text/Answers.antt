-- The definition's fault is no `NoMemory` in a name, and neither is the call's.
use Rattle.rdata_forms.specs.Forms.{fields_of, written}
use Rattle.rdata_forms.proofs.Named.{reads-fields, answers-named}
use Rattle.rdata_forms.proofs.rdata.read_rdata_in_text.Goals as goal

pub returns-clause-named : goal.returns-clause-named
returns-clause-named c =
    answers-named c.read_fields.result (fields_of c.args.rtype (written c.args.tokens.now) c.args.origin.now) c.read_fields.ensures
    (reads-fields c.args.rtype (written c.args.tokens.now) c.args.origin.now)
