use Rattle.std.proofs.Common.{arith}
use Rattle.std.proofs.lemmas.Bool.Decides.{nat_tests}
use Rattle.query_classes.proofs.trial.octet_behind.Goals as goal

pub returns-in_default : goal.returns-in_default
returns-in_default c =
    record {
      is_octet = grind (arith, nat_tests, c.requires.octet, c.requires.not_last);
      behind = grind (arith, nat_tests, c.requires.octet, c.requires.not_last);
      first = λ other is less. grind (arith, nat_tests, c.requires.octet, c.requires.not_last, is, less);
    }
