-- Equal data are one, and so are data whose texts are one.
use Rattle.std.proofs.Common.{ap}
use Rattle.dns_data.proofs.EqualData.{equal_is_same}
use Rattle.dns_data.proofs.TextsTellData.{texts_tell}
use Rattle.dns_data.specs.DataText.{data_text}
use Rattle.dns_data.proofs.laws.texts_tell_data.Goals as goal

pub returns-clause-equal : goal.returns-clause-equal
returns-clause-equal c a b = equal_is_same a b

pub returns-clause-texts : goal.returns-clause-texts
returns-clause-texts c a b p q same some =
    (λ e. (equal_is_same a b).1 (texts_tell a b p q same some e), λ e. ap data_text ((equal_is_same a b).0 e))
