-- That an address is worked out exactly where a text stands for it, so for at most one.
use Rattle.std.proofs.Common.{sym, ◌∙◌}
use Rattle.rdata_forms.proofs.DottedTexts.{ipv4-sound, ipv4-complete}
use Rattle.rdata_forms.proofs.PieceTexts.{ipv6-sound, ipv6-complete, inside}
use Rattle.rdata_forms.proofs.laws.one_address.Goals as goal

pub returns-clause-ipv4 : goal.returns-clause-ipv4
returns-clause-ipv4 c text address = (ipv4-sound text address, ipv4-complete text address)

pub returns-clause-one_ipv4 : goal.returns-clause-one_ipv4
returns-clause-one_ipv4 c text a b first second = inside a b (sym (ipv4-complete text a first) ∙ ipv4-complete text b second)

pub returns-clause-ipv6 : goal.returns-clause-ipv6
returns-clause-ipv6 c text address = (ipv6-sound text address, ipv6-complete text address)

pub returns-clause-one_ipv6 : goal.returns-clause-one_ipv6
returns-clause-one_ipv6 c text a b first second = inside a b (sym (ipv6-complete text a first) ∙ ipv6-complete text b second)
