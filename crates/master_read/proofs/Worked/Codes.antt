-- The word that is printed for a cause is that of the fault which it names.
use Rattle.std.specs.Prelude.{◌≡◌, codes, refl}
use Rattle.master_lex.specs.declared.fault.LexKind.TheVariants.{StrayClose}
use Rattle.rdata_forms.specs.declared.fault.RdataFault.TheVariants.{BadAddress}
use Rattle.master_read.specs.Codes.{text_code}
use Rattle.master_read.specs.declared.fault.TextCause.TheVariants.{Lex, Rdata as BadData}

of_a_spelling : text_code (Lex StrayClose) ≡ codes "stray-close"
of_a_spelling = refl

of_data : text_code (BadData BadAddress) ≡ codes "bad-address"
of_data = refl
