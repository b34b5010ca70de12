-- Strings and tags drawn at random.
-- docs/draw.py works them out once more, by plain rules; docs/draw.py string_of draws others.
use Rattle.std.specs.Prelude.{◌≡◌, refl, codes, Ok, Err}
use Rattle.rdata_forms.specs.Texts.{string_of, tag_of}
use Rattle.rdata_forms.specs.declared.fault.RdataFault.TheVariants.{BadNumber, TextTooLong}

text_0 : string_of 6 (codes "\\z\\065\\\"") ≡ Ok (codes "zA\"")
text_0 = refl

text_1 : string_of 4 (codes "@") ≡ Ok (codes "@")
text_1 = refl

text_2 : string_of 3 (codes "\\.\\\" .\\\"") ≡ Err TextTooLong
text_2 = refl

text_3 : string_of 4 (codes "B\\000\\z\\z\\.") ≡ Err TextTooLong
text_3 = refl

text_4 : string_of 5 (codes ".;\\\\a;@") ≡ Err TextTooLong
text_4 = refl

text_5 : string_of 5 (codes "\\032\\z\\032\\\\") ≡ Ok (codes " z \\")
text_5 = refl

text_6 : string_of 5 (codes "a\\032.") ≡ Ok (codes "a .")
text_6 = refl

text_7 : tag_of (codes ".`") ≡ Err BadNumber
text_7 = refl
