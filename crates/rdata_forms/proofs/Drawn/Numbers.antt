-- Numbers drawn at random.
-- docs/draw.py works them out once more, by plain rules; docs/draw.py number_in draws others.
use Rattle.std.specs.Prelude.{◌≡◌, refl, codes, Ok, Err}
use Rattle.rdata_forms.specs.Numbers.{number_in}
use Rattle.rdata_forms.specs.declared.fault.RdataFault.TheVariants.{BadNumber}

number_0 : number_in 255 (codes "000a0000127") ≡ Err BadNumber
number_0 = refl

number_1 : number_in 4294967295 (codes "4118751/1029") ≡ Err BadNumber
number_1 = refl

number_2 : number_in 4294967295 (codes "4294967298") ≡ Err BadNumber
number_2 = refl

number_3 : number_in 255 (codes "84586032916") ≡ Err BadNumber
number_3 = refl

number_4 : number_in 4294967295 (codes "4294967294") ≡ Ok 4294967294
number_4 = refl
