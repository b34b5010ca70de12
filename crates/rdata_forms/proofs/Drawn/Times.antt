-- Times drawn at random.
-- docs/draw.py works them out once more, by plain rules; docs/draw.py time_of draws others.
use Rattle.std.specs.Prelude.{◌≡◌, refl, codes, Some, None}
use Rattle.rdata_forms.specs.Times.{time_of}

time_0 : time_of (codes "580S") ≡ Some 580
time_0 = refl

time_1 : time_of (codes "4371s000d2624m") ≡ Some 161811
time_1 = refl

time_2 : time_of (codes "100282508707") ≡ None
time_2 = refl

time_3 : time_of (codes "0d000M") ≡ Some 0
time_3 = refl

time_4 : time_of (codes "3550w5d3h14m6s") ≡ Some 2147483646
time_4 = refl

time_5 : time_of (codes "2147483167s5m") ≡ Some 2147483467
time_5 = refl

time_6 : time_of (codes "2147483227s7m") ≡ Some 2147483647
time_6 = refl

time_7 : time_of (codes "2147483467s2m") ≡ Some 2147483587
time_7 = refl

time_8 : time_of (codes "2147483407s1m") ≡ Some 2147483467
time_8 = refl
