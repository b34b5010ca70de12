-- Words of types drawn at random.
-- docs/draw.py works them out once more, by plain rules; docs/draw.py type_word draws others.
use Rattle.std.specs.Prelude.{◌≡◌, refl, codes, Some, None}
use Rattle.dns_data.specs.declared.rr_type.RrType.TheVariants as types
use Rattle.master_read.specs.Words.{type_word, type_numbered, is_some_word}
use Rattle.master_read.specs.declared.words.TypeWord.TheVariants.{Known, Dropped, Other}

type_0 : type_word (codes "txT") ≡ Some (Known types.Txt)
unfolding type_word type_numbered is_some_word
type_0 = refl

type_1 : type_word (codes "URI") ≡ Some Other
unfolding type_word type_numbered is_some_word
type_1 = refl

type_2 : type_word (codes "60") ≡ None
unfolding type_word type_numbered is_some_word
type_2 = refl

type_3 : type_word (codes "TYPE47") ≡ Some Dropped
unfolding type_word type_numbered is_some_word
type_3 = refl

type_4 : type_word (codes "0") ≡ None
unfolding type_word type_numbered is_some_word
type_4 = refl

type_5 : type_word (codes "tYp000046") ≡ None
unfolding type_word type_numbered is_some_word
type_5 = refl

type_6 : type_word (codes "TYPE0047") ≡ Some Dropped
unfolding type_word type_numbered is_some_word
type_6 = refl

type_7 : type_word (codes "MAX") ≡ None
unfolding type_word type_numbered is_some_word
type_7 = refl

type_8 : type_word (codes "cAa") ≡ Some (Known types.Caa)
unfolding type_word type_numbered is_some_word
type_8 = refl
