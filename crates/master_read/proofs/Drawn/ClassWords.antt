-- Words of classes drawn at random.
-- docs/draw.py works them out once more, by plain rules; docs/draw.py class_word draws others.
use Rattle.std.specs.Prelude.{◌≡◌, refl, codes, Some, None}
use Rattle.master_read.specs.Words.{class_word, is_some_word}
use Rattle.master_read.specs.declared.words.ClassWord.TheVariants.{NotIn}

class_0 : class_word (codes "CLASS000001") ≡ None
unfolding class_word is_some_word
class_0 = refl

class_1 : class_word (codes "ASNY") ≡ None
unfolding class_word is_some_word
class_1 = refl

class_2 : class_word (codes "CSS") ≡ None
unfolding class_word is_some_word
class_2 = refl

class_3 : class_word (codes "\\I") ≡ None
unfolding class_word is_some_word
class_3 = refl

class_4 : class_word (codes "cLass65534") ≡ Some NotIn
unfolding class_word is_some_word
class_4 = refl
