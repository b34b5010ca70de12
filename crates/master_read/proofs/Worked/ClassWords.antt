-- What words of classes say.
use Rattle.std.specs.Prelude.{◌≡◌, refl, [], ◌∷◌, map, replicate, codes, Some, None}
use Rattle.master_read.specs.Words.{class_word, is_some_word}
use Rattle.master_read.specs.declared.words.ClassWord.TheVariants.{In, NotIn}

-- the class IN, by its word and by its number, in any case
internet :
    map class_word (codes "IN" ∷ codes "in" ∷ codes "iN" ∷ codes "class1" ∷ codes "Class1" ∷ []) ≡ replicate 5 (Some In)
unfolding class_word is_some_word
internet = refl

-- other classes (RFC 1035 section 3.2.4)
others :
    map class_word (codes "CS" ∷ codes "CH" ∷ codes "HS" ∷ codes "cs" ∷ codes "Ch" ∷ codes "hS" ∷ []) ≡ replicate 6 (Some NotIn)
unfolding class_word is_some_word
others = refl

-- other numbers; that of IN too, where it has zeros in front
other_numbers :
    map class_word
    (codes "CLASS0" ∷ codes "CLASS2" ∷ codes "class255" ∷ codes "CLASS01" ∷ codes "CLASS00001" ∷ codes "CLASS65535" ∷ [])
    ≡ replicate 6 (Some NotIn)
unfolding class_word is_some_word
other_numbers = refl

-- what says nothing
no_class :
    map class_word
    (codes "CLASS65536" ∷ codes "CLASS000001" ∷ codes "CLASS" ∷ codes "CLASS1a" ∷ codes "CLAS1" ∷ codes "ANY" ∷ codes "NONE"
    ∷ codes "I" ∷ codes "INN" ∷ codes "\\IN" ∷ codes "A" ∷ codes "1" ∷ [] ∷ [])
    ≡ replicate 13 None
unfolding class_word is_some_word
no_class = refl
