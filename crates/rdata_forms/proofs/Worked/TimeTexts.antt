-- Texts of times, by the relation that says what a text stands for.
use Rattle.std.specs.Prelude.{refl, codes}
use Rattle.std.proofs.Common.{[], ◌∷◌, arith, inl, inr}
use Rattle.rdata_forms.specs.TimeTexts.{IsTimeText}

-- digits alone, with zeros in front: the most seconds that a TTL may have (RFC 2181 section 8)
the_most : IsTimeText (codes "002147483647") 2147483647
the_most = record { written = inl (record { digits = refl; stands_for = refl }); within = omega arith }

-- one group
one_day : IsTimeText (codes "1d") 86400
one_day = record {
  written = inr (record {
    groups = record { digits = codes "1"; letter = 100 } ∷ [];
    some = omega arith;
    well_formed = refl;
    written = refl;
    stands_for = refl;
  });
  within = omega arith;
}

-- groups in any order, a letter twice and in either case
in_any_order : IsTimeText (codes "30m1H0030M") 7200
in_any_order = record {
  written = inr (record {
    groups = record { digits = codes "30"; letter = 109 } ∷ record { digits = codes "1"; letter = 72 }
        ∷ record { digits = codes "0030"; letter = 77 } ∷ [];
    some = omega arith;
    well_formed = refl;
    written = refl;
    stands_for = refl;
  });
  within = omega arith;
}

-- no seconds
no_second : IsTimeText (codes "0w") 0
no_second = record {
  written = inr (record {
    groups = record { digits = codes "0"; letter = 119 } ∷ [];
    some = omega arith;
    well_formed = refl;
    written = refl;
    stands_for = refl;
  });
  within = omega arith;
}
