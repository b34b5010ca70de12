-- Data of other types drawn at random.
-- docs/draw.py works them out once more, by plain rules.
use Rattle.std.specs.Prelude.{◌≡◌, refl, [], ◌∷◌, codes, Ok, Err}
use Rattle.dns_data.specs.declared.rdata.Rdata.TheVariants.{Other}
use Rattle.rdata_forms.specs.Forms.{other_of}
use Rattle.rdata_forms.specs.declared.fault.RdataFault.TheVariants.{BadHex}
use Rattle.rdata_forms.proofs.Worked.Words.{in_quotes, token}

other_0 : other_of (codes "SSHFP") (token "\\#" ∷ token "2" ∷ token "8" ∷ token "2" ∷ token "d0" ∷ []) ≡ Ok (Other (codes "SSHFP") (codes "\\#" ∷ codes "2" ∷ codes "8" ∷ codes "2" ∷ codes "d0" ∷ []))
other_0 = refl

other_1 : other_of (codes "TYPE731") [] ≡ Ok (Other (codes "TYPE731") [])
other_1 = refl

other_2 : other_of (codes "SSHFP") (token "\\#" ∷ []) ≡ Err BadHex
other_2 = refl

other_3 : other_of (codes "DS") (token "\\#" ∷ token "3" ∷ token "Bc63" ∷ in_quotes "D8" ∷ []) ≡ Ok (Other (codes "DS") (codes "\\#" ∷ codes "3" ∷ codes "Bc63" ∷ codes "D8" ∷ []))
other_3 = refl

other_4 : other_of (codes "DS") (token "ab" ∷ in_quotes "" ∷ []) ≡ Ok (Other (codes "DS") (codes "ab" ∷ [] ∷ []))
other_4 = refl
