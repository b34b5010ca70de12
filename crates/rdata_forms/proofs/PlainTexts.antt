-- A text without a backslash stands for itself.
use Rattle.std.proofs.Common.{◌≡◌, ℕ, Bool, true, false, not, List, [], ◌∷◌, sym, refl, ap, ◌∙◌, arith}
use Rattle.std.specs.Prelude.{if◌then◌else◌, ◌==◌}
use Rattle.std.specs.List.{list_all, flat_map}
use Rattle.std.proofs.lemmas.Bool.{and_parts}
use Rattle.std.proofs.lemmas.Bool.Decides.{nat_tests}
use Rattle.dns_data.specs.Spelling.{Dot, Octet, signs, escaped}
use Rattle.rdata_forms.specs.Texts.{resolved, sign_octets}

-- what an octet that is no backslash stands for, by whether it is a dot
by_dot : (octet : ℕ) (text : List ℕ) (dot : Bool) → (octet == 46) ≡ dot → flat_map sign_octets (if dot then Dot ∷ signs text else Octet octet ∷ signs text) ≡ octet ∷ resolved text
by_dot octet text true h =
    let dot : octet ≡ 46 = grind (arith, nat_tests) in
    ap (λ (o : ℕ). o ∷ resolved text) (sym dot)
by_dot octet text false h = refl

-- the octets of a text without a backslash are the text
pub plain_resolved : (text : List ℕ) → list_all (λ octet. not (octet == 92)) text ≡ true → resolved text ≡ text
plain_resolved [] h = refl
plain_resolved (octet ∷ text) h =
    let g = and_parts (not (octet == 92)) (list_all (λ octet. not (octet == 92)) text) h in
    let backslash : (octet == 92) ≡ false = grind (arith, nat_tests, g.0) in
    ap (λ b. flat_map sign_octets (if b then escaped text else (if octet == 46 then Dot ∷ signs text else Octet octet ∷ signs text))) backslash
    ∙ by_dot octet text (octet == 46) refl
    ∙ ap (λ (rest : List ℕ). octet ∷ rest) (plain_resolved text g.1)
