-- Data of one type whose texts are one are one.
use Rattle.std.proofs.Common.{◌≡◌, ℕ, ◌<◌, ◌^◌, zero, suc, List, [], ◌∷◌, ◌++◌, length, refl, ap, sym, ◌∙◌, arith, slice_index}
use Rattle.std.specs.Prelude.{IsSome}
use Rattle.std.specs.Fmt.{decimal}
use Rattle.std.proofs.lemmas.Fmt.{decimal_injective}
use Rattle.std.proofs.lemmas.List.{append-nil, append_assoc, append_cancel_right}
use Rattle.std.proofs.lemmas.List.Concat.{flat_map-append}
use Rattle.dns_data.proofs.DataTexts.{decimal_lacks, name_lacks, name_same, four, groups_lack, groups_length, groups_same, strings_same, texts_same}
use Rattle.dns_data.proofs.Separators.{Lacks, AllLack, separated_same, first_same}
use Rattle.dns_data.specs.DataText.{string_octet_text, plain, quoted, groups, data_text}
use Rattle.dns_data.specs.Name.{Labels}
use Rattle.dns_data.specs.Rdata.{AreOctets, IsData, type_of_data}
use Rattle.dns_data.specs.Spelling.{name_text}
use Rattle.dns_data.specs.declared.rdata.Rdata.{Rdata}
use Rattle.dns_data.specs.declared.rdata.Rdata.TheVariants.{A, Ns, Cname, Soa, Ptr, Hinfo, Mx, Txt, Aaaa, Srv, Dname, Caa}

a_same : (a b : List ℕ) → IsData (A a) → IsData (A b) → data_text (A a) ≡ data_text (A b) → a ≡ b
a_same a b p q e =
    let fields : decimal (slice_index a 0) ∷ decimal (slice_index a 1) ∷ decimal (slice_index a 2) ∷ decimal (slice_index a 3) ∷ []
    ≡ decimal (slice_index b 0) ∷ decimal (slice_index b 1) ∷ decimal (slice_index b 2) ∷ decimal (slice_index b 3) ∷ [] =
    separated_same 46 _ _ refl (lack a p) (lack b q) e in
    let at0 : slice_index a 0 ≡ slice_index b 0 = decimal_injective _ _ (small a p 0 (omega arith)) (small b q 0 (omega arith)) cc in
    let at1 : slice_index a 1 ≡ slice_index b 1 = decimal_injective _ _ (small a p 1 (omega arith)) (small b q 1 (omega arith)) cc in
    let at2 : slice_index a 2 ≡ slice_index b 2 = decimal_injective _ _ (small a p 2 (omega arith)) (small b q 2 (omega arith)) cc in
    let at3 : slice_index a 3 ≡ slice_index b 3 = decimal_injective _ _ (small a p 3 (omega arith)) (small b q 3 (omega arith)) cc in
    four a p.0 ∙ rw (at0, at1, at2, at3) refl ∙ sym (four b q.0) where
      at : (octets : List ℕ) → AreOctets octets → (i : ℕ) → i < length octets → slice_index octets i < 256
      at [] are i lt = absurd (omega arith)
      at (x ∷ octets) are zero lt = are.0
      at (x ∷ octets) are (suc i) lt = at octets are.1 i (omega arith)

      small : (address : List ℕ) → IsData (A address) → (i : ℕ) → i < 4 → slice_index address i < 2 ^ 64
      small address is i lt = omega (arith, at address is.1 i (omega (arith, is.0)))

      lack : (address : List ℕ) → IsData (A address) → AllLack 46 (decimal (slice_index address 0) ∷ decimal (slice_index address 1) ∷ decimal (slice_index address 2) ∷ decimal (slice_index address 3) ∷ [])
      lack address is =
          let one : (i : ℕ) → i < 4 → Lacks 46 (decimal (slice_index address i)) = λ i lt. decimal_lacks 46 (slice_index address i) (omega arith) (small address is i lt) in
          (one 0 (omega arith), (one 1 (omega arith), (one 2 (omega arith), (one 3 (omega arith), tt))))

aaaa_same : (a b : List ℕ) → IsData (Aaaa a) → IsData (Aaaa b) → data_text (Aaaa a) ≡ data_text (Aaaa b) → a ≡ b
aaaa_same a b p q e =
    let sixteen : length (groups a) ≡ length (groups b) = groups_length 8 a p.0 ∙ sym (groups_length 8 b q.0) in
    groups_same 8 a b p.0 q.0 p.1 q.1 (separated_same 58 (groups a) (groups b) sixteen (groups_lack 8 a p.0 p.1) (groups_lack 8 b q.0 q.1) e)

mx_same : (preference preference' : ℕ) (exchange exchange' : Labels) → IsData (Mx preference exchange) → IsData (Mx preference' exchange')
    → data_text (Mx preference exchange) ≡ data_text (Mx preference' exchange') → Mx preference exchange ≡ Mx preference' exchange'
mx_same preference preference' exchange exchange' p q e =
    let fields : decimal preference ∷ name_text exchange ∷ [] ≡ decimal preference' ∷ name_text exchange' ∷ [] =
    separated_same 32 _ _ refl (decimal_lacks 32 preference (omega arith) (omega (arith, p.0)), (name_lacks exchange, tt)) (decimal_lacks 32 preference' (omega arith) (omega (arith, q.0)), (name_lacks exchange', tt)) e in
    let one : preference ≡ preference' = decimal_injective preference preference' (omega (arith, p.0)) (omega (arith, q.0)) cc in
    let two : exchange ≡ exchange' = name_same exchange exchange' p.1 q.1 cc in
    cc

srv_same : (priority weight port priority' weight' port' : ℕ) (target target' : Labels) → IsData (Srv priority weight port target) → IsData (Srv priority' weight' port' target')
    → data_text (Srv priority weight port target) ≡ data_text (Srv priority' weight' port' target') → Srv priority weight port target ≡ Srv priority' weight' port' target'
srv_same priority weight port priority' weight' port' target target' p q e =
    let fields : decimal priority ∷ decimal weight ∷ decimal port ∷ name_text target ∷ [] ≡ decimal priority' ∷ decimal weight' ∷ decimal port' ∷ name_text target' ∷ [] =
    separated_same 32 _ _ refl (lack priority weight port target p) (lack priority' weight' port' target' q) e in
    let one : priority ≡ priority' = decimal_injective priority priority' (omega (arith, p.0)) (omega (arith, q.0)) cc in
    let two : weight ≡ weight' = decimal_injective weight weight' (omega (arith, p.1)) (omega (arith, q.1)) cc in
    let three : port ≡ port' = decimal_injective port port' (omega (arith, p.2)) (omega (arith, q.2)) cc in
    let name : target ≡ target' = name_same target target' p.3 q.3 cc in
    cc where
      lack : (a b c : ℕ) (name : Labels) → IsData (Srv a b c name) → AllLack 32 (decimal a ∷ decimal b ∷ decimal c ∷ name_text name ∷ [])
      lack a b c name is = (
        decimal_lacks 32 a (omega arith) (omega (arith, is.0)),
        (decimal_lacks 32 b (omega arith) (omega (arith, is.1)), (decimal_lacks 32 c (omega arith) (omega (arith, is.2)), (name_lacks name, tt))),
      )

soa_same : (mname rname mname' rname' : Labels) (serial refresh retry expire minimum serial' refresh' retry' expire' minimum' : ℕ)
    → IsData (Soa mname rname serial refresh retry expire minimum) → IsData (Soa mname' rname' serial' refresh' retry' expire' minimum')
    → data_text (Soa mname rname serial refresh retry expire minimum) ≡ data_text (Soa mname' rname' serial' refresh' retry' expire' minimum')
    → Soa mname rname serial refresh retry expire minimum ≡ Soa mname' rname' serial' refresh' retry' expire' minimum'
soa_same m r m' r' a b c d f a' b' c' d' f' p q e =
    let fields : name_text m ∷ name_text r ∷ decimal a ∷ decimal b ∷ decimal c ∷ decimal d ∷ decimal f ∷ []
    ≡ name_text m' ∷ name_text r' ∷ decimal a' ∷ decimal b' ∷ decimal c' ∷ decimal d' ∷ decimal f' ∷ [] =
    separated_same 32 _ _ refl (lack m r a b c d f p) (lack m' r' a' b' c' d' f' q) e in
    let first : m ≡ m' = name_same m m' p.0 q.0 cc in
    let second : r ≡ r' = name_same r r' p.1 q.1 cc in
    let at_a : a ≡ a' = decimal_injective a a' (omega (arith, p.2)) (omega (arith, q.2)) cc in
    let at_b : b ≡ b' = decimal_injective b b' (omega (arith, p.3)) (omega (arith, q.3)) cc in
    let at_c : c ≡ c' = decimal_injective c c' (omega (arith, p.4)) (omega (arith, q.4)) cc in
    let at_d : d ≡ d' = decimal_injective d d' (omega (arith, p.5)) (omega (arith, q.5)) cc in
    let at_f : f ≡ f' = decimal_injective f f' (omega (arith, p.6)) (omega (arith, q.6)) cc in
    cc where
      lack : (m r : Labels) (a b c d f : ℕ) → IsData (Soa m r a b c d f) → AllLack 32 (name_text m ∷ name_text r ∷ decimal a ∷ decimal b ∷ decimal c ∷ decimal d ∷ decimal f ∷ [])
      lack m r a b c d f is = (
        name_lacks m,
        (
          name_lacks r,
          (
            decimal_lacks 32 a (omega arith) (omega (arith, is.2)),
            (
              decimal_lacks 32 b (omega arith) (omega (arith, is.3)),
              (
                decimal_lacks 32 c (omega arith) (omega (arith, is.4)),
                (decimal_lacks 32 d (omega arith) (omega (arith, is.5)), (decimal_lacks 32 f (omega arith) (omega (arith, is.6)), tt)),
              ),
            ),
          ),
        ),
      )

-- a tag ends before the space in front of the first quote that no backslash stands before
caa_same : (flags flags' : ℕ) (tag value tag' value' : List ℕ) → IsData (Caa flags tag value) → IsData (Caa flags' tag' value')
    → data_text (Caa flags tag value) ≡ data_text (Caa flags' tag' value') → Caa flags tag value ≡ Caa flags' tag' value'
caa_same flags flags' tag value tag' value' p q e =
    let first = first_same 32 (decimal flags) (decimal flags') _ _ (decimal_lacks 32 flags (omega arith) (omega (arith, p.0))) (decimal_lacks 32 flags' (omega arith) (omega (arith, q.0))) e in
    let one : flags ≡ flags' = decimal_injective flags flags' (omega (arith, p.0)) (omega (arith, q.0)) first.0 in
    let strings = strings_same (tag ++ 32 ∷ []) (tag' ++ 32 ∷ []) (plain value ++ 34 ∷ []) (plain value' ++ 34 ∷ []) (with_space tag p.1) (with_space tag' q.1) (sym (behind tag value) ∙ first.1 ∙ behind tag' value') in
    let two : tag ≡ tag' = append_cancel_right tag tag' (32 ∷ []) strings.0 in
    let three = strings_same value value' [] [] p.2 q.2 strings.1 in
    let third : value ≡ value' = three.0 in
    cc where
      with_space : (octets : List ℕ) → AreOctets octets → AreOctets (octets ++ 32 ∷ [])
      with_space [] are = (omega arith, tt)
      with_space (x ∷ octets) are = (are.0, with_space octets are.1)

      behind : (tag value : List ℕ) → plain tag ++ ((32 ∷ quoted value) ++ []) ≡ plain (tag ++ 32 ∷ []) ++ (34 ∷ (plain value ++ 34 ∷ []))
      behind tag value =
          ap (λ (rest : List ℕ). plain tag ++ rest) (append-nil (32 ∷ quoted value))
          ∙ sym (append_assoc (plain tag) (32 ∷ []) (34 ∷ (plain value ++ 34 ∷ [])))
          ∙ ap (λ (front : List ℕ). front ++ (34 ∷ (plain value ++ 34 ∷ []))) (sym (flat_map-append string_octet_text tag (32 ∷ [])))

-- data of one type with the same text are equal
pub texts_tell : (a b : Rdata) → IsData a → IsData b → type_of_data a ≡ type_of_data b → IsSome (type_of_data a) → data_text a ≡ data_text b → a ≡ b
texts_tell (A a) (A b) p q t s e = ap A (a_same a b p q e)
texts_tell (Ns a) (Ns b) p q t s e = ap Ns (name_same a b p q e)
texts_tell (Cname a) (Cname b) p q t s e = ap Cname (name_same a b p q e)
texts_tell (Soa m r v w x y z) (Soa m' r' v' w' x' y' z') p q t s e = soa_same m r m' r' v w x y z v' w' x' y' z' p q e
texts_tell (Ptr a) (Ptr b) p q t s e = ap Ptr (name_same a b p q e)
texts_tell (Hinfo cpu os) (Hinfo cpu' os') p q t s e =
    let both = texts_same (cpu ∷ os ∷ []) (cpu' ∷ os' ∷ []) (p.0, (p.1, tt)) (q.0, (q.1, tt)) e in
    let first : cpu ≡ cpu' = cc in
    let second : os ≡ os' = cc in
    cc
texts_tell (Mx n a) (Mx m b) p q t s e = mx_same n m a b p q e
texts_tell (Txt a) (Txt b) p q t s e = ap Txt (texts_same a b p q e)
texts_tell (Aaaa a) (Aaaa b) p q t s e = ap Aaaa (aaaa_same a b p q e)
texts_tell (Srv x y z a) (Srv x' y' z' b) p q t s e = srv_same x y z x' y' z' a b p q e
texts_tell (Dname a) (Dname b) p q t s e = ap Dname (name_same a b p q e)
texts_tell (Caa n a x) (Caa m b y) p q t s e = caa_same n m a x b y p q e
texts_tell a b p q t s e = cc
