-- Data of one type, and addresses of both types, are told apart by their texts.
use Rattle.std.proofs.Common.{◌≡◌, ◌∙◌, ◌⊎◌, ℕ, true, List, [], ◌∷◌, ◌++◌, length, filter, Contains, Equal, inl, inr, refl, sym, ap, subst, arith}
use Rattle.std.specs.Prelude.{IsSome, Some}
use Rattle.std.specs.Cmp.{IsTotalOrder}
use Rattle.std.specs.Fmt.{decimal}
use Rattle.std.proofs.lemmas.Bool.{and_parts}
use Rattle.std.proofs.lemmas.Cmp.{nat_list_cmp_total, on_total}
use Rattle.std.proofs.lemmas.List.{append-nil}
use Rattle.std.proofs.lemmas.List.Elements.{Contains-append_cases}
use Rattle.std.proofs.lemmas.Map.Lookups.{exact_unsigned}
use Rattle.std.specs.Ordering.{nat_cmp}
use Rattle.dns_data.specs.DataText.{groups, separated, data_text}
use Rattle.dns_data.specs.Name.{Labels, name_eq}
use Rattle.dns_data.specs.Rdata.{IsData, has_type, type_of_data}
use Rattle.dns_data.specs.declared.rdata.Rdata.{Rdata}
use Rattle.dns_data.specs.declared.rdata.Rdata.TheVariants.{A, Ns, Cname, Soa, Ptr, Hinfo, Mx, Txt, Aaaa, Srv, Dname, Caa, Other}
use Rattle.dns_data.specs.declared.rdata.Rr.{Rr}
use Rattle.dns_data.specs.declared.rr_type.RrType.{RrType}
use Rattle.dns_data.specs.declared.rr_type.RrType.TheVariants as types
use Rattle.dns_data.proofs.DataTexts.{decimal_lacks, groups_lack, groups_length}
use Rattle.dns_data.proofs.Membership.{from_map, from_filter}
use Rattle.dns_data.proofs.OrderedLists.{exact_lists}
use Rattle.dns_data.proofs.Separators.{Lacks, AllLack, lacks-append, split_on, split-separated}
use Rattle.dns_data.proofs.TextsTellData.{texts_tell}
use Rattle.net_model.specs.declared.config.Zone.{Zone}
use Rattle.net_model.specs.Zone.{is_of, data_at, data_cmp}
use Rattle.zone_tree.proofs.Types.{one_type}
use Rattle.plain_words.specs.Same.{HoldsData}

-- data are in a total order by their texts
pub data_total : IsTotalOrder data_cmp
data_total = on_total data_text nat_list_cmp_total

-- data that stand at one place have one text
one_text : (a b : Rdata) → data_cmp a b ≡ Equal → data_text a ≡ data_text b
one_text a b tie = exact_lists nat_cmp exact_unsigned (data_text a) (data_text b) tie

-- what has a type is of that type
typed : (rtype : RrType) (rdata : Rdata) → has_type rtype rdata ≡ true → type_of_data rdata ≡ Some rtype
typed rtype (A address) is = ap Some (sym (one_type rtype types.A is))
typed rtype (Ns target) is = ap Some (sym (one_type rtype types.Ns is))
typed rtype (Cname target) is = ap Some (sym (one_type rtype types.Cname is))
typed rtype (Soa mname rname serial refresh retry expire minimum) is = ap Some (sym (one_type rtype types.Soa is))
typed rtype (Ptr target) is = ap Some (sym (one_type rtype types.Ptr is))
typed rtype (Hinfo cpu os) is = ap Some (sym (one_type rtype types.Hinfo is))
typed rtype (Mx preference exchange) is = ap Some (sym (one_type rtype types.Mx is))
typed rtype (Txt texts) is = ap Some (sym (one_type rtype types.Txt is))
typed rtype (Aaaa address) is = ap Some (sym (one_type rtype types.Aaaa is))
typed rtype (Srv priority weight port target) is = ap Some (sym (one_type rtype types.Srv is))
typed rtype (Dname target) is = ap Some (sym (one_type rtype types.Dname is))
typed rtype (Caa flags tag value) is = ap Some (sym (one_type rtype types.Caa is))
typed rtype (Other word tokens) is = cc

-- data of the type
abbrev pub IsOfType : RrType → Rdata → Type 0
IsOfType rtype rdata = IsData rdata × (has_type rtype rdata ≡ true)

-- data of one type at one place are one
pub exact_of_type : (rtype : RrType) (a b : Rdata) → IsOfType rtype a → IsOfType rtype b → data_cmp a b ≡ Equal → a ≡ b
exact_of_type rtype a b p q tie =
    texts_tell a b p.0 q.0 (typed rtype a p.1 ∙ sym (typed rtype b q.1)) (subst IsSome (sym (typed rtype a p.1)) refl) (one_text a b tie)

-- ---- addresses

-- the four octets of an IPv4 address have no colon in their text
four_lack : (address : List ℕ) → IsData (A address) → Lacks 58 (data_text (A address))
four_lack (a ∷ b ∷ c ∷ d ∷ []) is =
    lacks-append 58 (decimal a) _ (decimal_lacks 58 a (omega arith) (omega (arith, is.1.0)))
    (lacks-append 58 (46 ∷ decimal b) _ (refl, decimal_lacks 58 b (omega arith) (omega (arith, is.1.1.0)))
    (lacks-append 58 (46 ∷ decimal c) _ (refl, decimal_lacks 58 c (omega arith) (omega (arith, is.1.1.1.0)))
    (lacks-append 58 (46 ∷ decimal d) [] (refl, decimal_lacks 58 d (omega arith) (omega (arith, is.1.1.1.1.0))) tt)))
four_lack [] is = absurd (omega (arith, is.0))
four_lack (a ∷ []) is = absurd (omega (arith, is.0))
four_lack (a ∷ b ∷ []) is = absurd (omega (arith, is.0))
four_lack (a ∷ b ∷ c ∷ []) is = absurd (omega (arith, is.0))
four_lack (a ∷ b ∷ c ∷ d ∷ e ∷ rest) is = absurd (omega (arith, is.0))

-- so it is no text of an IPv6 address, which has eight pieces
apart : (four six : List ℕ) → IsData (A four) → IsData (Aaaa six) → data_text (A four) ≡ data_text (Aaaa six) → ⊥
apart four six p q e = by (groups six) (groups_length 8 six q.0) (groups_lack 8 six q.0 q.1) e where
  by : (pieces : List (List ℕ)) → length pieces ≡ 8 → AllLack 58 pieces → data_text (A four) ≡ separated (58 ∷ []) pieces → ⊥
  by [] many lack e = absurd (omega (arith, many))
  by (piece ∷ pieces) many lack e =
      let one : split_on 58 (separated (58 ∷ []) (data_text (A four) ∷ [])) ≡ data_text (A four) ∷ [] = split-separated 58 (data_text (A four)) [] (four_lack four p, tt) in
      let eight : split_on 58 (separated (58 ∷ []) (piece ∷ pieces)) ≡ piece ∷ pieces = split-separated 58 piece pieces lack in
      let same : data_text (A four) ∷ [] ≡ piece ∷ pieces = sym one ∙ ap (split_on 58) (append-nil (data_text (A four)) ∙ e) ∙ eight in
      absurd (omega (arith, ap length same, many))

-- an address of either type
abbrev pub IsAddress : Rdata → Type 0
IsAddress rdata = IsOfType types.A rdata ⊎ IsOfType types.Aaaa rdata

-- data of type A hold four octets, and data of type AAAA sixteen
four_is : (rdata : Rdata) → has_type types.A rdata ≡ true → (four : List ℕ) × (rdata ≡ A four)
four_is (A four) is = (four, refl)
four_is _ is = cc

six_is : (rdata : Rdata) → has_type types.Aaaa rdata ≡ true → (six : List ℕ) × (rdata ≡ Aaaa six)
six_is (Aaaa six) is = (six, refl)
six_is _ is = cc

-- so data of the two types have no text in common
never_one : (a b : Rdata) → IsOfType types.A a → IsOfType types.Aaaa b → data_text a ≡ data_text b → ⊥
never_one a b p q e =
    let (four, is_four) = four_is a p.1 in
    let (six, is_six) = six_is b q.1 in
    apart four six (subst IsData is_four p.0) (subst IsData is_six q.0) (sym (ap data_text is_four) ∙ e ∙ ap data_text is_six)

-- addresses at one place are one
pub exact_addresses : (a b : Rdata) → IsAddress a → IsAddress b → data_cmp a b ≡ Equal → a ≡ b
exact_addresses a b (inl p) (inl q) tie = exact_of_type types.A a b p q tie
exact_addresses a b (inr p) (inr q) tie = exact_of_type types.Aaaa a b p q tie
exact_addresses a b (inl p) (inr q) tie = absurd (never_one a b p q (one_text a b tie))
exact_addresses a b (inr p) (inl q) tie = absurd (never_one b a q p (sym (one_text a b tie)))

-- ---- what a zone has

-- the data of a type that a name has are of that type
pub each_of_type : (zone : Zone) (name : Labels) (rtype : RrType) → HoldsData zone → (rdata : Rdata) → Contains (data_at zone name rtype) rdata → IsOfType rtype rdata
each_of_type zone name rtype holds rdata has =
    let (rr, among, is) = from_map (λ (rr : Rr). rr.rdata) (filter (is_of name rtype) zone.rrs) rdata has in
    let (there, passes) = from_filter (is_of name rtype) zone.rrs rr among in
    subst (IsOfType rtype) is (holds rr there, (and_parts (name_eq rr.owner name) (has_type rtype rr.rdata) passes).1)

-- its addresses are of either type
pub each_address : (zone : Zone) (name : Labels) → HoldsData zone → (rdata : Rdata) → Contains (data_at zone name types.A ++ data_at zone name types.Aaaa) rdata → IsAddress rdata
each_address zone name holds rdata has =
    elim (Contains-append_cases (data_at zone name types.A) (data_at zone name types.Aaaa) rdata has) [
      | inl four ↦ inl (each_of_type zone name types.A holds rdata four)
      | inr six ↦ inr (each_of_type zone name types.Aaaa holds rdata six)
    ]
