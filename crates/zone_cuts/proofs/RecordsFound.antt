-- NS records by their owner and the name server that they name, one record after another.
use Rattle.std.proofs.Common.{◌≡◌, Bool, true, false, ◌&&◌, cond, List, [], ◌∷◌, Some, option_map, Bor, is_eq, refl, sym, ap, ◌∙◌}
use Rattle.std.proofs.Math.Bool.{and-true}
use Rattle.std.specs.BTreeMap as map
use Rattle.std.specs.Cmp.Lexicographic.{lists_equiv, lists_ties, nat_list_eq_equiv, slice_cmp, texts_ties}
use Rattle.std.specs.List.{find}
use Rattle.std.specs.Map.{lookup}
use Rattle.dns_data.specs.Label.{label_cmp}
use Rattle.dns_data.specs.Name.{Labels, name_cmp, name_eq}
use Rattle.dns_data.specs.Rdata.{data_eq}
use Rattle.dns_data.specs.declared.rdata.Rdata.{Rdata}
use Rattle.dns_data.specs.declared.rdata.Rdata.TheVariants.{Ns}
use Rattle.dns_data.specs.declared.rdata.Rr.{Rr}
use Rattle.zone_cuts.specs.Cuts.{is_ns_of}
use Rattle.zone_cuts.specs.Found.{FindsRecords}

-- a map without entries finds none of no records
pub none_found : (found : map.BTreeMap (List Labels) (Bor Rr)) → map.IsEmpty found → FindsRecords [] found
none_found found empty owner ns =
    ap (λ (entries : List (List Labels × Bor Rr)). option_map (λ (rr : Bor Rr). rr.now) (lookup (λ (key : List Labels). is_eq (slice_cmp name_cmp (owner ∷ ns ∷ []) key)) entries)) empty

-- with an NS record before the others a map finds it first
pub one_more : (old new : map.BTreeMap (List Labels) (Bor Rr)) (rr : Bor Rr) (rrs : List Rr) (target : Labels) (key : List Labels)
    → FindsRecords rrs old → rr.now.rdata ≡ Ns target → key ≡ rr.now.owner ∷ target ∷ []
    → map.Updates (slice_cmp name_cmp) old new key (Some rr) → FindsRecords (rr.now ∷ rrs) new
one_more old new rr rrs target key known is_ns is updates owner ns =
    ap (option_map (λ (one : Bor Rr). one.now)) (updates.0 (owner ∷ ns ∷ []))
    ∙ by (is_ns_of owner ns rr.now) test
  where
    names : is_eq (slice_cmp name_cmp key (owner ∷ ns ∷ [])) ≡ (name_eq rr.now.owner owner && (name_eq target ns && true))
    names =
        ap (λ (k : List Labels). is_eq (slice_cmp name_cmp k (owner ∷ ns ∷ []))) is
        ∙ sym (lists_ties name_cmp (lists_ties label_cmp texts_ties) (rr.now.owner ∷ target ∷ []) (owner ∷ ns ∷ []))

    test : is_eq (slice_cmp name_cmp key (owner ∷ ns ∷ [])) ≡ is_ns_of owner ns rr.now
    test =
        names
        ∙ (λ i. (lists_equiv nat_list_eq_equiv).symm rr.now.owner owner i && (and-true (name_eq target ns) ∙ (lists_equiv nat_list_eq_equiv).symm target ns) i)
        ∙ sym (ap (λ (rdata : Rdata). name_eq owner rr.now.owner && data_eq (Ns ns) rdata) is_ns)

    by : (b : Bool) → is_eq (slice_cmp name_cmp key (owner ∷ ns ∷ [])) ≡ b
        → option_map (λ (one : Bor Rr). one.now) (cond (is_eq (slice_cmp name_cmp key (owner ∷ ns ∷ []))) (Some rr) (map.get (slice_cmp name_cmp) old (owner ∷ ns ∷ [])))
        ≡ cond b (Some rr.now) (find (is_ns_of owner ns) rrs)
    by true e = ap (λ (b : Bool). option_map (λ (one : Bor Rr). one.now) (cond b (Some rr) (map.get (slice_cmp name_cmp) old (owner ∷ ns ∷ [])))) e
    by false e = ap (λ (b : Bool). option_map (λ (one : Bor Rr). one.now) (cond b (Some rr) (map.get (slice_cmp name_cmp) old (owner ∷ ns ∷ [])))) e ∙ known owner ns

-- a record before the others that is no NS record changes nothing
pub no_more : (found : map.BTreeMap (List Labels) (Bor Rr)) (rr : Rr) (rrs : List Rr) → ((ns : Labels) → data_eq (Ns ns) rr.rdata ≡ false)
    → FindsRecords rrs found → FindsRecords (rr ∷ rrs) found
no_more found rr rrs other known owner ns =
    known owner ns ∙ sym (ap (λ (b : Bool). cond (name_eq owner rr.owner && b) (Some rr) (find (is_ns_of owner ns) rrs)) (other ns) ∙ by (name_eq owner rr.owner))
  where
    by : (b : Bool) → cond (b && false) (Some rr) (find (is_ns_of owner ns) rrs) ≡ find (is_ns_of owner ns) rrs
    by true = refl
    by false = refl
