-- The rules by what is kept of the records before, and the first fault as far as a loop has come.
use Rattle.std.proofs.Common.{◌≡◌, ℕ, ◌+◌, ◌<◌, ◌≤◌, Bool, true, false, not, cond, ◌&&◌, ◌||◌, List, [], ◌∷◌, ◌++◌, length, take, drop, get_or, All, Option, Some, None, refl, ap, sym, ◌∙◌, add-one}
use Rattle.std.proofs.Math.Seq.{drop-cons}
use Rattle.std.proofs.lemmas.List.{take_more}
use Rattle.std.proofs.lemmas.List.Elements.{All-head, All-tail, All-weaker}
use Rattle.std.specs.List.{list_any}
use Rattle.std.specs.Option.{option_or, option_map}
use Rattle.std.proofs.lemmas.Bool.{or_left, or_right, false_from_ne_true}
use Rattle.dns_data.specs.Name.{Labels, name_eq}
use Rattle.dns_data.specs.declared.rdata.Rr.{Rr}
use Rattle.dns_data.specs.declared.rr_type.RrType.TheVariants as types
use Rattle.dns_data.proofs.Names.{name_eq_decides}
use Rattle.zone_rules.specs.Apex.{is_type}
use Rattle.zone_rules.specs.Before.{IsSummaryOf, fault_in, rule_in}
use Rattle.zone_rules.specs.Rules.{had_at, had_other_at, is_soa_elsewhere, is_star_record, is_second_cname, is_beside_cname, rule_at, first_fault_behind}
use Rattle.zone_rules.specs.declared.fault.RuleCause.TheVariants.{TwoSoas, SoaElsewhere, CnameAndOther, TwoCnames, TwoDnames, StarRecord}
use Rattle.zone_rules.specs.declared.fault.RuleFault.{RuleFault}
use Rattle.zone_rules.specs.declared.fault.RuleFault.TheVariants.{At}
use Rattle.zone_rules.specs.declared.rules.Before.{Before}

-- ---- a record that has no rival at its owner

-- no record of the owner passes the test
none-at : (test : Rr → Bool) (owner : Labels) (before : List Rr) → All (λ other. owner ≡ other.owner → test other ≡ false) before → list_any (λ other. name_eq owner other.owner && test other) before ≡ false
none-at test owner [] none = refl
none-at test owner (other ∷ before) none =
    (λ j. here (name_eq owner other.owner) refl j || none-at test owner before (All-tail (λ x. owner ≡ x.owner → test x ≡ false) other before none) j) where
      here : (b : Bool) → name_eq owner other.owner ≡ b → (b && test other) ≡ false
      here true e = All-head (λ x. owner ≡ x.owner → test x ≡ false) other before none ((name_eq_decides owner other.owner).0 e)
      here false e = refl

-- of two records of an owner that has no rival there none is a CNAME record
module _ (may_have : Labels → Bool) (rr : Rr) (none : may_have rr.owner ≡ false) (before : List Rr) (rivals : All (λ other. other.owner ≡ rr.owner → (is_type types.Cname other || is_type types.Cname rr) ≡ true → may_have rr.owner ≡ true) before) where
  -- no record before is of the owner of this CNAME record
  alone : (test : Rr → Bool) → is_type types.Cname rr ≡ true → list_any (λ other. name_eq rr.owner other.owner && test other) before ≡ false
  alone test cname = none-at test rr.owner before
      (All-weaker (λ other. other.owner ≡ rr.owner → (is_type types.Cname other || is_type types.Cname rr) ≡ true → may_have rr.owner ≡ true) (λ other. rr.owner ≡ other.owner → test other ≡ false)
      (λ other rival same. let may = rival (sym same) (or_right (is_type types.Cname other) (is_type types.Cname rr) cname) in cc) before rivals)

  -- no CNAME record before is of the owner of this record
  no-cname : had_at types.Cname rr.owner before ≡ false
  no-cname = none-at (is_type types.Cname) rr.owner before
      (All-weaker (λ other. other.owner ≡ rr.owner → (is_type types.Cname other || is_type types.Cname rr) ≡ true → may_have rr.owner ≡ true) (λ other. rr.owner ≡ other.owner → is_type types.Cname other ≡ false)
      (λ other rival same. false_from_ne_true (is_type types.Cname other) (λ e. let may = rival (sym same) (or_left (is_type types.Cname other) (is_type types.Cname rr) e) in cc)) before rivals)

  -- a record that has no rival breaks no rule on CNAME records
  pub no-second : is_second_cname before rr ≡ false
  no-second = by (is_type types.Cname rr) where
    by : (b : Bool) → (b && had_at types.Cname rr.owner before) ≡ false
    by true = no-cname
    by false = refl

  -- a record that has no rival is no CNAME record beside others, and stands beside none
  pub not-beside : is_beside_cname before rr ≡ false
  not-beside = by (is_type types.Cname rr) refl where
    by : (b : Bool) → is_type types.Cname rr ≡ b → cond b (had_other_at types.Cname rr.owner before) (had_at types.Cname rr.owner before) ≡ false
    by true e = alone (λ other. not (is_type types.Cname other)) e
    by false e = no-cname

-- ---- a record's fault by what is kept of the records before is the one that it has behind them
module _ (may_have : Labels → Bool) (kept : Before) (before : List Rr) (origin : Labels) (rr : Rr) (stands : IsSummaryOf may_have kept before) where
  by-rival : (b : Bool) → may_have rr.owner ≡ b
      → All (λ other. other.owner ≡ rr.owner → (is_type types.Cname other || is_type types.Cname rr) ≡ true → may_have rr.owner ≡ true) before → rule_in kept b origin rr ≡ rule_at origin before rr
  by-rival true may rivals = λ j.
      cond (is_soa_elsewhere origin rr) (Some SoaElsewhere)
      (cond (is_type types.Soa rr && stands.has_soa j) (Some TwoSoas)
      (cond (is_star_record rr) (Some StarRecord)
      (cond (is_type types.Cname rr && stands.cnames rr.owner may j) (Some TwoCnames)
      (cond (cond (is_type types.Cname rr) (stands.others rr.owner may j) (stands.cnames rr.owner may j)) (Some CnameAndOther)
      (cond (is_type types.Dname rr && stands.dnames rr.owner j) (Some TwoDnames)
      None)))))
  by-rival false none rivals = λ j.
      cond (is_soa_elsewhere origin rr) (Some SoaElsewhere)
      (cond (is_type types.Soa rr && stands.has_soa j) (Some TwoSoas)
      (cond (is_star_record rr) (Some StarRecord)
      (cond (sym (no-second may_have rr none before rivals) j) (Some TwoCnames)
      (cond (sym (not-beside may_have rr none before rivals) j) (Some CnameAndOther)
      (cond (is_type types.Dname rr && stands.dnames rr.owner j) (Some TwoDnames)
      None)))))

  -- the fault of a record by what is kept is that of the rule which it breaks behind the records before it
  pub fault-kept : (has_rival : Bool) → has_rival ≡ may_have rr.owner
      → All (λ other. other.owner ≡ rr.owner → (is_type types.Cname other || is_type types.Cname rr) ≡ true → may_have rr.owner ≡ true) before
      → fault_in kept has_rival origin rr ≡ option_map (λ cause. At rr.file rr.line cause) (rule_at origin before rr)
  fault-kept has_rival is rivals = ap (option_map (λ cause. At rr.file rr.line cause)) (by-rival has_rival (sym is) rivals)

module _ (origin : Labels) (rrs : List Rr) (i : ℕ) where
  -- the records before the next one, and it, are the records up to it
  pub before-next : (rr : Rr) → i < length rrs → rr ≡ get_or rrs i rr → take i rrs ++ rr ∷ [] ≡ take (i + 1) rrs
  before-next rr below is = sym (take_more rrs i rr below ∙ (λ j. take i rrs ++ sym is j ∷ []))

  -- the fault of the next record or of those behind it
  here : (rr : Rr) → i < length rrs → rr ≡ get_or rrs i rr → first_fault_behind origin (take i rrs) (drop i rrs)
      ≡ option_or (option_map (λ cause. At rr.file rr.line cause) (rule_at origin (take i rrs) rr)) (first_fault_behind origin (take (i + 1) rrs) (drop (i + 1) rrs))
  here rr below is =
      ap (first_fault_behind origin (take i rrs)) (drop-cons rrs i rr below ∙ (λ j. sym is j ∷ drop (sym (add-one i) j) rrs))
      ∙ ap (λ front. option_or (option_map (λ cause. At rr.file rr.line cause) (rule_at origin (take i rrs) rr)) (first_fault_behind origin front (drop (i + 1) rrs))) (before-next rr below is)

  -- the first fault from a record on is the record's, or the first fault behind it
  pub fault-next : (rr : Rr) (fault : Option RuleFault) → i < length rrs → rr ≡ get_or rrs i rr → fault ≡ option_map (λ cause. At rr.file rr.line cause) (rule_at origin (take i rrs) rr)
      → first_fault_behind origin (take i rrs) (drop i rrs) ≡ option_or fault (first_fault_behind origin (take (i + 1) rrs) (drop (i + 1) rrs))
  fault-next rr fault below is first =
      here rr below is
      ∙ ap (λ found. option_or found (first_fault_behind origin (take (i + 1) rrs) (drop (i + 1) rrs))) (sym first)
