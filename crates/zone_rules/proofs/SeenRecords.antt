-- Records as they are compared, and a set of those that were seen.
use Rattle.std.proofs.Common.{◌≡◌, ℕ, Bool, true, false, ◌&&◌, ◌||◌, List, [], ◌∷◌, All, refl, ap, sym, ◌∙◌, ◌==◌}
use Rattle.std.proofs.Math.Bool.{and_comm, and-false}
use Rattle.std.proofs.lemmas.Bool.{eq-eqb}
use Rattle.std.proofs.lemmas.List.Elements.{All-head, All-tail}
use Rattle.std.specs.BTreeSet as tree
use Rattle.std.specs.Hash.FoldHasher.{initial, finish}
use Rattle.std.specs.List.{list_any}
use Rattle.dns_data.specs.Identical.{is_identical}
use Rattle.dns_data.specs.Name.{name_eq}
use Rattle.dns_data.specs.Rdata.{data_eq}
use Rattle.dns_data.specs.declared.rdata.Rr.{Rr}
use Rattle.dns_data.specs.contracts.rdata.RdataPartialEq.TheImpl as data_impl
use Rattle.dns_data.proofs.Tellers.{same_data}
use Rattle.dns_data.proofs.IdenticalRecords.{identical_by_parts}
use Rattle.zone_rules.specs.Fingerprint.{fed_name, fed_data, record_number}
use Rattle.zone_rules.specs.Seen.{has}
use Rattle.zone_rules.specs.contracts.identical.IdentityOrd.TheImpl as identity_order
use Rattle.zone_rules.specs.contracts.identical.IdentityPartialEq.TheImpl as identity_impl
use Rattle.zone_rules.specs.declared.identical.Identity.{Identity}

-- what is seen has the identity of the record
abbrev pub sees : Identity → Rr → Bool
sees query rr = query.number == record_number rr && (name_eq query.owner.now rr.owner && data_eq query.rdata.now rr.rdata)

-- two identities are compared by number, owner and data
pub same_identity : (query item : Identity) (rr : Rr) → item.number ≡ record_number rr → item.owner.now ≡ rr.owner → item.rdata.now ≡ rr.rdata → (identity_impl.ghosts).eq query item ≡ sees query rr
same_identity query item rr number owner rdata =
    ap (λ b. query.number == item.number && b)
    (and_comm ((data_impl.ghosts).eq query.rdata.now item.rdata.now) (name_eq query.owner.now item.owner.now)
    ∙ ap (λ b. name_eq query.owner.now item.owner.now && b) (same_data query.rdata.now item.rdata.now))
    ∙ (λ j. query.number == number j && (name_eq query.owner.now (owner j) && data_eq query.rdata.now (rdata j)))

-- the records that may have a rival were seen
abbrev pub HasSeen : (ℕ → Bool) → tree.BTreeSet Identity → List Rr → Type 0
HasSeen may seen before = (query : Identity) → has (identity_order.ghosts).cmp seen query ≡ list_any (λ rr. may (record_number rr) && sees query rr) before

-- ---- a record and those before it
module _ (may_rival : ℕ → Bool) (rr : Rr) where
  -- whether a record may have a rival
  abbrev may : Rr → Bool
  may other = may_rival (record_number other)

  -- identical records have one number
  one_number : (other : Rr) → is_identical rr other ≡ true → record_number other ≡ record_number rr
  one_number other e =
      let same = (identical_by_parts rr other).0 e in
      sym (λ j. finish (fed_data (fed_name initial (same.0 j)) (same.1 j)))

  -- one that has the identity of the record
  abbrev has_identity : Rr → Bool → Bool
  has_identity other is_identical = record_number rr == record_number other && is_identical

  -- one that is identical to a record that may have a rival may have one, and has its number
  both-may : (other : Rr) (b : Bool) → may rr ≡ true → is_identical rr other ≡ b → (may other && has_identity other b) ≡ b
  both-may other true is_so e =
      let same : record_number other ≡ record_number rr = one_number other e in
      (λ j. (ap may_rival same ∙ is_so) j && (eq-eqb (record_number rr) (record_number other) (sym same) j && true))
  both-may other false is_so e =
      ap (λ b. may other && b) (and-false (record_number rr == record_number other))
      ∙ and-false (may other)

  -- of those that may have a rival one has the identity of the record where any is identical
  among-rivals : (before : List Rr) → may rr ≡ true → list_any (λ other. may other && has_identity other (is_identical rr other)) before ≡ list_any (is_identical rr) before
  among-rivals [] is_so = refl
  among-rivals (other ∷ before) is_so = (λ j. both-may other (is_identical rr other) is_so refl j || among-rivals before is_so j)

  -- an identical record is a rival
  not-identical : (other : Rr) (b : Bool) → may rr ≡ false → is_identical rr other ≡ b → (record_number other ≡ record_number rr → may rr ≡ true) → b ≡ false
  not-identical other true isnt e rival = let is_so = rival (one_number other e) in cc
  not-identical other false isnt e rival = refl

  -- none is identical to a record that has no rival
  without-rival : (before : List Rr) → may rr ≡ false → All (λ other. record_number other ≡ record_number rr → may rr ≡ true) before → list_any (is_identical rr) before ≡ false
  without-rival [] isnt rivals = refl
  without-rival (other ∷ before) isnt rivals =
      (λ j. not-identical other (is_identical rr other) isnt refl (All-head (λ x. record_number x ≡ record_number rr → may rr ≡ true) other before rivals) j
      || without-rival before isnt (All-tail (λ x. record_number x ≡ record_number rr → may rr ≡ true) other before rivals) j)

  -- a record that may have a rival is looked for among those that may, and any other is the first
  pub first-known : (before : List Rr) → All (λ other. record_number other ≡ record_number rr → may rr ≡ true) before → (b : Bool) → may rr ≡ b
      → (b && list_any (λ other. may other && has_identity other (is_identical rr other)) before) ≡ list_any (is_identical rr) before
  first-known before rivals true is_so = among-rivals before is_so
  first-known before rivals false isnt = sym (without-rival before isnt rivals)
