-- The first entries of what was read of reports are those of the first entries that were written.
use Rattle.std.proofs.Common.{◌≡◌, ◌∙◌, List, [], ◌∷◌, map, Contains, AllPairs, sym, refl, ap, ap₂, subst, inl, inr, arith}
use Rattle.std.specs.declared.cmp.Ordering.TheVariants.{Less}
use Rattle.std.proofs.lemmas.List.Kept.{AllPairs-cons}
use Rattle.dns_data.proofs.Membership.{none_in_nil, has_first, has_later, first_or_later, map_has, from_map, all_from_contains, pairs_first, pairs_rest}
use Rattle.graph_form.specs.FirstFaults.{AreFirsts, IsRanked}
use Rattle.net_model.specs.Class.{class_cmp}
use Rattle.net_model.specs.FaultOrder.{fault_cmp}
use Rattle.part_form.specs.Merging.{stated_fault, stated_order}
use Rattle.part_form.specs.PartText.{ClassedEntry}
use Rattle.part_form.specs.Stated.{EntryStated}
use Rattle.part_form.specs.Written.{entry_read}
use Rattle.part_reports.specs.Gathered.{entry_fault, class_order}

-- items of which each two images are related are related by their images
pairs_back : {A B : Type 0} (f : A → B) (R : B → B → Type 0) (xs : List A) → AllPairs R (map f xs) → AllPairs (λ a b. R (f a) (f b)) xs
pairs_back f R [] pairs = λ i j d before within. absurd (omega arith)
pairs_back f R (x ∷ xs) pairs =
    AllPairs-cons (λ a b. R (f a) (f b)) x xs
    (all_from_contains (λ b. R (f x) (f b)) xs (λ y has. pairs_first R (f x) (map f xs) pairs (f y) (map_has f xs y has)))
    (pairs_back f R xs (pairs_rest R (f x) (map f xs) pairs))

-- the fault of one entry is before that of the other
abbrev Earlier : EntryStated → EntryStated → Type 0
Earlier a b = fault_cmp a.fault b.fault ≡ Less

module _ (written : List ClassedEntry) where
  -- written entries of which these were read
  record Chosen (first : List EntryStated) : Type 0 where
    pub gathered : List ClassedEntry
    pub read : map entry_read gathered ≡ first
    pub from : (classed : ClassedEntry) → Contains gathered classed → Contains written classed

  choose : (first : List EntryStated) → ((entry : EntryStated) → Contains first entry → Contains (map entry_read written) entry) → Chosen first
  choose [] inside = record { gathered = []; read = refl; from = λ classed has. absurd (none_in_nil classed has) }
  choose (entry ∷ first) inside =
      let (classed, among, is) = from_map entry_read written entry (inside entry (has_first entry first)) in
      let rest = choose first (λ other has. inside other (has_later entry first other has)) in
      record {
        gathered = classed ∷ rest.gathered;
        read = ap₂ (λ (e : EntryStated) (es : List EntryStated). e ∷ es) is rest.read;
        from = λ other has. elim (first_or_later classed rest.gathered other has) [
          | inl own ↦ subst (Contains written) own among
          | inr later ↦ rest.from other later
        ];
      }

  -- the first entries that were written
  pub record FirstWritten (first : List EntryStated) : Type 0 where
    pub gathered : List ClassedEntry
    pub read : map entry_read gathered ≡ first
    pub are : AreFirsts entry_fault class_order written gathered

  pub first_written : (first : List EntryStated) → AreFirsts stated_fault stated_order (map entry_read written) first → FirstWritten first
  first_written first firsts =
      record { gathered = chosen.gathered; read = chosen.read; are = record { ordered = ordered; from = chosen.from; covers = covers } }
    where
      chosen : Chosen first
      chosen = choose first firsts.from

      ordered : AllPairs (λ a b. fault_cmp (entry_fault a) (entry_fault b) ≡ Less) chosen.gathered
      ordered = pairs_back entry_read Earlier chosen.gathered (subst (AllPairs Earlier) (sym chosen.read) firsts.ordered)

      covers : (classed : ClassedEntry) → Contains written classed → IsRanked entry_fault class_order chosen.gathered classed
      covers classed has =
          let ranked = firsts.covers (entry_read classed) (map_has entry_read written classed has) in
          let (by, stands, told) = from_map entry_read chosen.gathered ranked.by
          (subst (λ (es : List EntryStated). Contains es ranked.by) (sym chosen.read) ranked.has) in
          record {
            by = by;
            has = stands;
            fault_is = ap (λ (e : EntryStated). e.fault) told ∙ ranked.fault_is;
            not_later = λ less. ranked.not_later (ap (class_cmp classed.class) (sym (ap (λ (e : EntryStated). e.class) told)) ∙ less);
          }
