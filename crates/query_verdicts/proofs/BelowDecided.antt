-- Whether the class below a name has a representative is decided: some label is free, and the name with the first free one
-- isn't too long.
use Rattle.std.proofs.Common.{◌≡◌, ℕ, ◌<◌, ◌≤◌, List, [], ◌∷◌, ◌++◌, Contains, refl, ap, ◌∙◌, inl, inr, arith}
use Rattle.std.proofs.lemmas.Bool.{cases_lt}
use Rattle.dns_data.specs.Label.{IsLabel}
use Rattle.dns_data.specs.Name.{Labels, IsName, wire_octets}
use Rattle.dns_data.proofs.Names.{is_label, is_label_tells, is_label_told, name_append}
use Rattle.dns_data.proofs.OrderedLists.{neither_before}
use Rattle.label_graph.specs.LiveSet.{IsClosed, IsLiveSet}
use Rattle.net_model.specs.declared.class.Class.TheVariants.{Below}
use Rattle.net_model.specs.Class.{trial_cmp, IsFirstUnnamed, IsRepresentative, StandsBelow}
use Rattle.net_model.specs.Reading.{Ground, IsNamed}
use Rattle.net_model.proofs.FirstLabel.{words, label_among}
use Rattle.net_model.proofs.TrialOrder.{exact_trials, trials_total}
use Rattle.query_classes.proofs.FirstFree.{first_free}
use Rattle.query_classes.proofs.Partition.{named_or_not}
use Rattle.query_classes.proofs.Decided.{Decided, by_test, both, not_so, any_of}

module _ (ground : Ground) (closed : IsClosed ground) (live : (name : Labels) → (places : List ℕ) × IsLiveSet ground name places) (above : Labels) where
  -- the label is free below the name
  abbrev IsFree : List ℕ → Type 0
  IsFree label = IsLabel label × (IsNamed ground (above ++ label ∷ []) → ⊥)

  free_decided : Decided ((label : List ℕ) × Contains (words 256 63) label × IsFree label)
  free_decided =
      any_of IsFree
      (λ label. both (by_test (is_label label) (is_label_tells label) (is_label_told label))
      (not_so (named_or_not ground closed live (above ++ label ∷ []))))
      (words 256 63)

  -- two labels that are each the first free one are one
  one_first : (a b : List ℕ) → IsFirstUnnamed ground above a → IsFirstUnnamed ground above b → a ≡ b
  one_first a b one other =
      neither_before trial_cmp trials_total exact_trials a b
      (λ before. one.unnamed (other.first a one.is_label before)) (λ before. other.unnamed (one.first b other.is_label before))

  -- whether the class below a name has a representative is decided
  pub below_decided : IsName above → Decided ((query : Labels) × IsRepresentative ground (Below above) query)
  below_decided is = by free_decided where
    too_long : (first : List ℕ) → IsFirstUnnamed ground above first → 255 < wire_octets (above ++ first ∷ [])
        → (query : Labels) → StandsBelow ground above query → ⊥
    too_long first is_first long query stands =
        let same : query ≡ above ++ first ∷ [] =
        stands.extends ∙ ap (λ (label : List ℕ). above ++ label ∷ []) (one_first stands.label first stands.first is_first) in
        let short : wire_octets query ≤ 255 = stands.is_name.short in
        omega (arith, ap wire_octets same)

    by_octets : (first : List ℕ) → IsFirstUnnamed ground above first → Decided ((query : Labels) × IsRepresentative ground (Below above) query)
    by_octets first is_first =
        elim (cases_lt 255 (wire_octets (above ++ first ∷ []))) [
          | inl long ↦ inr (λ (query, stands). too_long first is_first long query stands)
          | inr short ↦ inl (
            above ++ first ∷ [],
            record {
              label = first;
              first = is_first;
              extends = refl;
              is_name = name_append above (first ∷ []) is.labels (is_first.is_label, tt) short;
            },
          )
        ]

    by : Decided ((label : List ℕ) × Contains (words 256 63) label × IsFree label) → Decided ((query : Labels) × IsRepresentative ground (Below above) query)
    by (inr none) =
        inr (λ (query, stands). none (stands.label, label_among 63 stands.label stands.first.is_label stands.first.is_label.short, (stands.first.is_label, stands.first.unnamed)))
    by (inl (label, has, (is_label, unnamed))) =
        let (first, is_first) = first_free ground closed above (live above).0 (live above).1 label is_label unnamed in by_octets first is_first
