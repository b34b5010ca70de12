-- Three parts that answer for a zone with two delegations, an alias and a redirection. The first and the third hold the
-- redirection.
use Rattle.std.proofs.Common.{◌≡◌, true, List, [], ◌∷◌, Contains, Option, Some, None, refl, subst, inl, inr, arith}
use Rattle.std.specs.Prelude.{codes}
use Rattle.std.specs.List.{list_all}
use Rattle.dns_data.specs.Name.{Labels, is_among, AreInOrder}
use Rattle.dns_data.specs.Label.{IsLabel}
use Rattle.dns_data.proofs.Membership.{none_in_nil, first_or_later}
use Rattle.dns_data.proofs.NameOrder.{Before, pairs_from_rising}
use Rattle.dns_data.proofs.Searches.{each_of_all}
use Rattle.net_model.specs.Reading.{ground_of}
use Rattle.net_model.proofs.Naming.{from_listed}
use Rattle.part_laws.specs.Part.{IsPart}
use Rattle.part_laws.proofs.Tested.{implies, so, part_told}
use Rattle.part_laws.proofs.Words.{t, www, from, goal, xx_goal, near, ns_near, far, ns_far, z_t, two_delegations}
use Rattle.part_reports.specs.Bounds.{is_within}
use Rattle.part_reports.specs.Owned.{AnswerForAll}
use Rattle.part_reports.specs.PartReport.{PartReport}
use Rattle.part_reports.proofs.ByBounds.{own_once}

-- the names part at near.t. and www.t.
abbrev cuts : List Labels
cuts = near ∷ www ∷ []

rising : AreInOrder cuts
rising =
    pairs_from_rising cuts (
      λ later has. elim (first_or_later www [] later has) [
        | inl same ↦ subst (Before near) same refl
        | inr none ↦ absurd (none_in_nil later none)
      ],
      (λ later has. absurd (none_in_nil later has), tt),
    )

abbrev part_of : List Labels → Option Labels → Option Labels → PartReport
part_of names from to =
    record { names = names; own = is_within (record { from = from; to = to }); tree = []; below = []; entries = [] }

abbrev first_names : List Labels
first_names = [] ∷ t ∷ far ∷ ns_far ∷ from ∷ goal ∷ xx_goal ∷ []

abbrev second_names : List Labels
second_names = [] ∷ t ∷ near ∷ ns_near ∷ []

abbrev third_names : List Labels
third_names = [] ∷ t ∷ from ∷ goal ∷ xx_goal ∷ www ∷ []

abbrev parts : List PartReport
parts = part_of first_names None (Some near) ∷ part_of second_names (Some near) (Some www) ∷ part_of third_names (Some www) None ∷ []

z_is_label : IsLabel (codes "z")
z_is_label = record { not_empty = omega arith; short = omega arith; octets = refl }

first_part : IsPart two_delegations first_names
first_part = part_told two_delegations first_names (codes "z") (z_t ∷ []) z_is_label refl

second_part : IsPart two_delegations second_names
second_part = part_told two_delegations second_names (codes "z") (z_t ∷ []) z_is_label refl

third_part : IsPart two_delegations third_names
third_part = part_told two_delegations third_names (codes "z") (z_t ∷ []) z_is_label refl

-- what holds of the three parts holds of each
each_part : (P : PartReport → Type 0) → P (part_of first_names None (Some near)) → P (part_of second_names (Some near) (Some www))
    → P (part_of third_names (Some www) None) → (part : PartReport) → Contains parts part → P part
each_part P one two three part has =
    elim (first_or_later (part_of first_names None (Some near)) (part_of second_names (Some near) (Some www) ∷ part_of third_names (Some www) None ∷ []) part has) [
      | inl same ↦ subst P same one
      | inr more ↦ elim (first_or_later (part_of second_names (Some near) (Some www)) (part_of third_names (Some www) None ∷ []) part more) [
        | inl same ↦ subst P same two
        | inr last ↦ elim (first_or_later (part_of third_names (Some www) None) [] part last) [
          | inl same ↦ subst P same three
          | inr none ↦ absurd (none_in_nil part none)
        ]
      ]
    ]

held_in : (part : PartReport) → list_all (λ name. implies (part.own name) (is_among part.names name)) (ground_of two_delegations).names ≡ true
    → (name : Labels) → Contains (ground_of two_delegations).names name → part.own name ≡ true → Contains part.names name
held_in part h name based own =
    from_listed part.names name
    (so (part.own name) (is_among part.names name)
    (each_of_all (λ n. implies (part.own n) (is_among part.names n)) (ground_of two_delegations).names h name based) own)

-- the three parts answer for the whole
three_parts : AnswerForAll two_delegations parts
three_parts =
    record {
      each = each_part (λ part. IsPart two_delegations part.names) first_part second_part third_part;
      once = λ name based. own_once cuts rising parts refl name;
      held = each_part
          (λ part. (name : Labels) → Contains (ground_of two_delegations).names name → part.own name ≡ true → Contains part.names name)
          (held_in (part_of first_names None (Some near)) refl) (held_in (part_of second_names (Some near) (Some www)) refl)
          (held_in (part_of third_names (Some www) None) refl);
    }
