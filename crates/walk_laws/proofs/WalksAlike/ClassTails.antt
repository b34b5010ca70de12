-- Below a class's name, the labels of a member and the label of the representative are unnamed tails, and the
-- representative isn't longer.
use Rattle.std.proofs.Common.{◌≡◌, ℕ, ◌+◌, ◌≤◌, List, [], ◌∷◌, ◌++◌, length, flat_map, Contains, sym, refl, ◌∙◌, subst, inl, inr, arith, append_assoc, append-nil, length-append}
use Rattle.std.specs.List.{AllByRecursion}
use Rattle.std.proofs.lemmas.Bool.{cases_lt}
use Rattle.std.proofs.lemmas.List.Sums.{sum_by-cons}
use Rattle.dns_data.specs.Label.{IsLabel}
use Rattle.dns_data.specs.Name.{Labels, IsName, wire_octets}
use Rattle.dns_data.proofs.Membership.{first_or_later, from_flat_map}
use Rattle.dns_data.proofs.NameFronts.{octets_below, octets_with_label}
use Rattle.net_model.specs.declared.class.Class.TheVariants.{Below}
use Rattle.net_model.specs.declared.config.Config.{Config}
use Rattle.net_model.specs.Class.{IsClassOf, IsRepresentative}
use Rattle.net_model.specs.Prefix.{prefixes}
use Rattle.net_model.specs.Reading.{Redirection, ReadsAlong, Ground, IsNamed, Covers, redirections_of, origins_and_owners, ground_of}
use Rattle.net_model.specs.Tails.{AreTails, IsUnnamedTail}
use Rattle.net_model.proofs.FirstLabel.{label_of_name, shorter_first}
use Rattle.net_model.proofs.Prefixes.{from_prefixes}

-- readings by some redirections are readings by more
reads_by_more : (some more : List Redirection) → ((redirection : Redirection) → Contains some redirection → Contains more redirection)
    → (name : Labels) (between : List Labels) (last : Labels) → ReadsAlong some name between last → ReadsAlong more name between last
reads_by_more some more within name [] last e = e
reads_by_more some more within name (next ∷ rest) last (once, on) = (
  record {
    redirection = once.redirection;
    among = within once.redirection once.among;
    below = once.below;
    before = once.before;
    after = once.after;
  },
  reads_by_more some more within next rest last on,
)

-- what is named by a configuration alone is named under every ground that covers it
pub named_everywhere : (config : Config) (ground : Ground) → Covers ground config → (name : Labels) → IsNamed (ground_of config) name → IsNamed ground name
named_everywhere config ground covers name named =
    record {
      base = named.base;
      among = by named.base named.among;
      reads = (named.reads.0, reads_by_more (redirections_of config) ground.redirections covers.dnames name named.reads.0 named.base named.reads.1);
    }
  where
    by : (base : Labels) → Contains (ground_of config).names base → Contains ground.names base
    by base has =
        elim (first_or_later [] (flat_map prefixes (origins_and_owners config)) base has) [
          | inl root ↦ subst (Contains ground.names) root covers.root
          | inr later ↦ (
              let of = from_flat_map prefixes (origins_and_owners config) base later in
              let begins = from_prefixes of.0 base of.2 in
              covers.prefixes base begins.0 (subst (Contains ground.names) (sym begins.1) (covers.named_in_config of.0 of.1)))
        ]

-- the name is another one with labels below, the first of which makes an unnamed name
pub record UnnamedBelow (ground : Ground) (above name : Labels) : Type 0 where
  pub first : List ℕ
  pub rest : Labels
  pub is : name ≡ above ++ first ∷ rest
  pub unnamed : IsNamed ground (above ++ first ∷ []) → ⊥

-- a member of a class below a name has labels below that name, the first of which the ground doesn't name there
pub member_below : (ground : Ground) (above query : Labels) → IsClassOf ground query (Below above) → UnnamedBelow ground above query
member_below ground above query (unnamed, member) = by member.below member.prefix where
  longer_unnamed : (label : List ℕ) (rest : Labels) → query ≡ above ++ label ∷ rest → IsNamed ground (above ++ label ∷ []) → ⊥
  longer_unnamed label rest e named =
      let long : length (above ++ label ∷ []) ≤ length above =
      member.longest (above ++ label ∷ []) rest (e ∙ sym (append_assoc above (label ∷ []) rest)) named in
      omega (arith, length-append above (label ∷ []))

  by : (below : Labels) → query ≡ above ++ below → UnnamedBelow ground above query
  by [] e = absurd (unnamed (subst (IsNamed ground) (sym (e ∙ append-nil above)) member.named))
  by (label ∷ rest) e = record { first = label; rest = rest; is = e; unnamed = longer_unnamed label rest e }

-- labels below a name, the first of which the ground doesn't name there, are an unnamed tail, if the ground names what
-- the configuration names
pub tail_of : (config : Config) (ground : Ground) → ((name : Labels) → IsNamed (ground_of config) name → IsNamed ground name)
    → (above name : Labels) → (below : UnnamedBelow ground above name) → IsUnnamedTail config above (below.first ∷ below.rest)
tail_of config ground told above name below =
    record { first = below.first; rest = below.rest; is = refl; unnamed = λ named. below.unnamed (told (above ++ below.first ∷ []) named) }

-- a member of a class below a name and its representative are that name with two unnamed tails, under a ground that
-- names what the configuration names
pub tails_in_class : (config : Config) (ground : Ground) → ((name : Labels) → IsNamed (ground_of config) name → IsNamed ground name)
    → (above query representative : Labels) → IsName query
    → IsClassOf ground query (Below above) → IsRepresentative ground (Below above) representative
    → (own other : Labels) × (query ≡ above ++ own) × (representative ≡ above ++ other) × AreTails config above own other
tails_in_class config ground told above query representative is of_class stands =
    by (member_below ground above query of_class)
  where
    no_longer : (below : UnnamedBelow ground above query)
        → wire_octets (above ++ stands.label ∷ []) ≤ wire_octets (above ++ below.first ∷ below.rest)
    no_longer below =
        elim (cases_lt (length below.first) (length stands.label)) [
          | inl less ↦ absurd (below.unnamed
              (stands.first.first below.first (label_of_name above below.first below.rest (subst (AllByRecursion IsLabel) below.is is.labels))
              (shorter_first below.first stands.label less)))
          | inr fits ↦ omega (
            arith,
            octets_with_label above stands.label,
            octets_below above (below.first ∷ below.rest),
            sum_by-cons (λ (x : List ℕ). length x + 1) below.first below.rest,
          )
        ]

    by : UnnamedBelow ground above query
        → (own other : Labels) × (query ≡ above ++ own) × (representative ≡ above ++ other) × AreTails config above own other
    by below = (
      below.first ∷ below.rest,
      stands.label ∷ [],
      below.is,
      stands.extends,
      record {
        of_own = tail_of config ground told above query below;
        of_other = record {
          first = stands.label;
          rest = [];
          is = refl;
          unnamed = λ named. stands.first.unnamed (told (above ++ stands.label ∷ []) named);
        };
        no_longer = no_longer below;
      },
    )

-- under every ground that covers the configuration a member of a class below a name and the class's representative are
-- that name with two unnamed tails, the representative's with no more octets. What follows a class's name in a member
-- is unnamed (member_below); so is the representative's label, by its definition. It isn't longer than the member's
-- rest, since shorter labels are tried first (FirstLabel.shorter_first). What a configuration names, a ground that
-- covers it names too (named_everywhere).
pub class_tails : (config : Config) (ground : Ground) → Covers ground config → (above query representative : Labels) → IsName query
    → IsClassOf ground query (Below above) → IsRepresentative ground (Below above) representative
    → (own other : Labels) × (query ≡ above ++ own) × (representative ≡ above ++ other) × AreTails config above own other
class_tails config ground covers = tails_in_class config ground (named_everywhere config ground covers)
