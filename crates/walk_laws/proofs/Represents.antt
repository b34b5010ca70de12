-- A query that represents its class under a configuration's own ground represents its class under every ground that covers
-- the configuration.
use Rattle.std.proofs.Common.{◌≡◌, ◌≤◌, [], ◌∷◌, ◌++◌, length, take, take_at, sym, refl, ap, ◌∙◌, subst, arith, append-nil, length-append}
use Rattle.dns_data.specs.Name.{Labels}
use Rattle.net_model.specs.declared.class.Class.{Class}
use Rattle.net_model.specs.declared.class.Class.TheVariants.{Exact, Below}
use Rattle.net_model.specs.declared.config.Config.{Config}
use Rattle.net_model.specs.Class.{IsClassOf, IsLongestNamed, IsRepresentative, StandsBelow}
use Rattle.net_model.specs.Reading.{Ground, IsNamed, Covers, ground_of}
use Rattle.net_model.specs.Shown.{Represents}
use Rattle.walk_laws.proofs.WalksAlike.ClassTails.{named_everywhere}

module _ (config : Config) (ground : Ground) (covers : Covers ground config) where
  -- Below a name of the configuration the query stands for its class, and the ground doesn't name it. Then the name is the
  -- longest that the ground names too, and the labels that are tried before the query's are named there too.
  still_stands : (above query : Labels) → (IsNamed ground query → ⊥) → IsLongestNamed ground query above
      → (own : Labels) → IsNamed (ground_of config) own → StandsBelow (ground_of config) own query → StandsBelow ground above query
  still_stands above query unnamed longest own named stands =
      by longest.below longest.prefix (longest.longest own (stands.label ∷ []) stands.extends (named_everywhere config ground covers own named))
    where
      by : (below : Labels) → query ≡ above ++ below → length own ≤ length above → StandsBelow ground above query
      by [] e long = absurd (unnamed (subst (IsNamed ground) (sym (e ∙ append-nil above)) longest.named))
      by (label ∷ rest) e long =
          let size : length above ≡ length own =
          omega (arith, long, ap length (sym stands.extends ∙ e), length-append above (label ∷ rest), length-append own (stands.label ∷ [])) in
          let same : own ≡ above =
          sym (take_at own (stands.label ∷ []) (length own) refl) ∙ ap (take (length own)) (sym stands.extends ∙ e) ∙ take_at above (label ∷ rest) (length own) size in
          subst (λ (name : Labels). StandsBelow ground name query) same (record {
            label = stands.label;
            first = record {
              is_label = stands.first.is_label;
              unnamed = λ has. unnamed (subst (IsNamed ground) (sym stands.extends) has);
              first = λ other is less. named_everywhere config ground covers (own ++ other ∷ []) (stands.first.first other is less);
            };
            extends = stands.extends;
            is_name = stands.is_name;
          })

  -- A query that represents its class under the configuration's own ground is the representative of its class under the
  -- ground that covers the configuration. Where this ground names the query, its class is of this name alone, and it stands
  -- for itself. Else the own ground doesn't name it either, since what the configuration names the ground names
  -- (ClassTails.named_everywhere); so the query stands below a longest name that the configuration names. That name is the
  -- longest that the ground names too, and the label below it is the first there that the ground doesn't name
  -- (still_stands).
  pub represents_everywhere : (class : Class) (query : Labels) → IsClassOf ground query class → Represents config query
      → IsRepresentative ground class query
  represents_everywhere (Exact alone) query of_class represents = sym of_class.0
  represents_everywhere (Below above) query of_class (Exact alone, own, stands) = absurd (of_class.0 (named_everywhere config ground covers query own.1))
  represents_everywhere (Below above) query of_class (Below top, own, stands) = still_stands above query of_class.0 of_class.1 top own.1.named stands
