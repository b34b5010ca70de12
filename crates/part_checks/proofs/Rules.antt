-- Names that keep all rules meet the conditions of a part record by record, and hold the own names of the whole.
use Rattle.std.proofs.Common.{◌≡◌, ◌∙◌, true, [], ◌∷◌, ◌++◌, length, Contains, sym, ap, subst, inl, inr, arith, append_assoc}
use Rattle.std.proofs.lemmas.List.{length-append}
use Rattle.dns_data.specs.Name.{Labels}
use Rattle.net_model.specs.Configured.{KeepsWithin}
use Rattle.net_model.specs.Reading.{ground_of, zones}
use Rattle.net_model.specs.declared.config.Config.{Config}
use Rattle.net_model.specs.declared.config.Zone.{Zone}
use Rattle.part_laws.specs.RecordByRecord.{IsHeldOrAway, MeetsEach}
use Rattle.part_laws.proofs.NamesAlike.{from_based}
use Rattle.part_laws.proofs.WithPrefixes.{root_there, prefixes_there, met_there}
use Rattle.part_names.specs.PartNames.{is_own}
use Rattle.part_names.specs.declared.names.PartNames.{PartNames}
use Rattle.part_checks.specs.Parts.{held_by}
use Rattle.part_checks.specs.Rules.{IsHeldOrLeavesAtAway, Keeps}
use Rattle.part_checks.specs.declared.fault.PartRule.{PartRule}
use Rattle.part_checks.specs.declared.fault.PartRule.TheVariants.{Met, Exists, Short, Apart, Alias, Redirects, Referral, Own, Away}

module _ (whole : Config) (names : PartNames) (keeps : (rule : PartRule) → Keeps whole names rule) where
  -- what is told as away is no base name of the whole where a name leaves the held ones
  told_away : (name : Labels) → IsHeldOrLeavesAtAway names name → IsHeldOrAway whole (held_by names) name
  told_away name (inl held) = inl held
  told_away name (inr told) =
      inr (record {
        above = told.above;
        label = told.label;
        leaves = told.leaves;
        away = λ based. elim (from_based whole (told.above ++ told.label ∷ []) based) [
          | inl root ↦ omega (arith, ap (λ (n : Labels). length n) root, length-append told.above (told.label ∷ []))
          | inr (start, among, (below, is)) ↦ keeps Away told.above told.label (record {
            start = start;
            among = among;
            leaves = record {
              below = below;
              is = sym is ∙ append_assoc told.above (told.label ∷ []) below;
              held = told.leaves.held;
              not_held = told.leaves.not_held;
            };
          }) told.told
        ];
      })

  -- own base names are held
  pub own_held : (name : Labels) → Contains (ground_of whole).names name → is_own names name ≡ true → Contains (held_by names) name
  own_held name based own =
      elim (from_based whole name based) [
        | inl root ↦ subst (Contains (held_by names)) root (root_there names.held)
        | inr (start, among, (below, is)) ↦ keeps Own start among name below (sym is) own
      ]

  -- the conditions are met
  pub meets_each : ((zone : Zone) → Contains (zones whole) zone → KeepsWithin zone) → MeetsEach whole (held_by names)
  meets_each within =
      record {
        root = root_there names.held;
        prefixes = prefixes_there names.held;
        met = met_there names.held whole (keeps Met);
        within = λ zone rr has. within zone has.of_config rr has.of_zone;
        exist = keeps Exists;
        short = λ name has above label leaves. keeps Short above label (record { start = name; among = has; leaves = leaves });
        apart = λ name has above label leaves. keeps Apart above label (record { start = name; among = has; leaves = leaves });
        aliases = λ zone rr target has is. told_away target (keeps Alias zone rr target has is);
        targets = λ redirection left. told_away redirection.target (keeps Redirects redirection left);
        glue = λ zone rr ns has differ is inside.
            told_away ns (keeps Referral ns (record { zone = zone; rr = rr; left = has; below = differ; is = is; matters = inl inside }));
        learnt = λ zone rr ns has differ is configured top.
            told_away ns (keeps Referral ns (record { zone = zone; rr = rr; left = has; below = differ; is = is; matters = inr (configured, top) }));
      }
