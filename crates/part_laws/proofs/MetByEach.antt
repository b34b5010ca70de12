-- Names that meet the conditions record by record make a part.
use Rattle.std.proofs.Common.{◌≡◌, ◌∙◌, ℕ, true, false, List, [], ◌∷◌, ◌++◌, length, Contains, sym, ap, subst, inl, inr, arith, append_assoc, append-nil, length-append, true≢false}
use Rattle.std.proofs.lemmas.Bool.{and_parts, or_cases, or_left}
use Rattle.dns_data.specs.Name.{Labels, name_eq, is_among, is_prefix}
use Rattle.dns_data.specs.declared.rdata.Rr.{Rr}
use Rattle.dns_data.proofs.Membership.{filter_has, from_flat_map}
use Rattle.dns_data.proofs.NameFronts.{Begins, is_prefix_tells, is_prefix_told, two_fronts}
use Rattle.dns_data.proofs.Searches.{from_any}
use Rattle.net_model.specs.declared.config.Config.{Config}
use Rattle.net_model.specs.declared.config.Zone.{Zone}
use Rattle.net_model.specs.Reading.{Redirection, records, redirection_of, redirections_of, origins_and_owners, ground_of, zones}
use Rattle.net_model.specs.Zone.{exists_in}
use Rattle.net_model.proofs.Descent.{owner_below_exists, prefix_exists}
use Rattle.net_model.proofs.Naming.{is_listed, from_listed}
use Rattle.part_laws.specs.Part.{restricted_zone, restricted, IsLocal, HasShorterUnnamed, IsPart}
use Rattle.part_laws.specs.RecordByRecord.{LeavesAt, IsHeldOrAway, MeetsEach}
use Rattle.part_laws.proofs.Fronts.{LongestFront, longest_front}
use Rattle.part_laws.proofs.LocalNames.{held_or_not, local_held, above_based}
use Rattle.part_laws.proofs.LookupsAlike.{front_with_label}
use Rattle.net_model.proofs.JoinedNames.{owner_is}
use Rattle.part_laws.proofs.NamesAlike.{from_based, from_record_left}

-- what begins a name begins it after its last label
longer_end : (above : Labels) (label : List ℕ) (below : Labels) → Begins (above ++ label ∷ below) above → ⊥
longer_end above label below (rest, e) =
    omega (arith, ap length e, length-append (above ++ label ∷ below) rest, length-append above (label ∷ below))

module _ (config : Config) (names : List Labels) (meets : MeetsEach config names) where
  -- a name that isn't held leaves the held names somewhere, at or below each of its prefixes that is held
  pub record LeavesSomewhere (name : Labels) : Type 0 where
    pub above : Labels
    pub label : List ℕ
    pub leaves : LeavesAt names name above label
    pub all : (top rest : Labels) → top ++ rest ≡ name → Contains names top → Begins top above

  leaves_somewhere : (name : Labels) → (Contains names name → ⊥) → LeavesSomewhere name
  leaves_somewhere name out = by front.begins.0 front.begins.1 where
    front : LongestFront (is_among names) name
    front =
        longest_front name (is_among names) (λ above below e. is_listed names above (meets.prefixes above below (from_listed names (above ++ below) e)))
        (is_listed names [] meets.root)

    held : Contains names front.above
    held = from_listed names front.above front.passes

    by : (rest : Labels) → front.above ++ rest ≡ name → LeavesSomewhere name
    by [] e = absurd (out (subst (Contains names) (sym (append-nil front.above) ∙ e) held))
    by (label ∷ below) e =
        record {
          above = front.above;
          label = label;
          leaves = record {
            below = below;
            is = sym e;
            held = held;
            not_held = λ longer. longer_end front.above label []
                (front.all (front.above ++ label ∷ []) below (append_assoc front.above (label ∷ []) below ∙ e) (is_listed names (front.above ++ label ∷ []) longer));
          };
          all = λ top rest is among. front.all top rest is (is_listed names top among);
        }

  -- a told name is local
  held_or_away_local : (name : Labels) → IsHeldOrAway config names name → IsLocal config names name
  held_or_away_local name (inl held) = record { held = λ above below e based. meets.prefixes above below (subst (Contains names) (sym e) held) }
  held_or_away_local name (inr leaves) =
      record {
        held = λ top rest e based. elim (held_or_not names top) [
          | inl held ↦ held
          | inr out ↦ absurd (outside top rest e based out)
        ];
      }
    where
      at : LeavesAt names name leaves.above leaves.label
      at = leaves.leaves

      -- a prefix that isn't held is at or below where the name leaves
      outside : (top rest : Labels) → top ++ rest ≡ name → Contains (ground_of config).names top → (Contains names top → ⊥) → ⊥
      outside top rest e based out =
          elim (two_fronts top rest (leaves.above ++ leaves.label ∷ []) at.below
          (e ∙ at.is ∙ sym (append_assoc leaves.above (leaves.label ∷ []) at.below))) [
            | inl (below, is) ↦ elim (front_with_label top below leaves.above leaves.label is) [
              | inl whole ↦ leaves.away (subst (Contains (ground_of config).names) whole based)
              | inr (more, same) ↦ out (meets.prefixes top more (subst (Contains names) (sym same) at.held))
            ]
            | inr (below, is) ↦ leaves.away (above_based config (leaves.above ++ leaves.label ∷ []) below (subst (Contains (ground_of config).names) (sym is) based))
          ]

  -- the held names that a record keeps: a held name that exists in a zone exists in what is left of it
  exists_left : (zone : Zone) (name : Labels) → Contains (zones config) zone → Contains names zone.origin → Contains names name
      → exists_in zone name ≡ true → exists_in (restricted_zone names zone) name ≡ true
  exists_left zone name has origin held exists =
      elim (or_cases (name_eq name zone.origin) _ exists) [
        | inl is ↦ or_left (name_eq name zone.origin) _ is
        | inr owned ↦ (
            let parts = and_parts (is_prefix zone.origin name) _ owned in
            let (rr, inside, begins) = from_any (λ (rr : Rr). is_prefix name rr.owner) zone.rrs parts.1 in
            elim (held_or_not names rr.owner) [
              | inl among_left ↦ owner_below_exists (restricted_zone names zone) name rr parts.0
                  (filter_has (λ (r : Rr). is_among names r.owner) zone.rrs rr inside (is_listed names rr.owner among_left)) begins
              | inr out ↦ (
                  let leaves = leaves_somewhere rr.owner out in
                  let (rest, e) = is_prefix_tells name rr.owner begins in
                  let (below, is) = leaves.all name rest e held in
                  prefix_exists (restricted_zone names zone) name below parts.0
                  (subst (λ (x : Labels). exists_in (restricted_zone names zone) x ≡ true) (sym is)
                  (meets.exist zone rr (record { of_config = has; of_zone = inside }) origin leaves.above leaves.label leaves.leaves)))
            ])
      ]

  -- an origin or owner at or below a base name
  start_of : (above : Labels) (label : List ℕ) → Contains (ground_of config).names (above ++ label ∷ [])
      → (start : Labels) × Contains (origins_and_owners config) start × Begins (above ++ label ∷ []) start
  start_of above label based = elim (from_based config (above ++ label ∷ []) based) [
    | inl root ↦ absurd (omega (arith, ap length root, length-append above (label ∷ [])))
    | inr start ↦ start
  ]

  -- a base name that isn't held: the origin or owner below it leaves the held names as it does
  same_leaves : (above : Labels) (label : List ℕ) (start : Labels) → Contains names above → (Contains names (above ++ label ∷ []) → ⊥)
      → Begins (above ++ label ∷ []) start → LeavesAt names start above label
  same_leaves above label start held out (below, e) =
      record { below = below; is = sym e ∙ append_assoc above (label ∷ []) below; held = held; not_held = out }

  short_left : (above : Labels) (label : List ℕ) → Contains names above → Contains (ground_of config).names (above ++ label ∷ [])
      → (Contains names (above ++ label ∷ []) → ⊥) → HasShorterUnnamed (ground_of (restricted names config)) above (length label)
  short_left above label held based out =
      let (start, among, begins) = start_of above label based in
      meets.short start among above label (same_leaves above label start held out begins)

  -- all names at or below a local name are local, where no place at which a base name leaves the held names is at or below
  -- it
  below_local : (name : Labels) → IsLocal config names name
      → ((start : Labels) → Contains (origins_and_owners config) start → (above : Labels) (label : List ℕ) → LeavesAt names start above label
      → is_prefix name above ≡ false)
      → (below : Labels) → IsLocal config names (name ++ below)
  below_local name local apart below =
      record {
        held = λ top rest e based. elim (held_or_not names top) [
          | inl held ↦ held
          | inr out ↦ elim (two_fronts top rest name below e) [
            | inl (more, is) ↦ local.held top more is based
            | inr (more, is) ↦ absurd (outside top more is based out)
          ]
        ];
      }
    where
      outside : (top more : Labels) → name ++ more ≡ top → Contains (ground_of config).names top → (Contains names top → ⊥) → ⊥
      outside top more is based out =
          let leaves = leaves_somewhere top out in
          let at = leaves.leaves in
          let name_based = above_based config name more (subst (Contains (ground_of config).names) (sym is) based) in
          let begins = leaves.all name more is (local_held config names name local name_based) in
          let next_based =
          above_based config (leaves.above ++ leaves.label ∷ []) at.below
          (subst (Contains (ground_of config).names) (at.is ∙ sym (append_assoc leaves.above (leaves.label ∷ []) at.below)) based) in
          let (start, among, front) = start_of leaves.above leaves.label next_based in
          true≢false
          (sym (is_prefix_told name leaves.above begins)
          ∙ apart start among leaves.above leaves.label (same_leaves leaves.above leaves.label start at.held at.not_held front))

  -- the owner of a redirection that is left is held
  redirection_held : (redirection : Redirection) → Contains (redirections_of (restricted names config)) redirection → Contains names redirection.owner
  redirection_held redirection has =
      let (rr, among, is) = from_flat_map (λ (r : Rr). redirection_of r.owner r.rdata) (records (restricted names config)) redirection has in
      subst (Contains names) (sym (owner_is rr.owner rr.rdata redirection is)) (from_record_left config names rr among).owner

  -- names of which each record meets the conditions make a part
  pub met_by_each : IsPart config names
  met_by_each =
      record {
        root = meets.root;
        prefixes = meets.prefixes;
        met = meets.met;
        within = meets.within;
        exist = exists_left;
        short = short_left;
        aliases = λ zone rr target has is. held_or_away_local target (meets.aliases zone rr target has is);
        owners = λ redirection below has. below_local redirection.owner (held_or_away_local redirection.owner (inl (redirection_held redirection has)))
            (λ start among above label leaves. (meets.apart start among above label leaves redirection has).0) below;
        targets = λ redirection below has. below_local redirection.target (held_or_away_local redirection.target (meets.targets redirection has))
            (λ start among above label leaves. (meets.apart start among above label leaves redirection has).1) below;
        glue = λ zone rr ns has apart is inside. held_or_away_local ns (meets.glue zone rr ns has apart is inside);
        learnt = λ zone rr ns has apart is configured no_top. held_or_away_local ns (meets.learnt zone rr ns has apart is configured no_top);
      }
