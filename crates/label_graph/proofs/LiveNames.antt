-- The base names to which a name reads on, found label by label from the root: closed under redirections before each
-- next label, where what a target reads on to is known.
use Rattle.std.proofs.Common.{◌≡◌, ℕ, ◌⊎◌, List, [], ◌∷◌, ◌++◌, Contains, refl, sym, subst, append_assoc, append-nil, inl, inr}
use Rattle.dns_data.specs.Name.{Labels}
use Rattle.net_model.specs.Reading.{Redirection, ReadsAlong, ReadsOnTo, Ground, IsNamed}
use Rattle.label_graph.specs.LiveSet.{IsClosed}
use Rattle.label_graph.proofs.Readings.{reads_below, reads_then, reads_itself, owner_reads}

-- the name reads on to this base name
abbrev pub IsLive : Ground → Labels → Labels → Type 0
IsLive ground name base = Contains ground.names base × ReadsOnTo ground.redirections name base

-- K says what is known of which fronts of targets
module _ (ground : Ground) (K : Labels → Labels → Type 0) where
  -- the base names one label below those with the property
  abbrev pub Stepped : (Labels → Type 0) → List ℕ → Labels → Type 0
  Stepped P label base = Contains ground.names base × ((above : Labels) × P above × (base ≡ above ++ label ∷ []))

  -- the base names with the property, and what is known of the targets of redirections whose owners have it
  abbrev pub Closed : (Labels → Type 0) → Labels → Type 0
  Closed P base =
      P base ⊎ ((redirection : Redirection) × Contains ground.redirections redirection × P redirection.owner × K redirection.target base)

  -- the base names that are reached from those with the property by labels, closed under redirections before each
  abbrev pub ReachedFrom : (Labels → Type 0) → Labels → Labels → Type 0
  ReachedFrom P [] base = P base
  ReachedFrom P (label ∷ rest) base = ReachedFrom (Stepped (Closed P) label) rest base

  -- the base name is the root
  abbrev pub IsRoot : Labels → Type 0
  IsRoot base = base ≡ []

  -- the base name is in the live set that is found from the root along the labels of the name
  abbrev pub Live : Labels → Labels → Type 0
  Live name base = Closed (ReachedFrom IsRoot name) base

  closed_more : (P Q : Labels → Type 0) → ((base : Labels) → P base → Q base) → (base : Labels) → Closed P base → Closed Q base
  closed_more P Q more base (inl here) = inl (more base here)
  closed_more P Q more base (inr (redirection, among, owner, known)) = inr (redirection, among, more redirection.owner owner, known)

  -- what is closed within what is closed stays so label by label
  live_more : (P Q : Labels → Type 0) → ((base : Labels) → Closed P base → Closed Q base) → (labels base : Labels)
      → Closed (ReachedFrom P labels) base → Closed (ReachedFrom Q labels) base
  live_more P Q more [] base is = more base is
  live_more P Q more (label ∷ rest) base is =
      live_more (Stepped (Closed P) label) (Stepped (Closed Q) label)
      (closed_more (Stepped (Closed P) label) (Stepped (Closed Q) label)
      (λ b step. (step.0, (step.1.0, more step.1.0 step.1.1, step.1.2)))) rest base is

  -- in a row
  reached_on : (P : Labels → Type 0) (labels more base : Labels) → ReachedFrom P (labels ++ more) base → ReachedFrom (ReachedFrom P labels) more base
  reached_on P [] more base is = is
  reached_on P (label ∷ rest) more base is = reached_on (Stepped (Closed P) label) rest more base is

  reached_back : (P : Labels → Type 0) (labels more base : Labels) → ReachedFrom (ReachedFrom P labels) more base → ReachedFrom P (labels ++ more) base
  reached_back P [] more base is = is
  reached_back P (label ∷ rest) more base is = reached_back (Stepped (Closed P) label) rest more base is

  module _ (closed : IsClosed ground) where
    -- a base name is reached from its prefix
    base_reached : (P : Labels → Type 0) (front labels : Labels) → P front → Contains ground.names (front ++ labels)
        → ReachedFrom P labels (front ++ labels)
    base_reached P front [] is has = subst P (sym (append-nil front)) is
    base_reached P front (label ∷ rest) is has =
        let whole : (front ++ label ∷ []) ++ rest ≡ front ++ label ∷ rest = append_assoc front (label ∷ []) rest in
        let more : Contains ground.names ((front ++ label ∷ []) ++ rest) = subst (Contains ground.names) (sym whole) has in
        subst (ReachedFrom (Stepped (Closed P) label) rest) whole
        (base_reached (Stepped (Closed P) label) (front ++ label ∷ []) rest
        (closed.names.prefixes (front ++ label ∷ []) rest more, (front, inl is, refl)) more)

    -- T has the fronts of which something is known
    module _ (T : Labels → Type 0) (fronts : (above below : Labels) → T (above ++ below) → T above)
        (targets : (redirection : Redirection) → Contains ground.redirections redirection → T redirection.target)
        (known_root : T [] → K [] [])
        (known_step : (front base : Labels) (label : List ℕ) → K front base → T (front ++ label ∷ []) → Contains ground.names (base ++ label ∷ [])
        → K (front ++ label ∷ []) (base ++ label ∷ []))
        (known_join : (front : Labels) (redirection : Redirection) (base : Labels) → T front → Contains ground.redirections redirection
        → K front redirection.owner → K redirection.target base → K front base)
      where
        -- what is live at a front is known of it
        known_from : (P : Labels → Type 0) (front labels base : Labels) → ((b : Labels) → Closed P b → K front b) → T (front ++ labels)
            → Closed (ReachedFrom P labels) base → K (front ++ labels) base
        known_from P front [] base known is live = subst (λ (n : Labels). K n base) (sym (append-nil front)) (known base live)
        known_from P front (label ∷ rest) base known is live =
            let whole : (front ++ label ∷ []) ++ rest ≡ front ++ label ∷ rest = append_assoc front (label ∷ []) rest in
            let more : T ((front ++ label ∷ []) ++ rest) = subst T (sym whole) is in
            let here : T (front ++ label ∷ []) = fronts (front ++ label ∷ []) rest more in
            subst (λ (n : Labels). K n base) whole
            (known_from (Stepped (Closed P) label) (front ++ label ∷ []) rest base (λ b at. by here b at) more live)
          where
            step : T (front ++ label ∷ []) → (b : Labels) → Stepped (Closed P) label b → K (front ++ label ∷ []) b
            step here b (has, (above, was, same)) =
                subst (K (front ++ label ∷ [])) (sym same)
                (known_step front above label (known above was) here (subst (Contains ground.names) same has))

            by : T (front ++ label ∷ []) → (b : Labels) → Closed (Stepped (Closed P) label) b → K (front ++ label ∷ []) b
            by here b (inl stepped) = step here b stepped
            by here b (inr (redirection, among, owner, reads)) =
                known_join (front ++ label ∷ []) redirection b here among (step here redirection.owner owner) reads

        at_root : T [] → (base : Labels) → Closed IsRoot base → K [] base
        at_root here base (inl same) = subst (K []) (sym same) (known_root here)
        at_root here base (inr (redirection, among, same, reads)) =
            known_join [] redirection base here among (subst (K []) (sym same) (known_root here)) reads

        -- each base name in the live set of a front of targets is known of it
        pub live_known : (front base : Labels) → T front → Live front base → K front base
        live_known front base is live = known_from IsRoot [] front base (at_root (fronts [] front is)) is live

        -- every base name to which a name reads along a chain is live
        pub live_is_complete : (name : Labels) (between : List Labels) (base : Labels) → Contains ground.names base
            → ReadsAlong ground.redirections name between base → Live name base
        live_is_complete name [] base has e =
            subst (λ (n : Labels). Live n base) (sym e) (inl (base_reached IsRoot [] base refl has))
        live_is_complete name (next ∷ rest) base has (once, later) =
            let redirection : Redirection = once.redirection in
            let further : Live next base = live_is_complete next rest base has later in
            let from_target : Closed (ReachedFrom (ReachedFrom IsRoot redirection.target) once.below) base =
            closed_more (ReachedFrom IsRoot (redirection.target ++ once.below)) (ReachedFrom (ReachedFrom IsRoot redirection.target) once.below)
            (λ b. reached_on IsRoot redirection.target once.below b) base (subst (λ (n : Labels). Live n base) once.after further) in
            let from_owner : Closed (ReachedFrom (ReachedFrom IsRoot redirection.owner) once.below) base =
            live_more (ReachedFrom IsRoot redirection.target) (ReachedFrom IsRoot redirection.owner)
            (λ b live. inr (
              redirection,
              once.among,
              base_reached IsRoot [] redirection.owner refl (closed.redirected redirection once.among),
              live_known redirection.target b (targets redirection once.among) live,
            )) once.below base from_target in
            subst (λ (n : Labels). Live n base) (sym once.before)
            (closed_more (ReachedFrom (ReachedFrom IsRoot redirection.owner) once.below) (ReachedFrom IsRoot (redirection.owner ++ once.below))
            (λ b. reached_back IsRoot redirection.owner once.below b) base from_owner)

        -- each base name to which a front of targets reads on is known of it
        pub all_known : (front base : Labels) → T front → IsLive ground front base → K front base
        all_known front base is (has, (between, along)) = live_known front base is (live_is_complete front between base has along)

-- ---- one label more

module _ (ground : Ground) (closed : IsClosed ground) where
  -- what is closed over what a name reads on to, the name reads on to
  closed_is_live : (P : Labels → Type 0) (name : Labels) → ((b : Labels) → P b → IsLive ground name b) → (base : Labels)
      → Closed ground (IsLive ground) P base → IsLive ground name base
  closed_is_live P name live base (inl here) = live base here
  closed_is_live P name live base (inr (redirection, among, owner, reads)) = (
    reads.0,
    reads_then ground.redirections name redirection.owner base (live redirection.owner owner).1
        (owner_reads ground.redirections redirection base among reads.1),
  )

  step_is_live : (P : Labels → Type 0) (name : Labels) (label : List ℕ) → ((b : Labels) → P b → IsLive ground name b) → (base : Labels)
      → Stepped ground (IsLive ground) P label base → IsLive ground (name ++ label ∷ []) base
  step_is_live P name label live base (has, (above, is, same)) = (
    has,
    subst (ReadsOnTo ground.redirections (name ++ label ∷ [])) (sym same)
        (reads_below ground.redirections name above (label ∷ []) (live above is).1),
  )

  reached_is_live : (P : Labels → Type 0) (front labels base : Labels) → ((b : Labels) → P b → IsLive ground front b)
      → ReachedFrom ground (IsLive ground) P labels base → IsLive ground (front ++ labels) base
  reached_is_live P front [] base live is = subst (λ (n : Labels). IsLive ground n base) (sym (append-nil front)) (live base is)
  reached_is_live P front (label ∷ rest) base live is =
      subst (λ (n : Labels). IsLive ground n base) (append_assoc front (label ∷ []) rest)
      (reached_is_live (Stepped ground (IsLive ground) (Closed ground (IsLive ground) P) label) (front ++ label ∷ []) rest base
      (step_is_live (Closed ground (IsLive ground) P) front label (closed_is_live P front live)) is)

  live_is_sound : (name base : Labels) → Live ground (IsLive ground) name base → IsLive ground name base
  live_is_sound name base live =
      closed_is_live (ReachedFrom ground (IsLive ground) (IsRoot ground (IsLive ground)) name) name
      (λ b is. reached_is_live (IsRoot ground (IsLive ground)) [] name b
      (λ r same. (subst (Contains ground.names) (sym same) closed.names.root, subst (ReadsOnTo ground.redirections []) (sym same) (reads_itself ground.redirections []))) is)
      base live

  live_of_all : (name base : Labels) → IsLive ground name base → Live ground (IsLive ground) name base
  live_of_all name base (has, (between, along)) =
      live_is_complete ground (IsLive ground) closed (λ n. Unit {0}) (λ above below is. tt) (λ redirection among. tt)
      (λ is. (closed.names.root, reads_itself ground.redirections []))
      (λ front b label live is more. (more, reads_below ground.redirections front b (label ∷ []) live.1))
      (λ front redirection b is among owner reads. closed_is_live (λ n. IsLive ground front n) front (λ n live. live) b (inr (redirection, among, owner, reads)))
      name between base has along

  -- the live set of a name with a label more: one label further, and then what is read from there
  pub live_steps : (name base : Labels) (label : List ℕ) → IsLive ground (name ++ label ∷ []) base
      → Closed ground (IsLive ground) (Stepped ground (IsLive ground) (IsLive ground name) label) base
  live_steps name base label is =
      closed_more ground (IsLive ground)
      (ReachedFrom ground (IsLive ground) (IsRoot ground (IsLive ground)) (name ++ label ∷ []))
      (Stepped ground (IsLive ground) (IsLive ground name) label)
      (λ b reached.
      let step = reached_on ground (IsLive ground) (IsRoot ground (IsLive ground)) name (label ∷ []) b reached in
      (step.0, (step.1.0, live_is_sound name step.1.0 step.1.1, step.1.2)))
      base (live_of_all (name ++ label ∷ []) base is)

  -- what one label, and a redirection behind it, reach from a name's live names is live for the name with the label
  pub steps_live : (name base : Labels) (label : List ℕ)
      → Closed ground (IsLive ground) (Stepped ground (IsLive ground) (IsLive ground name) label) base
      → IsLive ground (name ++ label ∷ []) base
  steps_live name base label is =
      closed_is_live (Stepped ground (IsLive ground) (IsLive ground name) label) (name ++ label ∷ [])
      (step_is_live (IsLive ground name) name label (λ b live. live)) base is

  -- the live set of the root is the root, and what is read from there
  pub live_at_root : (base : Labels) → IsLive ground [] base → Closed ground (IsLive ground) (IsRoot ground (IsLive ground)) base
  live_at_root base is = live_of_all [] base is

  -- the root, and what is known of the target of a redirection that it owns, is live for the root
  pub root_live : (base : Labels) → Closed ground (IsLive ground) (IsRoot ground (IsLive ground)) base → IsLive ground [] base
  root_live base is = live_is_sound [] base is

  -- a name is named where it reads on to a base name, also with a label more
  pub next_is_named : (name above : Labels) (label : List ℕ) → IsLive ground name above → Contains ground.names (above ++ label ∷ [])
      → IsNamed ground (name ++ label ∷ [])
  next_is_named name above label live has =
      record { base = above ++ label ∷ []; among = has; reads = reads_below ground.redirections name above (label ∷ []) live.1 }

  -- where a name with a label more is named, it reads on to a base name with one below it by this label
  pub named_next : (name : Labels) (label : List ℕ) → IsNamed ground (name ++ label ∷ [])
      → (above : Labels) × IsLive ground name above × Contains ground.names (above ++ label ∷ [])
  named_next name label named = by (live_steps name named.base label (named.among, named.reads)) where
    of : (base : Labels) → Stepped ground (IsLive ground) (IsLive ground name) label base
        → (above : Labels) × IsLive ground name above × Contains ground.names (above ++ label ∷ [])
    of base (has, (above, live, same)) = (above, live, subst (Contains ground.names) same has)

    by : Closed ground (IsLive ground) (Stepped ground (IsLive ground) (IsLive ground name) label) named.base
        → (above : Labels) × IsLive ground name above × Contains ground.names (above ++ label ∷ [])
    by (inl step) = of named.base step
    by (inr (redirection, among, step, reads)) = of redirection.owner step

  -- prefixes of named names are named
  pub prefix_is_named : (above below : Labels) → IsNamed ground (above ++ below) → IsNamed ground above
  prefix_is_named above [] named = subst (IsNamed ground) (append-nil above) named
  prefix_is_named above (label ∷ rest) named =
      let nearer : IsNamed ground (above ++ label ∷ []) =
      prefix_is_named (above ++ label ∷ []) rest (subst (IsNamed ground) (sym (append_assoc above (label ∷ []) rest)) named) in
      let next = named_next above label nearer in
      record { base = next.0; among = next.1.0; reads = next.1.1 }
