-- What is found along the labels of names, by rows of what is found along targets.
use Rattle.std.proofs.Common.{◌≡◌, ◌∙◌, ℕ, ◌<◌, List, [], ◌∷◌, ◌++◌, length, map, Contains, sym, ap, subst, append_assoc, append-nil}
use Rattle.dns_data.specs.Name.{Labels}
use Rattle.dns_data.proofs.Membership.{from_map}
use Rattle.net_model.specs.Reading.{Redirection, Ground, ReadsOnTo}
use Rattle.label_graph.specs.declared.pair.Pair.{Pair}
use Rattle.label_graph.specs.LiveSet.{IsClosed, name_at}
use Rattle.label_graph.specs.Pairs.{redirection, ground_with}
use Rattle.label_graph.specs.Rows.{RowHas}
use Rattle.label_graph.specs.Targets.{LeadsAlong, IsFrom, IsRootPlace, IsStepFrom, IsFoundFrom, IsFound, AreTrue, AreReads}
use Rattle.label_graph.proofs.LedPlaces.{from_then, from_itself, from_row}
use Rattle.label_graph.proofs.LiveNames.{IsLive, all_known}
use Rattle.label_graph.proofs.Readings.{reads_below, reads_then, reads_itself}
use Rattle.name_table.proofs.Tables.{place_among}

module _ (names : List Labels) (rows : List (List ℕ)) where
  -- what is found from some places is found from more
  pub found_more : (P Q : ℕ → Type 0) → ((other : ℕ) → P other → Q other) → (labels : Labels) (other : ℕ)
      → IsFoundFrom names rows P labels other → IsFoundFrom names rows Q labels other
  found_more P Q more [] other is = more other is
  found_more P Q more (label ∷ rest) other is =
      found_more (IsStepFrom names rows P label) (IsStepFrom names rows Q label)
      (λ o (place, above, here, led, step). (place, above, more place here, led, step)) rest other is

  -- in a row
  pub found_then : (P : ℕ → Type 0) (front rest : Labels) (other : ℕ) → IsFoundFrom names rows (IsFoundFrom names rows P front) rest other
      → IsFoundFrom names rows P (front ++ rest) other
  found_then P [] rest other is = is
  found_then P (label ∷ front) rest other is = found_then (IsStepFrom names rows P label) front rest other is

  module _ (pairs : List Pair) (are : AreTrue names pairs rows) where
    abbrev redirections : List Redirection
    redirections = map redirection pairs

    -- the name reads on to the one at the place
    abbrev pub ReadsTo : Labels → ℕ → Type 0
    ReadsTo name other = (other < length names) × ReadsOnTo redirections name (name_at names other)

    -- a name reads on to those to which one comes by the rows from one to which it reads on
    pub from_true : (name : Labels) (place other : ℕ) → ReadsTo name place → IsFrom rows other place → ReadsTo name other
    from_true name place other is (between, along) = by place between is along where
      by : (place : ℕ) (between : List ℕ) → ReadsTo name place → LeadsAlong rows place between other → ReadsTo name other
      by place [] is e = subst (ReadsTo name) e is
      by place (next ∷ rest) is (row, later) =
          by next rest (
            subst (λ (n : ℕ). next < n) are.len (are.inside place next row),
            reads_then redirections name (name_at names place) (name_at names next) is.1 (are.reads place next row),
          ) later

    found_true : (P : ℕ → Type 0) (front labels : Labels) (other : ℕ) → ((o : ℕ) → P o → ReadsTo front o)
        → IsFoundFrom names rows P labels other → ReadsTo (front ++ labels) other
    found_true P front [] other each is = subst (λ (n : Labels). ReadsTo n other) (sym (append-nil front)) (each other is)
    found_true P front (label ∷ rest) other each is =
        subst (λ (n : Labels). ReadsTo n other) (append_assoc front (label ∷ []) rest)
        (found_true (IsStepFrom names rows P label) (front ++ label ∷ []) rest other (λ o (place, above, here, led, step). (
          step.0,
          subst (ReadsOnTo redirections (front ++ label ∷ [])) (sym step.1)
              (reads_below redirections front (name_at names above) (label ∷ []) (from_true front place above (each place here) led).1),
        )) is)

    -- a name reads on to what is found along its labels
    pub found_reads : (name : Labels) (other : ℕ) → IsFound names rows name other → ReadsTo name other
    found_reads name other is =
        found_true (IsRootPlace names) [] name other
        (λ o (within, at). (within, subst (ReadsOnTo redirections []) (sym at) (reads_itself redirections []))) is

module _ (names : List Labels) (pairs : List Pair) (rows : List (List ℕ)) (closed : IsClosed (ground_with names pairs)) (are : AreReads names pairs rows) where
  abbrev ground : Ground
  ground = ground_with names pairs

  -- the base name is found along the labels of the name, or one comes to it from there
  abbrev pub Finds : Labels → Labels → Type 0
  Finds name base = (other from : ℕ) × IsFound names rows name from × IsFrom rows other from × (name_at names other ≡ base)

  known_root : Finds [] []
  known_root = let (root, within, at) = place_among names [] closed.names.root in (root, root, (within, at), from_itself rows root, at)

  known_step : (front base : Labels) (label : List ℕ) → Finds front base → Contains names (base ++ label ∷ []) → Finds (front ++ label ∷ []) (base ++ label ∷ [])
  known_step front base label (other, from, found, led, at) has =
      let (next, within, is) = place_among names (base ++ label ∷ []) has in (
        next,
        next,
        found_then names rows (IsRootPlace names) front (label ∷ []) next
            (from, other, found, led, (within, is ∙ ap (λ (n : Labels). n ++ label ∷ []) (sym at))),
        from_itself rows next,
        is,
      )

  -- what is found along the target of a redirection is in the row of its owner
  pub row_has : (one : Redirection) → Contains ground.redirections one → (owner other : ℕ) → owner < length names → name_at names owner ≡ one.owner
      → IsFound names rows one.target other → RowHas rows owner other
  row_has one among owner other within at found =
      let (pair, given, same) = from_map redirection pairs one among in
      are.all pair given owner other within (at ∙ sym (ap (λ (r : Redirection). r.owner) same))
      (subst (λ (target : Labels). IsFound names rows target other) (sym (ap (λ (r : Redirection). r.target) same)) found)

  known_join : (front : Labels) (one : Redirection) (base : Labels) → Contains ground.redirections one → Finds front one.owner → Finds one.target base
      → Finds front base
  known_join front one base among (owner, from, found, led, owner_is) (other, via, found_too, then, at) =
      let within : owner < length names = (from_true names rows pairs are.each_true front from owner (found_reads names rows pairs are.each_true front from found) led).0 in
      (other, from, found, from_then rows from owner other led (from_row rows owner via other (row_has one among owner via within owner_is found_too) then), at)

  -- each base name to which a name reads on is found
  pub all_found : (name base : Labels) → IsLive ground name base → Finds name base
  all_found name base live =
      all_known ground Finds closed (λ n. Unit {0}) (λ above below is. tt) (λ one among. tt) (λ is. known_root)
      (λ front b label known is has. known_step front b label known has) (λ front one b is among owner target. known_join front one b among owner target)
      name base tt live
