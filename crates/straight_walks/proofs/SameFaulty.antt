-- Referrals whose zone cuts are at or above a name show the same faults for the names below it.
use Rattle.std.proofs.Common.{◌≡◌, ◌≤◌, true, List, [], ◌∷◌, ◌++◌, length, refl, sym, ap, ◌∙◌, arith}
use Rattle.std.proofs.lemmas.List.{length-append, take-append-le}
use Rattle.dns_data.specs.Name.{Labels, is_prefix}
use Rattle.dns_data.proofs.NameFronts.{is_prefix_tells}
use Rattle.dns_data.proofs.Names.{all_so}
use Rattle.net_model.specs.declared.fault.Fault.{Fault}
use Rattle.straight_walks.specs.Faulty.{AreAbove, faults_at, faulty_cut, flag_faults}
use Rattle.straight_walks.specs.declared.faulty.Faulty.{Faulty}

-- the faults told of a name below are those told of the name
pub same_faults : (query tail : Labels) (faulty : List Faulty) → AreAbove query faulty
    → faults_at (query ++ tail) faulty ≡ faults_at query faulty
same_faults query tail [] above = refl
same_faults query tail (one ∷ rest) above =
    ap (λ (name : Labels). flag_faults one.flags (record { server = one.server.now; zone = one.zone.now; cut = name; ns = one.ns.now }) ++ faults_at (query ++ tail) rest)
    (take-append-le one.cut query tail above.0)
    ∙ ap (λ (more : List Fault). flag_faults one.flags (faulty_cut query one) ++ more) (same_faults query tail rest above.1)

module _ (query name : Labels) (below : is_prefix query name ≡ true) (faulty : List Faulty) (above : AreAbove query faulty) where
  -- whatever tail that name has
  pub same_faults_below : faults_at name faulty ≡ faults_at query faulty
  same_faults_below =
      let begins = is_prefix_tells query name below in
      ap (λ (n : Labels). faults_at n faulty) (sym begins.1) ∙ same_faults query begins.0 faulty above

  -- and the zone cuts are at or above it too
  pub above_below : AreAbove name faulty
  above_below =
      let begins = is_prefix_tells query name below in
      all_so (λ (one : Faulty). one.cut ≤ length query) (λ (one : Faulty). one.cut ≤ length name) faulty
      (λ one within. omega (arith, within, ap (λ (n : Labels). length n) begins.1, length-append query begins.0)) above
