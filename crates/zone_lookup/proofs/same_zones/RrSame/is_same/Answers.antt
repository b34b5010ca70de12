use Rattle.std.proofs.Common.{◌≡◌, ℕ, true≢false, sym, ap, ◌∙◌}
use Rattle.std.proofs.lemmas.Bool.{eqb-true}
use Rattle.dns_data.specs.Name.{Labels}
use Rattle.dns_data.specs.declared.rdata.Rdata.{Rdata}
use Rattle.dns_data.specs.declared.rdata.Rr.{Rr}
use Rattle.dns_data.proofs.EqualData.{equal_is_same}
use Rattle.dns_data.proofs.Names.{name_eq_decides}
use Rattle.dns_data.proofs.Tellers.{same_data}
use Rattle.zone_lookup.proofs.same_zones.RrSame.is_same.Goals.{then-self-other, else-self-other, then-self-other-2, else-self-other-2, then-self-other-3, else-self-other-3}
use Rattle.zone_lookup.proofs.same_zones.RrSame.is_same.Goals as goal

-- records with equal fields are the same
fields_same : (one other : Rr) → one.line ≡ other.line → one.file ≡ other.file → one.ttl ≡ other.ttl → one.owner ≡ other.owner → one.rdata ≡ other.rdata
    → one ≡ other
fields_same one other line file ttl owner rdata =
    ap (λ (n : ℕ). record one { line = n }) line
    ∙ ap (λ (n : ℕ). record one { line = other.line; file = n }) file
    ∙ ap (λ (n : ℕ). record other { owner = one.owner; ttl = n; rdata = one.rdata }) ttl
    ∙ ap (λ (name : Labels). record other { owner = name; rdata = one.rdata }) owner
    ∙ ap (λ (all : Rdata). record other { rdata = all }) rdata

pub returns-then-eq : goal.returns-then-eq
returns-then-eq c = λ yes.
    let one = c.args.self.now in
    let other = c.args.other.now in
    elim c.if-self-other-3.branch [
      | then-self-other-3 w3 ↦ elim c.if-self-other-2.branch [
        | then-self-other-2 w2 ↦ elim c.if-self-other.branch [
          | then-self-other w ↦
              fields_same one other w.if-self-other.true (eqb-true one.file other.file (sym w.value-is ∙ w2.if-self-other-2.true))
              (eqb-true one.ttl other.ttl (sym w2.value-is ∙ w3.if-self-other-3.true))
              ((name_eq_decides one.owner other.owner).0 (sym w3.eq.ensures ∙ sym w3.value-is ∙ c.if-eq.true))
              ((equal_is_same one.rdata other.rdata).0 (sym (same_data one.rdata other.rdata) ∙ sym c.eq-then-eq.ensures ∙ yes))
          | else-self-other w ↦ absurd (w.if-self-other.false (eqb-true one.line other.line (sym w.value-is ∙ w2.if-self-other-2.true)))
        ]
        | else-self-other-2 w2 ↦ absurd (true≢false (sym w3.if-self-other-3.true ∙ w2.value-is ∙ w2.if-self-other-2.false))
      ]
      | else-self-other-3 w3 ↦ absurd (true≢false (sym c.if-eq.true ∙ w3.value-is ∙ w3.if-self-other-3.false))
    ]
