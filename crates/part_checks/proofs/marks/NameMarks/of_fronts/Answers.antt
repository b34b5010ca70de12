use Rattle.std.proofs.Common.{◌≡◌, ◌++◌, true, [], take, inl, inr, subst}
use Rattle.std.proofs.lemmas.List.Elements.{All-contains, All-weaker}
use Rattle.dns_data.specs.Name.{Labels}
use Rattle.net_model.proofs.JoinedNames.{base_is_front}
use Rattle.net_model.proofs.Naming.{from_listed}
use Rattle.part_laws.specs.Part.{with_prefixes}
use Rattle.part_checks.specs.Marks.{is_marked}
use Rattle.part_checks.proofs.Passing.{all_more, all_passed}
use Rattle.part_checks.proofs.marks.NameMarks.of_fronts.Goals as goal

pub loop-name-preserved : goal.loop-name-preserved
loop-name-preserved c =
    let before = c.loop-name.all in
    let after = c.put_fronts.new.self in
    let names = c.args.names.now in
    let k = c.loop-name.name-index in
    record {
      root = c.in_ok-put_fronts.ensures.stays [] c.loop-name.invariant.root;
      marked = all_more (λ (name : Labels). (above below : Labels) → above ++ below ≡ name → is_marked after above ≡ true) names k c.name-item.result c.loop-name-test.true c.name-item.is
          (All-weaker (λ (name : Labels). (above below : Labels) → above ++ below ≡ name → is_marked before above ≡ true)
          (λ (name : Labels). (above below : Labels) → above ++ below ≡ name → is_marked after above ≡ true)
          (λ name marked above below is. c.in_ok-put_fronts.ensures.stays above (marked above below is)) (take k names) c.loop-name.invariant.marked)
          c.in_ok-put_fronts.ensures.marked;
    }

pub returns : goal.returns
returns c =
    let all = c.loop-name.all in
    let names = c.args.names.now in λ name listed. elim (base_is_front [] names name (from_listed (with_prefixes names) name listed)) [
      | inl root ↦ subst (λ (n : Labels). is_marked all n ≡ true) root c.loop-name.invariant.root
      | inr (start, among, (below, is)) ↦ All-contains (λ (one : Labels). (above rest : Labels) → above ++ rest ≡ one → is_marked all above ≡ true) names start
          (all_passed (λ (one : Labels). (above rest : Labels) → above ++ rest ≡ one → is_marked all above ≡ true) names c.loop-name.name-index c.loop-name-test.false c.loop-name.invariant.marked)
          among name below is
    ]
