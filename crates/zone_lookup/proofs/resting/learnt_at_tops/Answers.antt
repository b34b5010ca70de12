use Rattle.std.proofs.Common.{◌≡◌, ℕ, arith, Bor, List, length, map, nat_lt, ◌||◌, sym, ap, subst}
use Rattle.std.proofs.lemmas.List.{length-map}
use Rattle.dns_data.specs.Name.{Labels}
use Rattle.zone_lookup.specs.Resting.{AreEnds, Rests}
use Rattle.zone_lookup.proofs.NamesAtRest.{tops_rest}
use Rattle.zone_lookup.proofs.resting.learnt_at_tops.Goals as goal

pub returns-in-Some : goal.returns-in-Some
returns-in-Some c =
    let config = c.args.hosts.now in
    let name = c.args.name.now in
    let given = c.in-Some.given in
    let found = c.in_ok-holding.holding.items in
    let now_of = λ (top : Bor Labels). top.now in
    let many : length (map now_of found) ≡ c.len.result =
    omega (arith, length-map found now_of, ap (λ (tops : List (Bor Labels)). length tops) c.as_slice.ensures.value, c.as_slice.ensures.len, c.len.ensures) in
    let ends : AreEnds config name (map now_of found) given =
    subst (λ (tops : List (Bor Labels)). AreEnds config name (map now_of tops) given) c.as_slice.ensures.value c.in-Some.ensures in
    subst (λ (n : ℕ). Rests config name (nat_lt n c.count.result || given)) many
    (subst (λ (n : ℕ). Rests config name (nat_lt (length (map now_of found)) n || given)) (sym c.count.ensures)
    (tops_rest config c.args.tops.now name (map now_of found) given c.requires c.in_ok-holding.ensures ends))
