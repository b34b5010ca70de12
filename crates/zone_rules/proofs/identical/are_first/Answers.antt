use Rattle.std.proofs.Common.{◌≡◌, ◌+◌, ◌||◌, ◌&&◌, ◌==◌, not, Bool, true, map, take, rules, subst, ap, ◌∙◌, refl}
use Rattle.std.proofs.lemmas.List.Elements.{All-weaker}
use Rattle.std.proofs.lemmas.Simd.{map-map}
use Rattle.std.specs.List.{list_any}
use Rattle.dns_data.specs.Identical.{is_identical}
use Rattle.dns_data.proofs.FirstItems.{any-next, first-more}
use Rattle.zone_rules.specs.Buckets.{SaysRivals}
use Rattle.zone_rules.specs.Fingerprint.{record_key, record_number}
use Rattle.zone_rules.proofs.Rivals.{read-next, rivals-before, said-next}
use Rattle.zone_rules.proofs.SeenRecords.{HasSeen, sees, same_identity, first-known}
use Rattle.zone_rules.specs.Seen.{has}
use Rattle.zone_rules.specs.contracts.identical.IdentityOrd.TheImpl as identity_order
use Rattle.zone_rules.specs.declared.identical.Identity.{Identity}
use Rattle.zone_rules.proofs.identical.are_first.Goals as goal

pub loop-i-init : goal.loop-i-init
loop-i-init c =
    let keys : c.as_slice.result.now ≡ map record_key c.args.rrs.now = c.as_slice.ensures.value ∙ c.in_ok-keys.ensures in
    let (may, said, tells) = subst (SaysRivals c.in_ok-rivals.rivals.items) keys c.in_ok-rivals.ensures in
    record {
      seen = (may, said ∙ map-map (λ key. may key.0) record_key c.args.rrs.now, tells, search rules);
      so_far = search rules;
    }

pub loop-i-preserved : goal.loop-i-preserved
loop-i-preserved c =
    let (may_rival, said, tells, has_seen_those) = c.loop-i.invariant.seen in
    let rr = c.index-rrs-i.result in
    let i = c.loop-i.i in
    let may : Bool = may_rival (record_number rr) in
    let may_is : c.index-in-loop-i.result.now ≡ may = said-next record_key c.args.rrs.now i rr c.loop-i-test.true c.index-rrs-i.is (λ other. may_rival (record_number other)) c.in_ok-rivals.rivals.items c.index-in-loop-i.result.now said c.index-in-loop-i.ensures in
    let number_is : c.index.result.now.0 ≡ record_number rr = read-next record_key c.args.rrs.now i rr c.loop-i-test.true c.index-rrs-i.is c.in_ok-keys.keys.items c.index.result.now c.in_ok-keys.ensures c.index.ensures in
    let item : Identity = record { number = c.index.result.now.0; owner = record { ref_ptr = c.args.rrs.ref_ptr; now = rr.owner }; rdata = record { ref_ptr = c.args.rrs.ref_ptr; now = rr.rdata } } in
    let has_seen : Identity → Bool = has (identity_order.ghosts).cmp c.loop-i.seen in
    let seen_next : HasSeen may_rival c.is_first.new.seen (take (i + 1) c.args.rrs.now) = λ query.
    c.in_ok-is_first.ensures.seen query
    ∙ (λ j. has_seen query || (may_is j && same_identity query item rr number_is refl refl j))
    ∙ any-next (λ other. may_rival (record_number other) && sees query other) c.args.rrs.now i rr (has_seen query) c.loop-i-test.true c.index-rrs-i.is (has_seen_those query) in
    record {
      seen = (may_rival, said, tells, seen_next);
      so_far =
          c.loop-i.invariant.so_far
          ∙ first-more is_identical c.args.rrs.now i rr c.loop-i.firsts.items c.push.new.self.items c.in_ok-is_first.is_first c.loop-i-test.true c.index-rrs-i.is
          (c.in_ok-is_first.ensures.first
          ∙ ap not ((λ j. may_is j && has_seen_those item j)
          ∙ ((λ j. may && list_any (λ other. may_rival (record_number other) && (number_is j == record_number other && is_identical rr other)) (take i c.args.rrs.now))
          ∙ first-known may_rival rr (take i c.args.rrs.now)
          (All-weaker
          (λ other. record_number other ≡ record_number rr → (true || true) ≡ true → may ≡ true)
          (λ other. record_number other ≡ record_number rr → may ≡ true)
          (λ other rivals same. rivals same refl) (take i c.args.rrs.now) (rivals-before record_key c.args.rrs.now i rr c.loop-i-test.true c.index-rrs-i.is may_rival tells))
          may refl)))
          c.in_ok-push.ensures.items;
    }
