use Rattle.std.proofs.Common.{◌≡◌, ℕ, Bool, [], ◌∷◌, ◌++◌, List, All, Contains, map, filter, flat_map, take, length, refl, sym, ap, ◌∙◌, subst, append_assoc, append-nil, arith}
use Rattle.std.proofs.lemmas.List.Elements.{All-nil, filter-append}
use Rattle.dns_data.specs.Name.{Labels, is_prefix}
use Rattle.dns_data.specs.declared.rdata.Rr.{Rr}
use Rattle.dns_data.proofs.Membership.{all_from_contains}
use Rattle.zone_tree.specs.Owners.{leading}
use Rattle.zone_tree.specs.Runs.{IsKeyedRun, records_in}
use Rattle.zone_tree.specs.declared.runs.KeyedRun.{KeyedRun}
use Rattle.zone_tree.proofs.KeyedRuns.{leading_owned}
use Rattle.zone_tree.proofs.runs.keyed_runs.Goals as goal

abbrev is_within : Labels → Rr → Bool
is_within origin rr = is_prefix origin rr.owner

-- the records at the front that have an owner
owned : (owner : Labels) (behind rest : List Rr) (count : ℕ) → rest ≡ take count behind → count ≡ leading owner (map (λ rr. rr.owner) behind)
    → All (λ rr. rr.owner ≡ owner) rest
owned owner behind rest count front is =
    all_from_contains (λ (rr : Rr). rr.owner ≡ owner) rest
    (λ rr has. leading_owned owner behind rr (subst (λ (xs : List Rr). Contains xs rr) (front ∙ ap (λ (n : ℕ). take n behind) is) has))

pub loop-first-init : goal.loop-first-init
loop-first-init c =
    let origin = c.args.zone.now.origin in
    record {
      rrs =
          ap (λ (xs : List KeyedRun). flat_map records_in xs ++ filter (is_within origin) c.items-left.result.now) c.in_ok-runs.ensures.items
          ∙ ap (filter (is_within origin)) c.items-left.ensures;
      each = subst (All (IsKeyedRun origin)) (sym c.in_ok-runs.ensures.items) (All-nil (IsKeyedRun origin));
    }

pub push_run-requires : goal.push_run-requires
push_run-requires c =
    owned c.in-Some.first.now.owner c.in-Some.behind.now c.split_at.result.0.now c.run_len.result c.split_at.ensures.front c.run_len.ensures.value

pub loop-first-preserved : goal.loop-first-preserved
loop-first-preserved c =
    let within : Rr → Bool = is_within c.args.zone.now.origin in
    let first : Rr = c.in-Some.first.now in
    let rest : List Rr = c.split_at.result.0.now in
    let next : List Rr = c.split_at.result.1.now in
    let done : List Rr = flat_map records_in c.loop-first.runs.items in
    let parts : c.loop-first.left.now ≡ (first ∷ rest) ++ next =
    c.in-Some.ensures.cases.0 ∙ ap (λ (xs : List Rr). first ∷ xs) c.split_at.ensures.by_index.0 in
    record {
      rrs =
          ap (λ (xs : List Rr). xs ++ filter within next) c.in_ok-push_run.ensures.rrs
          ∙ append_assoc done (filter within (first ∷ rest)) (filter within next)
          ∙ ap (λ (xs : List Rr). done ++ xs) (sym (ap (filter within) parts ∙ filter-append within (first ∷ rest) next))
          ∙ c.loop-first.invariant.rrs;
      each = c.in_ok-push_run.ensures.each c.loop-first.invariant.each;
    }

pub returns-clause-rrs : goal.returns-clause-rrs
returns-clause-rrs c =
    let within : Rr → Bool = is_within c.args.zone.now.origin in
    let done : List Rr = flat_map records_in c.loop-first.runs.items in
    let none : c.loop-first.left.now ≡ [] = empty c.loop-first.left.now c.in_default.ensures.cases in
    sym (append-nil done) ∙ ap (λ (xs : List Rr). done ++ filter within xs) (sym none) ∙ c.loop-first.invariant.rrs
  where
    empty : (rrs : List Rr) → length rrs ≡ 0 → rrs ≡ []
    empty [] none = refl
    empty (rr ∷ rrs) none = absurd (omega (arith, none))
