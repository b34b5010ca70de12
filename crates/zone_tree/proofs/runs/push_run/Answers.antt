use Rattle.std.proofs.Common.{◌≡◌, ℕ, Bool, true, false, [], ◌∷◌, ◌++◌, List, All, Contains, flat_map, sym, ap, ◌∙◌, subst, append-nil}
use Rattle.std.proofs.lemmas.List.{flat_map_more}
use Rattle.std.proofs.lemmas.List.Elements.{All-push}
use Rattle.dns_data.specs.Name.{Labels, is_prefix}
use Rattle.dns_data.specs.declared.rdata.Rr.{Rr}
use Rattle.dns_data.proofs.Searches.{any_none, filter_none}
use Rattle.name_table.specs.Keys.{IsKeyBelow}
use Rattle.zone_tree.specs.Runs.{IsKeyedRun, records_in}
use Rattle.zone_tree.specs.declared.runs.KeyedRun.{KeyedRun}
use Rattle.zone_tree.proofs.KeyedRuns.{all_kept, of_run}
use Rattle.name_table.proofs.NameKeys.{key_inside}
use Rattle.zone_tree.proofs.runs.push_run.Goals as goal

abbrev is_within : Labels → Rr → Bool
is_within origin rr = is_prefix origin rr.owner

-- the records of a run are all kept where one is, and else none
told : (origin : Labels) (first : Rr) (rest : List Rr) (within : Bool) → All (λ rr. rr.owner ≡ first.owner) rest → is_prefix origin first.owner ≡ within
    → (rr : Rr) → Contains (first ∷ rest) rr → is_within origin rr ≡ within
told origin first rest within owned is rr has = ap (is_prefix origin) (of_run first rest owned rr has) ∙ is

-- the key of a run whose owner is at or below the origin
key_of_run : (origin owner same : Labels) (key : ℕ) → same ≡ owner → IsKeyBelow origin same key → IsKeyBelow origin owner key
key_of_run origin owner same key is below = subst (λ (x : Labels). IsKeyBelow origin x key) is below

pub returns-in_ok-push-clause-rrs : goal.returns-in_ok-push-clause-rrs
returns-in_ok-push-clause-rrs c =
    let origin : Labels = c.args.origin.now in
    let first : Rr = c.args.first.now in
    let rest : List Rr = c.args.rest.now in
    let old : List KeyedRun = c.args.runs.now.items in
    let key : IsKeyBelow origin first.owner c.in-Some.key =
    key_of_run origin first.owner c.labels.result c.in-Some.key c.labels.ensures.same c.in-Some.ensures.some in
    rw c.in_ok-push.ensures.items
    (sym (flat_map_more records_in [] old (record { key = c.in-Some.key; first = c.args.first; rest = c.args.rest }))
    ∙ ap (λ (rrs : List Rr). flat_map records_in old ++ rrs)
    (sym (all_kept (is_within origin) (first ∷ rest) (told origin first rest true c.requires (key_inside origin first.owner c.in-Some.key key)))))

pub returns-in_ok-push-clause-each : goal.returns-in_ok-push-clause-each
returns-in_ok-push-clause-each c = λ before.
    let origin : Labels = c.args.origin.now in
    let key : IsKeyBelow origin c.args.first.now.owner c.in-Some.key =
    key_of_run origin c.args.first.now.owner c.labels.result c.in-Some.key c.labels.ensures.same c.in-Some.ensures.some in
    rw c.in_ok-push.ensures.items (All-push (IsKeyedRun origin) c.args.runs.now.items _ before (record { key = key; one_owner = c.requires }))

pub returns-in_default-clause-rrs : goal.returns-in_default-clause-rrs
returns-in_default-clause-rrs c =
    let origin : Labels = c.args.origin.now in
    let first : Rr = c.args.first.now in
    let rest : List Rr = c.args.rest.now in
    let old : List KeyedRun = c.args.runs.now.items in
    let out : is_prefix origin first.owner ≡ false = ap (is_prefix origin) (sym c.labels.ensures.same) ∙ c.in_default.ensures.none in
    sym (append-nil (flat_map records_in old))
    ∙ ap (λ (rrs : List Rr). flat_map records_in old ++ rrs)
    (sym (filter_none (is_within origin) (first ∷ rest) (any_none (is_within origin) (first ∷ rest) (told origin first rest false c.requires out))))
