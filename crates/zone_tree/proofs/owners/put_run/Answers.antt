use Rattle.std.proofs.Common.{List, [], ◌∷◌, ◌++◌, Bor, map, sym, ap, ◌∙◌, append_assoc, append-nil}
use Rattle.std.proofs.lemmas.List.{drop_all, map_push}
use Rattle.dns_data.specs.declared.rdata.Rr.{Rr}
use Rattle.zone_tree.proofs.Owned.{now_of}
use Rattle.zone_tree.proofs.owners.put_run.Goals as goal

pub loop-rr-init : goal.loop-rr-init
loop-rr-init c =
    let old : List (Bor Rr) = c.args.rrs.now.items in
    let run = c.args.run.now in
    ap (λ (xs : List (Bor Rr)). map now_of xs ++ run.rest.now) c.in_ok-push.ensures.items
    ∙ ap (λ (xs : List Rr). xs ++ run.rest.now) (map_push now_of old run.first)
    ∙ append_assoc (map now_of old) (run.first.now ∷ []) run.rest.now

pub returns : goal.returns
returns c =
    let rest : List Rr = c.args.run.now.rest.now in
    let done : List Rr = map now_of c.loop-rr.rrs.items in
    sym (append-nil done) ∙ ap (λ (xs : List Rr). done ++ xs) (sym (drop_all c.loop-rr.rr-index rest c.loop-rr-test.false)) ∙ c.loop-rr.invariant
