use Rattle.std.proofs.Common.{◌≡◌, ◌<◌, ℕ, Bool, length, List, ◌∷◌, ◌++◌, [], set, sym, ap, ◌∙◌, subst}
use Rattle.zone_rules.specs.Buckets.{bucket_with, bucket_place, Marked}
use Rattle.zone_rules.proofs.Rivals.{set-marked, bucket-read}
use Rattle.zone_rules.proofs.buckets.Buckets.put.Goals as goal

pub returns : goal.returns
returns c =
    let buckets = c.self.inside.buckets.items in
    let place : c.place-place.result ≡ bucket_place buckets c.args.number = c.place-place.ensures.place ∙ ap (λ old. bucket_place old c.args.number) (sym c.self.view_is) in
    let within : c.place-place.result < length buckets = subst (λ old. c.place-place.result < length old) (sym c.self.view_is) c.place-place.ensures.within in
    subst (λ old. (keys : List (ℕ × Bool)) → Marked old keys → Marked (set buckets c.place-place.result c.with.result) (keys ++ (c.args.number, c.args.is_alone) ∷ [])) c.self.view_is
    (set-marked buckets c.args.number c.place-place.result c.with.result c.args.is_alone within place
    (c.with.ensures ∙ ap (λ bucket. bucket_with bucket c.args.is_alone) (bucket-read buckets c.args.number c.place-place.result c.index.result.now within place c.index.ensures)))
