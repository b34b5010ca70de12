-- A name is in one class.
use Rattle.std.proofs.Common.{◌≡◌, ◌≤◌, length, sym, refl, ◌∙◌, arith, take, take_at, ap}
use Rattle.dns_data.specs.Name.{Labels}
use Rattle.net_model.specs.declared.class.Class.{Class}
use Rattle.net_model.specs.declared.class.Class.TheVariants.{Exact, Below}
use Rattle.net_model.specs.Class.{IsClassOf}
use Rattle.net_model.specs.Reading.{Ground}

-- a name has one class
pub one_class : (ground : Ground) (name : Labels) (a b : Class) → IsClassOf ground name a → IsClassOf ground name b → b ≡ a
one_class ground name (Exact a) (Exact b) one other = ap (λ (n : Labels). Exact n) (other.0 ∙ sym one.0)
one_class ground name (Exact a) (Below b) one other = absurd (other.0 one.1)
one_class ground name (Below a) (Exact b) one other = absurd (one.0 other.1)
one_class ground name (Below a) (Below b) (unnamed, one) (also, other) =
    let first : length b ≤ length a = one.longest b other.below other.prefix other.named in
    let second : length a ≤ length b = other.longest a one.below one.prefix one.named in
    let size : length b ≡ length a = omega arith in
    let same : b ≡ a =
    sym (take_at b other.below (length a) size) ∙ ap (take (length a)) (sym other.prefix ∙ one.prefix) ∙ take_at a one.below (length a) refl in
    ap (λ (n : Labels). Below n) same
