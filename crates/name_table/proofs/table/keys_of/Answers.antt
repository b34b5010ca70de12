use Rattle.std.proofs.Common.{◌≡◌, ℕ, List, [], get_or, length, sym, ap, ◌∙◌, subst, arith}
use Rattle.dns_data.specs.Name.{Labels, is_prefix}
use Rattle.name_table.specs.Keys.{IsKeyBelow}
use Rattle.name_table.proofs.Pairs.{each_pushed}
use Rattle.name_table.proofs.SearchedNames.{read_at}
use Rattle.name_table.proofs.table.keys_of.Goals as goal

-- the key of a name that is read at a place, below the first
key_read : (names : List Labels) (i key : ℕ) (first name : Labels) → first ≡ get_or names 0 [] → name ≡ get_or names i [] → IsKeyBelow first name key
    → IsKeyBelow (get_or names 0 []) (get_or names i []) key
key_read names i key first name above is holds =
    subst (λ (x : Labels). IsKeyBelow x (get_or names i []) key) above (subst (λ (x : Labels). IsKeyBelow first x key) is holds)

pub key_of-requires : goal.key_of-requires
key_of-requires c =
    let names : List Labels = c.args.names.now in
    let i : ℕ = c.loop-name.name-index in
    ap (is_prefix c.index-names-0.result) (c.labels.ensures.same ∙ read_at names i c.name-item.result c.loop-name-test.true c.name-item.is)
    ∙ ap (λ (x : Labels). is_prefix x (get_or names i [])) (read_at names 0 c.index-names-0.result c.requires.some c.index-names-0.is)
    ∙ c.requires.below i c.loop-name-test.true

pub loop-name-preserved : goal.loop-name-preserved
loop-name-preserved c =
    let names : List Labels = c.args.names.now in
    let i : ℕ = c.loop-name.name-index in
    let key : ℕ = c.key_of.result in
    let is : IsKeyBelow (get_or names 0 []) (get_or names i []) key =
    key_read names i key c.index-names-0.result c.labels.result (read_at names 0 c.index-names-0.result c.requires.some c.index-names-0.is)
    (c.labels.ensures.same ∙ read_at names i c.name-item.result c.loop-name-test.true c.name-item.is) c.key_of.ensures in
    record {
      many = omega (arith, c.in_ok-push.ensures.len, c.loop-name.invariant.many);
      each = λ k d below.
          subst (λ (keys : List ℕ). IsKeyBelow (get_or names 0 []) (get_or names k []) (get_or keys k d)) (sym {A = List ℕ} c.in_ok-push.ensures.items)
          (each_pushed (λ (j key : ℕ). IsKeyBelow (get_or names 0 []) (get_or names j []) key) c.loop-name.keys.items i key c.loop-name.invariant.many
          c.loop-name.invariant.each is k d below);
    }

pub returns : goal.returns
returns c =
    let all : length c.args.names.now ≡ c.loop-name.name-index = omega (arith, c.loop-name-test.false) in
    record {
      many = omega (arith, all, c.loop-name.invariant.many);
      each = λ k below. c.loop-name.invariant.each k 0 (omega (arith, all, below));
    }
