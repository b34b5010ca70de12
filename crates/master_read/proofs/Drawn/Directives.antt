-- Directives drawn at random.
use Rattle.std.specs.Prelude.{◌≡◌, refl, [], ◌∷◌, codes, Some, None, Err}
use Rattle.std.specs.Str.{is_utf8, chars}
use Rattle.master_read.specs.Directives.{directive_of, origin_directive, ttl_directive, include_directive}
use Rattle.master_read.specs.declared.fault.TextCause.TheVariants.{BadDirective}
use Rattle.master_read.proofs.Worked.Words.{context_with, in_quotes, includes_file, sets, token}

directive_0 :
    directive_of (context_with (codes "t" ∷ codes "a" ∷ []) (Some 7) (Some 8) (Some (codes "t" ∷ []))) (token "$INCLUDE" ∷ token "60" ∷ [])
    ≡ includes_file "60" (codes "t" ∷ codes "a" ∷ [])
unfolding directive_of include_directive is_utf8 chars lib.Utf8.encode
directive_0 = refl

directive_1 : directive_of (context_with [] None (Some 8) (Some (codes "t" ∷ []))) (token "$TT" ∷ token "60" ∷ in_quotes "x" ∷ []) ≡ Err BadDirective
unfolding directive_of origin_directive ttl_directive
directive_1 = refl

directive_2 : directive_of (context_with (codes "t" ∷ []) None None (Some (codes "t" ∷ []))) (token "$INCLUDE" ∷ token "f" ∷ []) ≡ includes_file "f" (codes "t" ∷ [])
unfolding directive_of include_directive is_utf8 chars lib.Utf8.encode
directive_2 = refl

directive_3 : directive_of (context_with (codes "t" ∷ codes "a" ∷ []) None None None) (token "$TTL" ∷ in_quotes "" ∷ []) ≡ Err BadDirective
unfolding directive_of origin_directive ttl_directive
directive_3 = refl

directive_4 : directive_of (context_with (codes "t" ∷ codes "a" ∷ []) (Some 7) None (Some (codes "t" ∷ []))) (token "$" ∷ []) ≡ Err BadDirective
unfolding directive_of origin_directive ttl_directive
directive_4 = refl

directive_5 : directive_of (context_with [] (Some 7) None None) (token "$ORIGIN" ∷ token "." ∷ []) ≡ sets (context_with [] (Some 7) None None)
unfolding directive_of origin_directive ttl_directive
directive_5 = refl
