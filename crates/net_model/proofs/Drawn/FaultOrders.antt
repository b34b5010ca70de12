-- The order of faults drawn at random.
-- docs/draw.py works them out once more, by plain rules.
use Rattle.std.specs.Prelude.{◌≡◌, refl, [], ◌∷◌, codes}
use Rattle.std.specs.declared.cmp.Ordering.TheVariants.{Less, Equal, Greater}
use Rattle.net_model.specs.declared.class.Class.TheVariants.{Exact, Below}
use Rattle.net_model.specs.FaultOrder.{fault_cmp}
use Rattle.net_model.proofs.Words.{place_at, cut_at}
use Rattle.dns_data.specs.declared.rr_type.RrType.TheVariants as types
use Rattle.net_model.specs.declared.fault.Fault.TheVariants as faults

order_0 : fault_cmp (faults.Limit (place_at (codes "ta" ∷ []) (codes "ta" ∷ []) (codes "t" ∷ []))) (faults.Limit (place_at (codes "t" ∷ codes "a" ∷ []) (codes "ta" ∷ []) (codes "t" ∷ codes "*" ∷ []))) ≡ Greater
order_0 = refl

order_1 : fault_cmp (faults.Differs (cut_at (codes "t" ∷ codes "a" ∷ []) [] (codes "t" ∷ []) (codes "t" ∷ []))) (faults.Differs (cut_at (codes "t" ∷ codes "a" ∷ []) [] [] (codes "t" ∷ codes "a" ∷ []))) ≡ Greater
order_1 = refl

order_2 : fault_cmp (faults.Overlong (place_at (codes "ta" ∷ []) (codes "ta" ∷ []) (codes "t" ∷ codes "*" ∷ []))) (faults.Overlong (place_at (codes "t" ∷ codes "*" ∷ []) (codes "t" ∷ []) (codes "t" ∷ []))) ≡ Greater
order_2 = refl

order_3 : fault_cmp (faults.Cyclic (cut_at (codes "t" ∷ codes "a" ∷ []) (codes "t" ∷ []) (codes "t" ∷ codes "a" ∷ []) [])) (faults.Cyclic (cut_at (codes "t" ∷ codes "a" ∷ []) [] [] (codes "t" ∷ codes "a" ∷ []))) ≡ Greater
order_3 = refl

order_4 : fault_cmp (faults.Lame (cut_at (codes "t" ∷ []) [] (codes "t" ∷ []) (codes "t" ∷ []))) (faults.Lame (cut_at (codes "t" ∷ codes "a" ∷ []) (codes "t" ∷ codes "a" ∷ []) (codes "t" ∷ []) (codes "t" ∷ codes "a" ∷ []))) ≡ Less
order_4 = refl

order_5 : fault_cmp (faults.Answers (Below (codes "t" ∷ codes "a" ∷ [])) types.A) (faults.Answers (Exact (codes "t" ∷ codes "a" ∷ [])) types.A) ≡ Greater
order_5 = refl

order_6 : fault_cmp (faults.NoAddress (cut_at (codes "t" ∷ []) (codes "t" ∷ codes "a" ∷ []) (codes "t" ∷ []) (codes "t" ∷ codes "a" ∷ []))) (faults.NoAddress (cut_at (codes "t" ∷ codes "a" ∷ []) (codes "t" ∷ []) (codes "t" ∷ codes "a" ∷ []) [])) ≡ Less
order_6 = refl

order_7 : fault_cmp (faults.Answers (Below (codes "t" ∷ [])) types.Txt) (faults.Answers (Below (codes "t" ∷ [])) types.Txt) ≡ Equal
order_7 = refl
