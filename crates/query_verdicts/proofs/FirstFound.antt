-- Of faults seen with several types there are the first ones, in fault order.
use Rattle.std.proofs.Common.{◌≡◌, ◌⊎◌, ◌≤◌, List, [], ◌∷◌, Contains, AllPairs, refl, sym, ap, ◌∙◌, subst, inl, inr, arith}
use Rattle.std.specs.Ordering.{ordering_reverse}
use Rattle.std.specs.declared.cmp.Ordering.{Ordering}
use Rattle.std.specs.declared.cmp.Ordering.TheVariants.{Less, Equal, Greater}
use Rattle.std.proofs.lemmas.Bool.{cases_lt}
use Rattle.std.proofs.lemmas.List.Kept.{AllPairs-cons}
use Rattle.dns_data.specs.RrType.{number_of}
use Rattle.dns_data.proofs.Membership.{none_in_nil, has_first, has_later, first_or_later, all_from_contains, pairs_first, pairs_rest}
use Rattle.graph_form.specs.Verdict.{AreFirstTypes, IsCovered}
use Rattle.graph_form.specs.declared.report.Seen.{Seen}
use Rattle.graph_form.proofs.FirstTypes.{one_fault, none_yet}
use Rattle.graph_form.proofs.Verdicts.{Rises}
use Rattle.net_model.specs.FaultOrder.{fault_cmp}
use Rattle.net_model.proofs.FaultOrder.{faults_total}

-- what is greater one way is less the other
turned_less : (a b : Seen) → fault_cmp a.fault b.fault ≡ Greater → Rises b a
turned_less a b e = faults_total.antisymm b.fault a.fault ∙ ap ordering_reverse e

-- one is seen more: the new list has it or one with a lower type, and so of each that was there; it has no others, and
-- rises
record IsPutAmong (x : Seen) (first more : List Seen) : Type 0 where
  has_new : IsCovered more x
  has_old : (y : Seen) → Contains first y → IsCovered more y
  no_other : (y : Seen) → Contains more y → (x ≡ y) ⊎ Contains first y
  rises : AllPairs Rises more

covers_itself : (xs : List Seen) (x : Seen) → Contains xs x → IsCovered xs x
covers_itself xs x has = record { by = x; has = has; fault_is = refl; not_later = omega arith }

-- faults that rise are the first of themselves
pub first_themselves : (xs : List Seen) → AllPairs Rises xs → AreFirstTypes xs xs
first_themselves xs rises = record { ordered = rises; from = λ seen has. has; covers = covers_itself xs }

covered_behind : (y : Seen) (xs : List Seen) (x : Seen) → IsCovered xs x → IsCovered (y ∷ xs) x
covered_behind y xs x covered =
    record { by = covered.by; has = has_later y xs covered.by covered.has; fault_is = covered.fault_is; not_later = covered.not_later }

-- it rises where the first does before the others, and these do
rising : (x : Seen) (xs : List Seen) → ((y : Seen) → Contains xs y → Rises x y) → AllPairs Rises xs → AllPairs Rises (x ∷ xs)
rising x xs before rest = AllPairs-cons Rises x xs (all_from_contains (Rises x) xs before) rest

module _ (x y : Seen) (ys : List Seen) (rises : AllPairs Rises (y ∷ ys)) where
  -- it comes before the first
  put_before : Rises x y → IsPutAmong x (y ∷ ys) (x ∷ y ∷ ys)
  put_before less =
      record {
        has_new = covers_itself (x ∷ y ∷ ys) x (has_first x (y ∷ ys));
        has_old = λ z has. covers_itself (x ∷ y ∷ ys) z (has_later x (y ∷ ys) z has);
        no_other = λ z has. first_or_later x (y ∷ ys) z has;
        rises = rising x (y ∷ ys) (λ z has. elim (first_or_later y ys z has) [
          | inl same ↦ subst (Rises x) same less
          | inr later ↦ faults_total.trans x.fault y.fault z.fault less (pairs_first Rises y ys rises z later)
        ]) rises;
      }

  -- it has the first one's fault and a lower type
  put_instead : fault_cmp x.fault y.fault ≡ Equal → number_of x.rtype ≤ number_of y.rtype → IsPutAmong x (y ∷ ys) (x ∷ ys)
  put_instead tie lower =
      let same : x.fault ≡ y.fault = one_fault x.fault y.fault tie in
      record {
        has_new = covers_itself (x ∷ ys) x (has_first x ys);
        has_old = λ z has. elim (first_or_later y ys z has) [
          | inl is ↦ subst (IsCovered (x ∷ ys)) is (record { by = x; has = has_first x ys; fault_is = same; not_later = lower })
          | inr later ↦ covers_itself (x ∷ ys) z (has_later x ys z later)
        ];
        no_other = λ z has. elim (first_or_later x ys z has) [ inl is ↦ inl is | inr later ↦ inr (has_later y ys z later) ];
        rises = rising x ys
            (λ z has. ap (λ f. fault_cmp f z.fault) same ∙ pairs_first Rises y ys rises z has) (pairs_rest Rises y ys rises);
      }

  -- it has the first one's fault and no lower type
  put_nowhere : fault_cmp x.fault y.fault ≡ Equal → number_of y.rtype ≤ number_of x.rtype → IsPutAmong x (y ∷ ys) (y ∷ ys)
  put_nowhere tie lower =
      record {
        has_new = record { by = y; has = has_first y ys; fault_is = sym (one_fault x.fault y.fault tie); not_later = lower };
        has_old = λ z has. covers_itself (y ∷ ys) z has;
        no_other = λ z has. inr has;
        rises = rises;
      }

  -- it comes behind the first
  put_behind : fault_cmp x.fault y.fault ≡ Greater → (more : List Seen) → IsPutAmong x ys more → IsPutAmong x (y ∷ ys) (y ∷ more)
  put_behind greater more put =
      record {
        has_new = covered_behind y more x put.has_new;
        has_old = λ z has. elim (first_or_later y ys z has) [
          | inl same ↦ covers_itself (y ∷ more) z (subst (Contains (y ∷ more)) same (has_first y more))
          | inr later ↦ covered_behind y more z (put.has_old z later)
        ];
        no_other = λ z has. elim (first_or_later y more z has) [
          | inl same ↦ inr (subst (Contains (y ∷ ys)) same (has_first y ys))
          | inr later ↦ elim (put.no_other z later) [ inl is ↦ inl is | inr was ↦ inr (has_later y ys z was) ]
        ];
        rises = rising y more (λ z has. elim (put.no_other z has) [
          | inl is ↦ subst (Rises y) is (turned_less x y greater)
          | inr was ↦ pairs_first Rises y ys rises z was
        ]) put.rises;
      }

put : (x : Seen) (first : List Seen) → AllPairs Rises first → (more : List Seen) × IsPutAmong x first more
put x [] rises = (
  x ∷ [],
  record {
    has_new = covers_itself (x ∷ []) x (has_first x []);
    has_old = λ y has. absurd (none_in_nil y has);
    no_other = λ y has. first_or_later x [] y has;
    rises = rising x [] (λ y has. absurd (none_in_nil y has)) rises;
  },
)
put x (y ∷ ys) rises = by (fault_cmp x.fault y.fault) refl (put x ys (pairs_rest Rises y ys rises)) where
  by : (o : Ordering) → fault_cmp x.fault y.fault ≡ o → (more : List Seen) × IsPutAmong x ys more → (more : List Seen) × IsPutAmong x (y ∷ ys) more
  by Less e rest = (x ∷ y ∷ ys, put_before x y ys rises e)
  by Equal e rest =
      elim (cases_lt (number_of y.rtype) (number_of x.rtype)) [
        | inl less ↦ (y ∷ ys, put_nowhere x y ys rises e (omega arith))
        | inr lower ↦ (x ∷ ys, put_instead x y ys rises e lower)
      ]
  by Greater e (more, is) = (y ∷ more, put_behind x y ys rises e more is)

-- each list of faults that were seen has the faults with their first types
pub first_types_exist : (all : List Seen) → (first : List Seen) × AreFirstTypes all first
first_types_exist [] = ([], none_yet)
first_types_exist (x ∷ all) =
    let (first, firsts) = first_types_exist all in
    let (more, is) = put x first firsts.ordered in (
      more,
      record {
        ordered = is.rises;
        from = λ y has. elim (is.no_other y has) [
          | inl same ↦ subst (Contains (x ∷ all)) same (has_first x all)
          | inr was ↦ has_later x all y (firsts.from y was)
        ];
        covers = λ y has. elim (first_or_later x all y has) [
          | inl same ↦ subst (IsCovered more) same is.has_new
          | inr later ↦ chain y more (firsts.covers y later) is
        ];
      },
    )
  where
    chain : {first : List Seen} (y : Seen) (more : List Seen) → IsCovered first y → IsPutAmong x first more → IsCovered more y
    chain y more covered is =
        let again = is.has_old covered.by covered.has in
        let first : number_of again.by.rtype ≤ number_of covered.by.rtype = again.not_later in
        let second : number_of covered.by.rtype ≤ number_of y.rtype = covered.not_later in
        record { by = again.by; has = again.has; fault_is = again.fault_is ∙ covered.fault_is; not_later = omega (arith, first, second) }
