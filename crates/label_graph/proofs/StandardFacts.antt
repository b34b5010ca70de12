-- Readings that follow from what RFC 6672 section 2.2 prints, and one that only a graph which follows targets further
-- finds.
use Rattle.std.proofs.Common.{ℕ, List, [], ◌∷◌, refl, arith}
use Rattle.dns_data.proofs.Membership.{has_first, has_later}
use Rattle.net_model.specs.Reading.{Redirection, ReadsOnTo, Ground, IsNamed}

abbrev x : List ℕ
x = 120 ∷ []

abbrev shortloop : List ℕ
shortloop = 115 ∷ 104 ∷ 111 ∷ 114 ∷ 116 ∷ 108 ∷ 111 ∷ 111 ∷ 112 ∷ []

-- x. is redirected to the root
abbrev to_root : Redirection
to_root = record { owner = x ∷ []; target = [] }

-- shortloop.x.x. reads on to shortloop.x., and that to shortloop.
short_loop : ReadsOnTo (to_root ∷ []) (x ∷ x ∷ shortloop ∷ []) (shortloop ∷ [])
short_loop = (
  (x ∷ shortloop ∷ []) ∷ (shortloop ∷ []) ∷ [],
  (
    record { redirection = to_root; among = has_first to_root []; below = x ∷ shortloop ∷ []; before = refl; after = refl },
    (record { redirection = to_root; among = has_first to_root []; below = shortloop ∷ []; before = refl; after = refl }, refl),
  ),
)

-- cyc.example. reads on to itself where example. is redirected to itself
abbrev example : List ℕ
example = 101 ∷ 120 ∷ 97 ∷ 109 ∷ 112 ∷ 108 ∷ 101 ∷ []

abbrev cyc : List ℕ
cyc = 99 ∷ 121 ∷ 99 ∷ []

abbrev to_itself : Redirection
to_itself = record { owner = example ∷ []; target = example ∷ [] }

cycle : ReadsOnTo (to_itself ∷ []) (example ∷ cyc ∷ []) (example ∷ cyc ∷ [])
cycle = (
  (example ∷ cyc ∷ []) ∷ [],
  (record { redirection = to_itself; among = has_first to_itself []; below = cyc ∷ []; before = refl; after = refl }, refl),
)

-- ---- d.t. is redirected to x.f.t., f.t. to g.t., and w.x.g.t. is a base name, but x.f.t. isn't: w.d.t. is named

abbrev d : List ℕ
d = 100 ∷ []

abbrev f : List ℕ
f = 102 ∷ []

abbrev g : List ℕ
g = 103 ∷ []

abbrev t : List ℕ
t = 116 ∷ []

abbrev w : List ℕ
w = 119 ∷ []

abbrev first : Redirection
first = record { owner = t ∷ d ∷ []; target = t ∷ f ∷ x ∷ [] }

abbrev second : Redirection
second = record { owner = t ∷ f ∷ []; target = t ∷ g ∷ [] }

abbrev two : Ground
two =
    record {
      names = [] ∷ (t ∷ []) ∷ (t ∷ d ∷ []) ∷ (t ∷ f ∷ []) ∷ (t ∷ g ∷ []) ∷ (t ∷ g ∷ x ∷ []) ∷ (t ∷ g ∷ x ∷ w ∷ []) ∷ [];
      redirections = first ∷ second ∷ [];
    }

named_through_a_target : IsNamed two (t ∷ d ∷ w ∷ [])
named_through_a_target =
    record {
      base = t ∷ g ∷ x ∷ w ∷ [];
      among = (6, omega arith, refl);
      reads = (
        (t ∷ f ∷ x ∷ w ∷ []) ∷ (t ∷ g ∷ x ∷ w ∷ []) ∷ [],
        (
          record { redirection = first; among = has_first first (second ∷ []); below = w ∷ []; before = refl; after = refl },
          (
            record {
              redirection = second;
              among = has_later first (second ∷ []) second (has_first second []);
              below = x ∷ w ∷ [];
              before = refl;
              after = refl;
            },
            refl,
          ),
        ),
      );
    }
