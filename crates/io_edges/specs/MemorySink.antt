-- A sink in memory: what it took, which calls fail, and what a call of `write` does to it.
use Rattle.std.specs.Prelude.{ℕ, ◌-◌, List, [], ◌++◌, Bool, ◌||◌, ◌&&◌, ◌==◌, nat_lt, if◌then◌else◌, Option, Some, length, take, min, refl}
use Rattle.std.specs.Coded.{Coded, code_by, coded×, coded_ℕ, coded_list}
use Rattle.io_edges.specs.Counts.{risen, is_listed}

-- a sink in memory
pub record SinkInMemory : Type 0 where
  -- the bytes that it took
  pub taken : List ℕ
  -- how many bytes it takes at most
  pub room : ℕ
  -- how many calls failed
  pub failures : ℕ
  -- the numbers of the calls that fail, the first call being 1
  pub fails : List ℕ
  -- how many calls there were
  pub calls : ℕ

-- how an output in memory is coded as one plain value, and read back from it
abbrev pub sink_code : Coded SinkInMemory
sink_code =
    code_by ((List ℕ × ℕ) × (ℕ × (List ℕ × ℕ))) (coded× (coded× (coded_list coded_ℕ) coded_ℕ) (coded× coded_ℕ (coded× (coded_list coded_ℕ) coded_ℕ)))
    (λ s. ((s.taken, s.room), (s.failures, (s.fails, s.calls))))
    (λ p. record { taken = p.0.0; room = p.0.1; failures = p.1.0; fails = p.1.1.0; calls = p.1.1.1 }) (λ _. refl)

-- the bytes taken: a sink in memory tells them
abbrev pub told_taken : SinkInMemory → Option (List ℕ)
told_taken s = Some s.taken

-- how many bytes there is room for
abbrev pub room_left : SinkInMemory → ℕ
room_left s = s.room - length s.taken

-- how many bytes of this piece fit
abbrev pub room_for : SinkInMemory → List ℕ → ℕ
room_for s piece = min (length piece) (room_left s)

-- whether the next call fails, at this piece: its number is listed, or no byte fits of a piece that has some
abbrev pub refuses_next : SinkInMemory → List ℕ → Bool
refuses_next s piece = is_listed s.fails (risen s.calls) || (nat_lt 0 (length piece) && room_for s piece == 0)

-- the sink in memory after one call more, with this piece
abbrev pub after_write : SinkInMemory → List ℕ → SinkInMemory
after_write s piece =
    let counted : SinkInMemory = record s { calls = risen s.calls } in
    if refuses_next s piece then record counted { failures = risen s.failures }
    else record counted { taken = s.taken ++ take (room_for s piece) piece }

-- nothing taken, and no call so far
abbrev pub nothing_taken : ℕ → List ℕ → SinkInMemory
nothing_taken room fails = record { taken = []; room = room; failures = 0; fails = fails; calls = 0 }
