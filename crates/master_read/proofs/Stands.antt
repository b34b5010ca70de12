-- For which texts a reader stands, from call to call.
use Rattle.std.proofs.Common.{◌≡◌, ℕ, true, false, List, [], ◌∷◌, ◌++◌, refl, sym, ap, ◌∙◌, ◌+◌, length, Some, None}
use Rattle.std.specs.Prelude.{◌≢◌, Err}
use Rattle.std.proofs.lemmas.List.{append-nil, length-append}
use Rattle.dns_data.specs.Name.{Labels}
use Rattle.master_read.specs.Reader.{Held, HasLimits, IsReading, IsSettled, IsReaderOf, GoesOn, asked_by, texts_give}
use Rattle.master_read.specs.Steps.{HasComeTo}
use Rattle.master_read.specs.ZoneText.{Faulty, zone_text}
use Rattle.master_read.specs.declared.asked.AfterFile.TheVariants.{Include, Done}
use Rattle.master_read.specs.declared.fault.TextFault.{TextFault}
use Rattle.master_read.specs.declared.fault.TextFault.TheVariants.{NoMemory}

-- a reader that was fed a piece, and read of it, stands for the texts with the piece
pub stands_on : (old new : Held) (piece : List ℕ) → old.fault ≡ None → new.fault ≡ None → new.limits ≡ old.limits → new.fed ≡ old.fed + length piece
    → ((origin : Labels) (ended : List (List ℕ)) (text : List ℕ) → IsReading old origin ended text → IsReading new origin ended (text ++ piece))
    → (origin : Labels) (room includes : ℕ) (ended : List (List ℕ)) (text : List ℕ) → IsReaderOf old origin room includes ended text → IsReaderOf new origin room includes ended (text ++ piece)
stands_on old new piece none none' limits fed read origin room includes ended text h = record {
  limits = rw limits h.limits;
  fed_is = fed ∙ ap (λ n. n + length piece) h.fed_is ∙ sym (length-append text piece);
  agrees = rw none' (read origin ended text (rw none at h.agrees));
}

-- a reader that was fed a piece with a fault stands for the texts with the piece, by that fault
pub meets : (old new : Held) (piece : List ℕ) (fault : TextFault) → old.fault ≡ None → new.fault ≡ Some fault → new.limits ≡ old.limits → new.fed ≡ old.fed + length piece
    → ((origin : Labels) (ended : List (List ℕ)) (text : List ℕ) → IsReading old origin ended text → fault ≢ NoMemory → IsSettled fault old.limits origin ended (text ++ piece)) → fault ≢ NoMemory
    → (origin : Labels) (room includes : ℕ) (ended : List (List ℕ)) (text : List ℕ) → IsReaderOf old origin room includes ended text → IsReaderOf new origin room includes ended (text ++ piece)
meets old new piece fault none some limits fed settles named origin room includes ended text h = record {
  limits = rw limits h.limits;
  fed_is = fed ∙ ap (λ n. n + length piece) h.fed_is ∙ sym (length-append text piece);
  agrees = rw (some, limits) (named, settles origin ended text (rw none at h.agrees) named);
}

-- the limits that are held are those that were given
pub by_limits : (held : Held) (room includes : ℕ) (origin : Labels) (texts : List (List ℕ)) → HasLimits held room includes → zone_text origin room includes texts ≡ texts_give held.limits origin texts
by_limits held room includes origin texts h =
    ap (λ n. zone_text origin n includes texts) (sym h.0) ∙ ap (λ n. zone_text origin held.limits.room n texts) (sym h.1)

-- a fault that is settled is that of the texts so far
pub settled_now : (held : Held) (fault : TextFault) (origin : Labels) (room includes : ℕ) (ended : List (List ℕ)) (text : List ℕ) → held.fault ≡ Some fault
    → IsReaderOf held origin room includes ended text → (fault ≢ NoMemory) × (texts_give held.limits origin (ended ++ text ∷ []) ≡ Err (Faulty fault))
settled_now held fault origin room includes ended text some h =
    let settled = rw some at h.agrees in (
      settled.0,
      ap (λ (t : List ℕ). texts_give held.limits origin (ended ++ t ∷ [])) (sym (append-nil text)) ∙ settled.1 [] [],
    )

-- behind a fault that is settled no file is asked for
pub settled_asks : (held : Held) (fault : TextFault) (origin : Labels) (room includes : ℕ) (ended : List (List ℕ)) (text : List ℕ) → held.fault ≡ Some fault
    → IsReaderOf held origin room includes ended text → Done ≡ asked_by (zone_text origin room includes (ended ++ text ∷ []))
settled_asks held fault origin room includes ended text some h =
    sym (ap asked_by (by_limits held room includes origin (ended ++ text ∷ []) h.limits ∙ (settled_now held fault origin room includes ended text some h).1))

-- a reader with a settled fault ends with it
pub settled_ends : (held new : Held) (fault : TextFault) (origin : Labels) (room includes : ℕ) (ended : List (List ℕ)) (text : List ℕ) → held.fault ≡ Some fault → new ≡ record held { ended = true }
    → IsReaderOf held origin room includes ended text → GoesOn Done new origin room includes (ended ++ text ∷ [])
settled_ends held new fault origin room includes ended text some is h =
    rw is (refl, record { limits = h.limits; gives = rw some (settled_now held fault origin room includes ended text some h) })

-- the texts ask for a file
module _ (old new : Held) (origin : Labels) (room includes : ℕ) (ended : List (List ℕ)) (text : List ℕ) (none : old.fault ≡ None) (limits : new.limits ≡ old.limits)
    (h : IsReaderOf old origin room includes ended text) where
  given : zone_text origin room includes (ended ++ text ∷ []) ≡ texts_give new.limits origin (ended ++ text ∷ [])
  given = rw limits (by_limits old room includes origin (ended ++ text ∷ []) h.limits)

  -- the reader has read what was fed, but for what it holds
  pub reading : IsReading old origin ended text
  reading = rw none at h.agrees

  -- where the reading has come to a file, the texts ask for this file
  pub file_asked : (file : List ℕ) → HasComeTo (Some file) new origin (ended ++ text ∷ []) → Include file ≡ asked_by (zone_text origin room includes (ended ++ text ∷ []))
  file_asked file comes = sym (ap asked_by (given ∙ comes.0))

  -- where the reading has come to a file, of which nothing was fed, the reader stands for the texts and an empty one
  pub file_stands : (file : List ℕ) → new.ended ≡ false → new.fed ≡ 0 → new.fault ≡ old.fault → HasComeTo (Some file) new origin (ended ++ text ∷ [])
      → GoesOn (Include file) new origin room includes (ended ++ text ∷ [])
  file_stands file unended fed fault comes = (unended, fed, record { limits = rw limits h.limits; fed_is = fed; agrees = rw (fault, none) comes.1 })

  -- if the reading has come to no more file, the texts have ended
  pub all_asked : HasComeTo None new origin (ended ++ text ∷ []) → Done ≡ asked_by (zone_text origin room includes (ended ++ text ∷ []))
  all_asked comes = sym (ap asked_by (given ∙ comes))

  -- where all was read, the reader ends with what the texts give
  pub all_ends : (last : Held) → last ≡ record new { ended = true } → new.fault ≡ old.fault → HasComeTo None new origin (ended ++ text ∷ [])
      → GoesOn Done last origin room includes (ended ++ text ∷ [])
  all_ends last is fault comes = rw is (refl, record { limits = rw limits h.limits; gives = rw (fault, none) comes })
