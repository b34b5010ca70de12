-- How many files may still be opened doesn't matter where no fewer than may be included.
use Rattle.std.proofs.Common.{◌≡◌, ◌∙◌, ℕ, zero, suc, ◌+◌, ◌<◌, List, [], ◌∷◌, ◌++◌, length, refl, sym, arith, length-append}
use Rattle.std.specs.Prelude.{Result, Ok, Err}
use Rattle.dns_data.specs.Name.{Labels}
use Rattle.io_edges.specs.Files.{FilesTold}
use Rattle.master_read.specs.ZoneText.{Unread, Faulty, Asks, zone_text}
use Rattle.master_read.specs.declared.fault.TextFault.{TextFault}
use Rattle.master_read.specs.declared.zone_text.ZoneText.{ZoneText}
use Rattle.master_read.proofs.Counts.{texts_ask}
use Rattle.config_load.specs.Conf.{settled, files_behind}
use Rattle.config_load.specs.Joined.{joined}
use Rattle.config_load.specs.Reading.{Reading, Reads, Refuses, Misses, Unknown, ◌>>=◌, file_octets}
use Rattle.config_load.specs.declared.limits.Limits.{Limits}

-- what is read of a value goes on alike if each next step does
next_alike : {A B : Type 0} (reading : Reading A) (f g : A → Reading B) → ((a : A) → f a ≡ g a) → (reading >>= f) ≡ (reading >>= g)
next_alike (Reads value) f g alike = alike value
next_alike (Refuses fault) f g alike = refl
next_alike (Misses file) f g alike = refl
next_alike (Unknown file) f g alike = refl

-- what texts give is alike if it is for each file that they ask for, where nothing else is looked at
asked_alike : {Z : Type 0} (settle : (List ℕ → Reading Z) → Result ZoneText Unread → Reading Z)
    → ((f g : List ℕ → Reading Z) (text : ZoneText) → settle f (Ok text) ≡ settle g (Ok text))
    → ((f g : List ℕ → Reading Z) (fault : TextFault) → settle f (Err (Faulty fault)) ≡ settle g (Err (Faulty fault)))
    → ((f : List ℕ → Reading Z) (file : List ℕ) → settle f (Err (Asks file)) ≡ f file)
    → (f g : List ℕ → Reading Z) (texts : Result ZoneText Unread) → ((file : List ℕ) → texts ≡ Err (Asks file) → f file ≡ g file) → settle f texts ≡ settle g texts
asked_alike settle read faulty asked f g (Ok text) alike = read f g text
asked_alike settle read faulty asked f g (Err (Faulty fault)) alike = faulty f g fault
asked_alike settle read faulty asked f g (Err (Asks file)) alike = asked f file ∙ alike file refl ∙ sym (asked g file)

module _ (meta : List ℕ) (origin : Labels) (left : Limits) (told : FilesTold) where
  -- texts that are more than may be included ask for no file
  no_more_asked : (texts : List (List ℕ)) → left.includes < length texts → (file : List ℕ) → zone_text origin left.records left.includes texts ≡ Err (Asks file) → ⊥
  no_more_asked texts more file e = let few = texts_ask origin left.records left.includes texts file e in absurd (omega (arith, more, few))

  -- two numbers of files, neither of which is too small, give the same
  pub enough_files : (one other : ℕ) (names texts : List (List ℕ)) → left.includes < one + length texts → left.includes < other + length texts
      → files_behind meta origin left one names texts told ≡ files_behind meta origin left other names texts told
  unfolding files_behind
  enough_files zero zero names texts first second = refl
  enough_files zero (suc other) names texts first second =
      asked_alike (settled names) (λ f g text. refl) (λ f g fault. refl) (λ f file. refl) _ _ (zone_text origin left.records left.includes texts)
      (λ file e. absurd (no_more_asked texts (omega (arith, first)) file e))
  enough_files (suc one) zero names texts first second =
      asked_alike (settled names) (λ f g text. refl) (λ f g fault. refl) (λ f file. refl) _ _ (zone_text origin left.records left.includes texts)
      (λ file e. absurd (no_more_asked texts (omega (arith, second)) file e))
  enough_files (suc one) (suc other) names texts first second =
      asked_alike (settled names) (λ f g text. refl) (λ f g fault. refl) (λ f file. refl) _ _ (zone_text origin left.records left.includes texts)
      (λ file e. next_alike (file_octets left (joined meta file) told) _ _
      (λ text. enough_files one other (names ++ joined meta file ∷ []) (texts ++ text ∷ [])
      (omega (arith, first, length-append texts (text ∷ []))) (omega (arith, second, length-append texts (text ∷ [])))))
