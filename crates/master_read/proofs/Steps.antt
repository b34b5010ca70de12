-- The steps of a record's reading.
use Rattle.std.proofs.Common.{◌≡◌, ℕ, Bool, false, true, ◌&&◌, List, ok_or, refl, inl, inr, ap, Option, Some, None}
use Rattle.std.proofs.lemmas.Str.{IsUtf8-from_is_utf8, is_utf8-from_IsUtf8}
use Rattle.std.specs.Str.{IsUtf8, is_utf8}
use Rattle.std.specs.Prelude.{Result, Ok, Err}
use Rattle.dns_data.specs.Answers.{AnswersOr, ◌>>=◌, with_fault}
use Rattle.dns_data.specs.Name.{Labels}
use Rattle.master_lex.specs.declared.entry.Entry.{Entry}
use Rattle.master_read.specs.Directives.{Directive, Includes, is_directive, includes, is_include, directive_of}
use Rattle.master_read.specs.Entries.{owner_of}
use Rattle.master_read.specs.ZoneText.{Opens, said_by, effect_of}
use Rattle.master_read.specs.declared.context.Context.{Context}
use Rattle.master_read.specs.declared.fault.TextCause.{TextCause}
use Rattle.master_read.specs.declared.fault.TextCause.TheVariants.{NoOwner}
use Rattle.master_read.specs.declared.fault.EntryFault.{EntryFault}
use Rattle.master_read.specs.declared.fault.EntryFault.TheVariants.{Cause, NoMemory as WantsMemory}
use Rattle.master_read.specs.declared.records.Records.{Records}

there_is : (o : Option Labels) (cause : TextCause) (owner : Labels) → ok_or o cause ≡ Ok owner → o ≡ Some owner
there_is None cause owner e = absurd cc
there_is (Some x) cause owner e = cc

-- the owner of an entry whose line begins blank is the last owner
pub last_owner_is : (context : Context) (entry : Entry) (owner : Labels) → owner_of context entry ≡ Ok owner → entry.blank_start ≡ true → context.owner ≡ Some owner
unfolding owner_of
last_owner_is context entry owner e blank = there_is context.owner NoOwner owner (rw blank at e)

-- octets that are UTF-8 pass the test of UTF-8
pub utf8 : (octets : List ℕ) → IsUtf8 octets → is_utf8 octets ≡ true
utf8 = is_utf8-from_IsUtf8

-- octets that aren't UTF-8 don't pass its test
pub no_utf8 : (octets : List ℕ) → ¬ (IsUtf8 octets) → is_utf8 octets ≡ false
no_utf8 octets none = by (is_utf8 octets) refl where
  by : (b : Bool) → is_utf8 octets ≡ b → is_utf8 octets ≡ false
  by true text = absurd (none (IsUtf8-from_is_utf8 octets text))
  by false same = same

-- an `$INCLUDE` is a directive, and its first token is the word
both : (a b : Bool) → (a && b) ≡ true → (a ≡ true) × (b ≡ true)
both true true e = (refl, refl)
both true false e = absurd cc
both false b e = absurd cc

-- an `$INCLUDE` is a directive, and its first token is that word
pub include_is : (entry : Entry) → is_include entry ≡ true → (is_directive entry ≡ true) × (includes entry.tokens ≡ true)
include_is entry e = both (is_directive entry) (includes entry.tokens) e

-- what a directive says is what its entry makes
pub directive_opens : (room file : ℕ) (records : Records) (entry : Entry) (name : List ℕ) (origin : Labels) → is_directive entry ≡ true
    → directive_of records.context entry.tokens ≡ Ok (Includes name origin) → effect_of room file records entry ≡ Ok (Opens name origin)
unfolding effect_of
directive_opens room file records entry name origin is e =
    rw is (ap (λ (said : Result Directive TextCause). said >>= (λ directive. Ok (said_by records directive))) e)

-- a fault of a directive is that of its entry
pub directive_fault : (room file : ℕ) (records : Records) (entry : Entry) (fault : EntryFault) → is_directive entry ≡ true
    → AnswersOr WantsMemory (Err fault) (with_fault Cause (directive_of records.context entry.tokens)) → AnswersOr WantsMemory (Err fault) (with_fault Cause (effect_of room file records entry))
unfolding effect_of
directive_fault room file records entry fault is (inl free) = inl free
directive_fault room file records entry fault is (inr same) = rw is (inr (by (directive_of records.context entry.tokens) same)) where
  by : (said : Result Directive TextCause) → with_fault Cause said ≡ Err fault → with_fault Cause (said >>= (λ directive. Ok (said_by records directive))) ≡ Err fault
  by (Ok directive) e = absurd cc
  by (Err cause) e = let is : Cause cause ≡ fault = cc in ap Err is
