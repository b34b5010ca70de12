-- The texts of IPv6 addresses.
use Rattle.std.proofs.Common.{◌≡◌, ◌⊎◌, ℕ, ◌+◌, ◌-◌, ◌<◌, Bool, true, false, ◌&&◌, List, [], ◌∷◌, ◌++◌, length, map, replicate, cond, eqb, leb, Option, Some, None, option_map, refl, ap, sym, ◌∙◌, inl, inr, arith}
use Rattle.std.specs.Fmt.{decimal}
use Rattle.std.specs.List.{list_all, slice_index}
use Rattle.std.proofs.lemmas.Bool.{false≢true, cond-true, cond-false, eq-eqb, ne_eqb, eqb-true, leb-true, le-leb, and_parts, and_right, cases_Bool}
use Rattle.std.proofs.lemmas.Option.{cond_some}
use Rattle.std.proofs.lemmas.List.{append-nil, length-map, length-append}
use Rattle.dns_data.specs.DataText.{separated, data_text}
use Rattle.dns_data.specs.declared.rdata.Rdata.TheVariants.{A}
use Rattle.dns_data.specs.Options.{◌>>=◌}
use Rattle.rdata_forms.specs.AddressTexts.{AddressPiece, Group, Dotted, IsPiece, ArePieces, IsWholeText, IsShortText, IsIpv6Text, IsIpv4Text, is_octet, piece_text, piece_octets, pieces_text, pieces_octets}
use Rattle.rdata_forms.specs.Addresses.{is_hex, is_group, group_octets, group_of, last_of, octets_of_pieces, octets_of, side_of, Sides, sides_of, if_whole, with_zero_groups, ipv4_of, ipv6_of_sides, ipv6_of, split_on}
use Rattle.dns_data.proofs.Separators.{Lacks, AllLack, rest_of, separated-split, split-separated}
use Rattle.rdata_forms.proofs.DottedTexts.{tested-lack, dotted-lacks, ipv4-sound, ipv4-complete}
use Rattle.rdata_forms.proofs.DoubleColon.{AreWords, separated-before, sides-sound}
use Rattle.rdata_forms.proofs.TwoSides.{after_octets, after_none}

-- options that are equal and have a value have equal values
pub inside : (a b : List ℕ) → Some a ≡ Some b → a ≡ b
inside a b h = cc

-- an IPv4 address's own text
own : (address : List ℕ) → length address ≡ 4 → list_all is_octet address ≡ true → IsIpv4Text (data_text (A address)) address
own address n ok = record { four = n; octets = ok; written = refl }

-- an IPv4 address isn't written as a group: a dot stops it
stopped : (a rest : List ℕ) → list_all is_hex (a ++ (46 ∷ rest)) ≡ false
stopped [] rest = refl
stopped (x ∷ a) rest = and_right (is_hex x) _ (stopped a rest)

no-group : (a rest : List ℕ) → is_group (a ++ (46 ∷ rest)) ≡ false
no-group a rest = and_right (leb 1 (length (a ++ (46 ∷ rest))) && leb (length (a ++ (46 ∷ rest))) 4) _ (stopped a rest)

dotted-no_group : (address : List ℕ) → length address ≡ 4 → is_group (data_text (A address)) ≡ false
dotted-no_group [] n = absurd (omega arith)
dotted-no_group (x ∷ address) n =
    no-group (decimal x) (decimal (slice_index (x ∷ address) 1) ++ rest_of 46 (decimal (slice_index (x ∷ address) 2) ∷ decimal (slice_index (x ∷ address) 3) ∷ []))

-- the octets of the last piece are worked out of its text
last-complete : (ends : Bool) (piece : AddressPiece) → IsPiece ends piece → last_of ends (piece_text piece) ≡ Some (piece_octets piece)
last-complete ends (Group digits) h = cond-true (is_group digits) _ _ h
last-complete true (Dotted address) h =
    cond-false (is_group (data_text (A address))) _ _ (dotted-no_group address h.1) ∙ ipv4-complete (data_text (A address)) address (own address h.1 h.2)
last-complete false (Dotted address) h = absurd (false≢true h.0)

-- the octets of pieces are worked out of their texts
pieces-complete : (ends : Bool) (pieces : List AddressPiece) → ArePieces ends pieces → octets_of_pieces ends (map piece_text pieces) ≡ Some (pieces_octets pieces)
pieces-complete ends [] h = refl
pieces-complete ends (piece ∷ []) h =
    last-complete ends piece h ∙ ap (λ (l : List ℕ). Some l) (sym (append-nil (piece_octets piece)))
pieces-complete ends (Group digits ∷ next ∷ pieces) h =
    ap (λ (o : Option (List ℕ)). o >>= λ octets. octets_of_pieces ends (map piece_text (next ∷ pieces)) >>= λ others. Some (octets ++ others)) (cond-true (is_group digits) (Some (group_octets digits)) None h.0)
    ∙ ap (λ (o : Option (List ℕ)). o >>= λ others. Some (group_octets digits ++ others)) (pieces-complete ends (next ∷ pieces) h.1)
pieces-complete ends (Dotted address ∷ next ∷ pieces) h = absurd (false≢true h.0.0)

-- a text with an octet in it
some-behind : (a rest : List ℕ) (c : ℕ) → 0 < length (a ++ (c ∷ rest))
some-behind [] rest c = omega arith
some-behind (x ∷ a) rest c = omega arith

-- a piece has an octet, and no colon
piece-word : (ends : Bool) (piece : AddressPiece) → IsPiece ends piece → (0 < length (piece_text piece)) × Lacks 58 (piece_text piece)
piece-word ends (Group digits) h =
    let parts = and_parts (leb 1 (length digits) && leb (length digits) 4) _ h in
    let some = leb-true 1 (length digits) ((and_parts (leb 1 (length digits)) _ parts.0).0) in
    (omega arith, tested-lack is_hex 58 digits refl parts.1)
piece-word ends (Dotted address) h = (dotted-some address h.1, dotted-lacks 58 address refl refl h.1 h.2) where
  dotted-some : (address : List ℕ) → length address ≡ 4 → 0 < length (data_text (A address))
  dotted-some [] n = absurd (omega arith)
  dotted-some (x ∷ address) n =
      some-behind (decimal x) (decimal (slice_index (x ∷ address) 1) ++ rest_of 46 (decimal (slice_index (x ∷ address) 2) ∷ decimal (slice_index (x ∷ address) 3) ∷ [])) 46

-- pieces are words
pieces-words : (ends : Bool) (pieces : List AddressPiece) → ArePieces ends pieces → AreWords (map piece_text pieces)
pieces-words ends [] h = tt
pieces-words ends (piece ∷ []) h = let word = piece-word ends piece h in (word.0, word.1, tt)
pieces-words ends (piece ∷ next ∷ pieces) h = let word = piece-word false piece h.0 in (word.0, word.1, pieces-words ends (next ∷ pieces) h.1)

words-lack : (words : List (List ℕ)) → AreWords words → AllLack 58 words
words-lack [] h = tt
words-lack (word ∷ words) h = (h.1, words-lack words h.2)

-- the octets of pieces are worked out of their text
text-complete : (ends : Bool) (piece : AddressPiece) (pieces : List AddressPiece) → ArePieces ends (piece ∷ pieces) → octets_of ends (pieces_text (piece ∷ pieces)) ≡ Some (pieces_octets (piece ∷ pieces))
text-complete ends piece pieces h =
    ap (octets_of_pieces ends) (split-separated 58 (piece_text piece) (map piece_text pieces) (words-lack (map piece_text (piece ∷ pieces)) (pieces-words ends (piece ∷ pieces) h)))
    ∙ pieces-complete ends (piece ∷ pieces) h

side-complete : (ends : Bool) (pieces : List AddressPiece) → ArePieces ends pieces → side_of ends (pieces_text pieces) ≡ Some (pieces_octets pieces)
side-complete ends [] h = refl
side-complete ends (piece ∷ pieces) h =
    let words = pieces-words ends (piece ∷ pieces) h in
    let text = pieces_text (piece ∷ pieces) in
    cond-false (eqb (length text) 0) _ _ (ne_eqb (length text) 0 (λ e. absurd (omega (arith, words.0, length-append (piece_text piece) (rest_of 58 (map piece_text pieces))))))
    ∙ text-complete ends piece pieces h

-- What is worked out of texts comes from pieces.
record FromPieces (ends : Bool) (texts : List (List ℕ)) (octets : List ℕ) : Type 0 where
  pieces : List AddressPiece
  well_formed : ArePieces ends pieces
  written : map piece_text pieces ≡ texts
  all : pieces_octets pieces ≡ octets

-- a piece before others
more-pieces : (ends : Bool) (piece : AddressPiece) (pieces : List AddressPiece) → IsPiece false piece → 0 < length pieces → ArePieces ends pieces → ArePieces ends (piece ∷ pieces)
more-pieces ends piece [] h some others = absurd (omega arith)
more-pieces ends piece (next ∷ pieces) h some others = (h, others)

last-sound : (ends : Bool) (text octets : List ℕ) → last_of ends text ≡ Some octets → FromPieces ends (text ∷ []) octets
last-sound ends text octets h = by_group (cases_Bool (is_group text)) where
  dotted : (ends : Bool) → cond ends (ipv4_of text) None ≡ Some octets → FromPieces ends (text ∷ []) octets
  dotted false e = absurd cc
  dotted true e =
      let address = ipv4-sound text octets e in
      record {
        pieces = Dotted octets ∷ [];
        well_formed = (refl, address.four, address.octets);
        written = ap (λ (t : List ℕ). t ∷ []) (sym address.written);
        all = append-nil octets;
      }

  by_group : (is_group text ≡ true) ⊎ (is_group text ≡ false) → FromPieces ends (text ∷ []) octets
  by_group (inl group) =
      let same : Some (group_octets text) ≡ Some octets = sym (cond-true (is_group text) _ _ group) ∙ h in
      record {
        pieces = Group text ∷ [];
        well_formed = group;
        written = refl;
        all = append-nil (group_octets text) ∙ inside (group_octets text) octets same;
      }
  by_group (inr other) = dotted ends (sym (cond-false (is_group text) (Some (group_octets text)) _ other) ∙ h)

pieces-sound : (ends : Bool) (texts : List (List ℕ)) (octets : List ℕ) → octets_of_pieces ends texts ≡ Some octets → FromPieces ends texts octets
pieces-sound ends [] octets h = record { pieces = []; well_formed = tt; written = refl; all = inside [] octets h }
pieces-sound ends (text ∷ []) octets h = last-sound ends text octets h
pieces-sound ends (text ∷ next ∷ texts) octets h =
    joined (group_of text) (octets_of_pieces ends (next ∷ texts)) refl (λ others e. pieces-sound ends (next ∷ texts) others e) h where
      put : (group others : List ℕ) → group_of text ≡ Some group → FromPieces ends (next ∷ texts) others → group ++ others ≡ octets → FromPieces ends (text ∷ next ∷ texts) octets
      put group others e rest same =
          let parts = cond_some (is_group text) (group_octets text) group e in
          let some : 0 < length rest.pieces = omega (arith, ap length rest.written, length-map rest.pieces piece_text) in
          record {
            pieces = Group text ∷ rest.pieces;
            well_formed = more-pieces ends (Group text) rest.pieces parts.0 some rest.well_formed;
            written = ap (λ (l : List (List ℕ)). text ∷ l) rest.written;
            all = ap (λ (l : List ℕ). l ++ pieces_octets rest.pieces) parts.1 ∙ ap (λ (l : List ℕ). group ++ l) rest.all ∙ same;
          }

      joined : (g o : Option (List ℕ)) → group_of text ≡ g → ((others : List ℕ) → o ≡ Some others → FromPieces ends (next ∷ texts) others) → (g >>= λ group. o >>= λ others. Some (group ++ others)) ≡ Some octets → FromPieces ends (text ∷ next ∷ texts) octets
      joined None o e ih k = absurd cc
      joined (Some group) None e ih k = absurd cc
      joined (Some group) (Some others) e ih k = put group others e (ih others refl) (inside (group ++ others) octets k)

-- What is worked out of a text comes from pieces.
record FromText (ends : Bool) (text octets : List ℕ) : Type 0 where
  pieces : List AddressPiece
  well_formed : ArePieces ends pieces
  written : text ≡ pieces_text pieces
  all : pieces_octets pieces ≡ octets

text-sound : (ends : Bool) (text octets : List ℕ) → octets_of ends text ≡ Some octets → FromText ends text octets
text-sound ends text octets h =
    let found = pieces-sound ends (split_on 58 text) octets h in
    record {
      pieces = found.pieces;
      well_formed = found.well_formed;
      written = sym (separated-split 58 text) ∙ ap (separated (58 ∷ [])) (sym found.written);
      all = found.all;
    }

side-sound : (ends : Bool) (text octets : List ℕ) → side_of ends text ≡ Some octets → FromText ends text octets
side-sound ends [] octets h = record { pieces = []; well_formed = tt; written = refl; all = inside [] octets h }
side-sound ends (x ∷ text) octets h =
    text-sound ends (x ∷ text) octets (sym (cond-false (eqb (length (x ∷ text)) 0) _ _ (ne_eqb (length (x ∷ text)) 0 (λ e. absurd (omega arith)))) ∙ h)

-- the sixteen octets
whole-sound : (text address : List ℕ) (o : Option (List ℕ)) → octets_of true text ≡ o → (o >>= if_whole) ≡ Some address → IsWholeText text address
whole-sound text address None e h = absurd cc
whole-sound text address (Some octets) e h =
    let parts = cond_some (eqb (length octets) 16) octets address h in
    let found = text-sound true text octets e in
    record {
      pieces = found.pieces;
      well_formed = found.well_formed;
      written = found.written;
      sixteen = ap length found.all ∙ eqb-true (length octets) 16 parts.0;
      stands_for = sym parts.1 ∙ sym found.all;
    }

-- the octets on both sides of a `::`
short-sound : (text address : List ℕ) (sides : Sides) (f b : Option (List ℕ)) → text ≡ sides.front ++ (58 ∷ 58 ∷ sides.back) → side_of false sides.front ≡ f → side_of true sides.back ≡ b → (f >>= λ front. b >>= λ back. with_zero_groups front back) ≡ Some address → IsShortText text address
short-sound text address sides None b split ef eb h = absurd cc
short-sound text address sides (Some front) None split ef eb h = absurd cc
short-sound text address sides (Some front) (Some back) split ef eb h =
    let parts = cond_some (leb (length front + length back) 14) (front ++ (replicate (16 - (length front + length back)) 0 ++ back)) address h in
    let before = side-sound false sides.front front ef in
    let behind = side-sound true sides.back back eb in
    let le = leb-true (length front + length back) 14 parts.0 in
    record {
      front = before.pieces;
      back = behind.pieces;
      front_well_formed = before.well_formed;
      back_well_formed = behind.well_formed;
      written = split ∙ ap (λ (l : List ℕ). l ++ (58 ∷ 58 ∷ sides.back)) before.written ∙ ap (λ (l : List ℕ). pieces_text before.pieces ++ (58 ∷ 58 ∷ l)) behind.written;
      room = omega (arith, ap length before.all, ap length behind.all, le);
      stands_for = sym parts.1
          ∙ ap (λ (l : List ℕ). l ++ (replicate (16 - (length l + length back)) 0 ++ back)) (sym before.all)
          ∙ ap (λ (l : List ℕ). pieces_octets before.pieces ++ (replicate (16 - (length (pieces_octets before.pieces) + length l)) 0 ++ l)) (sym behind.all);
    }

-- a text that reads as an IPv6 address is a text of it
pub ipv6-sound : (text address : List ℕ) → ipv6_of text ≡ Some address → IsIpv6Text text address
ipv6-sound text address h = by_sides (sides_of text) refl h where
  by_sides : (o : Option Sides) → sides_of text ≡ o → ipv6_of_sides text o ≡ Some address → IsIpv6Text text address
  by_sides None e k = inl (whole-sound text address (octets_of true text) refl k)
  by_sides (Some sides) e k = inr (short-sound text address sides (side_of false sides.front) (side_of true sides.back) (sides-sound text sides e) refl refl k)

-- pieces hold no `::`, and stand before one
pieces-before : (ends : Bool) (pieces : List AddressPiece) (text : List ℕ) → ArePieces ends pieces → sides_of (pieces_text pieces ++ text) ≡ option_map (after_octets (pieces_text pieces)) (sides_of text)
pieces-before ends [] text h = sym (after_none (sides_of text))
pieces-before ends (piece ∷ pieces) text h = separated-before (piece_text piece) (map piece_text pieces) text (pieces-words ends (piece ∷ pieces) h)

-- the address that a text stands for is worked out
pub ipv6-complete : (text address : List ℕ) → IsIpv6Text text address → ipv6_of text ≡ Some address
ipv6-complete text address (inl h) = whole h.pieces h.well_formed h.written h.sixteen h.stands_for where
  whole : (pieces : List AddressPiece) → ArePieces true pieces → text ≡ pieces_text pieces → length (pieces_octets pieces) ≡ 16 → address ≡ pieces_octets pieces → ipv6_of text ≡ Some address
  whole [] ok written sixteen same = absurd (omega arith)
  whole (piece ∷ pieces) ok written sixteen same =
      let own_text = pieces_text (piece ∷ pieces) in
      let none : sides_of own_text ≡ None = ap sides_of (sym (append-nil own_text)) ∙ pieces-before true (piece ∷ pieces) [] ok in
      ap ipv6_of written
      ∙ ap (ipv6_of_sides own_text) none
      ∙ ap (λ (o : Option (List ℕ)). o >>= if_whole) (text-complete true piece pieces ok)
      ∙ cond-true (eqb (length (pieces_octets (piece ∷ pieces))) 16) _ _ (eq-eqb _ 16 sixteen)
      ∙ ap (λ (l : List ℕ). Some l) (sym same)
ipv6-complete text address (inr h) =
    let front = pieces_octets h.front in
    let back = pieces_octets h.back in
    let sides : Sides = record { front = pieces_text h.front; back = pieces_text h.back } in
    let found : sides_of text ≡ Some sides =
    ap sides_of h.written ∙ pieces-before false h.front (58 ∷ 58 ∷ pieces_text h.back) h.front_well_formed
    ∙ ap (λ (l : List ℕ). Some (record { front = l; back = pieces_text h.back })) (append-nil (pieces_text h.front)) in
    ap (ipv6_of_sides text) found
    ∙ ap (λ (o : Option (List ℕ)). o >>= λ f. side_of true (pieces_text h.back) >>= λ b. with_zero_groups f b) (side-complete false h.front h.front_well_formed)
    ∙ ap (λ (o : Option (List ℕ)). o >>= λ b. with_zero_groups front b) (side-complete true h.back h.back_well_formed)
    ∙ cond-true (leb (length front + length back) 14) _ _ (le-leb _ 14 h.room)
    ∙ ap (λ (l : List ℕ). Some l) (sym h.stands_for)
