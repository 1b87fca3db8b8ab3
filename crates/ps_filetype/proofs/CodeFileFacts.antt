-- A file passes the test of a code file exactly where the facts of one hold.
use Rattle.std.proofs.Common.{◌≡◌, ◌∙◌, ◌+◌, ◌-◌, ◌*◌, ◌/◌, ◌%◌, ◌<◌, ◌≤◌, ℕ, Bool, true, false, List, [], ◌∷◌, Some, None, Ok, Option, Result, Decides, length, take, sym, refl, inl, inr, arith}
use Rattle.std.specs.Prelude.{◌≢◌, ◌⊎◌, ◌&&◌, ◌==◌, not, if◌then◌else◌, is_some, slice_get, slice_index}
use Rattle.std.specs.List.{list_all, list_any}
use Rattle.std.proofs.lemmas.Bool.{cases_Bool, cases_eq, or_left}
use Rattle.std.proofs.lemmas.Bool.Decides.{Decides-and, Decides-at, Decides-eqb, Decides-like, Decides-not, Decides-or, nat_tests, not_from_Decides}
use Rattle.ps_words.specs.Words.{word_at}
use Rattle.ps_words.specs.declared.order.Order.{Order}
use Rattle.ps_words.specs.declared.order.Order.TheVariants.{Little, Big}
use Rattle.ps_words.specs.declared.fault.Reason.{Reason}
use Rattle.ps_codefile.specs.Dictionary.{OpenedFile, code_of, entry_at, is_filled, is_nameless, kind_needs_linking, name_at, slots}
use Rattle.ps_codefile.specs.Opened.{has_code, is_whole, opened}
use Rattle.ps_codefile.specs.declared.dictionary_layout.TheConstants.{SLOTS}
use Rattle.ps_codefile.specs.declared.entry.Entry.{Entry}
use Rattle.ps_filetype.specs.CodeFileFacts.{EachSlot, HasExchangedCode, HasItsCode, HasProcedures, HasSegments, HasVersions, IsCodeFileAsItOughtToBe, IsExchangedCode, IsExchangedLinked, IsExchangedToLink, IsLetter, IsLinkedSlot, IsNumbered, IsOfLaterRelease, IsOfVersion, IsOneByte, IsReadable, IsToBeLinked, IsUsed, ShowsSegment, SomeSlot, procedure_word, segment_word, table_place}
use Rattle.ps_filetype.specs.CodeFiles.{code_file, has_kind, has_kinds, has_other, has_other_kind, has_shown_code, is_code_file, is_kind, is_letter, is_name_byte, is_other, is_readable, purpose_of, shows_code, tells}
use Rattle.ps_filetype.specs.CodeTypes.{code_has_two_numbers, has_number, has_numbers, has_table, has_two_numbers, has_version, has_versions, information, is_code_type, is_for_something, is_later, is_later_in, is_linkable, is_linked, is_of_version, is_one_byte, is_shown_linked, is_swapped, is_swapped_code, is_swapped_file, is_swapped_in, is_swapped_link, is_swapped_linked, is_swapped_slot, is_used}
use Rattle.ps_filetype.specs.declared.code_file.CodeFile.{CodeFile}
use Rattle.ps_filetype.specs.declared.code_file.CodeFile.TheVariants.{Host, Library, Linked, Mixed}
use Rattle.ps_lists.proofs.Deciders.{Decides-all_below, Decides-and3, Decides-cond, Decides-false, Decides-holds, Decides-if, Decides-if_ok, Decides-is_ok, Decides-leb, Decides-list_all, Decides-not_eqb, Decides-not_ltb, Decides-some_below, Decides-true}

-- 1. tests of each slot, and of one
module _ (p : ℕ → Bool) (P : ℕ → Type 0) (decides : (k : ℕ) → Decides (p k) (P k)) where
  each_slot : Decides (list_all p slots) (EachSlot P)
  each_slot = Decides-all_below p P decides SLOTS

  some_slot : Decides (list_any p slots) (SomeSlot P)
  some_slot = Decides-some_below p P decides SLOTS

-- 2. entries
letter : (byte : ℕ) → Decides (is_letter byte) (IsLetter byte)
letter byte = (λ e. grind (arith, nat_tests), λ h. grind (arith, nat_tests))

readable : (name : List ℕ) → Decides (is_readable name) (IsReadable name)
readable name = Decides-and _ _ (Decides-list_all is_name_byte _
    (λ byte. Decides-or _ _ (letter byte) (Decides-leb 128 byte)) name)
    (Decides-false (is_nameless name))

module _ (order : Order) (file : List ℕ) where
  abbrev entry : ℕ → Entry
  entry slot = entry_at order file slot

  shows : (slot : ℕ) → Decides (shows_code order file slot) (ShowsSegment order file slot)
  shows slot = Decides-and3 _ _ _ (Decides-true (is_filled (entry slot)))
      (Decides-leb (entry slot).kind 7) (readable (entry slot).name)

  whole : (slot : ℕ) → Decides (is_whole order file slot) (HasItsCode order file slot)
  whole slot = Decides-and3 _ _ _ (Decides-true (is_filled (entry slot)))
      (Decides-false (is_nameless (entry slot).name)) (Decides-is_ok (code_of file (entry slot)))

  abbrev HasKind : ℕ → Type 0
  HasKind slot = (entry slot).kind ≢ 0

  kinds : Decides (has_kinds order file) (SomeSlot HasKind)
  unfolding has_kinds
  kinds = some_slot (has_other_kind order file) HasKind
      (λ slot. Decides-not_eqb (entry slot).kind 0)

  shown : Decides (has_shown_code order file) (SomeSlot (ShowsSegment order file))
  unfolding has_shown_code
  shown = some_slot (shows_code order file) _ shows

  coded : Decides (has_code order file) (SomeSlot (HasItsCode order file))
  unfolding has_code
  coded = some_slot (is_whole order file) _ whole

  abbrev Chosen : Type 0
  Chosen = (SomeSlot HasKind × SomeSlot (ShowsSegment order file))
      ⊎ ((SomeSlot HasKind → ⊥) × SomeSlot (HasItsCode order file))

  to_facts : Chosen → HasSegments order file
  to_facts (inl with_kinds) = inl with_kinds
  to_facts (inr (none, has)) = inr (
    λ slot low. elim (cases_eq (entry slot).kind 0) [
      | inl is ↦ is
      | inr other ↦ absurd (none (slot, low, other))
    ],
    has,
  )

  from_facts : HasSegments order file → Chosen
  from_facts (inl with_kinds) = inl with_kinds
  from_facts (inr (each, has)) = inr ((λ some. some.2 (each some.0 some.1)), has)

  segments : Decides (is_code_file order file) (HasSegments order file)
  segments = Decides-like _ to_facts from_facts (Decides-cond _ _ _ kinds shown coded)

  -- a slot that is filled says what its file is for
  abbrev Filled : ℕ → Type 0
  Filled slot = is_filled (entry slot) ≡ true

  filled_slot : HasSegments order file → SomeSlot Filled
  filled_slot (inl (some, shows)) = (shows.0, shows.1, shows.2.0)
  filled_slot (inr (none, has)) = (has.0, has.1, has.2.0)

  in_slot : (p : ℕ → Bool) (slot : ℕ) → slot < SLOTS → p slot ≡ true
      → list_any p slots ≡ true
  in_slot p slot low is = (some_slot p _ (λ k. Decides-true (p k))).1 (slot, low, is)

  one_of_three : SomeSlot Filled
      → (has_kind 1 order file ≡ true)
      ⊎ ((has_kind 0 order file ≡ true) ⊎ (has_other order file ≡ true))
  unfolding has_kind has_other
  one_of_three (slot, low, filled) =
      elim (kind_of (tells (entry slot)) (is_kind 1 order file slot) (is_kind 0 order file slot)
      (or_left (is_filled (entry slot)) _ filled)) [
        | inl host ↦ inl (in_slot (is_kind 1 order file) slot low host)
        | inr (inl linked) ↦ inr (inl (in_slot (is_kind 0 order file) slot low linked))
        | inr (inr other) ↦ inr (inr (in_slot (is_other order file) slot low other))
      ]
    where
      kind_of : (tells host linked : Bool) → tells ≡ true
          → (host ≡ true) ⊎ ((linked ≡ true) ⊎ ((tells && not host && not linked) ≡ true))
      kind_of tells host linked h = grind arith

some_purpose : (host linked other : Bool)
    → (host ≡ true) ⊎ ((linked ≡ true) ⊎ (other ≡ true))
    → is_some (if host then Some Host
    else (if linked then (if other then Some Mixed else Some Linked)
    else (if other then Some Library else None))) ≡ true
some_purpose host linked other h = grind arith

-- a code file is for something
with_purpose : (b : Bool) (purpose : Option CodeFile) → (b ≡ true → is_some purpose ≡ true)
    → is_some (if b then purpose else None) ≡ b
with_purpose true purpose h = h refl
with_purpose false purpose h = refl

pub for_something : (order : Order) (file : List ℕ)
    → is_some (code_file order file) ≡ is_code_file order file
unfolding code_file
for_something order file = with_purpose _ (purpose_of order file)
    (λ is. some_purpose _ _ _
    (one_of_three order file (filled_slot order file ((segments order file).0 is))))

-- 3. later releases
used : (order : Order) (block : List ℕ) (slot : ℕ)
    → Decides (is_used order block slot) (IsUsed order block slot)
used order block slot = Decides-and _ _ (Decides-not_eqb _ 0) (Decides-not_eqb _ 0)

of_version : (order : Order) (block : List ℕ) (first last slot : ℕ)
    → Decides (has_version first last (information order block slot)
    && list_all is_letter (name_at block slot)) (IsOfVersion order block first last slot)
of_version order block first last slot = let word = information order block slot in
    Decides-like _ (λ h. record { from = h.0.0; to = h.0.1; number = h.0.2; name = h.1 })
    (λ h. ((h.from, h.to, h.number), h.name))
    (Decides-and _ _ (Decides-and3 _ _ _ (Decides-leb first (word / 8192))
    (Decides-leb (word / 8192) last) (Decides-not_eqb (word % 256) 0))
    (Decides-list_all is_letter IsLetter letter (name_at block slot)))

module _ (order : Order) (block : List ℕ) (first last : ℕ) where
  abbrev OfSlot : ℕ → Type 0
  OfSlot slot = (IsUsed order block slot × IsOfVersion order block first last slot)
      ⊎ ((IsUsed order block slot → ⊥) × (information order block slot ≡ 0))

  each_version : (slot : ℕ) → OfSlot slot → IsUsed order block slot
      → IsOfVersion order block first last slot
  each_version slot (inl segment) is = segment.1
  each_version slot (inr none) is = absurd (none.0 is)

  each_rest : (slot : ℕ) → OfSlot slot → (IsUsed order block slot → ⊥)
      → segment_word order block slot ≡ 0
  each_rest slot (inl segment) none = absurd (none segment.0)
  each_rest slot (inr free) none = free.1

  of_slot : HasVersions order block first last → (slot : ℕ) → slot < SLOTS → OfSlot slot
  of_slot h slot low = elim (cases_Bool (is_used order block slot)) [
    | inl is ↦ let u = (used order block slot).0 is in inl (u, h.each slot low u)
    | inr free ↦ let n = not_from_Decides _ (used order block slot) free in
        inr (n, h.rest slot low n)
  ]

  versions : Decides (has_versions order block first last) (HasVersions order block first last)
  unfolding has_versions
  versions = Decides-like _ (λ h. record {
    some = h.1;
    each = λ slot low. each_version slot (h.0 slot low);
    rest = λ slot low. each_rest slot (h.0 slot low);
  }) (λ h. (of_slot h, h.some)) (Decides-and _ _
      (each_slot (is_of_version order block first last) OfSlot
      (λ slot. Decides-cond _ _ _ (used order block slot) (of_version order block first last slot)
      (Decides-eqb (information order block slot) 0)))
      (some_slot (is_used order block) _ (used order block)))

abbrev LaterIn : List ℕ → Order → Type 0
LaterIn block order = ((word_at order block 510 ≡ 1) × HasVersions order block 4 7)
    ⊎ HasVersions order block 3 3

later_in : (order : Order) (block : List ℕ)
    → Decides (is_later_in order block) (LaterIn block order)
later_in order block = Decides-or _ _ (Decides-and _ _ (Decides-eqb (word_at order block 510) 1)
    (versions order block 4 7)) (versions order block 3 3)

in_one : (block : List ℕ) → LaterIn block Little ⊎ LaterIn block Big
    → (order : Order) × LaterIn block order
in_one block (inl little) = (Little, little)
in_one block (inr big) = (Big, big)

in_either : (block : List ℕ) → ((order : Order) × LaterIn block order)
    → LaterIn block Little ⊎ LaterIn block Big
in_either block (Little, h) = inl h
in_either block (Big, h) = inr h

later : (file : List ℕ) → Decides (is_later file) (IsOfLaterRelease file)
unfolding is_later
later file = let block = take 512 file in
    Decides-like _ (λ h. (h.0, in_one block h.1)) (λ h. (h.0, in_either block h.1))
    (Decides-and _ _ (Decides-not_ltb (length file) 512)
    (Decides-or _ _ (later_in Little block) (later_in Big block)))

-- 4. bytes that are exchanged in pairs
module _ (order : Order) (code : List ℕ) where
  with_table : (number : ℕ) → Decides (has_table order code number)
      ((2 + 2 * number ≤ length code) × (procedure_word order code number ≢ 0))
  with_table number = Decides-and _ _ (Decides-not_ltb (length code) (2 + 2 * number))
      (Decides-not_eqb (procedure_word order code number) 0)

  numbered : (after number : ℕ)
      → Decides (has_number order code after number) (IsNumbered order code after number)
  numbered after number = Decides-like _ (λ h. (h.0, λ word. h.1 (h.0, word)))
      (λ h. (h.0, λ table. h.1 table.1))
      (Decides-and _ _ (Decides-not_ltb (length code) (2 + 2 * number))
      (Decides-if _ _ (with_table number) (Decides-holds
      (slice_get code (table_place order code number + after)) number)))

  procedures : (count after : ℕ)
      → Decides (has_numbers order code count after) (HasProcedures order code count after)
  unfolding has_numbers
  procedures count after = Decides-like _
      (λ h. record { each = h.0; some = (h.1.0, h.1.1, h.1.2.0, h.1.2.1) })
      (λ h. (h.each, (h.some.0, h.some.1, (h.some.2, h.some.3))))
      (Decides-and _ _ (Decides-all_below _ _ (λ k. numbered after (k + 1)) count)
      (Decides-some_below _ _ (λ k. with_table (k + 1)) count))

  pub exchanged_code : Decides (is_swapped order code) (IsExchangedCode order code)
  unfolding is_swapped
  exchanged_code = Decides-like _
      (λ h. record { numbers = h.0; other = h.1.0; own = h.1.1 })
      (λ h. (h.numbers, (h.other, h.own)))
      (Decides-and _ _ (Decides-not_ltb (length code) 2) (Decides-and _ _
      (procedures (slice_index code (length code - 2)) 1)
      (Decides-not _ (procedures (slice_index code (length code - 1)) 0))))

exchanged_in : (order : Order) (r : Result (List ℕ) Reason) → Decides (is_swapped_code order r)
    ((code : List ℕ) × (r ≡ Ok code) × IsExchangedCode order code)
exchanged_in order r = Decides-if_ok (is_swapped_code order) (IsExchangedCode order)
    (exchanged_code order) (λ why. refl) r

abbrev Differ : List ℕ → Type 0
Differ code = (2 ≤ length code)
    × (slice_index code (length code - 2) ≢ slice_index code (length code - 1))

differ : (code : List ℕ) → Decides (has_two_numbers code) (Differ code)
unfolding has_two_numbers
differ code = Decides-and _ _ (Decides-not_ltb (length code) 2)
    (Decides-not_eqb (slice_index code (length code - 2)) (slice_index code (length code - 1)))

two_numbers : (r : Result (List ℕ) Reason) → Decides (code_has_two_numbers r)
    ((code : List ℕ) × (r ≡ Ok code) × (2 ≤ length code)
    × (slice_index code (length code - 2) ≢ slice_index code (length code - 1)))
two_numbers r = Decides-like _ (λ h. (h.0, h.1, h.2.0, h.2.1)) (λ h. (h.0, h.1, (h.2, h.3)))
    (Decides-if_ok code_has_two_numbers Differ differ (λ why. refl) r)

needs : (kind : ℕ) → Decides (kind_needs_linking kind) ((kind ≡ 1) ⊎ (kind ≡ 3))
needs kind = Decides-or _ _ (Decides-eqb kind 1) (Decides-eqb kind 3)

module _ (order : Order) (file : List ℕ) where
  to_link : (slot : ℕ) → Decides (is_linkable order file slot) (IsToBeLinked order file slot)
  to_link slot = let e = entry_at order file slot in
      Decides-and3 _ _ _ (needs e.kind) (Decides-true (is_filled e))
      (Decides-is_ok (code_of file e))

  linked : (slot : ℕ) → Decides (is_linked order file slot) (IsLinkedSlot order file slot)
  linked slot = let e = entry_at order file slot in
      Decides-and _ _ (Decides-eqb e.kind 0) (Decides-true (is_filled e))

  exchanged_at : (slot : ℕ)
      → Decides (is_swapped_code order (code_of file (entry_at order file slot)))
      (HasExchangedCode order file slot)
  exchanged_at slot = exchanged_in order (code_of file (entry_at order file slot))

  some_to_link :
      Decides (list_any (is_linkable order file) slots) (SomeSlot (IsToBeLinked order file))
  some_to_link = some_slot (is_linkable order file) _ to_link

  exchanged_to_link : Decides (is_swapped_in order file) (IsExchangedToLink order file)
  unfolding is_swapped_in
  exchanged_to_link = Decides-and _ _ (each_slot (is_swapped_slot order file) _
      (λ slot. Decides-if _ _ (to_link slot) (exchanged_at slot))) some_to_link

  exchanged_linked : Decides (is_swapped_link order file) (IsExchangedLinked order file)
  unfolding is_swapped_link
  exchanged_linked = Decides-like _ (λ h. (h.0, h.1.0, h.1.1)) (λ h. (h.0, (h.1, h.2)))
      (Decides-and _ _ (Decides-not _ some_to_link) (Decides-and _ _
      (each_slot (is_swapped_linked order file) _
      (λ slot. Decides-if _ _ (linked slot) (exchanged_at slot)))
      (some_slot (is_shown_linked order file) _ (λ slot. Decides-and _ _ (linked slot)
      (two_numbers (code_of file (entry_at order file slot)))))))

-- 5. one byte throughout
pub one_byte : (file : List ℕ) → Decides (is_one_byte file) (IsOneByte file)
one_byte [] = (λ e. absurd (cc), λ h. absurd (let low = h.1 in omega arith))
one_byte (b ∷ file) = Decides-like _ (λ h. (b, omega arith, h.1))
    (λ h. (λ e. omega (arith, e), λ k d low. h.2 k d low ∙ sym (h.2 0 0 (omega arith))))
    (Decides-and _ _ (Decides-not_eqb (length (b ∷ file)) 0)
    (Decides-list_all (λ c. c == b) (λ c. c ≡ b) (λ c. Decides-eqb c b) (b ∷ file)))

-- 6. the file
abbrev Read : OpenedFile → Type 0
Read f = HasSegments f.order f.file
    × ((IsExchangedToLink f.order f.file ⊎ IsExchangedLinked f.order f.file) → ⊥)

read_in : (f : OpenedFile)
    → Decides (is_for_something (Ok f) && not (is_swapped_file (Ok f))) (Read f)
read_in f = Decides-and _ _ (Decides-at (is_some (code_file f.order f.file)) _
    (for_something f.order f.file) (segments f.order f.file))
    (Decides-not _ (Decides-or _ _ (exchanged_to_link f.order f.file)
    (exchanged_linked f.order f.file)))

as_read : (r : Result OpenedFile Reason) → Decides (is_for_something r && not (is_swapped_file r))
    ((f : OpenedFile) × (r ≡ Ok f) × Read f)
as_read = Decides-if_ok (λ r. is_for_something r && not (is_swapped_file r)) Read read_in
    (λ why. refl)

in_order : (a b c d : Bool) → (a && b && c && d) ≡ (a && (b && (c && d)))
in_order a b c d = grind arith

pub code_type : (file : List ℕ) → Decides (is_code_type file) (IsCodeFileAsItOughtToBe file)
unfolding is_code_type
code_type file = Decides-like _
    (λ h. record {
      read = h.1.1.0;
      opens = h.1.1.1;
      entry = h.1.1.2.0;
      not_one_byte = h.0;
      not_later = h.1.0;
      not_exchanged = h.1.1.2.1;
    })
    (λ h. (h.not_one_byte, (h.not_later, (h.read, h.opens, (h.entry, h.not_exchanged)))))
    (Decides-at _ _ (in_order _ _ (is_for_something (opened file)) _)
    (Decides-and _ _ (Decides-not _ (one_byte file)) (Decides-and _ _
    (Decides-not _ (later file)) (as_read (opened file)))))
