-- What an entry has of its file is from the block of its code on, and entries that overlap share a byte.
use Rattle.std.proofs.Common.{◌≡◌, ◌∙◌, ◌+◌, ◌*◌, ◌<◌, ◌≤◌, ℕ, Bool, true, false, List, refl, ap, sym, inl, inr, arith}
use Rattle.std.specs.Prelude.{◌⊎◌, ◌&&◌, ◌==◌, if◌then◌else◌, not, Result, Ok, Err}
use Rattle.std.specs.Result.{is_ok}
use Rattle.std.proofs.lemmas.Bool.{false≢true, and_from, and_parts, both_ways, cases_lt, eqb-false, eqb-true, not-true}
use Rattle.ps_words.specs.Words.{blocks}
use Rattle.ps_words.specs.declared.fault.Reason.{Reason}
use Rattle.ps_codefile.specs.Dictionary.{OpenedFile, code_of, entry_at, is_filled, kind_needs_linking}
use Rattle.ps_codefile.specs.declared.entry.Entry.{Entry}
use Rattle.ps_warnings.specs.Searches.FileFindings.{extent, extent_at}
use Rattle.ps_warnings.specs.SegmentSizes.{information_end}
use Rattle.ps_warnings.specs.WarnedFiles.{HasByte}
use Rattle.ps_warnings.specs.declared.findings.extents.Extent.{Extent}

-- an entry whose bytes are counted has these
abbrev pub HasExtent : OpenedFile → ℕ → Extent → Type 0
HasExtent f slot x = let e = entry_at f.order f.file slot in
    (is_filled e ≡ true) × ((code : List ℕ) × (code_of f.file e ≡ Ok code)) × (x.slot ≡ slot)
    × (x.start ≡ 512 * e.address)
    × ((e.kind ≡ 0) × (x.end ≡ 512 * e.address + e.length)
    ⊎ (kind_needs_linking e.kind ≡ true) × (x.end ≡ information_end f.order f.file e))

-- and of another one none are
abbrev pub HasNone : OpenedFile → ℕ → Extent → Type 0
HasNone f slot x = let e = entry_at f.order f.file slot in
    (x ≡ extent 0 0 0) × (((is_filled e && is_ok (code_of f.file e)) ≡ false)
    ⊎ ((e.kind == 0) ≡ false) × (kind_needs_linking e.kind ≡ false))

has_code : (r : Result (List ℕ) Reason) → is_ok r ≡ true → (code : List ℕ) × (r ≡ Ok code)
has_code (Ok code) h = (code, refl)
has_code (Err why) h = elim (false≢true h) [ ]

module _ (f : OpenedFile) (slot : ℕ) where
  abbrev e : Entry
  e = entry_at f.order f.file slot

  abbrev start : ℕ
  start = 512 * e.address

  extent_by : (b k n : Bool) → (is_filled e && is_ok (code_of f.file e)) ≡ b
      → (e.kind == 0) ≡ k → kind_needs_linking e.kind ≡ n
      → (x : Extent) → x ≡ (if b then (if k then extent slot start (start + e.length)
      else (if n then extent slot start (information_end f.order f.file e) else extent 0 0 0))
      else extent 0 0 0)
      → HasNone f slot x ⊎ HasExtent f slot x
  extent_by false k n h g l x is = inl (is, inl h)
  extent_by true true n h g l x is =
      let both = and_parts (is_filled e) (is_ok (code_of f.file e)) h in
      inr (
        both.0,
        has_code (code_of f.file e) both.1,
        ap (λ (y : Extent). y.slot) is,
        ap (λ (y : Extent). y.start) is,
        inl (eqb-true e.kind 0 g, ap (λ (y : Extent). y.end) is),
      )
  extent_by true false true h g l x is =
      let both = and_parts (is_filled e) (is_ok (code_of f.file e)) h in
      inr (
        both.0,
        has_code (code_of f.file e) both.1,
        ap (λ (y : Extent). y.slot) is,
        ap (λ (y : Extent). y.start) is,
        inr (l, ap (λ (y : Extent). y.end) is),
      )
  extent_by true false false h g l x is = inl (is, inr (g, l))

  pub extent_is : HasNone f slot (extent_at f.order f.file slot)
      ⊎ HasExtent f slot (extent_at f.order f.file slot)
  unfolding extent_at
  extent_is = extent_by (is_filled e && is_ok (code_of f.file e)) (e.kind == 0)
      (kind_needs_linking e.kind) refl refl refl (extent_at f.order f.file slot) refl

  -- an entry that is filled, has its code and is of kind 0, 1 or 3 has its bytes
  none_has : (x : Extent) → HasNone f slot x → (code : List ℕ) → is_filled e ≡ true
      → code_of f.file e ≡ Ok code → (e.kind ≡ 0) ⊎ (kind_needs_linking e.kind ≡ true) → ⊥
  none_has x (is, inl h) code filled whole kind =
      both_ways (is_filled e && is_ok (code_of f.file e)) h
      (and_from (is_filled e) (is_ok (code_of f.file e)) filled
      (ap (λ (r : Result (List ℕ) Reason). is_ok r) whole))
  none_has x (is, inr (g, l)) code filled whole (inl k) = eqb-false e.kind 0 g k
  none_has x (is, inr (g, l)) code filled whole (inr n) =
      both_ways (kind_needs_linking e.kind) l n

  pub extent_there : (x : Extent) → HasNone f slot x ⊎ HasExtent f slot x → (code : List ℕ)
      → is_filled e ≡ true → code_of f.file e ≡ Ok code
      → (e.kind ≡ 0) ⊎ (kind_needs_linking e.kind ≡ true) → HasExtent f slot x
  extent_there x (inl lacks) code filled whole kind = absurd (none_has x lacks code filled whole kind)
  extent_there x (inr has) code filled whole kind = has

-- blocks
block_end : (a len : ℕ) → 512 * a + len ≤ 512 * (a + blocks len)
block_end a len = omega arith

whole_blocks : (a len m : ℕ) → 512 * a + len ≤ 512 * m → 512 * (a + blocks len) ≤ 512 * m
whole_blocks a len m h = omega (arith, h)

-- an entry that has bytes
filled_length : (len : ℕ) (b : Bool) → (not (len == 0) && b) ≡ true → 0 < len
filled_length len b h = let n = eqb-false len 0 (not-true (len == 0)
    (and_parts (not (len == 0)) b h).0) in omega (arith, n)

module _ (f : OpenedFile) (slot : ℕ) (x : Extent) (has : HasExtent f slot x) where
  abbrev has_e : Entry
  has_e = entry_at f.order f.file slot

  is_long : 0 < has_e.length
  is_long = filled_length has_e.length (not (has_e.kind == 3 && has_e.address == 0)) has.0

  -- its first byte is one of its bytes
  end_after : (has_e.kind ≡ 0) × (x.end ≡ 512 * has_e.address + has_e.length)
      ⊎ (kind_needs_linking has_e.kind ≡ true) × (x.end ≡ information_end f.order f.file has_e)
      → 512 * has_e.address + has_e.length ≤ x.end
  end_after (inl (k, is)) = omega (arith, is)
  end_after (inr (n, is)) = let up = block_end has_e.address has_e.length in
      let more : 512 * (has_e.address + blocks has_e.length)
      ≤ information_end f.order f.file has_e = omega arith in
      omega (arith, is, up, more)

  pub has_first : x.start < x.end
  has_first = let up = end_after has.4 in let at = has.3 in let long = is_long in
      omega (arith, up, at, long)

  after_code : (q m : ℕ) → q ≡ 512 * m → 512 * has_e.address + has_e.length ≤ q
      → 512 * (has_e.address + blocks has_e.length) ≤ q
  after_code q m block above =
      let up = whole_blocks has_e.address has_e.length m (omega (arith, above, block)) in
      omega (arith, up, block)

  -- a byte of it at the beginning of a block is of its code or of its link information
  byte_by : (q m : ℕ) → q ≡ 512 * m → x.start ≤ q → q < x.end
      → (has_e.kind ≡ 0) × (x.end ≡ 512 * has_e.address + has_e.length)
      ⊎ (kind_needs_linking has_e.kind ≡ true) × (x.end ≡ information_end f.order f.file has_e)
      → HasByte f slot q
  byte_by q m block low high (inl (k, is)) = let at = has.3 in
      (has.0, has.1, inl (inl k, omega (arith, at, low), omega (arith, is, high)))
  byte_by q m block low high (inr (n, is)) = let at = has.3 in
      elim (cases_lt q (512 * has_e.address + has_e.length)) [
        | inl below ↦ (has.0, has.1, inl (inr n, omega (arith, at, low), below))
        | inr above ↦ (has.0, has.1, inr (n, after_code q m block above, omega (arith, is, high)))
      ]

  pub byte_at_block : (q m : ℕ) → q ≡ 512 * m → x.start ≤ q → q < x.end → HasByte f slot q
  byte_at_block q m block low high = byte_by q m block low high has.4

-- a byte of an entry is between the first and the last that it has
inside_by : (f : OpenedFile) (slot p : ℕ) (x : Extent) → x.start ≡ 512 * (entry_at f.order f.file slot).address
    → ((entry_at f.order f.file slot).kind ≡ 0)
    × (x.end ≡ 512 * (entry_at f.order f.file slot).address + (entry_at f.order f.file slot).length)
    ⊎ (kind_needs_linking (entry_at f.order f.file slot).kind ≡ true)
    × (x.end ≡ information_end f.order f.file (entry_at f.order f.file slot))
    → 512 * (entry_at f.order f.file slot).address + (entry_at f.order f.file slot).length ≤ x.end
    → HasByte f slot p → (x.start ≤ p) × (p < x.end)
inside_by f slot p x at kind up (filled, whole, inl (k, low, high)) =
    (omega (arith, at, low), omega (arith, up, high))
inside_by f slot p x at (inl (k, is)) up (filled, whole, inr (n, low, high)) = elim
    (false≢true (sym (ap (λ (j : ℕ). kind_needs_linking j) k) ∙ n)) [ ]
inside_by f slot p x at (inr (k, is)) up (filled, whole, inr (n, low, high)) =
    let address = (entry_at f.order f.file slot).address in
    let step : 512 * address ≤ 512 * (address + blocks (entry_at f.order f.file slot).length) =
    omega arith in
    (omega (arith, at, low, step), omega (arith, is, high))

kind_of_byte : (f : OpenedFile) (slot p : ℕ) → HasByte f slot p
    → ((entry_at f.order f.file slot).kind ≡ 0)
    ⊎ (kind_needs_linking (entry_at f.order f.file slot).kind ≡ true)
kind_of_byte f slot p (filled, whole, inl (k, low, high)) = k
kind_of_byte f slot p (filled, whole, inr (n, low, high)) = inr n

pub extent_with : (f : OpenedFile) (slot p : ℕ) → HasByte f slot p
    → HasExtent f slot (extent_at f.order f.file slot)
extent_with f slot p b = extent_there f slot (extent_at f.order f.file slot) (extent_is f slot)
    b.1.0 b.0 b.1.1 (kind_of_byte f slot p b)

pub inside : (f : OpenedFile) (slot p : ℕ) (x : Extent) → HasExtent f slot x → HasByte f slot p
    → (x.start ≤ p) × (p < x.end)
inside f slot p x has b =
    inside_by f slot p x has.3 has.4 (end_after f slot x has has.4) b
