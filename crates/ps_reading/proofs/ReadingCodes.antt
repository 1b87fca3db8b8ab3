-- How long a code is that is whole in its file, and which kinds have one of a linked segment.
use Rattle.ps_reading.proofs.Vocabulary.{◌≡◌, ◌&&◌, ◌||◌, ◌+◌, ◌≤◌, ℕ, List, length, Bool, true, false, if◌then◌else◌, Ok, Err, arith, ltb, slice_range, length-take, length-drop, Entry, code_of, kind_needs_linking}
use Rattle.ps_words.specs.declared.fault.Reason.TheVariants as reason
use Rattle.ps_codefile.specs.declared.code_layout.TheConstants.{MAX_CODE_LEN}

-- a code that is given has no bad length, is not cut short, and is the slice of its file
pub whole_code : (bad zero short : Bool) (x code : List ℕ) → (if bad then Err reason.BadLength
    else (if zero then Err reason.BadAddress else (if short then Err reason.Truncated else Ok x)))
    ≡ Ok code → (bad ≡ false) × (short ≡ false) × (x ≡ code)
whole_code bad h short x code k = grind arith

-- a slice of n bytes that ends within the file has n bytes
length_within : (xs : List ℕ) (a n : ℕ) → ltb (length xs) (a + n) ≡ false
    → length (slice_range xs a (a + n)) ≡ n
length_within xs a n h = grind (arith, length-take, length-drop)

-- a length that is not refused is MAX_CODE_LEN at most
small_code : (n : ℕ) (other : Bool) → (ltb MAX_CODE_LEN n || other) ≡ false
    → n ≤ MAX_CODE_LEN
small_code n other h = grind arith

-- the length of a linked segment that is not refused is 4 at least
large_code : (n : ℕ) (long odd : Bool) → (long || (true && (odd || ltb n 4))) ≡ false
    → 4 ≤ n
large_code n long odd h = grind arith

pub record IsWholeCode (e : Entry) (code : List ℕ) : Type 0 where
  pub len : length code ≡ e.length
  pub small : e.length ≤ MAX_CODE_LEN
  pub large : kind_needs_linking e.kind ≡ true → 4 ≤ e.length

-- a code with which nothing is wrong has the length of its entry, which is within its limits
pub whole : (file : List ℕ) (e : Entry) (code : List ℕ) → code_of file e ≡ Ok code
    → IsWholeCode e code
whole file e code h = grind (arith, ltb, length_within, small_code, large_code)
