-- The answer of a fault has that fault.
use Rattle.std.proofs.Common.{◌≡◌, ◌<◌, ◌≤◌, ℕ, List, Option, Some, None, false, ◌∙◌, ap, arith, refl}
use Rattle.std.proofs.lemmas.Bool.Decides.{nat_tests}
use Rattle.std.specs.Prelude.{IfSome, min, nat_lt, option_map, unwrap_or}
use Rattle.ps_words.specs.FaultText.{number_of, kind_of, reason_of}
use Rattle.ps_words.specs.declared.fault.Reason.{Reason}
use Rattle.ps_words.specs.declared.fault.Reason.TheVariants as reason
use Rattle.ps_words.specs.declared.fault.Fault.{Fault}
use Rattle.ps_c_link.specs.Answers.{IsTellable, fault_told, fault_with, part, refusal, slot_part}
use Rattle.ps_c_link.specs.declared.answer.TheConstants.{MAX_BYTE, MAX_KIND, NO_INDEX, NO_NUMBER}

-- a number that is no higher is kept
kept : (n most : ℕ) → n ≤ most → min n most ≡ n
kept n most le = grind (arith, le)

-- a number of a fault is a byte: one proof for each, which computes
is_byte : (why : Reason) → nat_lt MAX_BYTE (number_of why) ≡ false
is_byte reason.ShortFile = refl
is_byte other = refl

-- a reason is found by its number: one proof for each, which computes
reason_back : (why : Reason) → IfSome (kind_of why) (λ kind. kind < 65536)
    → reason_of (number_of why) (min (unwrap_or (kind_of why) NO_NUMBER) MAX_KIND) ≡ Some why
reason_back (reason.NotAUnit kind) lt =
    ap (λ (k : ℕ). Some (reason.NotAUnit k)) (kept kind MAX_KIND (omega (arith, lt)))
reason_back reason.ShortFile lt = refl
reason_back other lt = refl

-- an index is had by its field
index_back : (o : Option ℕ) → IfSome o (λ i. i < NO_INDEX)
    → part NO_INDEX (unwrap_or o NO_INDEX) ≡ o
index_back None lt = refl
index_back (Some i) lt = grind (arith, nat_tests, lt)

-- a slot is had by its field
slot_back : (o : Option ℕ) → IfSome o (λ slot. slot < 256)
    → slot_part (unwrap_or o NO_NUMBER) ≡ o
slot_back None lt = refl
slot_back (Some slot) lt = grind (arith, nat_tests, lt)

pub told_back : (f : Fault) (name : Option (List ℕ)) → IsTellable f
    → fault_told (refusal f name) ≡ Some f
told_back f name tellable =
    let a = refusal f name in
    let with_parts : Option ℕ → Option ℕ → Option ℕ → Fault =
    λ slot rec reference. record {
      reason = f.reason;
      file = f.file;
      slot = slot;
      rec = rec;
      reference = reference;
    } in
    let slot = slot_back f.slot tellable.1 in
    let rec = index_back f.rec tellable.2.0 in
    let reference = index_back f.reference tellable.2.1 in
    rw (is_byte f.reason) (ap (option_map (fault_with a)) (reason_back f.reason tellable.0)
    ∙ (ap (λ (o : Option ℕ). Some (with_parts o (part NO_INDEX (unwrap_or f.rec NO_INDEX))
    (part NO_INDEX (unwrap_or f.reference NO_INDEX)))) slot
    ∙ (ap (λ (o : Option ℕ). Some (with_parts f.slot o
    (part NO_INDEX (unwrap_or f.reference NO_INDEX)))) rec
    ∙ ap (λ (o : Option ℕ). Some (with_parts f.slot f.rec o)) reference)))
