-- The name of what a fault is about, by the files as they are read.
use Rattle.std.proofs.Common.{◌≡◌, ◌∙◌, ℕ, List, Option, Some, None, Result, Ok, Err, ap, refl, sym}
use Rattle.std.specs.Prelude.{option_and_then, unwrap_or}
use Rattle.ps_words.specs.declared.fault.Fault.{Fault}
use Rattle.ps_words.specs.declared.fault.Reason.{Reason}
use Rattle.ps_codefile.specs.Dictionary.{OpenedFile, opened_alone}
use Rattle.ps_reading.specs.Readings.{HostFiles, opened_host}
use Rattle.ps_reading.specs.FaultNames.{entry_name, fault_name, host_slot, name_as, name_in_slot, read_name}
use Rattle.ps_words.specs.FaultPlaces.{read_record}

-- the name of a slot by its own entry is that of the files as they are read
pub read_by_entry : (host : List ℕ) (libs : List (List ℕ)) (slot : ℕ) (name : List ℕ)
    → entry_name (opened_alone host) slot ≡ Some name
    → read_name host libs slot None ≡ Some name
read_by_entry host libs slot name has = by (opened_alone host) refl has
  where
    by : (r : Result OpenedFile Reason) → opened_alone host ≡ r
        → entry_name r slot ≡ Some name → read_name host libs slot None ≡ Some name
    by (Err why) e is = cc
    by (Ok f) e is =
        let h : HostFiles = record { order = f.order; file = f.file; libs = libs } in
        let opened : opened_host host libs ≡ Ok h = rw (e, opened_host) refl in
        ap (λ (r : Result HostFiles Reason). name_as r slot None) opened
        ∙ ap (λ (n : Option (List ℕ)). Some (unwrap_or n (name_in_slot h slot))) is

-- the name of a fault in this slot of the host
pub named_in_slot : (host : List ℕ) (libs : List (List ℕ)) (f : Fault) (slot : ℕ)
    (rec : Option ℕ) (name : Option (List ℕ)) → rec ≡ read_record f
    → host_slot f ≡ Some slot
    → name ≡ read_name host libs slot rec → name ≡ fault_name host libs f
unfolding fault_name
named_in_slot host libs f slot rec name read in_slot is =
    is ∙ (ap (λ (rec : Option ℕ). read_name host libs slot rec) read
    ∙ ap (λ (s : Option ℕ). option_and_then
    (λ slot. read_name host libs slot (read_record f)) s) (sym in_slot))
