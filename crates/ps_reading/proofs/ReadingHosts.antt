-- The host, read by itself, and what is known of the segments of a link once the files were read
-- without a fault.
use Rattle.ps_reading.proofs.Vocabulary.{arith, ◌≡◌, ℕ, List, length, Bool, if◌then◌else◌, Option, Some, Ok, Err, ltb, option_or, in_file, Order, Reason, Fault, OpenedFile, FileOrder, file_order, opened_alone, opened_as, known_order, order_of, slots_fault, no_host_fault, libraries_fault}
use Rattle.ps_words.specs.declared.fault.Reason.TheVariants as reason
use Rattle.ps_reading.specs.Readings.{reading_fault, reading_rest}

-- a host that is read is read in its own byte order
read_as : (short : Bool) (of : FileOrder) (file : List ℕ) (o : OpenedFile)
    → (if short then Err reason.ShortFile else opened_as file of) ≡ Ok o
    → o ≡ record { order = known_order of; file = file }
read_as short of file o h = grind arith

pub host_refused : (host : List ℕ) (libs : List (List ℕ)) (why : Reason)
    → opened_alone host ≡ Err why → reading_fault host libs ≡ Some (in_file 0 why)
unfolding reading_fault
host_refused host libs why h = rw h

pub host_is : (host : List ℕ) (o : OpenedFile) → opened_alone host ≡ Ok o
    → o ≡ record { order = order_of host; file = host }
host_is host o h = read_as (ltb (length host) 512) (file_order host) host o h

-- what is looked at after the host's order
abbrev pub rest_of : Order → List ℕ → List (List ℕ) → Option Fault
rest_of order host libs = option_or (slots_fault order host)
    (option_or (no_host_fault order host)
    (option_or (libraries_fault order libs) (reading_rest order host libs)))

-- where the host is read, the first fault of reading is that of what is looked at after it
pub host_read : (host : List ℕ) (libs : List (List ℕ)) (o : OpenedFile)
    → opened_alone host ≡ Ok o → reading_fault host libs ≡ rest_of o.order o.file libs
unfolding reading_fault
host_read host libs o h = rw (h, host_is host o h)
