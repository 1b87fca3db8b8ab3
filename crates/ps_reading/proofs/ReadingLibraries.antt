-- The libraries of a link, from one of them on.
use Rattle.ps_reading.proofs.Vocabulary.{sym, ◌≡◌, ℕ, suc, ◌+◌, ◌<◌, List, [], ◌∷◌, length, get_or, drop, map, Bool, true, false, if◌then◌else◌, Option, Some, None, Ok, Err, Bor, inl, inr, refl, ◌∙◌, ap, arith, ltb, is_some, drop_more, drop-map, cases_Bool, enumerate_from, find, slice_get, option_or, result_err, Order, Reason, Fault, OpenedFile, FileOrder, file_order, opened_beside, opened_beside_as, slots, first_of, is_named, has_entry, chosen_library, file_at, opened, opened_file, opened_files, unit_source, library_fault, library_reason}
use Rattle.ps_words.specs.declared.fault.Reason.TheVariants as reason
use Rattle.ps_reading.proofs.FirstSlots.{any_found, neither_first, none_mapped}

-- a library that is not refused is read as it is
read_as : (short : Bool) (of : FileOrder) (order : Order) (file : List ℕ)
    → result_err (if short then Err reason.ShortFile else opened_beside_as order file of) ≡ None
    → (if short then Err reason.ShortFile else opened_beside_as order file of)
    ≡ Ok (record { order = order; file = file })
read_as short of order file h = grind arith

pub read_beside : (order : Order) (file : List ℕ) → library_reason order file ≡ None
    → opened_beside order file ≡ Ok (record { order = order; file = file })
read_beside order file h = grind (arith, read_as)

-- a library without a fault is opened as it is
pub opened_whole : (order : Order) (file : List ℕ) → library_reason order file ≡ None
    → opened_file order file ≡ file
opened_whole order file h = grind (arith, read_beside)

-- a library that is opened is read in the order of the host
order_as : (short : Bool) (of : FileOrder) (order : Order) (file : List ℕ) (o : OpenedFile)
    → (if short then Err reason.ShortFile else opened_beside_as order file of) ≡ Ok o
    → o.order ≡ order
order_as short of order file o h = grind arith

pub opened_is : (order : Order) (file : List ℕ) (o : OpenedFile)
    → opened_beside order file ≡ Ok o
    → o ≡ record { order = order; file = opened_file order file }
opened_is order file o h =
    grind (arith, order_as (ltb (length file) 512) (file_order file) order file o h)

-- one that is refused has no entries
pub refused_is : (order : Order) (file : List ℕ) (why : Reason)
    → opened_beside order file ≡ Err why → opened_file order file ≡ []
refused_is order file why h = rw h refl

pub no_entries : (order : Order) (name : List ℕ) → find (is_named order name []) slots ≡ None
no_entries order name = grind arith

-- where no library has a fault, each is opened as it is
pub all_opened : (order : Order) (libs : List (List ℕ)) (n : ℕ)
    → first_of (library_fault order) (enumerate_from n libs) ≡ None
    → opened_files order libs ≡ libs
all_opened order [] n h = refl
all_opened order (lib ∷ libs) n h =
    grind (arith, opened_whole, none_mapped, neither_first, all_opened order libs (n + 1))

-- what a list of references stands for
abbrev pub files : List (Bor (List ℕ)) → List (List ℕ)
files libs = map (λ (lib : Bor (List ℕ)). lib.now) libs

abbrev pub no_file : Bor (List ℕ)
no_file = record { ref_ptr = (0, 0); now = [] }

-- the first fault from library i on
abbrev pub rest_of : Order → List (Bor (List ℕ)) → ℕ → Option Fault
rest_of order libs i = first_of (library_fault order) (enumerate_from (i + 1) (drop i (files libs)))

pub rest_at : (order : Order) (libs : List (Bor (List ℕ))) (i : ℕ) → i < length libs
    → rest_of order libs i ≡ option_or
    (library_fault order (i + 1, (get_or libs i no_file).now)) (rest_of order libs (i + 1))
rest_at order libs i lt = grind (arith, drop-map, drop_more)

-- the libraries that are opened, from i on
pub opened_more : (order : Order) (libs : List (Bor (List ℕ))) (i n : ℕ) → i < length libs
    → enumerate_from n (drop i (opened order libs))
    ≡ (n, opened_file order (get_or libs i no_file).now)
    ∷ enumerate_from (n + 1) (drop (i + 1) (opened order libs))
opened_more order libs i n lt = grind (arith, drop-map, drop_more libs i no_file lt)

-- the first library from i on that has an entry of the name
abbrev pub chosen_from : Order → List ℕ → List (Bor (List ℕ)) → ℕ
    → Option (ℕ × List ℕ)
chosen_from order name libs i = find (λ (lib : ℕ × List ℕ). has_entry order name lib.1)
    (enumerate_from i (drop i (opened order libs)))

chosen_here : (order : Order) (name : List ℕ) (libs : List (Bor (List ℕ))) (i j : ℕ)
    → i < length libs
    → find (is_named order name (opened_file order (get_or libs i no_file).now)) slots ≡ Some j
    → chosen_from order name libs i ≡ Some (i, opened_file order (get_or libs i no_file).now)
chosen_here order name libs i j lt h =
    let lib = opened_file order (get_or libs i no_file).now in
    let has : has_entry order name lib ≡ true =
    any_found (is_named order name lib) slots ∙ ap is_some h in
    ap (λ (xs : List (ℕ × List ℕ)). find
    (λ (lib : ℕ × List ℕ). has_entry order name lib.1) xs) (opened_more order libs i i lt)
    ∙ rw has

-- it is the library at i, where no library before has one
pub chosen_at : (order : Order) (name : List ℕ) (libs : List (Bor (List ℕ))) {i j : ℕ}
    → chosen_library order name (opened order libs) ≡ chosen_from order name libs i
    → i < length libs
    → Some j ≡ find (is_named order name (opened_file order (get_or libs i no_file).now)) slots
    → chosen_library order name (opened order libs)
    ≡ Some (i, opened_file order (get_or libs i no_file).now)
chosen_at order name libs {i} {j} from lt found =
    from ∙ chosen_here order name libs i j lt (sym found)

pub chosen_later : (order : Order) (name : List ℕ) (libs : List (Bor (List ℕ))) (i : ℕ)
    → i < length libs → has_entry order name (opened_file order (get_or libs i no_file).now)
    ≡ false → chosen_from order name libs i ≡ chosen_from order name libs (i + 1)
chosen_later order name libs i lt h = ap
    (λ (xs : List (ℕ × List ℕ)). find
    (λ (lib : ℕ × List ℕ). has_entry order name lib.1) xs) (opened_more order libs i i lt)
    ∙ rw h

-- a file that is found among numbered files is at its number
at_number : (p : ℕ × List ℕ → Bool) (files : List (List ℕ)) (n k : ℕ) (file : List ℕ)
    → find p (enumerate_from n files) ≡ Some (k, file)
    → (j : ℕ) × (k ≡ n + j) × (slice_get files j ≡ Some file)
at_number p [] n k file h = cc
at_number p (x ∷ xs) n k file h = elim (cases_Bool (p (n, x))) [
  | inl passes ↦ grind arith
  | inr fails ↦
      let rest = at_number p xs (n + 1) k file (rw fails at h) in
      (suc rest.0, omega (arith, rest.1), rest.2)
]

-- the unit is in the chosen library
pub source_by : (order : Order) (name : List ℕ) (files : List (List ℕ)) (k i : ℕ)
    (file : List ℕ) → chosen_library order name files ≡ Some (k, file)
    → find (is_named order name file) slots ≡ Some i
    → unit_source order name files ≡ Some (k + 1, i)
source_by order name files k i file chosen found = rw chosen (rw found refl)

-- the chosen library, of number k from 0, is file k + 1, as the host is file 0
pub chosen_file : (order : Order) (name : List ℕ) (files : List (List ℕ)) (k : ℕ)
    (file host : List ℕ) → chosen_library order name files ≡ Some (k, file)
    → file_at host files (k + 1) ≡ file
chosen_file order name files k file host h = grind (arith, at_number)
